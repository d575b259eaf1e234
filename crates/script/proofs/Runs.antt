-- A whole run, line by line.
use Rattle.std.proofs.Common.{◌≡◌, ℕ, ◌+◌, ◌-◌, ◌<◌, ◌≤◌, List, [], ◌++◌, length, drop, None, Ok, Err, Result, sym, refl, ap, ◌∙◌, append_assoc, arith, drop-drop, eqb, le-ltb}
use Rattle.std.specs.List.{position_or_len}
use Rattle.std.proofs.lemmas.List.{append-nil, length-append, length-drop}
use Rattle.std.proofs.lemmas.Bool.Decides.{nat_tests}
use Rattle.card.specs.Calls.{Card}
use Rattle.text.specs.Lines.{up_to, past, lines_of}
use Rattle.text.specs.declared.fault.Fault.{Fault}
use Rattle.text.proofs.Cuts.{lines_cons, lines_none}
use Rattle.script.specs.Cursor.{written, left}
use Rattle.script.specs.Runs.{Done, Ran, RanAll, Outcome, ended, go_on, lines_ran, line_ran, result_of, script_on}
use Rattle.script.specs.declared.output.Output.{Output}
use Rattle.script.specs.declared.run.Runner.{Runner}

-- a line that is run fits the room
pub line_room : (l : List ℕ) (k : Card) (room : ℕ) (d : Done) → line_ran l k room ≡ Ok d → length d.bytes ≤ room
unfolding line_ran
line_room l k room d q = grind (arith, nat_tests)

-- where a runner has come, of a whole run from another on: `rest` is still to come
pub record Along (whole rest : Outcome) (s s' : Runner) (o p : Output) : Type 0 where
  pub lines : s.lines + whole.lines ≡ s'.lines + rest.lines
  pub bytes : written o ++ whole.bytes ≡ written p ++ rest.bytes
  pub after : drop (length whole.bytes) (left o) ≡ drop (length rest.bytes) (left p)
  pub stopped : whole.stopped ≡ rest.stopped
  pub same : p.bytes.ghost_name ≡ o.bytes.ghost_name

pub lines_step : (s : List ℕ) (k : Card) (room : ℕ) → 0 < length s
    → lines_ran (lines_of s) k room ≡ go_on (λ k' room'. lines_ran (lines_of (past 10 s)) k' room') room (line_ran (up_to 10 s) k room)
unfolding lines_ran
lines_step s k room h = ap (λ ls. lines_ran ls k room) (lines_cons s h)

pub lines_end : (k : Card) (room : ℕ) → lines_ran (lines_of []) k room ≡ ended None
unfolding lines_ran
lines_end k room = ap (λ ls. lines_ran ls k room) lines_none

-- one line, then what follows it
pub along_line : {whole : Outcome} {s s' : Runner} {o p : Output} (bs line : List ℕ) (k : Card) (room : ℕ) → Along whole (lines_ran (lines_of bs) k room) s s' o p
    → 0 < length bs → line ≡ up_to 10 bs
    → Along whole (go_on (λ k' room'. lines_ran (lines_of (past 10 bs)) k' room') room (line_ran line k room)) s s' o p
along_line bs line k room a h is = rw (is, ← lines_step bs k room h) a

-- one line that is run
pub along_more : (ls : List (List ℕ)) {whole : Outcome} {s s' t : Runner} {o p q : Output} (x : Result Done Fault)
    → Along whole (go_on (λ k room. lines_ran ls k room) (length (left p)) x) s s' o p → Ran x (Ok tt) s' t p q
    → Along whole (lines_ran ls t.card (length (left q))) s (record t { lines = t.lines + 1 }) o q
along_more ls {whole} {s} {s'} {t} {o} {p} {q} (Err e) a r = let z : ◌≡◌ {A = ℕ} 0 1 = cc (r.answer) in absurd (omega arith)
along_more ls {whole} {s} {s'} {t} {o} {p} {q} (Ok d) a r =
    let room : length (left p) - length d.bytes ≡ length (left q) = omega (arith, ap length r.output.after, length-drop (length d.bytes) (left p)) in
    let far = lines_ran ls d.card (length (left p) - length d.bytes) in
    let same : far ≡ lines_ran ls t.card (length (left q)) = rw (room, ← r.card) refl in
    rw (← same) (record {
      lines = omega (arith, a.lines, r.lines);
      bytes = a.bytes ∙ rw (r.output.before, append_assoc) refl;
      after =
          a.after ∙ (ap (λ i. drop i (left p)) (length-append d.bytes far.bytes)
          ∙ (sym (drop-drop (length far.bytes) (length d.bytes) (left p)) ∙ ap (drop (length far.bytes)) (sym r.output.after)));
      stopped = a.stopped;
      same = r.output.same ∙ a.same;
    })

-- a line that is refused
pub along_stop : (ls : List (List ℕ)) {whole : Outcome} {s s' t : Runner} {o p q : Output} (x : Result Done Fault) (e : Fault)
    → Along whole (go_on (λ k room. lines_ran ls k room) (length (left p)) x) s s' o p → Ran x (Err e) s' t p q → RanAll whole (Err e) s t o q
along_stop ls (Ok d) e a r = let z : ◌≡◌ {A = ℕ} 0 1 = cc (r.answer) in absurd (omega arith)
along_stop ls {whole} {s} {s'} {t} {o} {p} {q} (Err f) e a r = record {
  answer = r.answer ∙ sym (ap result_of a.stopped);
  lines = omega (arith, a.lines, r.lines);
  output = record {
    before = r.output.before ∙ sym a.bytes;
    after = r.output.after ∙ sym a.after;
    same = r.output.same ∙ a.same;
  };
}

-- a script that is not too long
pub script_short : (script : List ℕ) (k : Card) (room : ℕ) → length script ≤ 65536 → script_on script k room ≡ lines_ran (lines_of script) k room
script_short script k room h = rw (le-ltb 65536 (length script) h) refl

-- no line is left
pub along_end : {whole : Outcome} {s s' : Runner} {o p : Output} → Along whole (ended None) s s' o p → RanAll whole (Ok tt) s s' o p
along_end {whole} {s} {s'} {o} {p} a = record {
  answer = rw a.stopped refl;
  lines = omega (arith, a.lines);
  output = record {
    before = sym (append-nil (written p)) ∙ sym a.bytes;
    after = sym a.after;
    same = a.same;
  };
}

pub past_shorter : (s : List ℕ) → 0 < length s → length (past 10 s) + 1 ≤ length s
past_shorter s h = omega (arith, length-drop (position_or_len (λ b. eqb b 10) s + 1) s)
