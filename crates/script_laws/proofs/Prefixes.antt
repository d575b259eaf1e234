-- The first lines of a script that is run to its end.
use Rattle.std.proofs.Common.{◌≡◌, ℕ, suc, ◌-◌, ◌≤◌, List, [], ◌∷◌, ◌++◌, length, None, Option, Ok, Err, Result, refl, ap, append_assoc, arith}
use Rattle.std.proofs.lemmas.List.{length-append}
use Rattle.std.proofs.lemmas.Bool.Decides.{nat_tests}
use Rattle.card.specs.Calls.{Card, powered_on}
use Rattle.text.specs.Lines.{lines_of}
use Rattle.text.specs.declared.fault.Fault.{Fault}
use Rattle.script.specs.Runs.{Done, Outcome, go_on, line_ran, lines_ran, script_ran, stop_code}
use Rattle.script_laws.specs.Written.{written}
use Rattle.script_laws.specs.Laws.{PrefixStands}
use Rattle.script_laws.proofs.Lines.{lines_then, lines_back, script_lines}

-- no fault has the code 0, so that it tells that nothing stopped a run
not_stopped : (s : Option Fault) → stop_code s ≡ 0 → s ≡ None
not_stopped s q = grind arith

-- a run to the end of n lines, whose output a longer run begins with
abbrev Begins : ℕ → Outcome → Outcome → Type 0
Begins n o whole = (o.stopped ≡ None) × (o.lines ≡ n) × ((more : List ℕ) × (whole.bytes ≡ o.bytes ++ more))

-- a line, then runs of which one begins with the other
then_begin : (x : Result Done Fault) (f g : Card → ℕ → Outcome) (n room : ℕ)
    → ((d : Done) → (g d.card (room - length d.bytes)).stopped ≡ None → Begins n (f d.card (room - length d.bytes)) (g d.card (room - length d.bytes)))
    → (go_on g room x).stopped ≡ None → Begins (suc n) (go_on f room x) (go_on g room x)
then_begin (Ok d) f g n room h e = let ih = h d e in (ih.0, ap suc ih.1, (ih.2.0, simp (append_assoc, ih.2.1)))
then_begin (Err x) f g n room h e = absurd (cc)

lines_begin : (ls ms : List (List ℕ)) (k : Card) (room : ℕ) → (lines_ran (ls ++ ms) k room).stopped ≡ None
    → Begins (length ls) (lines_ran ls k room) (lines_ran (ls ++ ms) k room)
unfolding lines_ran
lines_begin [] ms k room q = (refl, refl, ((lines_ran ms k room).bytes, refl))
lines_begin (l ∷ ls) ms k room q =
    then_begin (line_ran l k room) (lines_ran ls) (lines_ran (ls ++ ms)) (length ls) room (λ d e. lines_begin ls ms d.card (room - length d.bytes) e) q

-- a script that is run to its end is not too long
script_length : (s : List ℕ) (room : ℕ) → (script_ran s room).stopped ≡ None → length s ≤ 65536
script_length s room q = grind (arith, nat_tests)

pub prefix_stands_lem : PrefixStands
prefix_stands_lem ls after room h q =
    let whole = written ls ++ after in
    let n = not_stopped (script_ran whole room).stopped q in
    let short = script_length whole room n in
    let less : length (written ls) ≤ 65536 = omega (arith, length-append (written ls) after) in
    let far = script_lines whole (ls ++ lines_of after) room short (lines_then ls after h) in
    let near = script_lines (written ls) ls room less (lines_back ls h) in
    let r = lines_begin ls (lines_of after) powered_on room (rw far at n) in
    rw (near, far) (ap stop_code r.0, r.1, r.2)
