-- What each call makes of channel k's part in the law of counts, in the table of all eight.
use Rattle.std.proofs.Common.{◌≡◌, ℕ, ◌*◌, ◌<◌, Bool, true, false, cond, ◌&&◌, eqb, List, length, get_or, set, Ok, Err, sym, refl, ap, ◌∙◌, ⊎_elim, rules, arith, length-set, get_or-set_other}
use Rattle.std.proofs.lemmas.Bool.{cases_eq}
use Rattle.std.proofs.lemmas.Grind.{get_or-set_at}
use Rattle.bits.specs.Words.{word_field, word_flag}
use Rattle.filter.specs.Debounces.{debounce_of, period_of}
use Rattle.parts.specs.Snapshots.{after_reading}
use Rattle.channel.specs.declared.act.Act.{Act}
use Rattle.channel.specs.declared.act.Act.TheVariants.{Control, Load, ClearSnapshot, Snapshot, DebounceInput, Output, EnableInterrupts, AcknowledgeInterrupts, EnableEdges, AcknowledgeEdges, TestOutput}
use Rattle.channel.specs.declared.channel.Channel.{Channel}
use Rattle.channel.specs.Records.{with_snapshot}
use Rattle.channel.specs.Shares.{performed}
use Rattle.channel.specs.Registers.{register_taken}
use Rattle.table.specs.Tables.{acted, changed, line_levels_at, table_ticked, tick_at}
use Rattle.table.proofs.Loops.{get_d_changed, length_changed}
use Rattle.card.specs.Calls.{Card, card_after_read, given, read_done, tick_done}
use Rattle.card.specs.Records.{blank, with_table}
use Rattle.card.specs.Shared.{expiry}
use Rattle.card.specs.Snapshots.{commanded}
use Rattle.card.specs.SharedRegisters.{shared_written}
use Rattle.card.specs.Registers.{channel_at, in_channels, in_snapshots, offset_checked, place_at, register_read, register_value, snapshot_at}
use Rattle.counts.specs.Tallies.{setting_at}
use Rattle.counts.proofs.Parts.{Part, part, part_acted, part_loaded, part_mode, part_ticked, performed_part, ticked_part}
use Rattle.counts.proofs.Registers.{taken_part}

-- a table of eight records whose record k has the part p
pub record Shows (k : ℕ) (p : Part) (cs : List Channel) : Type 0 where
  pub full : length cs ≡ 8
  pub is : part (get_or cs k blank) ≡ p

abbrev pub Showing : ℕ → Part → Card → Type 0
Showing k p c = Shows k p c.channels

-- both ways of a test show a part of their own, or the same part
each : {k : ℕ} (b : Bool) (p q : Part) (x y : Card) → Showing k p x → Showing k q y → Showing k (cond b p q) (cond b x y)
each true p q x y u v = u
each false p q x y u v = v

leaves : {k : ℕ} {p : Part} (b : Bool) (x y : Card) → Showing k p x → Showing k p y → Showing k p (cond b x y)
leaves true x y u v = u
leaves false x y u v = v

module _ (k : ℕ) (h : k < 8) where
  -- all eight records changed
  everywhere : (f : ℕ → Channel → Channel) (g : Part → Part) → ((x : Channel) → part (f k x) ≡ g (part x))
      → {p : Part} {cs : List Channel} → Shows k p cs → Shows k (g p) (changed f 0 8 cs)
  everywhere f g q {p} {cs} s = record {
    full = length_changed f 0 8 cs ∙ s.full;
    is = ap part (get_d_changed f 0 8 k k cs blank h (omega arith) (omega arith)) ∙ q (get_or cs k blank) ∙ ap g s.is;
  }

  -- an act of every channel
  pub acts : (a : Act) {p : Part} {cs : List Channel} → Shows k p cs → Shows k (part_acted a k p) (acted a cs)
  unfolding acted
  acts a s = everywhere (performed a) (part_acted a k) (performed_part a k) s

  -- a tick; the timer's snapshot leaves the part
  pub card_ticked : (lines inputs : ℕ) (c : Card) {p : Part} → Showing k p c → Showing k (part_ticked (line_levels_at lines k) p) (tick_done lines inputs c)
  unfolding tick_done table_ticked
  card_ticked lines inputs c {p} s =
      let x = line_levels_at lines k in
      let t = everywhere (tick_at lines inputs (expiry c.shared)) (part_ticked x) (ticked_part x (word_flag inputs k) (expiry c.shared)) s in
      leaves (expiry c.shared && c.shared.timer_triggers) _ _ (acts Snapshot t) t

  -- record j altered: it is record k, or the part stays
  pub altered : (j : ℕ) (f : Channel → Channel) {p q : Part} {cs : List Channel} → (j ≡ k → (x : Channel) → part x ≡ p → part (f x) ≡ q)
      → ((j ≡ k → ⊥) → p ≡ q) → Shows k p cs → Shows k q (set cs j (f (get_or cs j blank)))
  altered j f {p} {q} {cs} own other s = record { full = length-set cs j _ ∙ s.full; is = ⊎_elim here elsewhere (cases_eq j k) }
    where
      here : j ≡ k → part (get_or (set cs j (f (get_or cs j blank))) k blank) ≡ q
      here e = ap part (get_or-set_at cs j k _ blank (sym e) (omega arith)) ∙ own e (get_or cs j blank) (rw e s.is)

      elsewhere : (j ≡ k → ⊥) → part (get_or (set cs j (f (get_or cs j blank))) k blank) ≡ q
      elsewhere n = ap part (get_or-set_other cs j k _ blank (λ e. n (sym e))) ∙ (s.is ∙ other n)

  -- an accepted read
  register_read_lem : (o : ℕ) (c : Card) {p : Part} → Showing k p c → Showing k p (register_read o c)
  register_read_lem o c s =
      leaves (in_channels o) _ _ (altered (channel_at o) (register_taken (place_at o)) (λ e x i. taken_part (place_at o) x ∙ i) (λ n. refl) s) (
      leaves (eqb o 392) _ _ (leaves c.shared.clear_on_read _ _ (acts (AcknowledgeInterrupts 4294967295) s) s) (
      leaves (eqb o 396) _ _ (leaves c.shared.clear_on_read _ _ (acts (AcknowledgeEdges 4294967295) s) s) (
      leaves (in_snapshots o) _ _ (altered (snapshot_at o) (λ x. with_snapshot (after_reading x.snapshot) x) (λ e x i. i) (λ n. refl) s) s)))

  -- a read, accepted or not, leaves the part
  pub card_read : (o : ℕ) (c : Card) {p : Part} → Showing k p c → Showing k p (card_after_read c (read_done c o))
  unfolding read_done
  card_read o c {p} s =
      elim (offset_checked o) as (λ r. Showing k p (card_after_read c (given r (Ok (record { value = register_value o c; card = register_read o c }))))) [
        | Ok u ↦ register_read_lem o c s
        | Err e ↦ s
      ]

  -- Global Command: of its bits only LCNT bears on the part
  global_command : (v : ℕ) (c : Card) {p : Part} → Showing k p c → Showing k (part_loaded (word_flag v k) p) (commanded v c)
  global_command v c s =
      let a = acts (Load v) s in
      let d = leaves (word_flag v 9) _ (with_table (acted (Load v) c.channels) c) (acts ClearSnapshot a) a in
      leaves (word_flag v 8) _ _ (acts Snapshot d) d

  -- a write outside the channels' spans: only the first two registers bear on the part
  pub shared_written_lem : (o v : ℕ) (c : Card) {p : Part} → Showing k p c
      → Showing k (cond (eqb o 0) (part_mode (setting_at (word_field v (2 * k) 2)) p) (cond (eqb o 4) (part_loaded (word_flag v k) p) p)) (shared_written o v c)
  shared_written_lem o v c s =
      search (
        rules,
        each,
        leaves,
        global_command v c s,
        acts (Control v) s,
        acts (DebounceInput v (period_of (debounce_of v))) s,
        acts (Output v) s,
        acts (EnableInterrupts v) s,
        acts (EnableEdges v) s,
        acts (AcknowledgeInterrupts v) s,
        acts (AcknowledgeEdges v) s,
        acts (TestOutput v) s,
      ) depth 20
