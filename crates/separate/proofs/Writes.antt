-- Writes of shared registers: cards that are the same for a channel stay so where the words agree in its bits.
use Rattle.std.proofs.Common.{◌≡◌, ℕ, ◌+◌, ◌*◌, ◌<◌, Bool, true, false, cond, not, ◌||◌, eqb, ltb, refl, ap, subst, ap₂, arith}
use Rattle.std.proofs.lemmas.Bool.{eqb-true, or_from}
use Rattle.bits.specs.Words.{word_field, word_flag}
use Rattle.filter.specs.Debounces.{debounce_of, period_of}
use Rattle.parts.specs.Inputs.{debounced_by}
use Rattle.timer.specs.declared.Timer.{Timer}
use Rattle.timer.specs.Timers.{control_written as timer_written, preload_written as timer_preloaded}
use Rattle.channel.specs.declared.act.Act.{Act}
use Rattle.channel.specs.declared.act.Act.TheVariants.{AcknowledgeEdges, AcknowledgeInterrupts, ClearSnapshot, Control, DebounceInput, EnableEdges, EnableInterrupts, Load, Output, Snapshot, TestOutput}
use Rattle.channel.specs.declared.channel.Channel.{Channel}
use Rattle.channel.specs.Records.{with_input, with_outputs}
use Rattle.channel.specs.Shares.{acknowledged_edges, acknowledged_interrupts, controlled, edges_enabled, interrupts_enabled, loaded_by, performed}
use Rattle.card.specs.declared.Card.{Card}
use Rattle.card.specs.declared.shared.Shared.{Shared}
use Rattle.card.specs.Records.{with_shared}
use Rattle.card.specs.Shared.{control_set, debounce_set, interrupts_set, outputs_enabled, timer_acknowledged, with_overflow, with_scratchpad, with_timer}
use Rattle.card.specs.SharedRegisters.{acknowledged_all, control_written, inputs_debounced, interrupts_enabled as enables_written, on_all, shared_written}
use Rattle.card.specs.Snapshots.{commanded, snapshots_cleared, status_of, status_word, triggered}
use Rattle.separate.specs.Separation.{SameFor, others_in}
use Rattle.separate.proofs.Words.{field_same, word_same}
use Rattle.separate.proofs.Named.{above_fields, below_fields, own_bit}
use Rattle.separate.proofs.Same.{Same, same_acts, same_cond, same_if, same_shared, shared_for}

-- a trigger, and a clear: the overflow is not the channel's
same_overflow : {k : ℕ} {c d : Card} (a : Act) (x y : Bool) → k < 8 → Same k c d
    → Same k (on_all a (with_shared (with_overflow x c.shared) c)) (on_all a (with_shared (with_overflow y d.shared) d))
same_overflow {k} {c} {d} a x y h s = same_acts a a h (λ z. refl)
    (same_shared (with_overflow x c.shared) (with_overflow y d.shared) s.left.time s.right.time s.shared s)

pub same_triggered : {k : ℕ} {c d : Card} → k < 8 → Same k c d → Same k (triggered c) (triggered d)
same_triggered {k} {c} {d} h s = same_overflow Snapshot (not (eqb (status_word (status_of c)) 0)) (not (eqb (status_word (status_of d)) 0)) h s

-- 0x000 Global Control
same_control : {k : ℕ} {c d : Card} (v w : ℕ) → k < 8 → SameFor k 0 v w → Same k c d → Same k (control_written v c) (control_written w d)
unfolding performed
same_control {k} {c} {d} v w h e s = same_acts (Control v) (Control w) h (λ x. ap₂ (λ m on. controlled m on x)
    (field_same v w (2 * k) 2 (λ b l. e (2 * k + b) (or_from _ _ (own_bit k 0 2 (2 * k + b) (omega arith)) (below_fields k 16 1 (2 * k + b) (omega arith))))) (e (16 + k) (or_from _ _ (above_fields k 0 2 (16 + k) (omega arith)) (own_bit k 16 1 (16 + k) (omega arith)))))
    (same_shared (control_set v c.shared) (control_set w d.shared) s.left.time s.right.time
    (rw (← e 25 refl, ← e 24 refl) (ap (control_set v) s.shared)) s)

-- 0x004 Global Command
same_command : {k : ℕ} {c d : Card} (v w : ℕ) → k < 8 → SameFor k 4 v w → Same k c d → Same k (commanded v c) (commanded w d)
unfolding performed
same_command {k} {c} {d} v w h e s =
    let loads : Same k (on_all (Load v) c) (on_all (Load w) d) = same_acts (Load v) (Load w) h (λ x. ap (λ one. loaded_by one x) (e k (own_bit k 0 1 k (omega arith)))) s in
    let clears : Same k (snapshots_cleared (word_flag v 9) (on_all (Load v) c)) (snapshots_cleared (word_flag w 9) (on_all (Load w) d))
    = same_cond (word_flag v 9) (word_flag w 9) (e 9 refl) (same_overflow ClearSnapshot false false h loads) loads in
    same_cond (word_flag v 8) (word_flag w 8) (e 8 refl) (same_triggered h clears) clears

-- 0x154 24 V Input Debouncing
debounce_same : (k v w : ℕ) → SameFor k 340 v w → debounce_of v ≡ debounce_of w
debounce_same k v w e = rw (
  field_same v w 16 2 (λ b l. e (16 + b) (below_fields k 24 1 (16 + b) (omega arith))),
  field_same v w 0 16 (λ b l. e (0 + b) (below_fields k 24 1 (0 + b) (omega arith))),
) refl

time_below : (v : ℕ) → word_field v 0 16 < 65536
time_below v = omega arith

same_debounce : {k : ℕ} {c d : Card} (v w : ℕ) → k < 8 → SameFor k 340 v w → Same k c d → Same k (inputs_debounced v c) (inputs_debounced w d)
unfolding performed
same_debounce {k} {c} {d} v w h e s =
    same_acts (DebounceInput v (period_of (debounce_of v))) (DebounceInput w (period_of (debounce_of w))) h (λ x. ap₂ (λ on p. with_input (debounced_by on p x.input) x)
    (e (24 + k) (own_bit k 24 1 (24 + k) (omega arith))) (ap period_of (debounce_same k v w e)))
    (same_shared (debounce_set v c.shared) (debounce_set w d.shared) (time_below v) (time_below w)
    (rw (← debounce_same k v w e) (ap (debounce_set v) s.shared)) s)

-- 0x160 24 V Output Control: of the two enables the channel has one
half_same : (v w : ℕ) (low : Bool) → ((b : ℕ) → cond low (eqb b 1) (eqb b 0) ≡ false → word_flag v b ≡ word_flag w b)
    → (cond low (word_flag v 0) false ≡ cond low (word_flag w 0) false) × (cond low false (word_flag v 1) ≡ cond low false (word_flag w 1))
half_same v w true e = (e 0 refl, refl)
half_same v w false e = (refl, e 1 refl)

same_enables : {k : ℕ} {c d : Card} (v w : ℕ) → SameFor k 352 v w → Same k c d
    → Same k (with_shared (outputs_enabled v c.shared) c) (with_shared (outputs_enabled w d.shared) d)
same_enables {k} {c} {d} v w e s =
    let p = half_same v w (ltb k 4) e in
    same_shared (outputs_enabled v c.shared) (outputs_enabled w d.shared) s.left.time s.right.time
    (rw (← p.0, ← p.1) (ap (λ (q : Shared). shared_for k (outputs_enabled v q)) s.shared)) s

-- 0x180 to 0x18C: a bit in each of the two lowest bytes
pair_acts : (k v w : ℕ) → k < 8 → ((b : ℕ) → (others_in k 0 1 b || others_in k 8 1 b) ≡ false → word_flag v b ≡ word_flag w b)
    → (f : Bool → Bool → Channel → Channel) (x : Channel) → f (word_flag v k) (word_flag v (8 + k)) x ≡ f (word_flag w k) (word_flag w (8 + k)) x
pair_acts k v w h e f x = ap₂ (λ a b. f a b x) (e k (or_from _ _ (own_bit k 0 1 k (omega arith)) (below_fields k 8 1 k (omega arith))))
    (e (8 + k) (or_from _ _ (above_fields k 0 1 (8 + k) (omega arith)) (own_bit k 8 1 (8 + k) (omega arith))))

same_interrupts : {k : ℕ} {c d : Card} (v w : ℕ) → k < 8 → SameFor k 384 v w → Same k c d → Same k (enables_written v c) (enables_written w d)
unfolding performed
same_interrupts {k} {c} {d} v w h e s = same_acts (EnableInterrupts v) (EnableInterrupts w) h (pair_acts k v w h e interrupts_enabled)
    (same_shared (interrupts_set v c.shared) (interrupts_set w d.shared) s.left.time s.right.time
    (rw (← e 20 refl, ← e 31 refl) (ap (interrupts_set v) s.shared)) s)

pub same_acknowledged : {k : ℕ} {c d : Card} (v w : ℕ) → k < 8 → SameFor k 392 v w → Same k c d → Same k (acknowledged_all v c) (acknowledged_all w d)
unfolding performed
same_acknowledged {k} {c} {d} v w h e s = same_acts (AcknowledgeInterrupts v) (AcknowledgeInterrupts w) h (pair_acts k v w h e acknowledged_interrupts)
    (same_shared (timer_acknowledged v c.shared) (timer_acknowledged w d.shared) s.left.time s.right.time
    (rw (← e 20 refl) (ap (timer_acknowledged v) s.shared)) s)

pub clears_same : {k : ℕ} {c d : Card} → Same k c d → c.shared.clear_on_read ≡ d.shared.clear_on_read
clears_same s = ap (λ (q : Shared). q.clear_on_read) s.shared

-- a register that is no channel's, written with one word
same_timer : {k : ℕ} {c d : Card} (f : Timer → Timer) → Same k c d
    → Same k (with_shared (with_timer (f c.shared.timer) c.shared.timer_interrupt c.shared) c)
    (with_shared (with_timer (f d.shared.timer) d.shared.timer_interrupt d.shared) d)
same_timer {k} {c} {d} f s = same_shared (with_timer (f c.shared.timer) c.shared.timer_interrupt c.shared)
    (with_timer (f d.shared.timer) d.shared.timer_interrupt d.shared) s.left.time s.right.time
    (ap (λ (q : Shared). with_timer (f q.timer) q.timer_interrupt q) s.shared) s

-- every write outside the channels' spans
pub same_write : {k : ℕ} {c d : Card} (o v w : ℕ) → k < 8 → SameFor k o v w → Same k c d → Same k (shared_written o v c) (shared_written o w d)
unfolding performed
same_write {k} {c} {d} o v w h e s =
    at 0 (λ f. same_control v w h f s) (
    at 4 (λ f. same_command v w h f s) (
    at 340 (λ f. same_debounce v w h f s) (
    at 352 (λ f. same_enables v w f s) (
    at 356 (λ f. same_acts (Output v) (Output w) h (λ x. ap (λ on. with_outputs on x.test_output x) (f k (own_bit k 0 1 k (omega arith)))) s) (
    at 368 (λ f. rw (← word_same v w (λ b. f b refl)) (same_timer (timer_written v) s)) (
    at 372 (λ f. rw (← word_same v w (λ b. f b refl)) (same_timer (timer_preloaded v) s)) (
    at 384 (λ f. same_interrupts v w h f s) (
    at 388 (λ f. same_acts (EnableEdges v) (EnableEdges w) h (pair_acts k v w h f edges_enabled) s) (
    at 392 (λ f. same_cond c.shared.clear_on_read d.shared.clear_on_read (clears_same s) s (same_acknowledged v w h f s)) (
    at 396 (λ f. same_cond c.shared.clear_on_read d.shared.clear_on_read (clears_same s) s
    (same_acts (AcknowledgeEdges v) (AcknowledgeEdges w) h (pair_acts k v w h f acknowledged_edges) s)) (
    at 496 (λ f. same_acts (TestOutput v) (TestOutput w) h (λ x. ap (λ on. with_outputs x.output on x) (f (24 + k) (or_from _ _ (above_fields k 0 3 (24 + k) (omega arith)) (own_bit k 24 1 (24 + k) (omega arith))))) s) (
    at 504 (λ f. rw (← word_same v w (λ b. f b refl)) (same_shared (with_scratchpad v c.shared) (with_scratchpad v d.shared) s.left.time s.right.time
    (ap (with_scratchpad v) s.shared) s)) s))))))))))))
  where
    at : {x y x' y' : Card} (n : ℕ) → (SameFor k n v w → Same k x y) → Same k x' y' → Same k (cond (eqb o n) x x') (cond (eqb o n) y y')
    at n f t = same_if (eqb o n) (λ q. f (subst (λ i. SameFor k i v w) (eqb-true o n q) e)) t
