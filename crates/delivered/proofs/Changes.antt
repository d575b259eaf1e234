-- What an access does to a channel's mode and line filters.
use Rattle.std.proofs.Common.{◌≡◌, ℕ, ◌<◌, Bool, true, false, cond, eqb, refl, arith}
use Rattle.std.proofs.lemmas.Bool.{eqb-true}
use Rattle.bits.specs.Words.{word_flag}
use Rattle.filter.specs.declared.debounce.Debounce.{Debounce}
use Rattle.filter.specs.Debounces.{debounce_of, period_of}
use Rattle.controller.specs.declared.control.SsiControl.{SsiControl}
use Rattle.controller.specs.declared.phase.Phase.{Phase}
use Rattle.controller.specs.declared.phase.Phase.TheVariants.{Clocking}
use Rattle.controller.specs.Control.{format_of}
use Rattle.controller.specs.Registers.{half_period, phase_requested, requested as ssi_requested, started}
use Rattle.channel.specs.declared.act.Act.{Act}
use Rattle.channel.specs.declared.act.Act.TheVariants.{Control, Load, ClearSnapshot, Snapshot}
use Rattle.channel.specs.declared.channel.Channel.{Channel}
use Rattle.channel.specs.declared.lines.Lines.{Lines}
use Rattle.channel.specs.declared.mode.Mode.TheVariants.{Ssi as Reading}
use Rattle.channel.specs.Registers.{debounce_written, register_taken, register_written, is_taking_requests}
use Rattle.channel.specs.Shares.{performed}
use Rattle.channel.specs.Snapshots.{transmits, triggered}
use Rattle.channel.specs.Ticks.{requested}

-- the line filters of a channel and their debouncing settings
pub record Filtering : Type 0 where
  pub lines : Lines
  pub debounce : Debounce

abbrev pub filtering : Channel → Filtering
filtering c = record { lines = c.lines; debounce = c.debounce }

-- the filters sample with the period of the settings, and their phase is below it
abbrev pub Paced : Filtering → Type 0
Paced f = (f.lines.timing.phase < f.lines.timing.period) × (f.lines.timing.period ≡ period_of f.debounce)

abbrev pub Timed : Channel → Type 0
Timed c = Paced (filtering c)

-- the phase that an accepted request leaves
abbrev pub first_phase : SsiControl → Phase
first_phase c = Clocking (started (half_period c) (format_of c))

abbrev pub Started : Channel → Type 0
Started d = d.mode ≡ Reading (first_phase d.ssi.control)

-- What an access leaves of a channel: the mode, if a transmission is under way before and after it; a transmission that it begins has
-- the channel's settings; the line filters, unless R holds, and their pace.
pub record Change (R : Type 0) (c d : Channel) : Type 0 where
  pub mode : transmits c ≡ true → transmits d ≡ true → d.mode ≡ c.mode
  pub starts : transmits c ≡ false → transmits d ≡ true → Started d
  pub lines : (R → ⊥) → filtering d ≡ filtering c
  pub timed : Timed c → Timed d

pub kept : {R : Type 0} {c d : Channel} → d.mode ≡ c.mode → filtering d ≡ filtering c → Change R c d
kept m l = grind arith

either : {R : Type 0} {c x y : Channel} (b : Bool) → Change R c x → Change R c y → Change R c (cond b x y)
either true p q = p
either false p q = q

pub request_change : {R : Type 0} (c : Channel) → Change R c (requested c)
unfolding phase_requested ssi_requested
request_change c = grind arith

pub trigger_change : {R : Type 0} (c : Channel) → Change R c (triggered c)
unfolding phase_requested ssi_requested
trigger_change c = grind arith

mode_change : {R : Type 0} (n k : ℕ) (c : Channel) → Change R c (performed (Control n) k c)
unfolding performed
mode_change n k c = grind arith

-- what a write of a shared register asks
pub act_change : {R : Type 0} (a : Act) (k : ℕ) (c : Channel) → Change R c (performed a k c)
unfolding performed
act_change (Control w) k c = mode_change w k c
act_change Snapshot k c = trigger_change c
act_change _ k c = grind arith

-- a load, then the snapshot cleared or not, then a trigger or none
abbrev loaded : ℕ → ℕ → Channel → Channel
loaded w k c = cond (word_flag w 9) (performed ClearSnapshot k (performed (Load w) k c)) (performed (Load w) k c)

abbrev pub command : ℕ → ℕ → Channel → Channel
command w k c = cond (word_flag w 8) (performed Snapshot k (loaded w k c)) (loaded w k c)

loaded_keeps : (w k : ℕ) (c : Channel) → ((loaded w k c).mode ≡ c.mode) × (filtering (loaded w k c) ≡ filtering c)
unfolding performed
loaded_keeps w k c = grind arith

after_kept : {R : Type 0} (c d e : Channel) → d.mode ≡ c.mode → filtering d ≡ filtering c → Change R d e → Change R c e
after_kept c d e m l h = grind arith

pub command_change : {R : Type 0} (w k : ℕ) (c : Channel) → Change R c (command w k c)
command_change w k c =
    let p = loaded_keeps w k c in
    after_kept c (loaded w k c) (command w k c) p.0 p.1 (either (word_flag w 8) (act_change Snapshot k (loaded w k c)) (kept refl refl))

-- a period is at least one tick
period_some : (d : Debounce) → 0 < period_of d
period_some d = grind arith

restart_change : {R : Type 0} (v : ℕ) (c : Channel) → R → Change R c (debounce_written v c)
restart_change {R} v c r = record { mode = λ q e. refl; starts = λ q e. grind arith; lines = λ n. absurd (n r); timed = λ t. (period_some (debounce_of v), refl) }

-- a write of one of the channel's registers: that of the Debouncing Register restarts the filters
pub write_change : {R : Type 0} (o v : ℕ) (c : Channel) → (o ≡ 28 → R) → Change R c (register_written o v c)
unfolding register_written
write_change {R} o v c r =
    either (eqb o 0) (kept refl refl) (either (eqb o 8) (kept refl refl) (either (eqb o 12) (kept refl refl) (either (eqb o 16) (kept refl refl) (
    either (eqb o 20) (kept refl refl) (either (eqb o 24) (either _ (kept refl refl) (kept refl refl)) (at_debounce (eqb o 28) refl))))))
  where
    at_debounce : (b : Bool) → eqb o 28 ≡ b → Change R c (cond b (debounce_written v c) (cond (eqb o 32) (cond (is_taking_requests c) (requested c) c) c))
    at_debounce true e = restart_change v c (r (eqb-true o 28 e))
    at_debounce false e = either (eqb o 32) (either (is_taking_requests c) (request_change c) (kept refl refl)) (kept refl refl)

pub read_change : {R : Type 0} (o : ℕ) (c : Channel) → Change R c (register_taken o c)
unfolding register_taken
read_change o c = grind arith
