-- When the controller does what, over every run of ticks from an accepted request and whatever is on the data line.
use Rattle.std.specs.Prelude.{◌≡◌, ℕ, zero, suc, ◌+◌, ◌-◌, ◌*◌, ◌/◌, ◌%◌, ◌^◌, ◌<◌, ◌≤◌, Bool, true, false, cond, not, ◌||◌, Some, None, Option, ◌==◌, nat_lt}
use Rattle.bits.specs.Words.{word_flag}
use Rattle.frame.specs.Layout.{frame_bits, word_of_frame, reading_of}
use Rattle.frame.specs.ReadBack.{Carries}
use Rattle.frame.specs.declared.format.Format.{Format}
use Rattle.controller.specs.Control.{control_of, control_refused, word_of_control}
use Rattle.controller.specs.Phase.{phase_ticked, clock_of, busy_in, active_in}
use Rattle.controller.specs.Registers.{started, completion, ticked}
use Rattle.controller.specs.declared.phase.Phase.{Phase}
use Rattle.controller.specs.declared.phase.Phase.TheVariants.{Waiting, Clocking, Recovering}
use Rattle.controller.specs.declared.registers.Completed.{Completed}
use Rattle.controller.specs.declared.registers.Ssi.{Ssi}

-- the phase before tick s + τ, for frames f and half period H: the line has the level `line τ` in that tick
abbrev pub phase_before : Format → ℕ → (ℕ → Bool) → ℕ → Phase
phase_before f H line zero = Clocking (started H f)
phase_before f H line (suc τ) = phase_ticked (line τ) (phase_before f H line τ)

-- the phase after tick s + τ
abbrev pub phase_after : Format → ℕ → (ℕ → Bool) → ℕ → Phase
phase_after f H line τ = phase_before f H line (suc τ)

-- how many ticks after s the clock rises last
abbrev pub last_rise : Format → ℕ → ℕ
last_rise f H = (2 * frame_bits f + 1) * H

-- the bits that a phase has taken
abbrev pub taken_in : Phase → ℕ
taken_in Waiting = 0
taken_in (Clocking t) = t.word
taken_in (Recovering left) = 0

-- the clock falls in tick s and toggles every H ticks up to the last rise, after which it stays high
abbrev pub ClockToggles : Type 0
ClockToggles = (f : Format) (H : ℕ) (line : ℕ → Bool) (τ : ℕ) → 1 ≤ H →
    clock_of (phase_after f H line τ) ≡ cond (nat_lt τ (last_rise f H)) (τ / H % 2 == 1) true

-- bit i of a word of n bits, counted from 1 and from the top, is the level in tick s + 2iH
pub record Sampled (n H : ℕ) (line : ℕ → Bool) (w : ℕ) : Type 0 where
  pub below : w < 2 ^ n
  pub bits : (i : ℕ) → 1 ≤ i → i ≤ n → word_flag w (n - i) ≡ line (2 * (i * H))

-- before the tick of completion the word has all bits of the frame
abbrev pub TakesBits : Type 0
TakesBits = (f : Format) (H : ℕ) (line : ℕ → Bool) → 1 ≤ H →
    Sampled (frame_bits f) H line (taken_in (phase_before f H line (last_rise f H + 500)))

-- the transmission completes 500 ticks after the last rise and in no other tick, with the word that was taken;
-- a fault is a low line in tick s or a high line at completion
abbrev pub Completes : Type 0
Completes = (f : Format) (H : ℕ) (line : ℕ → Bool) (τ : ℕ) → 1 ≤ H →
    completion (line τ) (phase_before f H line τ) ≡
    cond (τ == last_rise f H + 500) (Some (record { word = (reading_of f (taken_in (phase_before f H line τ))).number; fault = not (line 0) || line τ })) None

-- the registers follow: word and FAULT are those that completed, and in every other tick nothing changes
abbrev pub Follows : Option Completed → Ssi → Ssi → Type 0
Follows None before after = after ≡ before
Follows (Some c) before after = (after.word ≡ c.word) × (after.fault ≡ c.fault)

abbrev pub ShowsCompleted : Type 0
ShowsCompleted = (x : Bool) (p : Phase) (s : Ssi) → Follows (completion x p) s (ticked x p s)

-- if the line has, in tick s + 2iH, bit i of the frame of a position, the transmission completes with that position
abbrev pub Delivers : Type 0
Delivers = (f : Format) (H : ℕ) (line : ℕ → Bool) (p x : ℕ) → 1 ≤ H → Carries f p x →
    ((i : ℕ) → 1 ≤ i → i ≤ frame_bits f → line (2 * (i * H)) ≡ word_flag (word_of_frame f p x) (frame_bits f - i)) →
    completion (line (last_rise f H + 500)) (phase_before f H line (last_rise f H + 500)) ≡
    Some (record { word = p; fault = not (line 0) || line (last_rise f H + 500) })

-- BSY is 1 up to completion, and SENSOR STATUS up to 3,100 ticks after the last rise
pub record Times (f : Format) (H : ℕ) (line : ℕ → Bool) (τ : ℕ) : Type 0 where
  pub busy : busy_in (phase_after f H line τ) ≡ nat_lt τ (last_rise f H + 500)
  pub active : active_in (phase_after f H line τ) ≡ nat_lt τ (last_rise f H + 3100)

abbrev pub KeepsTimes : Type 0
KeepsTimes = (f : Format) (H : ℕ) (line : ℕ → Bool) (τ : ℕ) → 1 ≤ H → Times f H line τ

-- a control word that is not refused reads as it was written
abbrev pub ControlReadsBack : Type 0
ControlReadsBack = (w : ℕ) → w < 2 ^ 32 → control_refused w ≡ false → word_of_control (control_of w) ≡ w
