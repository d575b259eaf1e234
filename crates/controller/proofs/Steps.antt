-- Each kind of tick of a transmission as an equation.
use Rattle.std.proofs.Common.{◌≡◌, ℕ, suc, ◌-◌, ◌<◌, ◌≤◌, Bool, true, false, not, Some, None, Option, refl, arith}
use Rattle.std.proofs.lemmas.Bool.Decides.{nat_tests}
use Rattle.frame.specs.Layout.{frame_bits, parity_bits}
use Rattle.frame.specs.declared.format.Parity.{Parity}
use Rattle.frame.specs.declared.format.Format.{Format}
use Rattle.controller.specs.Phase.{pushed, phase_ticked}
use Rattle.controller.specs.Registers.{completion, ticked, completed_as, concluded}
use Rattle.controller.specs.declared.phase.Transmission.{Transmission}
use Rattle.controller.specs.declared.phase.Phase.TheVariants.{Waiting, Clocking, Recovering}
use Rattle.controller.specs.declared.registers.Ssi.{Ssi}

-- a transmission, field by field
abbrev pub transmission : Format → ℕ → Bool → ℕ → ℕ → ℕ → Bool → Transmission
transmission f H high rises wait word fault =
    record { half = H; format = f; high = high; rises = rises; wait = wait; word = word; fault = fault }

parity_most : (p : Option Parity) → parity_bits p ≤ 1
parity_most None = omega arith
parity_most (Some p) = omega arith

-- a frame has at most 40 bits
pub bits_most : (f : Format) → frame_bits f ≤ 40
bits_most f = omega (arith, parity_most f.parity)

-- a tick that only passes
pub waits : (f : Format) (H : ℕ) (b : Bool) (r w a : ℕ) (bad x : Bool) → 0 < w →
    phase_ticked x (Clocking (transmission f H b r w a bad)) ≡ Clocking (transmission f H b r (w - 1) a bad)
unfolding phase_ticked
waits f H b r w a bad x h = grind (arith, nat_tests)

-- the first fall
pub falls_first : (f : Format) (H a : ℕ) (bad x : Bool) →
    phase_ticked x (Clocking (transmission f H true 0 0 a bad)) ≡ Clocking (transmission f H false 0 (H - 1) a (not x))
unfolding phase_ticked
falls_first f H a bad x = grind (arith, nat_tests)

-- every later fall
pub falls : (f : Format) (H r a : ℕ) (bad x : Bool) → 0 < r → r ≤ frame_bits f →
    phase_ticked x (Clocking (transmission f H true r 0 a bad)) ≡ Clocking (transmission f H false r (H - 1) (pushed a x) bad)
unfolding phase_ticked
falls f H r a bad x some h = grind (arith, nat_tests)

-- a rise that presents a bit
pub rises : (f : Format) (H r a : ℕ) (bad x : Bool) → r < frame_bits f →
    phase_ticked x (Clocking (transmission f H false r 0 a bad)) ≡ Clocking (transmission f H true (suc r) (H - 1) a bad)
unfolding phase_ticked
rises f H r a bad x h = grind (arith, nat_tests, bits_most)

-- the last rise
pub rises_last : (f : Format) (H r a : ℕ) (bad x : Bool) → r ≤ frame_bits f → frame_bits f ≤ r →
    phase_ticked x (Clocking (transmission f H false r 0 a bad)) ≡ Clocking (transmission f H true (suc r) 499 a bad)
unfolding phase_ticked
rises_last f H r a bad x h l = grind (arith, nat_tests, bits_most)

-- after the last rise completion is due
pub ends : (f : Format) (H a : ℕ) (bad x : Bool) →
    phase_ticked x (Clocking (transmission f H true (suc (frame_bits f)) 0 a bad)) ≡ Recovering 2599
unfolding phase_ticked
ends f H a bad x = grind (arith, nat_tests)

pub ends_with : (f : Format) (H a : ℕ) (bad x : Bool) →
    completion x (Clocking (transmission f H true (suc (frame_bits f)) 0 a bad)) ≡ Some (completed_as x (transmission f H true (suc (frame_bits f)) 0 a bad))
unfolding completion
ends_with f H a bad x = grind (arith, nat_tests)

pub ends_in : (f : Format) (H a : ℕ) (bad x : Bool) (s : Ssi) →
    ticked x (Clocking (transmission f H true (suc (frame_bits f)) 0 a bad)) s ≡ concluded x (transmission f H true (suc (frame_bits f)) 0 a bad) s
unfolding ticked
ends_in f H a bad x s = grind (arith, nat_tests)

-- a tick that passes, and one that toggles the clock, complete nothing
pub passes : (f : Format) (H : ℕ) (b : Bool) (r w a : ℕ) (bad x : Bool) → 0 < w →
    completion x (Clocking (transmission f H b r w a bad)) ≡ None
unfolding completion
passes f H b r w a bad x h = grind (arith, nat_tests)

pub goes_on : (f : Format) (H : ℕ) (b : Bool) (r w a : ℕ) (bad x : Bool) → r ≤ frame_bits f →
    completion x (Clocking (transmission f H b r w a bad)) ≡ None
unfolding completion
goes_on f H b r w a bad x h = grind (arith, nat_tests)

pub recovers_quietly : (left : ℕ) (x : Bool) → completion x (Recovering left) ≡ None
unfolding completion
recovers_quietly left x = grind (arith, nat_tests)

pub idles_quietly : (x : Bool) → completion x Waiting ≡ None
unfolding completion
idles_quietly x = refl

-- recovery
pub recovers : (left : ℕ) (x : Bool) → 0 < left → phase_ticked x (Recovering left) ≡ Recovering (left - 1)
unfolding phase_ticked
recovers left x h = grind (arith, nat_tests)

pub recovered : (x : Bool) → phase_ticked x (Recovering 0) ≡ Waiting
unfolding phase_ticked
recovered x = refl

pub idles : (x : Bool) → phase_ticked x Waiting ≡ Waiting
unfolding phase_ticked
idles x = refl
