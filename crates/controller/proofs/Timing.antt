-- The laws of the controller's times, each read off where the transmission stands.
use Rattle.std.proofs.Common.{◌≡◌, ℕ, zero, suc, ◌+◌, ◌*◌, ◌/◌, ◌%◌, ◌<◌, ◌≤◌, Bool, true, false, cond, not, ◌||◌, eqb, ltb, Some, None, Option, sym, refl, subst, arith}
use native.Mathlib.Nat.{div-eq_of_lt-le}
use Rattle.std.proofs.lemmas.Nat.{mul-le}
use Rattle.std.proofs.lemmas.Bool.{eq-eqb, ne_eqb, lt-ltb, le-ltb}
use Rattle.frame.specs.Layout.{frame_bits, reading_of}
use Rattle.frame.specs.declared.format.Format.{Format}
use Rattle.controller.specs.Phase.{due_of, clock_of, busy_in, active_in}
use Rattle.controller.specs.Registers.{completion, completed_by, recorded, ticked}
use Rattle.controller.specs.Timing.{phase_before, last_rise, taken_in, Sampled, ClockToggles, TakesBits, Completes, KeepsTimes, Follows, ShowsCompleted}
use Rattle.controller.specs.declared.phase.Phase.{Phase}
use Rattle.controller.specs.declared.phase.Phase.TheVariants.{Waiting, Clocking, Recovering}
use Rattle.controller.specs.declared.phase.Due.{Due}
use Rattle.controller.specs.declared.phase.Due.TheVariants.{Toggle, Completion, Drop}
use Rattle.controller.specs.declared.registers.Ssi.{Ssi}
use Rattle.controller.proofs.Steps.{passes, goes_on, ends_with, recovers_quietly, idles_quietly}
use Rattle.controller.proofs.Under.{Under, toggling, settling, recovering, waiting, risen, halves, collected, collected_sampled, under_all}

-- the half period in which a tick lies, and that toggles come before the last rise
half_of : (H k w τ : ℕ) → w < H → τ + w + 1 ≡ (k + 1) * H → τ / H ≡ k
half_of H k w τ q e = div-eq_of_lt-le {k = k} H (omega arith) (omega arith)

early : (H n : ℕ) (b : Bool) (r w τ : ℕ) → risen b r ≤ n → τ + w + 1 ≡ (halves b r + 1) * H → τ < (2 * n + 1) * H
early H n true r w τ p e = omega (arith, mul-le (suc r) H n H p (omega arith))
early H n false r w τ p e = omega (arith, mul-le r H n H p (omega arith))

-- the clock is high in every other half period
level_of : (H : ℕ) (b : Bool) (r w τ : ℕ) → w < H → τ + w + 1 ≡ (halves b r + 1) * H → eqb (τ / H % 2) 1 ≡ b
level_of H true r w τ q e = eq-eqb _ 1 (omega (arith, half_of H (2 * r + 1) w τ q e))
level_of H false r w τ q e = ne_eqb _ 1 (omega (arith, half_of H (2 * r) w τ q e))

pub clock_at_lem : {f : Format} {H : ℕ} {line : ℕ → Bool} {τ : ℕ} {p : Phase} → Under f H line τ p →
    clock_of p ≡ cond (ltb τ (last_rise f H)) (eqb (τ / H % 2) 1) true
clock_at_lem {f} {H} {line} {τ} (toggling b r w p q e) =
    rw (lt-ltb τ (last_rise f H) (early H (frame_bits f) b r w τ p e), level_of H b r w τ q e)
clock_at_lem {f} {H} {line} {τ} (settling w q e) = rw (le-ltb τ (last_rise f H) (omega arith))
clock_at_lem {f} {H} {line} {τ} (recovering left q e) = rw (le-ltb τ (last_rise f H) (omega arith))
clock_at_lem {f} {H} {line} {τ} (waiting l) = rw (le-ltb τ (last_rise f H) (omega arith))

pub clock_toggles : ClockToggles
clock_toggles f H line τ h = clock_at_lem (under_all f H line h τ)

pub times_at : {f : Format} {H : ℕ} {line : ℕ → Bool} {τ : ℕ} {p : Phase} → Under f H line τ p →
    (busy_in p ≡ ltb τ (last_rise f H + 500)) × (active_in p ≡ ltb τ (last_rise f H + 3100))
times_at {f} {H} {line} {τ} (toggling b r w p q e) =
    let l = early H (frame_bits f) b r w τ p e in
    (sym (lt-ltb _ _ (omega (arith, l))), sym (lt-ltb _ _ (omega (arith, l))))
times_at (settling w q e) = (sym (lt-ltb _ _ (omega arith)), sym (lt-ltb _ _ (omega arith)))
times_at (recovering left q e) = (sym (le-ltb _ _ (omega arith)), sym (lt-ltb _ _ (omega arith)))
times_at (waiting l) = (sym (le-ltb _ _ (omega arith)), sym (le-ltb _ _ (omega arith)))

pub keeps_times : KeepsTimes
keeps_times f H line τ h = let t = times_at (under_all f H line h τ) in record { busy = t.0; active = t.1 }

-- just before completion all bits are there
pub taken_at : {f : Format} {H : ℕ} {line : ℕ → Bool} {τ : ℕ} {p : Phase} → suc τ ≡ last_rise f H + 500 → Under f H line τ p →
    taken_in p ≡ collected H line (frame_bits f)
taken_at {f} {H} {line} {τ} t (toggling b r w p q e) = absurd (omega (arith, early H (frame_bits f) b r w τ p e))
taken_at t (settling w q e) = refl
taken_at t (recovering left q e) = absurd (omega arith)
taken_at t (waiting l) = absurd (omega arith)

pub takes_bits : TakesBits
takes_bits f H line h =
    let t : suc (last_rise f H + 499) ≡ last_rise f H + 500 = omega arith in
    let w : taken_in (phase_before f H line (suc (last_rise f H + 499))) ≡ collected H line (frame_bits f) = taken_at t (under_all f H line h (last_rise f H + 499)) in
    subst (λ n. Sampled (frame_bits f) H line (taken_in (phase_before f H line n))) t
    (subst (Sampled (frame_bits f) H line) (sym w) (collected_sampled H line (frame_bits f)))

-- what a tick completes
abbrev pub Gives : Format → ℕ → (ℕ → Bool) → ℕ → Phase → Type 0
Gives f H line τ p =
    completion (line τ) p ≡ cond (eqb τ (last_rise f H + 500)) (Some (record { word = (reading_of f (taken_in p)).number; fault = not (line 0) || line τ })) None

gives_none : (f : Format) (H : ℕ) (line : ℕ → Bool) (τ : ℕ) (p : Phase) → (τ ≡ last_rise f H + 500 → ⊥) → completion (line τ) p ≡ None → Gives f H line τ p
gives_none f H line τ p ne e = let b = ne_eqb τ (last_rise f H + 500) ne in rw b e

pub gives_at : {f : Format} {H : ℕ} {line : ℕ → Bool} {τ : ℕ} {p : Phase} → Under f H line τ p → Gives f H line (suc τ) p
gives_at {f} {H} {line} {τ} (toggling b r w p q e) =
    let l = early H (frame_bits f) b r w τ p e in
    gives_none f H line (suc τ) _ (λ t. omega (arith, t, l)) (goes_on f H b (risen b r) w _ _ (line (suc τ)) p)
gives_at {f} {H} {line} {τ} (settling (suc w) q e) =
    gives_none f H line (suc τ) _ (λ t. omega (arith, t)) (passes f H true (suc (frame_bits f)) (suc w) _ _ (line (suc τ)) (omega arith))
gives_at {f} {H} {line} {τ} (settling zero q e) =
    let b = eq-eqb (suc τ) (last_rise f H + 500) (omega arith) in
    rw b (ends_with f H (collected H line (frame_bits f)) (not (line 0)) (line (suc τ)))
gives_at {f} {H} {line} {τ} (recovering left q e) = gives_none f H line (suc τ) _ (λ t. omega (arith, t)) (recovers_quietly left (line (suc τ)))
gives_at {f} {H} {line} {τ} (waiting l) = gives_none f H line (suc τ) _ (λ t. omega (arith, t)) (idles_quietly (line (suc τ)))

pub completes : Completes
completes f H line zero h =
    gives_none f H line 0 _ (λ t. omega (arith, t)) (goes_on f H true 0 0 0 false (line 0) (omega arith))
completes f H line (suc τ) h = gives_at (under_all f H line h τ)

-- the registers follow what completes
follows : (d : Option Due) (x : Bool) (p : Phase) (s : Ssi) → Follows (completed_by d x p) s (recorded d x p s)
follows None x p s = refl
follows (Some Toggle) x p s = refl
follows (Some Completion) x Waiting s = refl
follows (Some Completion) x (Clocking t) s = (refl, refl)
follows (Some Completion) x (Recovering left) s = refl
follows (Some Drop) x p s = refl

pub shows_completed : ShowsCompleted
unfolding completion ticked
shows_completed x p s = follows (due_of p) x p s
