-- A filter's numbers after a tick, where a filter can have them and where not.
use Rattle.std.proofs.Common.{◌≡◌, ℕ, true, false, sym, refl, ap, ◌∙◌}
use Rattle.filter.specs.declared.timing.FilterTiming.{FilterTiming}
use Rattle.filter.specs.Filters.{checked, clock_ticked, fits, is_due, new_timing, samples_in, ticked}

checked_fit : (t : FilterTiming) → fits t ≡ true → checked t ≡ t
checked_fit t e = rw e refl

checked_unfit : (t : FilterTiming) → fits t ≡ false → checked t ≡ new_timing 1
checked_unfit t e = rw e refl

pub unfit_due : (t : FilterTiming) → fits t ≡ false → true ≡ samples_in t
unfolding samples_in
unfit_due t e = sym (ap is_due (checked_unfit t e))

pub unfit_ticked : (t : FilterTiming) → fits t ≡ false → new_timing 1 ≡ ticked t
unfolding ticked
unfit_ticked t e = sym (ap clock_ticked (checked_unfit t e))

pub fit_due : (t q : FilterTiming) → fits t ≡ true → q ≡ t → is_due q ≡ samples_in t
unfolding samples_in
fit_due t q e p = ap is_due p ∙ sym (ap is_due (checked_fit t e))

pub fit_ticked : (t q n : FilterTiming) (p : ℕ) → fits t ≡ true → q ≡ t → n ≡ clock_ticked q → p ≡ n.phase
    → record { period = t.period; phase = p } ≡ ticked t
unfolding ticked
fit_ticked t q n p e h m a =
    let s : n ≡ clock_ticked t = m ∙ ap clock_ticked h in
    ap (λ (x : ℕ). record { period = t.period; phase = x }) (a ∙ ap (λ (y : FilterTiming). y.phase) s) ∙ sym (ap clock_ticked (checked_fit t e))
