-- A level that is low stays low on a low line.
use Rattle.std.proofs.Common.{◌≡◌, ℕ, zero, suc, Bool, true, false, ◌++◌, refl, arith}
use lib.ListN.{replicate}
use Rattle.filter.specs.declared.samples.Samples.{Samples}
use Rattle.filter.specs.declared.timing.FilterTiming.{FilterTiming}
use Rattle.filter.specs.Filters.{line_filtered, samples_in, ticked}
use Rattle.filter.specs.Settling.{filtered_over}
use Rattle.figures.specs.Figures.{seen_after}

low_tick : (due : Bool) (s : Samples) → s.level ≡ false → (line_filtered due false s).level ≡ false
low_tick due s e = grind arith

pub stays_low : (n : ℕ) (t : FilterTiming) (s : Samples) → s.level ≡ false → (filtered_over t s (replicate n false)).level ≡ false
stays_low zero t s e = e
stays_low (suc n) t s e = stays_low n (ticked t) (line_filtered (samples_in t) false s) (low_tick (samples_in t) s e)

pub never_seen : (n : ℕ) → seen_after (replicate 8 true ++ replicate n false) ≡ false
unfolding samples_in ticked
never_seen n = stays_low n _ _ refl
