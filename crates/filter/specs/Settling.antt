-- What a filter makes of a line over many ticks.
use Rattle.std.specs.Prelude.{◌≡◌, ℕ, ◌*◌, ◌<◌, ◌≤◌, Bool, List, [], ◌∷◌, replicate}
use Rattle.filter.specs.declared.samples.Samples.{Samples}
use Rattle.filter.specs.declared.timing.FilterTiming.{FilterTiming}
use Rattle.filter.specs.Filters.{line_filtered, samples_in, ticked}

-- the samples after a tick for each level of the line, in their order
abbrev pub filtered_over : FilterTiming → Samples → List Bool → Samples
filtered_over t s [] = s
filtered_over t s (x ∷ xs) = filtered_over (ticked t) (line_filtered (samples_in t) x s) xs

-- a line that stands still for three periods is seen, whatever the filter was in the middle of
abbrev pub Settles : Type 0
Settles = (t : FilterTiming) (s : Samples) (x : Bool) (n : ℕ) → t.phase < t.period → 3 * t.period ≤ n
    → (filtered_over t s (replicate n x)).level ≡ x
