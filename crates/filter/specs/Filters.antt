-- A debounce filter: when it samples its line, and what it makes of the samples.
use Rattle.std.specs.Prelude.{◌≡◌, ℕ, ◌+◌, Bool, true, false, cond, not, ◌&&◌, Some, None, Option, ◌==◌, nat_lt}
use Rattle.filter.specs.declared.clock.FilterClock.{FilterClock}
use Rattle.filter.specs.declared.samples.Samples.{Samples}
use Rattle.filter.specs.declared.timing.FilterTiming.{FilterTiming}

-- the two numbers of a filter's clock
abbrev pub timing_of : FilterClock → FilterTiming
timing_of c = record { period = c.period; phase = c.phase }

-- the first sample comes in the last tick of the first period
abbrev pub new_timing : ℕ → FilterTiming
new_timing p = record { period = p; phase = 0 }

-- numbers that no filter has are taken as period 1 and phase 0
abbrev pub checked : FilterTiming → FilterTiming
checked t = cond (nat_lt t.phase t.period) t (new_timing 1)

-- whether a filter can have the numbers
abbrev pub fits : FilterTiming → Bool
fits t = nat_lt t.phase t.period

-- the clock made from plain numbers, where a filter can have them
abbrev pub clock_made : FilterTiming → Option FilterClock → Type 0
clock_made t (Some c) = (fits t ≡ true) × (timing_of c ≡ t)
clock_made t None = fits t ≡ false

-- a filter samples in each period's last tick
abbrev pub is_due : FilterTiming → Bool
is_due t = t.phase + 1 == t.period

abbrev pub clock_ticked : FilterTiming → FilterTiming
clock_ticked t = record { period = t.period; phase = cond (is_due t) 0 (t.phase + 1) }

-- whether the filter with these numbers samples in this tick, and its numbers after it
unfoldable pub samples_in : FilterTiming → Bool
samples_in t = is_due (checked t)

unfoldable pub ticked : FilterTiming → FilterTiming
ticked t = clock_ticked (checked t)

-- a line that has been 0 so far
abbrev pub no_samples : Samples
no_samples = record { last = false; before = false; level = false }

abbrev pub same : Bool → Bool → Bool
same x y = cond x y (not y)

-- the level after a sample x: that sample where it equals the two before it
abbrev pub settled : Bool → Samples → Bool
settled x s = cond (same x s.last && same x s.before) x s.level

-- one more sample
abbrev pub taken : Bool → Samples → Samples
taken x s = record { last = x; before = s.last; level = settled x s }

-- all samples and the level are the line's own
abbrev pub steady_at : Bool → Samples → Bool
steady_at x s = same x s.last && (same x s.before && same x s.level)

-- a line's tick
abbrev pub line_filtered : Bool → Bool → Samples → Samples
line_filtered due x s = cond due (taken x s) s
