-- A channel's 24 V input.
use Rattle.std.specs.Prelude.{Bool, false, cond, not, ◌&&◌, ℕ}
use Rattle.filter.specs.declared.samples.Samples.{Samples}
use Rattle.filter.specs.declared.timing.FilterTiming.{FilterTiming}
use Rattle.filter.specs.Filters.{line_filtered, new_timing, no_samples, samples_in, ticked}
use Rattle.parts.specs.declared.input.Input.{Input}
use Rattle.parts.specs.Interrupts.{quiet, raised}

-- at power-on ADE is 0, so the filter samples in every tick
abbrev pub new_input : Input
new_input = record { timing = new_timing 1; samples = no_samples; debounced = false; rising = quiet; falling = quiet }

abbrev pub with_filter : Input → FilterTiming → Samples → Input
with_filter i t s = record { timing = t; samples = s; debounced = i.debounced; rising = i.rising; falling = i.falling }

-- the edge interrupts of a level that went from x to y
abbrev pub raised_by : Bool → Bool → Input → Input
raised_by x y i = record {
  timing = i.timing;
  samples = i.samples;
  debounced = i.debounced;
  rising = raised (not x && y) i.rising;
  falling = raised (x && not y) i.falling;
}

-- the filter's samples after a tick
abbrev pub sampled_input : Bool → Input → Samples
sampled_input x i = line_filtered (samples_in i.timing) x i.samples

-- a tick: the filter, then the edges
abbrev pub input_ticked : Bool → Input → Input
input_ticked x i = raised_by i.samples.level (sampled_input x i).level (with_filter i (ticked i.timing) (sampled_input x i))

-- a write of the debouncing register restarts the filter; ADE 0 means a period of one tick
abbrev pub debounced_by : Bool → ℕ → Input → Input
debounced_by on p i = record {
  timing = new_timing (cond on p 1);
  samples = i.samples;
  debounced = on;
  rising = i.rising;
  falling = i.falling;
}
