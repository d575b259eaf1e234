-- The filters of a channel's three lines, which sample together.
use Rattle.std.specs.Prelude.{ℕ, Bool, cond, not, ◌&&◌, Some, None, Option}
use Rattle.counter_count.specs.declared.levels.Levels.{Levels}
use Rattle.filter.specs.Filters.{line_filtered, new_timing, no_samples, samples_in, steady_at, ticked}
use Rattle.channel.specs.declared.lines.Lines.{Lines}

abbrev pub new_lines : ℕ → Lines
new_lines p = record { timing = new_timing p; a = no_samples; b = no_samples; i = no_samples }

-- each line's filter, in a tick in which they sample or not
abbrev pub lines_sampled : Bool → Levels → Lines → Lines
lines_sampled due x l = record {
  timing = l.timing;
  a = line_filtered due x.a l.a;
  b = line_filtered due x.b l.b;
  i = line_filtered due x.i l.i;
}

-- a tick of all three
abbrev pub lines_ticked : Levels → Lines → Lines
lines_ticked x l = record {
  timing = ticked l.timing;
  a = line_filtered (samples_in l.timing) x.a l.a;
  b = line_filtered (samples_in l.timing) x.b l.b;
  i = line_filtered (samples_in l.timing) x.i l.i;
}

-- what the card sees of the lines
abbrev pub levels_of : Lines → Levels
levels_of l = record { a = l.a.level; b = l.b.level; i = l.i.level }

-- a sample of each line would alter nothing
abbrev pub lines_steady : Levels → Lines → Bool
lines_steady x l = steady_at x.a l.a && (steady_at x.b l.b && steady_at x.i l.i)

-- the levels before a tick in which a sample tells something new
abbrev pub former_levels : Levels → Lines → Option Levels
former_levels x l = cond (samples_in l.timing && not (lines_steady x l)) (Some (levels_of l)) None

-- the levels before a tick, from what it told and from the levels after it
abbrev pub levels_before : Option Levels → Levels → Levels
levels_before (Some x) y = x
levels_before None y = y

-- all three restart together; samples and levels stay
abbrev pub lines_restarted : ℕ → Lines → Lines
lines_restarted p l = record { timing = new_timing p; a = l.a; b = l.b; i = l.i }
