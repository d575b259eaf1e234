-- The counter of one channel, and its tick.
use Rattle.std.specs.Prelude.{Bool, true, false, cond, not, ◌&&◌, ◌||◌, ◌==◌}
use Rattle.counter_control.specs.declared.modes.InputMode.{InputMode}
use Rattle.counter_control.specs.declared.modes.IndexMode.{IndexMode}
use Rattle.counter_control.specs.declared.modes.IndexMode.TheVariants.{Ignore, Load, Latch, Gate, Reset}
use Rattle.counter_count.specs.declared.levels.Levels.{Levels}
use Rattle.counter_count.specs.declared.count.Count.{Count}
use Rattle.counter_count.specs.declared.count.Outcome.{Outcome}
use Rattle.counter_count.specs.declared.count.Outcome.TheVariants.{Held, Loaded, Up, Down, Carry, Borrow}
use Rattle.counter_count.specs.Steps.{rises, seen_through}
use Rattle.counter_count.specs.Counts.{power_on_count}
use Rattle.counter_count.specs.Ticks.{count_outcome, count_ticked}
use Rattle.counter.specs.declared.flags.Flags.{Flags}
use Rattle.counter.specs.declared.counter.Causes.{Causes}
use Rattle.counter.specs.declared.counter.Counter.{Counter}
use Rattle.counter.specs.Status.{flags_noted, flags_pointed, power_on_flags, with_lock, with_matched}

abbrev pub power_on_counter : Counter
power_on_counter = record { count = power_on_count; compare = 0; latched = 0; flags = power_on_flags }

-- a counter with another count
abbrev pub with_count : Count → Counter → Counter
with_count n c = record { count = n; compare = c.compare; latched = c.latched; flags = c.flags }

-- a counter with other status bits
abbrev pub with_flags : Flags → Counter → Counter
with_flags f c = record { count = c.count; compare = c.compare; latched = c.latched; flags = f }

-- a load, or a step that was made
abbrev pub moves : Outcome → Bool
moves Held = false
moves Loaded = true
moves Up = true
moves Down = true
moves Carry = true
moves Borrow = true

-- a load or a step ends at compare
abbrev pub match_cause : Outcome → Counter → Bool
match_cause o c = moves o && c.count.value == c.compare

-- the status bits after what became of the count
abbrev pub marked : Outcome → Counter → Counter
marked o c = with_flags (with_matched (match_cause o c || c.flags.matched) (flags_noted o c.flags)) c

-- an event of Latch on I
abbrev pub latch_cause : Counter → Bool
latch_cause c = not c.flags.locked

abbrev pub latched_when : Bool → Counter → Counter
latched_when event c = record {
  count = c.count;
  compare = c.compare;
  latched = cond (event && latch_cause c) c.count.value c.latched;
  flags = with_lock (event || c.flags.locked) (event && c.flags.locked || c.flags.overflow) c.flags;
}

abbrev pub latched : Counter → Counter
latched c = latched_when true c

-- Latch on I is set
abbrev pub latches : IndexMode → Bool
latches Ignore = false
latches Load = false
latches Latch = true
latches Gate = false
latches Reset = false

-- the index mode's event, from the levels o and n of I
abbrev pub index_cause : IndexMode → Bool → Bool → Counter → Bool
index_cause Ignore o n c = false
index_cause Load o n c = rises o n
index_cause Latch o n c = rises o n && latch_cause c
index_cause Gate o n c = rises n o
index_cause Reset o n c = rises o n

abbrev pub indexed : IndexMode → Bool → Bool → Counter → Counter
indexed m o n c = latched_when (latches m && rises o n) c

-- DIR shows B in the direction mode
abbrev pub pointed : InputMode → Bool → Counter → Counter
pointed m b c = with_flags (flags_pointed m b c.flags) c

-- count and status bits after a tick that takes the lines from the levels o to n
abbrev pub counted : Levels → Levels → Counter → Counter
counted o n c =
    pointed c.count.control.input (seen_through c.count.control n).b
    (marked (count_outcome o n c.count) (with_count (count_ticked o n c.count) c))

-- a tick: the count by itself, then the status bits, then the index mode's event
unfoldable pub ticked : Levels → Levels → Counter → Counter
ticked o n c = indexed c.count.control.index (seen_through c.count.control o).i (seen_through c.count.control n).i (counted o n c)

-- its causes of interrupts
unfoldable pub tick_causes : Levels → Levels → Counter → Causes
tick_causes o n c = record {
  matched = match_cause (count_outcome o n c.count) (with_count (count_ticked o n c.count) c);
  control = index_cause c.count.control.index (seen_through c.count.control o).i (seen_through c.count.control n).i (counted o n c);
}

-- the causes of a tick in which no level changes
abbrev pub rest_causes : Bool → Causes
rest_causes matched = record { matched = matched; control = false }
