-- A tick of the count, by the levels alone.
use Rattle.counter_count.specs.declared.levels.Levels.{Levels}
use Rattle.counter_count.specs.declared.count.Count.{Count}
use Rattle.counter_count.specs.declared.count.Outcome.{Outcome}
use Rattle.counter_count.specs.Steps.{rises, seen_through}
use Rattle.counter_count.specs.Counts.{divided, driven, drive_outcome, load_of_event, step_in}

-- a tick from the levels o to v, as seen through the polarity bits
unfoldable pub advanced : Levels → Levels → Count → Count
advanced o v n = driven (load_of_event n.control.index (rises o.i v.i) n.preload) (step_in o v n) (divided n)

-- and what became of the count in it
unfoldable pub advance_outcome : Levels → Levels → Count → Outcome
advance_outcome o v n = drive_outcome (load_of_event n.control.index (rises o.i v.i) n.preload) (step_in o v n) (divided n)

-- a tick of the count: the levels go through the polarity bits now in force
abbrev pub count_ticked : Levels → Levels → Count → Count
count_ticked before after n = advanced (seen_through n.control before) (seen_through n.control after) n

abbrev pub count_outcome : Levels → Levels → Count → Outcome
count_outcome before after n = advance_outcome (seen_through n.control before) (seen_through n.control after) n
