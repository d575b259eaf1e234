-- A tick in which no level changes has no event of the index mode.
use Rattle.std.proofs.Common.{◌≡◌, Bool, false, arith}
use Rattle.counter_control.specs.declared.modes.IndexMode.{IndexMode}
use Rattle.counter_count.specs.declared.levels.Levels.{Levels}
use Rattle.counter_count.specs.Ticks.{count_outcome, count_ticked}
use Rattle.counter_count.proofs.Rests.{rises_same}
use Rattle.counter.specs.declared.counter.Counter.{Counter}
use Rattle.counter.specs.Counters.{counted, index_cause, indexed, match_cause, rest_causes, tick_causes, ticked, with_count}

rest_cause : (m : IndexMode) (i : Bool) (c : Counter) → index_cause m i i c ≡ false
rest_cause m i c = grind (arith, rises_same)

rest_indexed : (m : IndexMode) (i : Bool) (c : Counter) → indexed m i i c ≡ c
rest_indexed m i c = grind (arith, rises_same)

pub rest_ticked : (v : Levels) (c : Counter) → ticked v v c ≡ counted v v c
unfolding ticked
rest_ticked v c = grind (arith, rest_indexed)

pub rest_causes_lem : (v : Levels) (c : Counter)
    → tick_causes v v c ≡ rest_causes (match_cause (count_outcome v v c.count) (with_count (count_ticked v v c.count) c))
unfolding tick_causes
rest_causes_lem v c = grind (arith, rest_cause)
