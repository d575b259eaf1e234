use Rattle.std.proofs.Common.{◌≡◌}
use Rattle.table.specs.Tables.{changed, tick_at}
use Rattle.table.proofs.tick_all.Given as goal

abbrev pub invariant-loop-k : goal.invariant-loop-k
invariant-loop-k l = l.channels ≡ changed (tick_at l.lines l.inputs l.expired) 0 l.k l.initial.channels
