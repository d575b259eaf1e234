use Rattle.std.proofs.Common.{◌≡◌}
use Rattle.rig_parts.proofs.ClockLaws.{clocked_below}
use Rattle.rig_parts.proofs.clocks.advance_all.Given as goal

abbrev pub invariant-loop-k : goal.invariant-loop-k
invariant-loop-k g l = g.F.Field.wired l.field ≡ clocked_below l.k (g.F.Field.wired l.initial.field) l.clocks
