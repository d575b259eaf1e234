use Rattle.std.proofs.Common.{arith}
use Rattle.rig_parts.proofs.ClockLaws.{clocked_all}
use Rattle.rig_parts.proofs.clocks.advance_all.Goals as goal

pub returns-clause-after : goal.returns-clause-after
returns-clause-after g c = clocked_all c.loop-k.k _ _ _ (g.met.F.Field.sound c.args.field.now) (omega arith) c.loop-k.invariant
