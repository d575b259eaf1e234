use Rattle.std.proofs.Common.{◌≡◌}
use Rattle.rig_parts.specs.Lines.{composed}
use Rattle.rig_parts.proofs.lines.compose.Given as goal

abbrev pub invariant-loop-k : goal.invariant-loop-k
invariant-loop-k g l = l.all ≡ composed (g.F.Field.wired l.field) l.k l.lines
