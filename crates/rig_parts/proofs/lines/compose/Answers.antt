use Rattle.std.proofs.Common.{◌≡◌, sym, subst, arith}
use Rattle.rig_parts.specs.Lines.{CarriesLevels, composed}
use Rattle.rig_parts.proofs.LineLaws.{lines_carry}
use Rattle.rig_parts.proofs.lines.compose.Goals as goal

pub returns-clause-levels : goal.returns-clause-levels
returns-clause-levels g c =
    let f = g.F.Field.wired c.args.field.now in
    let e : ◌≡◌ c.loop-k.k 8 = omega arith in
    let all : c.loop-k.all ≡ composed f 8 c.args.lines = rw e at c.loop-k.invariant in
    subst (CarriesLevels f c.args.lines) (sym all) (lines_carry f c.args.lines)
