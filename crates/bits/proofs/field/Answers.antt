use Rattle.std.proofs.Common.{◌<◌, ◌/◌, ◌^◌, refl, arith}
use Rattle.std.proofs.lemmas.Nat.{one_shl, and_mask}
use Rattle.bits.proofs.field.Goals as goal

pub returns : goal.returns
returns g c =
    let short : c.args.width < 64 = omega (arith, c.requires.width) in
    rw (one_shl c.args.width 64 short, and_mask (c.widen.result / 2 ^ c.args.low) c.args.width, c.widen.ensures) refl
