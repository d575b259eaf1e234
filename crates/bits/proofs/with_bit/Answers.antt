use Rattle.std.proofs.Common.{◌^◌, arith}
use Rattle.std.proofs.lemmas.Bool.{cond-false}
use Rattle.bits.proofs.Put.{double}
use Rattle.bits.proofs.with_bit.Goals as goal

pub returns-else-bit : goal.returns-else-bit
returns-else-bit c =
    let w = double c.args.place in
    record { answer = omega (arith, cond-false _ (2 ^ c.args.place) 0 c.if-bit.false); below = omega arith }
