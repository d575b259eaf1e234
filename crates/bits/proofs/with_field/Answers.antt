use Rattle.std.proofs.Common.{◌≡◌, ◌+◌, ◌*◌, ◌%◌, ◌^◌, arith}
use lib.Bits.{bit_or}
use Rattle.bits.proofs.Put.{put, put_below}
use Rattle.bits.proofs.with_field.Goals as goal

pub returns : goal.returns
returns c =
    let w = c.args.word in
    let v = c.args.value in
    let k = c.args.low in
    let n = c.args.width in
    let e : bit_or w (v * 2 ^ k % 2 ^ 32) ≡ w + v * 2 ^ k = put w v k n c.requires.room c.requires.below c.requires.value in
    record { answer = e; below = omega (arith, put_below w v k n c.requires.below c.requires.value) }
