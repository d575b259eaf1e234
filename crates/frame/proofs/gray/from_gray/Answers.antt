use Rattle.std.proofs.Common.{◌≡◌, suc, ◌+◌, ◌-◌, arith}
use lib.Bits.{bit_xor}
use Rattle.frame.specs.Gray.{ungray}
use Rattle.frame.proofs.GrayWords.{ungray_turn, ungray_none}
use Rattle.frame.proofs.gray.from_gray.Goals as goal

pub loop-i-preserved : goal.loop-i-preserved
loop-i-preserved c =
    let one_more : 32 - c.loop-i._i ≡ suc (32 - (c.loop-i._i + 1)) = omega arith in
    let inv : bit_xor c.loop-i.number (ungray (suc (32 - (c.loop-i._i + 1))) c.loop-i.rest) ≡ ungray 32 c.args.word = rw one_more at c.loop-i.invariant in
    ungray_turn (32 - (c.loop-i._i + 1)) _ _ _ inv

pub returns : goal.returns
returns c =
    let done : 32 - c.loop-i._i ≡ 0 = omega arith in
    let inv : bit_xor c.loop-i.number (ungray 0 c.loop-i.rest) ≡ ungray 32 c.args.word = rw done at c.loop-i.invariant in
    ungray_none _ _ _ inv
