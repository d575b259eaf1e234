use Rattle.std.proofs.Common.{◌≡◌, ◌-◌}
use lib.Bits.{bit_xor}
use Rattle.frame.specs.Gray.{ungray}
use Rattle.frame.proofs.gray.from_gray.Given as goal

abbrev pub invariant-loop-i : goal.invariant-loop-i
invariant-loop-i l = bit_xor l.number (ungray (32 - l._i) l.rest) ≡ ungray 32 l.word
