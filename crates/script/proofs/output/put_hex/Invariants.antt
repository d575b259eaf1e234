use Rattle.std.proofs.Common.{◌≡◌, ◌++◌, length, drop}
use Rattle.script.specs.Output.{hex_bytes}
use Rattle.script.proofs.output.put_hex.Given as goal

abbrev pub invariant-loop-i : goal.invariant-loop-i
invariant-loop-i l = hex_bytes (length l.out) l.value ≡ hex_bytes l.i l.rest ++ drop l.i l.out
