use Rattle.std.proofs.Common.{◌≡◌, ◌^◌, ◌<◌, drop}
use Rattle.text.specs.Fields.{number_from}
use Rattle.text.proofs.digits.number.Given as goal

abbrev pub invariant-loop-b : goal.invariant-loop-b
invariant-loop-b l = (number_from l.base 0 l.field ≡ number_from l.base l.value (drop l.b-index l.field)) × (l.value < 16 ^ l.b-index)
