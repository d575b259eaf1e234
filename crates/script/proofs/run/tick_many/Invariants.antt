use Rattle.std.proofs.Common.{◌≡◌}
use Rattle.script.specs.Runs.{ticked}
use Rattle.script.proofs.run.tick_many.Given as goal

abbrev pub invariant-loop : goal.invariant-loop
invariant-loop l = l.card ≡ ticked l.counter l.lines l.inputs l.initial.card
