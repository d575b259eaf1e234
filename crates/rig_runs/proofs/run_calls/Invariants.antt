use Rattle.std.proofs.Common.{◌≡◌, take, drop}
use Rattle.rig.specs.Benches.{answers_on, bench, new_bench, run_on}
use Rattle.rig_runs.proofs.run_calls.Given as goal

abbrev pub invariant-loop-i : goal.invariant-loop-i
invariant-loop-i g l =
    (bench l.card (g.F.Field.wired l.field) ≡ run_on (new_bench (g.F.Field.wired l.initial.field)) (take l.i l.calls))
    × (take l.i l.answers ≡ answers_on (new_bench (g.F.Field.wired l.initial.field)) (take l.i l.calls))
    × (drop l.i l.answers ≡ drop l.i l.initial.answers)
