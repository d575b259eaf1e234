use Rattle.std.proofs.Common.{◌≡◌, min, length, arith}
use Rattle.rig.specs.Benches.{new_bench}
use Rattle.delivered.proofs.Stands.{delivers}
use Rattle.rig_runs.proofs.Counted.{counts_on_rig}
use Rattle.separate.proofs.Apart.{separate}
use Rattle.rig_runs.proofs.Turns.{answers_end, answers_more, rest_more, run_end, run_more}
use Rattle.rig_runs.proofs.run_calls.Goals as goal

pub loop-i-preserved : goal.loop-i-preserved
loop-i-preserved g c =
    let b = new_bench (g.F.Field.wired c.args.field.now) in (
      run_more b _ _ c.args.calls.now c.loop-i.i _ (omega arith) c.loop-i.invariant.0 c.make_rig_call.ensures.after,
      answers_more b _ c.args.calls.now c.loop-i.answers c.loop-i.i _ _ (omega arith) (omega arith) c.loop-i.invariant.0 c.loop-i.invariant.1 c.make_rig_call.ensures.answer,
      rest_more c.loop-i.answers c.args.answers.now c.loop-i.i _ c.loop-i.invariant.2,
    )

pub returns : goal.returns
returns g c =
    let b = new_bench (g.F.Field.wired c.args.field.now) in
    let e : c.loop-i.i ≡ min (length c.args.calls.now) (length c.args.answers.now) = omega arith in
    record {
      state = run_end b _ c.args.calls.now c.args.answers.now c.loop-i.i e c.loop-i.invariant.0;
      answers = answers_end b c.args.calls.now c.loop-i.answers c.args.answers.now c.loop-i.i e c.loop-i.invariant.1 c.loop-i.invariant.2;
      counts = counts_on_rig;
      delivered = delivers;
      separate = separate;
    }
