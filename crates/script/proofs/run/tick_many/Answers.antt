use Rattle.std.proofs.Common.{sym, refl, ap, ◌∙◌, add-one}
use Rattle.card.specs.Calls.{tick_done}
use Rattle.script.specs.Runs.{ticked}
use Rattle.script.proofs.run.tick_many.Goals as goal

pub loop-init : goal.loop-init
unfolding ticked
loop-init c = refl

pub loop-preserved : goal.loop-preserved
unfolding ticked
loop-preserved c =
    c.tick.ensures.after ∙ (ap (λ k. tick_done c.args.lines c.args.inputs k) c.loop.invariant
    ∙ ap (λ n. ticked n c.args.lines c.args.inputs c.args.card.now) (sym (add-one c.loop.counter)))
