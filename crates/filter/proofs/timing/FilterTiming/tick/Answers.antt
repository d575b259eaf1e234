use Rattle.std.proofs.Common.{◌∙◌, rules}
use Rattle.filter.specs.Filters.{timing_of}
use Rattle.filter.proofs.Timings.{fit_due, fit_ticked, unfit_due, unfit_ticked}
use Rattle.filter.proofs.timing.FilterTiming.tick.Goals as goal

pub returns-in_default : goal.returns-in_default
returns-in_default c = record {
  answer = unfit_due c.args.self.now c.in_default.ensures;
  after = c.new.ensures ∙ unfit_ticked c.args.self.now c.in_default.ensures;
}

pub returns : goal.returns
returns c =
    let t = c.args.self.now in
    let q = timing_of c.in-Some.clock in
    record {
      answer = c.tick-due.ensures.answer ∙ fit_due t q c.in-Some.ensures.0 c.in-Some.ensures.1;
      after = fit_ticked t q (timing_of c.tick-due.new.self) _ c.in-Some.ensures.0 c.in-Some.ensures.1 c.tick-due.ensures.after (search rules);
    }
