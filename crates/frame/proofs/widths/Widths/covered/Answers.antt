use Rattle.frame.proofs.Sent.{data_below, all_below}
use Rattle.frame.proofs.widths.Widths.covered.Goals as goal

pub returns-in-Data-clause-below : goal.returns-in-Data-clause-below
returns-in-Data-clause-below c = data_below _ _ c.args.self.data_most c.args.self.extra_most

pub returns-in-Both-clause-below : goal.returns-in-Both-clause-below
returns-in-Both-clause-below c = all_below _ _ c.args.self.data_most c.args.self.extra_most
