use Rattle.std.proofs.Common.{◌≡◌, true, sym, ◌∙◌, rules}
use Rattle.filter.specs.Filters.{steady_at}
use Rattle.filter.proofs.Held.{settles}
use Rattle.filter.proofs.Steady.{steady_filtered}
use Rattle.filter.proofs.samples.Samples.tick.Goals as goal

pub returns-then-not-due : goal.returns-then-not-due
returns-then-not-due c = record { after = search rules; settles = settles }

pub returns-then-is_steady : goal.returns-then-is_steady
returns-then-is_steady c =
    let e : steady_at c.args.line c.args.self.now ≡ true = sym c.is_steady.ensures ∙ c.if-is_steady.true in
    record { after = steady_filtered c.args.due c.args.line c.args.self.now e; settles = settles }

pub returns : goal.returns
returns c = record { after = search rules; settles = settles }
