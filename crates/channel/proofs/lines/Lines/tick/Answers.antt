use Rattle.std.proofs.Common.{◌≡◌, true, ap, ◌∙◌, rules}
use Rattle.channel.specs.Lines.{lines_steady}
use Rattle.channel.proofs.Stills.{clocked, steady_former, steady_ticked}
use Rattle.channel.proofs.lines.Lines.tick.Goals as goal

pub returns-then-is_steady : goal.returns-then-is_steady
returns-then-is_steady c =
    let x = c.args.seen in
    let l = c.args.self.now in
    let e : lines_steady x l ≡ true = search rules in
    record { answer = steady_former x l e; after = ap (λ t. clocked t l) c.tick.ensures.after ∙ steady_ticked x l e }
