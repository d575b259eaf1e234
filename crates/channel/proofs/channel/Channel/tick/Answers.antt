use Rattle.std.proofs.Common.{◌∙◌}
use Rattle.channel.proofs.Stills.{told_ticked}
use Rattle.channel.proofs.channel.Channel.tick.Goals as goal

pub returns : goal.returns
returns c =
    c.work.ensures
    ∙ told_ticked c.args.lines c.args.input c.args.expired c.args.self.now c.tick-former.result c.levels-after.result
    c.tick-former.new.self c.tick.new.self c.tick-former.ensures.answer c.levels-after.ensures c.tick-former.ensures.after c.tick.ensures
