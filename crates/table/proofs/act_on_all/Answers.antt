use Rattle.std.proofs.Common.{◌≡◌, arith}
use Rattle.channel.specs.Shares.{performed}
use Rattle.table.specs.Tables.{acted}
use Rattle.table.proofs.Loops.{changed_more}
use Rattle.table.proofs.act_on_all.Goals as goal

pub loop-k-preserved : goal.loop-k-preserved
loop-k-preserved c =
    changed_more (performed c.args.act) c.args.channels.now c.loop-k.channels c.loop-k.k _ _ c.loop-k.invariant c.perform.ensures

pub returns : goal.returns
unfolding acted
returns c = let k : c.loop-k.k ≡ 8 = omega arith in cc
