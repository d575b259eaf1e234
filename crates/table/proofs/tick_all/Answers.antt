use Rattle.std.proofs.Common.{◌≡◌, get_or, ◌∙◌, ap₂, arith}
use Rattle.channel.specs.Ticks.{channel_ticked}
use Rattle.table.specs.Tables.{table_ticked, tick_at}
use Rattle.table.proofs.Loops.{changed_more}
use Rattle.table.proofs.tick_all.Goals as goal

pub loop-k-preserved : goal.loop-k-preserved
loop-k-preserved c =
    changed_more (tick_at c.args.lines c.args.inputs c.args.expired) c.args.channels.now c.loop-k.channels c.loop-k.k _ _ c.loop-k.invariant
    (c.tick.ensures ∙ ap₂ (λ x i. channel_ticked x i c.args.expired (get_or c.loop-k.channels c.loop-k.k _)) c.levels_at-seen.ensures c.flag-input.ensures)

pub returns : goal.returns
unfolding table_ticked
returns c = let k : c.loop-k.k ≡ 8 = omega arith in cc
