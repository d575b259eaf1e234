use Rattle.std.proofs.Common.{◌≡◌, sym, arith}
use Rattle.std.proofs.lemmas.List.{take_all}
use Rattle.channel.specs.Shares.{share_of, width_of}
use Rattle.table.specs.Tables.{gathered}
use Rattle.table.proofs.Loops.{gathered_below, gathered_more, gathered_room}
use Rattle.table.proofs.gather.Goals as goal

pub loop-k-preserved : goal.loop-k-preserved
loop-k-preserved c =
    gathered_more (width_of c.args.share) (share_of c.args.share) c.args.channels.now c.loop-k.k _ _ _ _ _
    c.width-width.ensures.answer (omega arith) c.loop-k.invariant.0 c.share.ensures.answer
    c.with_field-word.ensures.answer c.with_field-word.ensures.below

pub with_field-word-requires : goal.with_field-word-requires
with_field-word-requires c =
    let room = gathered_room c.width-width.result c.loop-k.k c.width-width.ensures.most c.loop-k-test.true in
    let few = c.width-width.ensures.most in
    record {
      room = room;
      width = omega arith;
      low = gathered_below c.width-width.result c.loop-k.k few c.loop-k-test.true;
      below = rw c.width-width.ensures.answer c.loop-k.invariant.1;
      value = rw c.width-width.ensures.answer c.share.ensures.below;
    }

pub returns : goal.returns
unfolding gathered
returns c =
    let k : c.loop-k.k ≡ 8 = omega arith in
    let t = take_all c.loop-k.k c.args.channels.now (omega arith) in
    record { answer = cc; below = rw (sym k) c.loop-k.invariant.1 }
