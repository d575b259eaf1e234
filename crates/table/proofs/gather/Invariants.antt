use Rattle.std.proofs.Common.{◌≡◌, ◌*◌, ◌^◌, ◌<◌, take}
use Rattle.channel.specs.Shares.{share_of, width_of}
use Rattle.table.specs.Tables.{word_of}
use Rattle.table.proofs.gather.Given as goal

abbrev pub invariant-loop-k : goal.invariant-loop-k
invariant-loop-k l =
    (l.word ≡ word_of (width_of l.share) (share_of l.share) (take l.k l.channels))
    × (l.word < 2 ^ (width_of l.share * l.k))
