use Rattle.std.proofs.Common.{◌≡◌}
use Rattle.channel.specs.Shares.{performed}
use Rattle.table.specs.Tables.{changed}
use Rattle.table.proofs.act_on_all.Given as goal

abbrev pub invariant-loop-k : goal.invariant-loop-k
invariant-loop-k l = l.channels ≡ changed (performed l.act) 0 l.k l.initial.channels
