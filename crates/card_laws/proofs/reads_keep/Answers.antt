use Rattle.std.proofs.Common.{arith}
use Rattle.std.proofs.lemmas.List.{set-get_or}
use Rattle.channel.specs.declared.channel.Channel.{Channel}
use Rattle.channel.specs.Registers.{register_taken}
use Rattle.card.specs.Calls.{read_done}
use Rattle.card_laws.proofs.reads_keep.Goals as goal

pub returns : goal.returns
unfolding read_done register_taken
returns given c o u a s = grind (arith, set-get_or {A = Channel})
