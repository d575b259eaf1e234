use Rattle.std.proofs.Common.{arith}
use Rattle.std.proofs.lemmas.List.{get_or-set_other}
use Rattle.std.proofs.lemmas.Bool.Decides.{nat_tests}
use Rattle.channel.specs.declared.channel.Channel.{Channel}
use Rattle.card.specs.Calls.{read_done, write_done}
use Rattle.card_laws.proofs.accesses_keep_apart.Goals as goal

pub returns-clause-apart : goal.returns-clause-apart
unfolding read_done write_done
returns-clause-apart given c o v j s n = (
  record { channel = grind (arith, nat_tests, get_or-set_other {A = Channel}); shared = grind (arith, nat_tests) },
  record { channel = grind (arith, nat_tests, get_or-set_other {A = Channel}); shared = grind (arith, nat_tests) },
)
