use Rattle.delivered.proofs.Stands.{delivers}
use Rattle.delivered.proofs.positions_delivered.Goals as goal

pub returns : goal.returns
returns c = delivers
