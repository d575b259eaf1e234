use Rattle.controller.proofs.ControlWords.{control_reads_back_lem}
use Rattle.controller.proofs.laws.control_reads_back.Goals as goal

pub returns : goal.returns
returns c = control_reads_back_lem
