use Rattle.std.proofs.Common.{refl}
use Rattle.frame.proofs.GrayWords.{gray_turns_back}
use Rattle.frame.proofs.Read.{frame_fits, reads_back}
use Rattle.frame.proofs.laws.frames_read_back.Goals as goal

pub returns : goal.returns
returns c = record { gray = gray_turns_back; nine = refl; fits = frame_fits; back = reads_back }
