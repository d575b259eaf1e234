use Rattle.std.proofs.Common.{rules}
use Rattle.timer.proofs.Countdown.{keeps_interval}
use Rattle.timer.proofs.Timer.tick.Goals as goal

pub returns-then-not-self : goal.returns-then-not-self
returns-then-not-self c = record { answer = search rules; after = search rules; interval = keeps_interval }

pub returns-then-self-gt1 : goal.returns-then-self-gt1
returns-then-self-gt1 c = record { answer = search rules; after = search rules; interval = keeps_interval }

pub returns : goal.returns
returns c = record { answer = search rules; after = search rules; interval = keeps_interval }
