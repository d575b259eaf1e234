use Rattle.controller.proofs.Timing.{clock_toggles, takes_bits, completes, keeps_times, shows_completed}
use Rattle.controller.proofs.Delivery.{delivers}
use Rattle.controller.proofs.laws.timing_stands.Goals as goal

pub returns : goal.returns
returns c = record { clock = clock_toggles; sampled = takes_bits; completes = completes; shows = shows_completed; delivers = delivers; times = keeps_times }
