-- Calls on a rig make the card what the card calls among them make it.
use Rattle.std.proofs.Common.{◌≡◌, List, [], ◌∷◌, refl, ap, ◌∙◌}
use Rattle.card.specs.Calls.{Card}
use Rattle.card.specs.Records.{channel_of}
use Rattle.counts.specs.Laws.{AllFit}
use Rattle.counts.proofs.Counted.{counts_stand_lem}
use Rattle.rig.specs.Benches.{Bench, new_bench, run_on, step_on}
use Rattle.rig.specs.declared.calls.RigCall.{RigCall}
use Rattle.rig.specs.declared.calls.RigCall.TheVariants.{Card as OnCard, Tick as RigTick, Turn}
use Rattle.runs.specs.Runs.{run}
use Rattle.rig_runs.specs.Laws.{AllFitOn, card_calls, CountsOnRig}

made : (b : Bench) (xs : List RigCall) → (run_on b xs).card ≡ run b.card (card_calls b xs)
made b [] = refl
made b (OnCard x ∷ xs) = made (step_on b (OnCard x)) xs
made b (RigTick lines inputs ∷ xs) = made (step_on b (RigTick lines inputs)) xs
made b (Turn k p ∷ xs) = made (step_on b (Turn k p)) xs

made_fits : (b : Bench) (xs : List RigCall) → AllFitOn xs → AllFit (card_calls b xs)
made_fits b [] h = tt
made_fits b (OnCard x ∷ xs) h = (h.0, made_fits (step_on b (OnCard x)) xs h.1)
made_fits b (RigTick lines inputs ∷ xs) h = (tt, made_fits (step_on b (RigTick lines inputs)) xs h.1)
made_fits b (Turn k p ∷ xs) h = made_fits (step_on b (Turn k p)) xs h.1

pub counts_on_rig : CountsOnRig
counts_on_rig m k h xs f =
    ap (λ (c : Card). (channel_of k c).counter.count.value) (made (new_bench m) xs)
    ∙ counts_stand_lem k h (card_calls (new_bench m) xs) (made_fits (new_bench m) xs f)
