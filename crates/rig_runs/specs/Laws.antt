-- The law of counts over lists of calls on a rig.
use Rattle.std.specs.Prelude.{◌≡◌, ℕ, ◌<◌, List, [], ◌∷◌, pos, ◌+ℤ◌}
use Rattle.card.specs.Records.{channel_of}
use Rattle.counts.specs.Laws.{Fits, load_over, sum_over}
use Rattle.field.specs.Wiring.{FieldModel}
use Rattle.rig.specs.Benches.{Bench, lines_on, new_bench, run_on, step_on}
use Rattle.rig.specs.declared.calls.RigCall.{RigCall}
use Rattle.rig.specs.declared.calls.RigCall.TheVariants.{Card as OnCard, Tick as RigTick, Turn}
use Rattle.runs.specs.declared.Call.{Call}
use Rattle.runs.specs.declared.Call.TheVariants.{Tick}
use Rattle.tally.specs.Tally.{modulo}

-- the card calls that calls on a rig make: a rig tick is a tick with the field's levels on IN1, and a turn makes none
abbrev pub card_calls : Bench → List RigCall → List Call
card_calls b [] = []
card_calls b (OnCard x ∷ xs) = x ∷ card_calls (step_on b (OnCard x)) xs
card_calls b (RigTick lines inputs ∷ xs) = Tick (lines_on b lines) inputs ∷ card_calls (step_on b (RigTick lines inputs)) xs
card_calls b (Turn k p ∷ xs) = card_calls (step_on b (Turn k p)) xs

-- a host writes words of 32 bits
abbrev pub FitsOn : RigCall → Type 0
FitsOn (OnCard x) = Fits x
FitsOn (RigTick lines inputs) = Unit {0}
FitsOn (Turn k p) = Unit {0}

abbrev pub AllFitOn : List RigCall → Type 0
AllFitOn [] = Unit {0}
AllFitOn (x ∷ xs) = FitsOn x × AllFitOn xs

-- After every list of calls on a new card beside any field, the count of every channel is its last load plus the signed steps
-- since, modulo 2^32, as the tally has them from the card calls alone.
abbrev pub CountsOnRig : Type 0
CountsOnRig = (m : FieldModel) (k : ℕ) → k < 8 → (xs : List RigCall) → AllFitOn xs
    → (channel_of k (run_on (new_bench m) xs).card).counter.count.value
    ≡ modulo (pos (load_over k (card_calls (new_bench m) xs)) +ℤ sum_over k (card_calls (new_bench m) xs))
