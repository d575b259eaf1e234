-- A card beside a field: what each call makes of both, and what it answers.
use Rattle.std.specs.Prelude.{List, [], ◌∷◌, ℕ}
use Rattle.card.specs.Calls.{Card, Levels, powered_on, tick_done, tick_levels}
use Rattle.field.specs.Wiring.{FieldModel, turn_answer_at, turned_at}
use Rattle.rig_parts.specs.Clocks.{clocked}
use Rattle.rig_parts.specs.Lines.{composed}
use Rattle.runs.specs.Runs.{answer_to, step}
use Rattle.rig.specs.declared.calls.RigAnswer.{RigAnswer}
use Rattle.rig.specs.declared.calls.RigAnswer.TheVariants.{Card as CardAnswer, Tick as TickAnswer, Turn as TurnAnswer}
use Rattle.rig.specs.declared.calls.RigCall.{RigCall}
use Rattle.rig.specs.declared.calls.RigCall.TheVariants.{Card as OnCard, Tick, Turn}

-- a card, and what its field means
pub record Bench : Type 0 where
  pub card : Card
  pub field : FieldModel

abbrev pub bench : Card → FieldModel → Bench
bench c f = record { card = c; field = f }

-- a new card beside a field
abbrev pub new_bench : FieldModel → Bench
new_bench f = bench powered_on f

-- the lines that a rig tick gives the card: each sensor's level on its channel's IN1, the others as given
abbrev pub lines_on : Bench → ℕ → ℕ
lines_on b lines = composed b.field 8 lines

-- the levels that the card drives after a rig tick
abbrev pub levels_on : Bench → ℕ → ℕ → Levels
levels_on b lines inputs = tick_levels (lines_on b lines) inputs b.card

-- card and field after a call
abbrev pub step_on : Bench → RigCall → Bench
step_on b (OnCard x) = bench (step b.card x) b.field
step_on b (Tick lines inputs) = bench (tick_done (lines_on b lines) inputs b.card) (clocked b.field (levels_on b lines inputs).clocks)
step_on b (Turn k p) = bench b.card (turned_at b.field k p)

-- what a call answers
abbrev pub answer_on : Bench → RigCall → RigAnswer
answer_on b (OnCard x) = CardAnswer (answer_to b.card x)
answer_on b (Tick lines inputs) = TickAnswer (levels_on b lines inputs)
answer_on b (Turn k p) = TurnAnswer (turn_answer_at b.field k p)

-- card and field after a list of calls
abbrev pub run_on : Bench → List RigCall → Bench
run_on b [] = b
run_on b (x ∷ xs) = run_on (step_on b x) xs

-- every answer, in order
abbrev pub answers_on : Bench → List RigCall → List RigAnswer
answers_on b [] = []
answers_on b (x ∷ xs) = answer_on b x ∷ answers_on (step_on b x) xs
