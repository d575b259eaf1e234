-- What a field means: at each channel a sensor or none.
use Rattle.std.specs.Prelude.{◌≡◌, ℕ, ◌≤◌, Bool, cond, IfSome, Some, None, Err, Option, Result, ◌==◌}
use Rattle.std.specs.Option.{option_map}
use Rattle.sensor.specs.declared.refusal.FieldRefusal.{FieldRefusal}
use Rattle.sensor.specs.declared.refusal.FieldRefusal.TheVariants.{Channel}
use Rattle.sensor.specs.Model.{Model, Sound, advanced, level_of, turn_answer, turned}

-- the sensor of each channel, or none
abbrev pub FieldModel : Type 0
FieldModel = ℕ → Option Model

-- each sensor is sound, and there is none above channel 7
pub record Sounds (f : FieldModel) : Type 0 where
  pub each : (k : ℕ) → IfSome (f k) Sound
  pub above : (k : ℕ) → 8 ≤ k → f k ≡ None

abbrev pub none_wired : FieldModel
none_wired k = None

-- an act at one channel is its sensor's; every other channel stays as it is
unfoldable pub at_channel : FieldModel → ℕ → (Model → Model) → FieldModel
at_channel f k act j = cond (j == k) (option_map act (f j)) (f j)

-- the level of a channel's sensor
abbrev pub level_at : FieldModel → ℕ → Option Bool
level_at f k = option_map level_of (f k)

-- a channel's sensor turned to p
abbrev pub turned_at : FieldModel → ℕ → ℕ → FieldModel
turned_at f k p = at_channel f k (λ m. turned m p)

-- a turn where there is no sensor is refused before the position is looked at
abbrev pub turn_answer_of : Option Model → ℕ → Result (Unit {0}) FieldRefusal
turn_answer_of None p = Err Channel
turn_answer_of (Some m) p = turn_answer m p

-- what a turn of a channel's sensor answers
abbrev pub turn_answer_at : FieldModel → ℕ → ℕ → Result (Unit {0}) FieldRefusal
turn_answer_at f k p = turn_answer_of (f k) p

-- one tick of a channel's sensor with its clock at b
abbrev pub advanced_at : FieldModel → ℕ → Bool → FieldModel
advanced_at f k b = at_channel f k (λ m. advanced m b)

-- a sensor at a channel, over a field
unfoldable pub plugged : ℕ → Model → FieldModel → FieldModel
plugged k m f j = cond (j == k) (Some m) (f j)
