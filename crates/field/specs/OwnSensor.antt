-- Each channel's sensor is its own: acts at other channels do not reach it.
use Rattle.std.specs.Prelude.{◌≡◌, ℕ, cond, List, [], ◌∷◌, ◌==◌}
use Rattle.std.specs.Option.{option_map}
use Rattle.sensor.specs.Sending.{Act, acted, after}
use Rattle.field.specs.Wiring.{FieldModel, at_channel}

-- an act at a channel
pub record FieldAct : Type 0 where
  pub channel : ℕ
  pub act : Act

-- a field after a list of acts
abbrev pub field_after : FieldModel → List FieldAct → FieldModel
field_after f [] = f
field_after f (a ∷ acts) = field_after (at_channel f a.channel (λ m. acted m a.act)) acts

-- the acts at channel k
abbrev pub acts_at : ℕ → List FieldAct → List Act
acts_at k [] = []
acts_at k (a ∷ acts) = cond (k == a.channel) (a.act ∷ acts_at k acts) (acts_at k acts)

-- after any acts at any channels a sensor is where the acts at its own channel took it
abbrev pub OwnSensor : Type 0
OwnSensor = (f : FieldModel) (acts : List FieldAct) (k : ℕ) → field_after f acts k ≡ option_map (λ m. after m (acts_at k acts)) (f k)
