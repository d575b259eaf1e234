-- What a rig's tick does to the sensors.
use Rattle.std.specs.Prelude.{◌≡◌, ℕ, List, [], ◌∷◌, map}
use Rattle.std.specs.Option.{option_map}
use Rattle.bits.specs.Words.{word_flag}
use Rattle.sensor.specs.Model.{advanced}
use Rattle.sensor.specs.Sending.{ClockAt, after}
use Rattle.field.specs.Wiring.{FieldModel}

-- every sensor one tick on, each by its own channel's bit of the clock answers
unfoldable pub clocked : FieldModel → ℕ → FieldModel
clocked f clocks k = option_map (λ m. advanced m (word_flag clocks k)) (f k)

-- one tick for each word of clock answers
abbrev pub clocked_by : FieldModel → List ℕ → FieldModel
clocked_by f [] = f
clocked_by f (c ∷ cs) = clocked_by (clocked f c) cs

-- over any ticks each sensor sees its own channel's clock alone
abbrev pub OwnClock : Type 0
OwnClock = (f : FieldModel) (cs : List ℕ) (k : ℕ) → clocked_by f cs k ≡ option_map (λ m. after m (map (λ c. ClockAt (word_flag c k)) cs)) (f k)
