-- What a rig's tick puts on the lines.
use Rattle.std.specs.Prelude.{◌≡◌, ℕ, zero, suc, ◌+◌, ◌*◌, ◌^◌, ◌<◌, Bool, true, false, Some, None, Option, ◌≢◌, bit_or, bit_xor}
use Rattle.std.specs.Option.{unwrap_or}
use Rattle.bits.specs.Words.{word_flag}
use Rattle.field.specs.Wiring.{FieldModel, level_at}

-- a word with bit k made a level
abbrev pub with_bit : ℕ → ℕ → Bool → ℕ
with_bit w k true = bit_or w (2 ^ k)
with_bit w k false = bit_xor (bit_or w (2 ^ k)) (2 ^ k)

-- the line bit of a channel's IN1
abbrev pub in1 : ℕ → ℕ
in1 k = 3 * k + 1

-- a sensor's level on its channel's IN1; without a sensor the line is as given
abbrev pub with_level : ℕ → ℕ → Option Bool → ℕ
with_level w k None = w
with_level w k (Some b) = with_bit w (in1 k) b

-- the lines w with the levels of the first n channels
unfoldable pub composed : FieldModel → ℕ → ℕ → ℕ
composed f zero w = w
composed f (suc n) w = with_level (composed f n w) n (level_at f n)

-- the lines r are the lines w with each sensor's level on its channel's IN1, and as given elsewhere
pub record CarriesLevels (f : FieldModel) (w r : ℕ) : Type 0 where
  pub sensors : (k : ℕ) → k < 8 → word_flag r (in1 k) ≡ unwrap_or (level_at f k) (word_flag w (in1 k))
  pub others : (j : ℕ) → ((k : ℕ) → k < 8 → j ≢ in1 k) → word_flag r j ≡ word_flag w j

-- the composed lines carry the levels
abbrev pub LinesCarryLevels : Type 0
LinesCarryLevels = (f : FieldModel) (w : ℕ) → CarriesLevels f w (composed f 8 w)
