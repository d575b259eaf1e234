-- The number of each refusal of a field or a sensor.
use Rattle.std.specs.Prelude.{ℕ}
use Rattle.sensor.specs.declared.refusal.FieldRefusal.{FieldRefusal}
use Rattle.sensor.specs.declared.refusal.FieldRefusal.TheVariants.{Channel, Value}

-- Channel: a plug above channel 7, or a turn at a channel that has no sensor, as none above 7 has; it comes before Value.
-- Value: a turn to 2^d or more at a sensor of d data bits, or a sensor made with a constant out of range.
abbrev pub code_of : FieldRefusal → ℕ
code_of Channel = 3
code_of Value = 4
