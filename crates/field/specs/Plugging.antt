-- What a plug means, and what comes back where there is none.
use Rattle.sensor.specs.declared.refusal.FieldRefusal.TheVariants.{Channel}
use Rattle.sensor.specs.Model.{Model}
use Rattle.field.specs.declared.plug.Plug.{Plug}
use Rattle.field.specs.declared.plug_field.NotPlugged.{NotPlugged}
use Rattle.field.specs.Wiring.{FieldModel, plugged}

-- the field that a plug is, from what sensors and fields of its two types mean
abbrev pub plug_model : {S F : Type 0} → (S → Model) → (F → FieldModel) → Plug S F → FieldModel
plug_model meaning wired p = plugged p.channel (meaning p.sensor) (wired p.below)

-- the sensor and the field as they were given, refused for the channel
abbrev pub not_plugged : {S F : Type 0} → S → F → NotPlugged S F
not_plugged s f = record { refusal = Channel; sensor = s; below = f }
