-- Constants, position and phase of each kind are in range in every state.
use Rattle.frame.proofs.GrayWords.{ungray_below}
use Rattle.sensor.specs.declared.gray.GraySensor.{GraySensor}
use Rattle.sensor.specs.declared.number.NumberSensor.{NumberSensor}
use Rattle.sensor.specs.Kinds.{gray_model, number_model}
use Rattle.sensor.specs.Model.{Sound}

pub number_sound : (s : NumberSensor) → Sound (number_model s)
number_sound s = record { ranged = s.register.ranged; below = s.below; within = s.register.within }

pub gray_sound : (s : GraySensor) → Sound (gray_model s)
gray_sound s = record { ranged = s.register.ranged; below = ungray_below 32 _ s.word s.below; within = s.register.within }
