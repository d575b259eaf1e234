-- What each kind of sensor means.
use Rattle.frame.specs.Gray.{ungray}
use Rattle.sensor.specs.Model.{Model, model}
use Rattle.sensor.specs.declared.gray.GraySensor.{GraySensor}
use Rattle.sensor.specs.declared.number.NumberSensor.{NumberSensor}
use Rattle.sensor.specs.declared.shift_register.ShiftRegister.{ShiftRegister}

-- what a register means at position 0
abbrev pub at_zero : ShiftRegister → Model
at_zero r = model r.constants 0 r.phase r.clock

-- the one that keeps its position
abbrev pub number_model : NumberSensor → Model
number_model s = model s.register.constants s.position s.register.phase s.register.clock

-- the one that keeps its position's Gray word
abbrev pub gray_model : GraySensor → Model
gray_model s = model s.register.constants (ungray 32 s.word) s.register.phase s.register.clock
