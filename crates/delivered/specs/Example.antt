-- One delivered position, computed: the premises of the law are met by a list of calls from power-on.
use Rattle.std.specs.Prelude.{◌≡◌, true, List, [], ◌∷◌, replicate, None, Ok}
use Rattle.frame.specs.declared.format.Code.TheVariants.{Binary}
use Rattle.sensor.specs.declared.phase.Phase.TheVariants.{Idle}
use Rattle.sensor.specs.Model.{Model, model}
use Rattle.field.specs.Wiring.{FieldModel, Sounds, none_wired, plugged}
use Rattle.runs.specs.declared.Call.TheVariants.{Write}
use Rattle.rig.specs.declared.calls.RigCall.{RigCall}
use Rattle.rig.specs.declared.calls.RigCall.TheVariants.{Card, Tick, Turn}
use Rattle.delivered.specs.Delivery.{Completes, Course, data_at, ended_on, read_at}

-- a sensor of two data bits at position 2
abbrev pub at_two : Model
at_two = model (record { format = record { data_bits = 2; extra_bits = 0; parity = None; code = Binary }; extra = 0; recovery = 1000 }) 2 Idle true

-- two plugs over the empty field: that sensor at channel 0, and its like at channel 3
abbrev pub two_plugs : FieldModel
two_plugs = plugged 0 at_two (plugged 3 at_two none_wired)

-- channel 0 in SSI mode, the clock rate 4095 with two data bits, the line filters sampling in every tick
abbrev pub set_up : List RigCall
set_up = Card (Write 0 1) ∷ Card (Write 16 8191) ∷ Card (Write 44 0) ∷ []

-- a write of the Data Register asks for a transmission; after the clock's first fall turns of both sensors to position 1, and then rig ticks
abbrev pub course : Course
course = record {
  before = set_up;
  request = Card (Write 48 0);
  pending = [];
  first_lines = 0;
  first_inputs = 0;
  meanwhile = Turn 0 1 ∷ Turn 3 1 ∷ replicate 559 (Tick 0 0);
  last_lines = 0;
  last_inputs = 0;
}

-- the transmission completes, and a read answers 2: the turns came after the clock first fell
pub record DeliversTwo : Type 0 where
  pub sounds : Sounds two_plugs
  pub completes : Completes 0 two_plugs course at_two
  pub two : read_at (ended_on two_plugs course) (data_at 0) ≡ Ok 2
