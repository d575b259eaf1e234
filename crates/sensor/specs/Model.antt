-- What a sensor means, and what each act makes of it.
use Rattle.std.specs.Prelude.{◌≡◌, ℕ, ◌+◌, ◌-◌, ◌^◌, ◌<◌, ◌≤◌, Bool, true, false, cond, not, ◌&&◌, Ok, Err, Result, ◌==◌, nat_lt}
use Rattle.bits.specs.Words.{word_flag}
use Rattle.frame.specs.Layout.{frame_bits, word_of_frame}
use Rattle.sensor.specs.declared.constants.Constants.{Constants}
use Rattle.sensor.specs.declared.phase.Phase.{Phase}
use Rattle.sensor.specs.declared.phase.Phase.TheVariants.{Idle, Sending, Recovering}
use Rattle.sensor.specs.declared.refusal.FieldRefusal.{FieldRefusal}
use Rattle.sensor.specs.declared.refusal.FieldRefusal.TheVariants.{Value}
use Rattle.sensor.specs.Range.{in_range}

-- what a sensor is, whatever it keeps: constants, position, phase and the clock level last seen
pub record Model : Type 0 where
  pub constants : Constants
  pub position : ℕ
  pub phase : Phase
  pub clock : Bool

abbrev pub model : Constants → ℕ → Phase → Bool → Model
model c p f k = record { constants = c; position = p; phase = f; clock = k }

-- the rises of the frame that is being sent
abbrev pub rises_in : Phase → ℕ
rises_in Idle = 0
rises_in (Sending w r) = r
rises_in (Recovering k) = 0

-- what holds of a sensor in every state
pub record Sound (m : Model) : Type 0 where
  pub ranged : in_range m.constants ≡ true
  pub below : m.position < 2 ^ m.constants.format.data_bits
  pub within : rises_in m.phase ≤ frame_bits m.constants.format

-- a new sensor is idle at position 0, and has last seen its clock high
abbrev pub new_model : Constants → Model
new_model c = model c 0 Idle true

-- what making a sensor answers
abbrev pub made : Constants → Result Model FieldRefusal
made c = cond (in_range c) (Ok (new_model c)) (Err Value)

-- the frame word of a position
abbrev pub frame_of : Constants → ℕ → ℕ
frame_of c p = word_of_frame c.format p c.extra

-- a frame begins with a fall of the clock while the sensor is idle
abbrev pub starts_frame : Phase → Bool → Bool → Bool
starts_frame Idle last now = last && not now
starts_frame (Sending w r) last now = false
starts_frame (Recovering k) last now = false

-- the frame of a position, before its first rise
abbrev pub begun : Constants → ℕ → Phase
begun c p = Sending (frame_of c p) 0

-- a rise presents the next bit; the rise after the last bit begins the recovery
abbrev pub risen : Constants → ℕ → ℕ → Phase
risen c w r = cond (nat_lt r (frame_bits c.format)) (Sending w (r + 1)) (Recovering c.recovery)

-- the phase after a tick that begins no frame, from the clock level last seen and the present one
abbrev pub stepped_phase : Constants → Phase → Bool → Bool → Phase
stepped_phase c Idle last now = Idle
stepped_phase c (Sending w r) true now = Sending w r
stepped_phase c (Sending w r) false true = risen c w r
stepped_phase c (Sending w r) false false = Sending w r
stepped_phase c (Recovering k) last now = cond (nat_lt 1 k) (Recovering (k - 1)) Idle

-- the phase after one tick; p is the present position
abbrev pub next_phase : Constants → ℕ → Phase → Bool → Bool → Phase
next_phase c p f last now = cond (starts_frame f last now) (begun c p) (stepped_phase c f last now)

-- one tick with the clock at a level
unfoldable pub advanced : Model → Bool → Model
advanced m now = model m.constants m.position (next_phase m.constants m.position m.phase m.clock now) now

-- the level after r rises in a frame of n bits: bit n - r, and 1 before the first rise
abbrev pub frame_level : ℕ → ℕ → ℕ → Bool
frame_level n w r = cond (r == 0) true (word_flag w (n - r))

abbrev pub phase_level : Constants → Phase → Bool
phase_level c Idle = true
phase_level c (Sending w r) = frame_level (frame_bits c.format) w r
phase_level c (Recovering k) = false

-- the level that the sensor shows
unfoldable pub level_of : Model → Bool
level_of m = phase_level m.constants m.phase

-- idle, the clock last seen high, the position kept
unfoldable pub reset_to : Model → Model
reset_to m = model m.constants m.position Idle true

-- what a turn to a position answers at these constants
abbrev pub admitted : Constants → ℕ → Result (Unit {0}) FieldRefusal
admitted c p = cond (nat_lt p (2 ^ c.format.data_bits)) (Ok tt) (Err Value)

-- whether a position fits the data bits
abbrev pub fits_in : Model → ℕ → Bool
fits_in m p = nat_lt p (2 ^ m.constants.format.data_bits)

-- a position that fits is taken, and nothing else changes
unfoldable pub turned : Model → ℕ → Model
turned m p = cond (fits_in m p) (model m.constants p m.phase m.clock) m

-- what a turn answers
unfoldable pub turn_answer : Model → ℕ → Result (Unit {0}) FieldRefusal
turn_answer m p = admitted m.constants p
