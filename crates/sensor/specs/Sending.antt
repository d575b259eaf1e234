-- What a sensor sends, told by the levels of its clock.
use Rattle.std.specs.Prelude.{◌≡◌, ℕ, suc, ◌+◌, ◌-◌, ◌^◌, ◌≤◌, Bool, true, false, cond, None, List, [], ◌∷◌, ◌==◌, nat_lt}
use Rattle.frame.specs.Layout.{frame_bits, reading_of}
use Rattle.frame.specs.ReadBack.{ReadAs}
use Rattle.frame.specs.declared.format.Code.TheVariants.{Gray}
use Rattle.sensor.specs.declared.constants.Constants.{Constants}
use Rattle.sensor.specs.declared.phase.Phase.{Phase}
use Rattle.sensor.specs.declared.phase.Phase.TheVariants.{Idle, Sending, Recovering}
use Rattle.sensor.specs.Model.{Model, Sound, model, advanced, frame_level, frame_of, level_of, turned}

-- what befalls a sensor: a tick with its clock at a level, or a turn to a position
pub data Act : Type 0 where
  ClockAt : Bool → Act
  TurnTo : ℕ → Act

-- a sensor after an act
abbrev pub acted : Model → Act → Model
acted m (ClockAt b) = advanced m b
acted m (TurnTo p) = turned m p

-- and after a list of acts
abbrev pub after : Model → List Act → Model
after m [] = m
after m (a ∷ acts) = after (acted m a) acts

-- the clock levels of the ticks
abbrev pub levels : List Act → List Bool
levels [] = []
levels (ClockAt b ∷ acts) = b ∷ levels acts
levels (TurnTo p ∷ acts) = levels acts

-- how many ticks
abbrev pub ticks : List Act → ℕ
ticks [] = 0
ticks (ClockAt b ∷ acts) = suc (ticks acts)
ticks (TurnTo p ∷ acts) = ticks acts

-- 1 for a change from low to high
abbrev pub rise : Bool → Bool → ℕ
rise true b = 0
rise false true = 1
rise false false = 0

-- the rises in a list of clock levels that follows a level
abbrev pub rises : Bool → List Bool → ℕ
rises last [] = 0
rises last (b ∷ bs) = rise last b + rises b bs

-- the last level of such a list
abbrev pub last_level : Bool → List Bool → Bool
last_level last [] = last
last_level last (b ∷ bs) = last_level b bs

-- the position after a turn: the new one if it fits the data bits
abbrev pub turned_to : Constants → ℕ → ℕ → ℕ
turned_to c p q = cond (nat_lt q (2 ^ c.format.data_bits)) q p

-- the position after a list of acts
abbrev pub position_after : Constants → ℕ → List Act → ℕ
position_after c p [] = p
position_after c p (ClockAt b ∷ acts) = position_after c p acts
position_after c p (TurnTo q ∷ acts) = position_after c (turned_to c p q) acts

-- the sensor is in the frame of the position that it had in m, and shows that frame's next bit with each rise
pub record InFrameOf (m n : Model) (acts : List Act) : Type 0 where
  pub state : n ≡ model m.constants (position_after m.constants m.position acts) (Sending (frame_of m.constants m.position) (rises false (levels acts))) (last_level false (levels acts))
  pub level : level_of n ≡ frame_level (frame_bits m.constants.format) (frame_of m.constants m.position) (rises false (levels acts))

-- An idle sensor whose clock falls sends the frame of the position that it has at that fall, highest bit first, a bit for each
-- rise, however long the clock stays at each level and whatever turns come meanwhile.
abbrev pub SendsFrame : Type 0
SendsFrame =
    (m : Model) (acts : List Act)
    → Sound m → m.phase ≡ Idle → m.clock ≡ true → rises false (levels acts) ≤ frame_bits m.constants.format
    → InFrameOf m (after m (ClockAt false ∷ acts)) acts

-- the phase t ticks into a recovery of R ticks
abbrev pub recovering_for : ℕ → ℕ → Phase
recovering_for R t = cond (nat_lt t R) (Recovering (R - t)) Idle

-- the sensor is in the recovery that followed m: level 0 while it lasts, and then 1
pub record RecoveryOf (m n : Model) (acts : List Act) : Type 0 where
  pub state : n ≡ model m.constants (position_after m.constants m.position acts) (recovering_for m.constants.recovery (ticks acts)) (last_level true (levels acts))
  pub level : level_of n ≡ (ticks acts == m.constants.recovery)

-- The rise after the last bit makes the level 0 for as many ticks as recovery has, whatever the clock does; then the sensor is
-- idle and its level is 1. The clock level last seen is kept up to date meanwhile.
abbrev pub Recovers : Type 0
Recovers =
    (m : Model) (w : ℕ) (acts : List Act)
    → Sound m → m.phase ≡ Sending w (frame_bits m.constants.format) → m.clock ≡ false → ticks acts ≤ m.constants.recovery
    → RecoveryOf m (after m (ClockAt true ∷ acts)) acts

-- What a sensor sends, the card's reader turns back into its position and extra bits, with no parity error.
abbrev pub SentIsRead : Type 0
SentIsRead =
    (m : Model) → Sound m
    → ReadAs m.constants.format m.position m.constants.extra (reading_of m.constants.format (frame_of m.constants m.position))

-- a sensor of 4 data bits in Gray code at position 9, for the figure below
abbrev pub at_nine : Model
at_nine = model (record { format = record { data_bits = 4; extra_bits = 0; parity = None; code = Gray }; extra = 0; recovery = 1000 }) 9 Idle true

-- the levels that it shows after each of some acts
abbrev pub shown : Model → List Act → List Bool
shown m [] = []
shown m (a ∷ acts) = level_of (acted m a) ∷ shown (acted m a) acts

-- A fall, then four rises and falls with a turn to 6 among them: high until the first rise, and then 1101, the Gray word of 9. The
-- fifth rise makes it low.
abbrev pub NineIsSent : Type 0
NineIsSent =
    shown at_nine (ClockAt false ∷ ClockAt true ∷ ClockAt false ∷ TurnTo 6 ∷ ClockAt true ∷ ClockAt false ∷ ClockAt true ∷ ClockAt false ∷ ClockAt true ∷ ClockAt false ∷ ClockAt true ∷ [])
    ≡ true ∷ true ∷ true ∷ true ∷ true ∷ true ∷ false ∷ false ∷ true ∷ true ∷ false ∷ []
