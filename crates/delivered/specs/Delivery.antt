-- The law of delivered positions: what a transmission over the rig puts into the Data Register.
use Rattle.std.specs.Prelude.{◌≡◌, ℕ, ◌+◌, ◌*◌, ◌<◌, ◌≤◌, Bool, true, false, List, [], ◌∷◌, Some, Ok, Err, Result}
use Rattle.refusal.specs.declared.Refusal.{Refusal}
use Rattle.bits.specs.Words.{word_flag}
use Rattle.filter.specs.Debounces.{period_of}
use Rattle.controller.specs.declared.control.SsiControl.{SsiControl}
use Rattle.controller.specs.Control.{format_of}
use Rattle.controller.specs.Registers.{half_period}
use Rattle.sensor.specs.declared.phase.Phase.TheVariants.{Idle}
use Rattle.sensor.specs.Model.{Model}
use Rattle.field.specs.Wiring.{FieldModel, Sounds}
use Rattle.card.specs.Calls.{read_done, value_of}
use Rattle.card.specs.Records.{channel_of}
use Rattle.runs.specs.declared.Call.TheVariants.{Tick as CardTick, Read, Write}
use Rattle.rig.specs.declared.calls.RigCall.{RigCall}
use Rattle.rig.specs.declared.calls.RigCall.TheVariants.{Card, Tick, Turn}
use Rattle.rig.specs.Benches.{Bench, new_bench, run_on, step_on}

-- where channel k has its SSI Mode Status Register, its Debouncing Register and its Data Register
abbrev pub status_at : ℕ → ℕ
status_at k = 20 + 40 * k

abbrev pub debouncing_at : ℕ → ℕ
debouncing_at k = 44 + 40 * k

abbrev pub data_at : ℕ → ℕ
data_at k = 48 + 40 * k

-- what a read answers
abbrev pub read_at : Bench → ℕ → Result ℕ Refusal
read_at b o = value_of (read_done b.card o)

-- a bit of it
abbrev pub bit_read : Result ℕ Refusal → ℕ → Bool
bit_read (Ok v) n = word_flag v n
bit_read (Err e) n = false

-- BSY of channel k, bit 0 of its SSI Mode Status
abbrev pub busy : ℕ → Bench → Bool
busy k b = bit_read (read_at b (status_at k)) 0

-- the settings in SSI Mode Control of channel k
abbrev pub settings_of : ℕ → Bench → SsiControl
settings_of k b = (channel_of k b.card).ssi.control

-- the period of channel k's line filters, by its Debouncing Register
abbrev pub period_on : ℕ → Bench → ℕ
period_on k b = period_of (channel_of k b.card).debounce

-- a call that is no tick
abbrev pub NoTick : RigCall → Type 0
NoTick (Card (CardTick lines inputs)) = ⊥
NoTick (Card (Read o)) = Unit {0}
NoTick (Card (Write o v)) = Unit {0}
NoTick (Tick lines inputs) = ⊥
NoTick (Turn j p) = Unit {0}

-- calls without a tick, at all of which channel k is busy
abbrev pub Pending : ℕ → Bench → List RigCall → Type 0
Pending k b [] = busy k b ≡ true
Pending k b (z ∷ zs) = (busy k b ≡ true) × NoTick z × Pending k (step_on b z) zs

-- a call that a transmission of channel k may meet: only rig ticks move time, and its Debouncing Register is not written
abbrev pub Allowed : ℕ → RigCall → Type 0
Allowed k (Card (CardTick lines inputs)) = ⊥
Allowed k (Card (Read o)) = Unit {0}
Allowed k (Card (Write o v)) = o ≡ debouncing_at k → ⊥
Allowed k (Tick lines inputs) = Unit {0}
Allowed k (Turn j p) = Unit {0}

-- such calls, at all of which channel k is busy
abbrev pub UnderWay : ℕ → Bench → List RigCall → Type 0
UnderWay k b [] = busy k b ≡ true
UnderWay k b (y ∷ ys) = (busy k b ≡ true) × Allowed k y × UnderWay k (step_on b y) ys

-- channel k has the sensor s, idle with its clock last seen high; the settings c fit it (the same data
-- bits, extra bits, parity and code), and half a clock period is at least three periods of the line filters
pub record Fits (k : ℕ) (c : SsiControl) (b : Bench) (s : Model) : Type 0 where
  pub plugged : b.field k ≡ Some s
  pub idle : s.phase ≡ Idle
  pub clock : s.clock ≡ true
  pub format : format_of c ≡ s.constants.format
  pub slow : 3 * period_on k b ≤ half_period c

-- the calls around one transmission, from power-on: the request among them, calls before the clock falls, the rig tick in which it
-- first falls, calls meanwhile, and a last rig tick
pub record Course : Type 0 where
  pub before : List RigCall
  pub request : RigCall
  pub pending : List RigCall
  pub first_lines : ℕ
  pub first_inputs : ℕ
  pub meanwhile : List RigCall
  pub last_lines : ℕ
  pub last_inputs : ℕ

-- the bench before the request and after it
abbrev pub quiet_on : FieldModel → Course → Bench
quiet_on m t = run_on (new_bench m) t.before

abbrev pub asked_on : FieldModel → Course → Bench
asked_on m t = step_on (quiet_on m t) t.request

-- before the clock first falls and after it
abbrev pub ready_on : FieldModel → Course → Bench
ready_on m t = run_on (asked_on m t) t.pending

abbrev pub begun_on : FieldModel → Course → Bench
begun_on m t = step_on (ready_on m t) (Tick t.first_lines t.first_inputs)

-- before the last rig tick and after it
abbrev pub nearly_on : FieldModel → Course → Bench
nearly_on m t = run_on (begun_on m t) t.meanwhile

abbrev pub ended_on : FieldModel → Course → Bench
ended_on m t = step_on (nearly_on m t) (Tick t.last_lines t.last_inputs)

-- a transmission of channel k with the sensor s: a request is accepted, as BSY is 0 before it and 1 after it; the settings that it
-- takes fit; BSY stays 1 until the last rig tick and is 0 after it
pub record Completes (k : ℕ) (m : FieldModel) (t : Course) (s : Model) : Type 0 where
  pub quiet : busy k (quiet_on m t) ≡ false
  pub accepted : Pending k (asked_on m t) t.pending
  pub fits : Fits k (settings_of k (asked_on m t)) (ready_on m t) s
  pub underway : UnderWay k (begun_on m t) t.meanwhile
  pub over : busy k (ended_on m t) ≡ false

-- a read of the Data Register then answers the position that the sensor had before the clock first fell
abbrev pub Delivers : Type 0
Delivers =
    (k : ℕ) → k < 8 → (m : FieldModel) → Sounds m → (t : Course) (s : Model) → Completes k m t s
    → read_at (ended_on m t) (data_at k) ≡ Ok s.position
