-- The SSI registers of a channel: requests, ticks, writes and the status word.
use Rattle.std.specs.Prelude.{ℕ, ◌+◌, ◌/◌, Bool, true, false, cond, ◌||◌, Some, None, Ok, Err, Option, Result, ◌==◌}
use Rattle.bits.specs.Words.{word_field, field_at, bit_at}
use Rattle.refusal.specs.declared.Refusal.{Refusal}
use Rattle.refusal.specs.declared.Refusal.TheVariants.{Setting}
use Rattle.frame.specs.Layout.{reading_of}
use Rattle.frame.specs.declared.format.Format.{Format}
use Rattle.frame.specs.declared.reader.Reading.{Reading}
use Rattle.controller.specs.Control.{control_of, control_refused, format_of}
use Rattle.controller.specs.Phase.{due_of}
use Rattle.controller.specs.declared.control.SsiControl.{SsiControl}
use Rattle.controller.specs.declared.phase.Transmission.{Transmission}
use Rattle.controller.specs.declared.phase.Phase.{Phase}
use Rattle.controller.specs.declared.phase.Phase.TheVariants.{Waiting, Clocking, Recovering}
use Rattle.controller.specs.declared.phase.Due.{Due}
use Rattle.controller.specs.declared.phase.Due.TheVariants.{Toggle, Completion, Drop}
use Rattle.controller.specs.declared.registers.Completed.{Completed}
use Rattle.controller.specs.declared.registers.Ssi.{Ssi}

-- all registers read 0 at power-on
abbrev pub powered_on : Ssi
powered_on = record { control = control_of 0; while_busy = false; extra_status = 0; fault = false; parity_status = false; parity_error = false; word = 0 }

-- the registers with other settings
abbrev pub with_control : Ssi → SsiControl → Ssi
with_control s c = record { control = c; while_busy = s.while_busy; extra_status = s.extra_status; fault = s.fault; parity_status = s.parity_status; parity_error = s.parity_error; word = s.word }

-- a write to SSI Mode Control: a refused word changes nothing
abbrev pub control_answer : ℕ → Result (Unit {0}) Refusal
control_answer w = cond (control_refused w) (Err Setting) (Ok tt)

unfoldable pub control_written : ℕ → Ssi → Ssi
control_written w s = cond (control_refused w) s (with_control s (control_of w))

-- half a clock period in ticks
abbrev pub half_period : SsiControl → ℕ
half_period c = 50000 / c.rate

-- a transmission before the tick in which the clock first falls
abbrev pub started : ℕ → Format → Transmission
started half format = record { half = half; format = format; high = true; rises = 0; wait = 0; word = 0; fault = false }

-- with the clock rate 0 there is none
abbrev pub begun : SsiControl → Option Transmission
begun c = cond (c.rate == 0) None (Some (started (half_period c) (format_of c)))

-- the registers with another WHILE BUSY
abbrev pub with_busy : Ssi → Bool → Ssi
with_busy s b = record { control = s.control; while_busy = b; extra_status = s.extra_status; fault = s.fault; parity_status = s.parity_status; parity_error = s.parity_error; word = s.word }

-- a request: an active sensor leaves it undone and sets WHILE BUSY, the clock rate 0 leaves it undone
unfoldable pub requested : Phase → Ssi → Ssi
requested Waiting s = cond (s.control.rate == 0) s (with_busy s false)
requested (Clocking t) s = with_busy s true
requested (Recovering left) s = with_busy s true

unfoldable pub phase_requested : Ssi → Phase → Phase
phase_requested s Waiting = cond (s.control.rate == 0) Waiting (Clocking (started (half_period s.control) (format_of s.control)))
phase_requested s (Clocking t) = Clocking t
phase_requested s (Recovering left) = Recovering left

-- what a transmission was read as
abbrev pub read_as : Transmission → Reading
read_as t = reading_of t.format t.word

-- a fault: the line was low in the first tick, or is high at completion
abbrev pub faulty : Bool → Transmission → Bool
faulty x t = t.fault || x

-- what completes, with the line at x
abbrev pub completed_as : Bool → Transmission → Completed
completed_as x t = record { word = (read_as t).number; fault = faulty x t }

-- and what it leaves in the registers
abbrev pub concluded : Bool → Transmission → Ssi → Ssi
concluded x t s =
    record {
      control = s.control;
      while_busy = s.while_busy;
      extra_status = (read_as t).extra;
      fault = faulty x t;
      parity_status = (read_as t).parity_bit;
      parity_error = (read_as t).parity_error;
      word = (read_as t).number;
    }

abbrev pub completed_by : Option Due → Bool → Phase → Option Completed
completed_by None x p = None
completed_by (Some Toggle) x p = None
completed_by (Some Completion) x Waiting = None
completed_by (Some Completion) x (Clocking t) = Some (completed_as x t)
completed_by (Some Completion) x (Recovering left) = None
completed_by (Some Drop) x p = None

abbrev pub recorded : Option Due → Bool → Phase → Ssi → Ssi
recorded None x p s = s
recorded (Some Toggle) x p s = s
recorded (Some Completion) x Waiting s = s
recorded (Some Completion) x (Clocking t) s = concluded x t s
recorded (Some Completion) x (Recovering left) s = s
recorded (Some Drop) x p s = s

-- the transmission that a tick completes
unfoldable pub completion : Bool → Phase → Option Completed
completion x p = completed_by (due_of p) x p

-- the registers after a tick
unfoldable pub ticked : Bool → Phase → Ssi → Ssi
ticked x p s = recorded (due_of p) x p s

-- the SSI Mode Status word: bits 14 to 12 read 0
abbrev pub status_word : Bool → Bool → Ssi → ℕ
status_word active busy s =
    bit_at 0 busy + bit_at 1 s.parity_error + bit_at 2 s.parity_status + bit_at 3 s.fault + field_at 4 (word_field s.extra_status 0 8) + bit_at 15 active + bit_at 16 s.while_busy
