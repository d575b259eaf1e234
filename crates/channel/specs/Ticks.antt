-- What a tick does to a channel: filters, input edges, the timer's request, the working part.
use Rattle.std.specs.Prelude.{Bool, true, false, cond, Some, None, Option}
use Rattle.filter.specs.Debounces.{period_of, reset}
use Rattle.counter_count.specs.declared.levels.Levels.{Levels}
use Rattle.counter.specs.Counters.{power_on_counter, tick_causes, ticked}
use Rattle.controller.specs.declared.control.Start.{Start}
use Rattle.controller.specs.declared.control.Start.TheVariants.{Request, Timer}
use Rattle.controller.specs.declared.phase.Phase.{Phase}
use Rattle.controller.specs.declared.phase.Phase.TheVariants.{Waiting, Clocking, Recovering}
use Rattle.controller.specs.declared.registers.Completed.{Completed}
use Rattle.controller.specs.Phase.{phase_ticked}
use Rattle.controller.specs.Registers.{completion, phase_requested, powered_on as power_on_ssi, requested as ssi_requested, ticked as ssi_ticked}
use Rattle.parts.specs.Inputs.{input_ticked, new_input}
use Rattle.parts.specs.Interrupts.{quiet, raised}
use Rattle.parts.specs.Snapshots.{completed, emptied}
use Rattle.channel.specs.declared.mode.Mode.{Mode}
use Rattle.channel.specs.declared.mode.Mode.TheVariants.{Off, Counter as Counting, Ssi as Reading}
use Rattle.channel.specs.declared.mode.OffCode.TheVariants.{Zeros}
use Rattle.channel.specs.declared.channel.Channel.{Channel}
use Rattle.channel.specs.Lines.{levels_of, lines_ticked, new_lines}
use Rattle.channel.specs.Records.{seeing, with_counter, with_interrupts, with_mode, with_snapshot, with_ssi}

-- at power-on a channel is off, and its filters sample every three ticks
abbrev pub new_channel : Channel
new_channel = record {
  lines = new_lines (period_of reset);
  debounce = reset;
  input = new_input;
  mode = Off Zeros;
  counter = power_on_counter;
  ssi = power_on_ssi;
  snapshot = emptied;
  valid = quiet;
  fault = quiet;
  output = false;
  test_output = false;
}

-- causes of the channel's two interrupts
abbrev pub raised_both : Bool → Bool → Channel → Channel
raised_both v f c = with_interrupts (raised v c.valid) (raised f c.fault) c

-- a completed transmission is told to the interrupts and to the snapshot
abbrev pub finished : Option Completed → Channel → Channel
finished None c = c
finished (Some d) c = with_snapshot (completed d.word c.snapshot) (raised_both true d.fault c)

-- a request for a transmission: only an SSI channel heeds it
abbrev pub requested_as : Mode → Channel → Channel
requested_as (Off z) c = c
requested_as Counting c = c
requested_as (Reading p) c = with_mode (Reading (phase_requested c.ssi p)) (with_ssi (ssi_requested p c.ssi) c)

abbrev pub requested : Channel → Channel
requested c = requested_as c.mode c

-- the timer's expiry is a request at START 01
abbrev pub timer_requested_as : Start → Channel → Channel
timer_requested_as Request c = c
timer_requested_as Timer c = requested c

abbrev pub timer_requested : Bool → Channel → Channel
timer_requested expired c = cond expired (timer_requested_as c.ssi.control.start c) c

-- Counter Mode
abbrev pub counted : Levels → Levels → Channel → Channel
counted x y c = raised_both (tick_causes x y c.counter).matched (tick_causes x y c.counter).control (with_counter (ticked x y c.counter) c)

-- the controller's tick, with the filtered data level
abbrev pub transmitted_as : Mode → Bool → Channel → Channel
transmitted_as (Off z) x c = c
transmitted_as Counting x c = c
transmitted_as (Reading p) x c = finished (completion x p) (with_mode (Reading (phase_ticked x p)) (with_ssi (ssi_ticked x p c.ssi) c))

abbrev pub transmitted : Bool → Channel → Channel
transmitted x c = transmitted_as c.mode x c

-- whether the SSI controller waits
abbrev pub waits_at : Phase → Bool
waits_at Waiting = true
waits_at (Clocking t) = false
waits_at (Recovering n) = false

abbrev pub waits_as : Mode → Bool
waits_as (Off z) = false
waits_as Counting = false
waits_as (Reading p) = waits_at p

abbrev pub waits : Channel → Bool
waits c = waits_as c.mode

-- SSI mode: the timer's request meets the controller as it was before the tick; a transmission that it starts begins with the next one
abbrev pub ssi_worked : Bool → Bool → Channel → Channel
ssi_worked x expired c = cond (waits c) (timer_requested expired c) (transmitted x (timer_requested expired c))

-- the working part, with the filtered levels before the tick and after it; B carries the SSI data
abbrev pub worked_as : Mode → Levels → Levels → Bool → Channel → Channel
worked_as (Off z) x y expired c = c
worked_as Counting x y expired c = counted x y c
worked_as (Reading p) x y expired c = ssi_worked y.b expired c

abbrev pub worked : Levels → Levels → Bool → Channel → Channel
worked x y expired c = worked_as c.mode x y expired c

-- filters and input edges
abbrev pub observed : Levels → Bool → Channel → Channel
observed x i c = seeing c (lines_ticked x c.lines) c.debounce (input_ticked i c.input)

-- the whole tick, with the levels on the channel's lines and input; `expired` says that the interval timer did
unfoldable pub channel_ticked : Levels → Bool → Bool → Channel → Channel
channel_ticked x i expired c = worked (levels_of c.lines) (levels_of (lines_ticked x c.lines)) expired (observed x i c)
