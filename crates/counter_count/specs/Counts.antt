-- The count: what ticks, loads and settings make of it.
use Rattle.std.specs.Prelude.{ℕ, ◌+◌, ◌-◌, ◌%◌, ◌^◌, Bool, true, false, cond, Some, None, Ok, Err, Option, Result, ◌==◌, nat_le}
use Rattle.bits.specs.Words.{word_flag}
use Rattle.refusal.specs.declared.Refusal.{Refusal}
use Rattle.counter_control.specs.declared.modes.SpecialMode.{SpecialMode}
use Rattle.counter_control.specs.declared.modes.SpecialMode.TheVariants.{Cycling, DivideByN, SingleCycle, CyclingAlternate}
use Rattle.counter_control.specs.declared.modes.IndexMode.{IndexMode}
use Rattle.counter_control.specs.declared.modes.IndexMode.TheVariants.{Ignore, Load, Latch, Gate, Reset}
use Rattle.counter_control.specs.declared.control.Control.{Control}
use Rattle.counter_control.specs.Modes.{ticks_of}
use Rattle.counter_control.specs.Words.{decoded, power_on_control}
use Rattle.counter_count.specs.declared.levels.Levels.{Levels}
use Rattle.counter_count.specs.declared.step.Step.{Step}
use Rattle.counter_count.specs.declared.step.Step.TheVariants.{Hold, Up, Down}
use Rattle.counter_count.specs.declared.count.Count.{Count}
use Rattle.counter_count.specs.declared.count.Outcome.{Outcome}
use Rattle.counter_count.specs.declared.count.Outcome.TheVariants.{Held, Loaded, Up as WentUp, Down as WentDown, Carry, Borrow}
use Rattle.counter_count.specs.Steps.{step_gated, step_of}

abbrev pub power_on_count : Count
power_on_count = record { control = power_on_control; preload = 0; divider = 0; single = false; value = 0 }

-- the clock's period ends in the tick to come
abbrev pub due_in : Count → Bool
due_in n = nat_le (ticks_of n.control.clock) (n.divider + 1)

-- the divider a tick further
abbrev pub divided : Count → Count
divided n = record { control = n.control; preload = n.preload; divider = cond (due_in n) 0 (n.divider + 1); single = n.single; value = n.value }

-- a count with another value
abbrev pub with_value : ℕ → Count → Count
with_value v n = record { control = n.control; preload = n.preload; divider = n.divider; single = n.single; value = v }

-- a count with another single-cycle bit
abbrev pub with_single : Bool → Count → Count
with_single s n = record { control = n.control; preload = n.preload; divider = n.divider; single = s; value = n.value }

-- the value one step on
abbrev pub next_value : Bool → ℕ → ℕ
next_value up v = cond up ((v + 1) % 2 ^ 32) ((v + (2 ^ 32 - 1)) % 2 ^ 32)

-- a step from a value wraps
abbrev pub wraps_at : Bool → ℕ → Bool
wraps_at up v = cond up (v == 2 ^ 32 - 1) (v == 0)

-- steps are made, in Single Cycle while SGL is 1
abbrev pub runs : SpecialMode → Bool → Bool
runs Cycling single = true
runs DivideByN single = true
runs SingleCycle single = single
runs CyclingAlternate single = true

-- a step that does not wrap
abbrev pub moved_on : Bool → Count → Count
moved_on up n = cond (runs n.control.special n.single) (with_value (next_value up n.value) n) n

abbrev pub move_outcome : Bool → Count → Outcome
move_outcome up n = cond (runs n.control.special n.single) (cond up WentUp WentDown) Held

-- a step that would wrap: it takes the preload in Divide-by-N, and ends a single cycle unmade
abbrev pub turned : SpecialMode → Bool → Count → Count
turned Cycling up n = with_value (next_value up n.value) n
turned DivideByN up n = with_value n.preload n
turned SingleCycle up n = with_single false n
turned CyclingAlternate up n = with_value (next_value up n.value) n

abbrev pub turn_outcome : SpecialMode → Bool → Outcome
turn_outcome Cycling up = cond up Carry Borrow
turn_outcome DivideByN up = cond up Carry Borrow
turn_outcome SingleCycle up = Held
turn_outcome CyclingAlternate up = cond up Carry Borrow

-- a step up or down
abbrev pub taken : Bool → Count → Count
taken up n = cond (wraps_at up n.value) (turned n.control.special up n) (moved_on up n)

abbrev pub take_outcome : Bool → Count → Outcome
take_outcome up n = cond (wraps_at up n.value) (turn_outcome n.control.special up) (move_outcome up n)

abbrev pub stepped : Step → Count → Count
stepped Hold n = n
stepped Up n = taken true n
stepped Down n = taken false n

abbrev pub step_outcome : Step → Count → Outcome
step_outcome Hold n = Held
step_outcome Up n = take_outcome true n
step_outcome Down n = take_outcome false n

-- SGL after a load
abbrev pub starts : SpecialMode → Bool → Bool
starts Cycling single = single
starts DivideByN single = single
starts SingleCycle single = true
starts CyclingAlternate single = single

-- a load
abbrev pub loaded : ℕ → Count → Count
loaded v n = record { control = n.control; preload = n.preload; divider = n.divider; single = starts n.control.special n.single; value = v }

-- a load, where there is one, stands in place of the step
abbrev pub driven : Option ℕ → Step → Count → Count
driven (Some v) s n = loaded v n
driven None s n = stepped s n

abbrev pub drive_outcome : Option ℕ → Step → Count → Outcome
drive_outcome (Some v) s n = Loaded
drive_outcome None s n = step_outcome s n

-- what an event on I loads, at the preload p
abbrev pub load_of_event : IndexMode → Bool → ℕ → Option ℕ
load_of_event Ignore event p = None
load_of_event Load event p = cond event (Some p) None
load_of_event Latch event p = None
load_of_event Gate event p = None
load_of_event Reset event p = cond event (Some 0) None

-- the step of a tick from the levels o to v, through the gate
abbrev pub step_in : Levels → Levels → Count → Step
step_in o v n = step_gated n.control.index v.i (step_of n.control.input (due_in n) o v)

-- what a command word loads, at the preload p: LCNT is bit 1 and wins over RCNT, bit 0
abbrev pub command_load : ℕ → ℕ → Option ℕ
command_load w p = cond (word_flag w 1) (Some p) (cond (word_flag w 0) (Some 0) None)

-- a command word
abbrev pub commanded : ℕ → Count → Count
commanded w n = driven (command_load w n.preload) Hold n

abbrev pub command_outcome : ℕ → Outcome
command_outcome w = cond (word_flag w 1) Loaded (cond (word_flag w 0) Loaded Held)

-- LCNT of the shared command register
abbrev pub preload_loaded : Count → Count
preload_loaded n = loaded n.preload n

-- new settings begin a clock period and end a single cycle
abbrev pub configured : Control → Count → Count
configured k n = record { control = k; preload = n.preload; divider = 0; single = false; value = n.value }

-- settings that the card has are taken, a refusal leaves the count
abbrev pub settled : Result Control Refusal → Count → Count
settled (Ok k) n = configured k n
settled (Err e) n = n

-- a Counter Mode Control write
abbrev pub control_written : ℕ → Count → Count
control_written w n = settled (decoded w) n

-- a clock period begins
abbrev pub restarted : Count → Count
restarted n = record { control = n.control; preload = n.preload; divider = 0; single = n.single; value = n.value }

-- another preload
abbrev pub preloaded : ℕ → Count → Count
preloaded p n = record { control = n.control; preload = p; divider = n.divider; single = n.single; value = n.value }
