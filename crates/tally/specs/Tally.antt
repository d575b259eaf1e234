-- The tally of a counter: its last load and the steps since, kept by the calls alone.
use Rattle.std.specs.Prelude.{ℕ, ◌+◌, ◌-◌, ◌%◌, ◌^◌, Bool, true, false, cond, not, ℤ, pos, negsuc, ◌+ℤ◌, Ok, Err, Result, ◌==◌, nat_le}
use Rattle.refusal.specs.declared.Refusal.{Refusal}
use Rattle.bits.specs.Words.{word_flag}
use Rattle.counter_control.specs.declared.modes.SpecialMode.{SpecialMode}
use Rattle.counter_control.specs.declared.modes.SpecialMode.TheVariants.{Cycling, DivideByN, SingleCycle, CyclingAlternate}
use Rattle.counter_control.specs.declared.modes.IndexMode.{IndexMode}
use Rattle.counter_control.specs.declared.modes.IndexMode.TheVariants.{Ignore, Load, Latch, Gate, Reset}
use Rattle.counter_control.specs.declared.control.Control.{Control}
use Rattle.counter_control.specs.Modes.{ticks_of}
use Rattle.counter_control.specs.Words.{decoded, power_on_control}
use Rattle.counter_count.specs.declared.levels.Levels.{Levels}
use Rattle.counter_count.specs.declared.step.Step.{Step}
use Rattle.counter_count.specs.declared.step.Step.TheVariants.{Hold, Up, Down}
use Rattle.counter_count.specs.declared.count.Count.{Count}
use Rattle.counter_count.specs.Steps.{rises, seen_through, step_of}

-- settings, ticks since the clock's period began, SGL, the last load, and the sum of the steps since
pub record Tally : Type 0 where
  pub settings : Control
  pub preload : ℕ
  pub divider : ℕ
  pub single : Bool
  pub load : ℕ
  pub sum : ℤ

-- a whole number modulo 2^32
abbrev pub modulo : ℤ → ℕ
modulo (pos n) = n % 2 ^ 32
modulo (negsuc n) = 4294967295 - n % 2 ^ 32

-- load plus sum, modulo 2^32
abbrev pub total : Tally → ℕ
total t = modulo (pos t.load +ℤ t.sum)

-- a step as a number
abbrev pub signed : Step → ℤ
signed Hold = pos 0
signed Up = pos 1
signed Down = negsuc 0

-- power-on loads 0
abbrev pub tally_power_on : Tally
tally_power_on = record { settings = power_on_control; preload = 0; divider = 0; single = false; load = 0; sum = pos 0 }

-- a value put in the count empties the sum
abbrev pub puts : ℕ → Tally → Tally
puts v t = record { settings = t.settings; preload = t.preload; divider = t.divider; single = t.single; load = v; sum = pos 0 }

-- SGL set to x
abbrev pub sets : Bool → Tally → Tally
sets x t = record { settings = t.settings; preload = t.preload; divider = t.divider; single = x; load = t.load; sum = t.sum }

-- a step that is made adds to the sum
abbrev pub adds : Step → Tally → Tally
adds s t = record { settings = t.settings; preload = t.preload; divider = t.divider; single = t.single; load = t.load; sum = t.sum +ℤ signed s }

-- Single Cycle is set
abbrev pub in_single_cycle : SpecialMode → Bool
in_single_cycle Cycling = false
in_single_cycle DivideByN = false
in_single_cycle SingleCycle = true
in_single_cycle CyclingAlternate = false

-- a load sets SGL in Single Cycle
abbrev pub loads : ℕ → Tally → Tally
loads v t = cond (in_single_cycle t.settings.special) (sets true (puts v t)) (puts v t)

-- a step from the total v wraps
abbrev pub wraps : Step → ℕ → Bool
wraps Hold v = false
wraps Up v = v == 4294967295
wraps Down v = v == 0

-- a step by the special mode, over: it would wrap
abbrev pub steps_by : SpecialMode → Step → Bool → Tally → Tally
steps_by Cycling s over t = adds s t
steps_by DivideByN s over t = cond over (puts t.preload t) (adds s t)
steps_by SingleCycle s over t = cond t.single (cond over (sets false t) (adds s t)) t
steps_by CyclingAlternate s over t = adds s t

abbrev pub steps : Step → Tally → Tally
steps s t = steps_by t.settings.special s (wraps s (total t)) t

-- the clock's period ends in the tick to come
abbrev pub ends : Tally → Bool
ends t = nat_le (ticks_of t.settings.clock) (t.divider + 1)

-- the clock a tick on
abbrev pub passes : Tally → Tally
passes t = record { settings = t.settings; preload = t.preload; divider = cond (ends t) 0 (t.divider + 1); single = t.single; load = t.load; sum = t.sum }

-- the gate is closed at the level i of I
abbrev pub closed : IndexMode → Bool → Bool
closed Ignore i = false
closed Load i = false
closed Latch i = false
closed Gate i = not i
closed Reset i = false

-- the step of a tick from the levels o to n
abbrev pub step_through : Levels → Levels → Tally → Step
step_through o n t = cond (closed t.settings.index n.i) Hold (step_of t.settings.input (ends t) o n)

-- a load on I stands in place of the step
abbrev pub takes : IndexMode → Bool → Step → Tally → Tally
takes Ignore event s t = steps s t
takes Load event s t = cond event (loads t.preload t) (steps s t)
takes Latch event s t = steps s t
takes Gate event s t = steps s t
takes Reset event s t = cond event (loads 0 t) (steps s t)

-- a tick from the levels o to n, as seen through the polarity bits
abbrev pub tally_sees : Levels → Levels → Tally → Tally
tally_sees o n t = takes t.settings.index (rises o.i n.i) (step_through o n t) (passes t)

-- a tick of Counter Mode
abbrev pub tally_tick : Levels → Levels → Tally → Tally
tally_tick before after t = tally_sees (seen_through t.settings before) (seen_through t.settings after) t

-- a Counter Mode Command write in Counter Mode: LCNT is bit 1, and wins over RCNT, bit 0
abbrev pub tally_command : ℕ → Tally → Tally
tally_command w t = cond (word_flag w 1) (loads t.preload t) (cond (word_flag w 0) (loads 0 t) t)

-- LCNT of the shared command register in Counter Mode
abbrev pub tally_load : Tally → Tally
tally_load t = loads t.preload t

-- settings that the card has begin a clock period and clear SGL; a refusal does nothing
abbrev pub tally_settle : Result Control Refusal → Tally → Tally
tally_settle (Ok k) t = record { settings = k; preload = t.preload; divider = 0; single = false; load = t.load; sum = t.sum }
tally_settle (Err e) t = t

-- a Counter Mode Control write
abbrev pub tally_control : ℕ → Tally → Tally
tally_control w t = tally_settle (decoded w) t

-- a Counter Mode Preload write
abbrev pub tally_preload : ℕ → Tally → Tally
tally_preload w t = record { settings = t.settings; preload = w; divider = t.divider; single = t.single; load = t.load; sum = t.sum }

-- the channel enters Counter Mode
abbrev pub tally_enter : Tally → Tally
tally_enter t = record { settings = t.settings; preload = t.preload; divider = 0; single = t.single; load = t.load; sum = t.sum }

-- the count that a tally stands for
abbrev pub stands : Tally → Count
stands t = record { control = t.settings; preload = t.preload; divider = t.divider; single = t.single; value = total t }
