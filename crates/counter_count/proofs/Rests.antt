-- A tick in which no level changes: no edge, no event on I, and no step but the clock's.
use Rattle.std.proofs.Common.{◌≡◌, ℕ, Bool, false, None, arith}
use Rattle.counter_control.specs.declared.modes.InputMode.{InputMode}
use Rattle.counter_control.specs.declared.modes.IndexMode.{IndexMode}
use Rattle.counter_count.specs.declared.levels.Levels.{Levels}
use Rattle.counter_count.specs.declared.count.Count.{Count}
use Rattle.counter_count.specs.declared.step.Step.{Step}
use Rattle.counter_count.specs.Steps.{clock_step, rises, seen_through, step_gated, step_of}
use Rattle.counter_count.specs.Counts.{divided, due_in, load_of_event, step_outcome, stepped}
use Rattle.counter_count.specs.Ticks.{advanced, advance_outcome, count_outcome, count_ticked}

pub rises_same : (x : Bool) → rises x x ≡ false
rises_same x = grind arith

rest_step_lem : (m : InputMode) (due : Bool) (v : Levels) → step_of m due v v ≡ clock_step m due
rest_step_lem m due v = grind arith

rest_load : (m : IndexMode) (i : Bool) (p : ℕ) → load_of_event m (rises i i) p ≡ None
rest_load m i p = grind arith

-- the step of such a tick, through the gate
abbrev pub rest_step : Levels → Count → Step
rest_step v n = step_gated n.control.index (seen_through n.control v).i (clock_step n.control.input (due_in n))

pub rest_ticked : (v : Levels) (n : Count) → count_ticked v v n ≡ stepped (rest_step v n) (divided n)
unfolding advanced
rest_ticked v n = grind (arith, rest_load, rest_step_lem)

pub rest_outcome : (v : Levels) (n : Count) → count_outcome v v n ≡ step_outcome (rest_step v n) (divided n)
unfolding advance_outcome
rest_outcome v n = grind (arith, rest_load, rest_step_lem)
