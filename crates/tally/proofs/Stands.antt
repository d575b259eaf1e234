-- A tally stands for the count, call by call.
use Rattle.std.proofs.Common.{◌≡◌, ℕ, ◌^◌, ◌<◌, Bool, true, false, cond, refl, ap, ◌∙◌, arith}
use Rattle.std.proofs.lemmas.Bool.Decides.{nat_tests}
use Rattle.counter_control.specs.declared.modes.SpecialMode.{SpecialMode}
use Rattle.counter_control.specs.declared.modes.IndexMode.{IndexMode}
use Rattle.counter_count.specs.declared.levels.Levels.{Levels}
use Rattle.counter_count.specs.declared.step.Step.{Step}
use Rattle.counter_count.specs.declared.step.Step.TheVariants.{Hold, Up, Down}
use Rattle.counter_count.specs.Steps.{rises, seen_through, step_gated, step_of}
use Rattle.counter_count.specs.Counts.{commanded, control_written, driven, load_of_event, loaded, next_value, runs, stepped, turned, with_single, with_value, wraps_at}
use Rattle.counter_count.specs.Ticks.{advanced, count_ticked}
use Rattle.tally.specs.Tally.{Tally, adds, closed, ends, loads, passes, puts, sets, stands, steps, steps_by, step_through, takes, tally_command, tally_control, tally_tick, total}
use Rattle.tally.specs.Laws.{TallyStands}
use Rattle.tally.proofs.Totals.{total_down, total_load, total_same, total_up}

-- an up or down step as the tally has it
abbrev going : Bool → Step
going true = Up
going false = Down

adds_stand : (up : Bool) (t : Tally) → stands (adds (going up) t) ≡ with_value (next_value up (total t)) (stands t)
adds_stand up t = grind (arith, total_up, total_down)

puts_stand : (v : ℕ) (t : Tally) → v < 2 ^ 32 → stands (puts v t) ≡ with_value v (stands t)
puts_stand v t h = grind (arith, total_load)

hold_stands : (m : SpecialMode) (t : Tally) → stands (steps_by m Hold false t) ≡ stands t
hold_stands m t = grind (arith, total_same)

-- a step that would wrap ends a single cycle, if one runs
stop_stands : (t : Tally) (x : Bool) → t.single ≡ x → stands (cond x (sets false t) t) ≡ with_single false (stands t)
stop_stands t x e = grind arith

-- a step up or down, over or not, in each special mode
take_stands : (m : SpecialMode) (up over : Bool) (t : Tally) → t.preload < 2 ^ 32 →
    stands (steps_by m (going up) over t) ≡
    cond over (turned m up (stands t)) (cond (runs m t.single) (with_value (next_value up (total t)) (stands t)) (stands t))
take_stands m up over t h = grind (arith, adds_stand, puts_stand, stop_stands)

pub step_stands : (s : Step) (t : Tally) → t.preload < 2 ^ 32 → stands (steps s t) ≡ stepped s (stands t)
step_stands Hold t h = hold_stands t.settings.special t
step_stands Up t h = take_stands t.settings.special true (wraps_at true (total t)) t h
step_stands Down t h = take_stands t.settings.special false (wraps_at false (total t)) t h

-- a load, and SGL with it
pub load_stands : (v : ℕ) (t : Tally) → v < 2 ^ 32 → stands (loads v t) ≡ loaded v (stands t)
load_stands v t h = grind (arith, puts_stand)

-- the tally's gate and the counter's
gate_same : (m : IndexMode) (i : Bool) (s : Step) → cond (closed m i) Hold s ≡ step_gated m i s
gate_same m i s = grind (arith, nat_tests)

-- an event's load, or else the step
take_event : (m : IndexMode) (event : Bool) (s : Step) (t : Tally) → t.preload < 2 ^ 32 →
    stands (takes m event s t) ≡ driven (load_of_event m event t.preload) s (stands t)
take_event m event s t h = grind (arith, step_stands, load_stands)

pub tick_stands : (o n : Levels) (t : Tally) → t.preload < 2 ^ 32 → stands (tally_tick o n t) ≡ count_ticked o n (stands t)
unfolding advanced
tick_stands o n t h =
    let o = seen_through t.settings o in
    let n = seen_through t.settings n in
    let event = rises o.i n.i in
    take_event t.settings.index event (step_through o n t) (passes t) h ∙
    ap (λ s. driven (load_of_event t.settings.index event t.preload) s (stands (passes t)))
    (gate_same t.settings.index n.i (step_of t.settings.input (ends t) o n))

pub command_stands : (w : ℕ) (t : Tally) → t.preload < 2 ^ 32 → stands (tally_command w t) ≡ commanded w (stands t)
command_stands w t h = grind (arith, load_stands)

pub control_stands : (w : ℕ) (t : Tally) → stands (tally_control w t) ≡ control_written w (stands t)
control_stands w t = grind (arith, nat_tests)

-- the preload stays
load_keeps : (v : ℕ) (t : Tally) → (loads v t).preload ≡ t.preload
load_keeps v t = grind (arith, nat_tests)

event_keeps : (m : IndexMode) (event : Bool) (s : Step) (t : Tally) → (takes m event s t).preload ≡ t.preload
event_keeps m event s t = grind (arith, nat_tests)

pub tick_keeps : (o n : Levels) (t : Tally) → (tally_tick o n t).preload ≡ t.preload
tick_keeps o n t = event_keeps t.settings.index _ _ (passes t)

pub command_keeps : (w : ℕ) (t : Tally) → (tally_command w t).preload ≡ t.preload
command_keeps w t = grind (arith, nat_tests)

pub control_keeps : (w : ℕ) (t : Tally) → (tally_control w t).preload ≡ t.preload
control_keeps w t = grind (arith, nat_tests)

pub tally_stands_lem : TallyStands
tally_stands_lem = record {
  start = refl;
  tick = tick_stands;
  command = command_stands;
  load = λ t h. load_stands t.preload t h;
  control = control_stands;
  preload = λ w t. refl;
  enter = λ t. refl;
  tick_keeps = tick_keeps;
  command_keeps = command_keeps;
  load_keeps = λ t. load_keeps t.preload t;
  control_keeps = control_keeps;
}
