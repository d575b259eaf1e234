-- The step of a tick, by the table of input modes.
use Rattle.std.specs.Prelude.{Bool, cond, not, ◌&&◌}
use Rattle.counter_control.specs.declared.modes.InputMode.{InputMode}
use Rattle.counter_control.specs.declared.modes.InputMode.TheVariants.{Disabled, TimerUp, TimerDown, Direction, UpDown, Quadrature1, Quadrature2, Quadrature4}
use Rattle.counter_control.specs.declared.modes.IndexMode.{IndexMode}
use Rattle.counter_control.specs.declared.modes.IndexMode.TheVariants.{Ignore, Load, Latch, Gate, Reset}
use Rattle.counter_control.specs.declared.control.Control.{Control}
use Rattle.counter_count.specs.declared.levels.Levels.{Levels}
use Rattle.counter_count.specs.declared.levels.Change.{Change}
use Rattle.counter_count.specs.declared.step.Step.{Step}
use Rattle.counter_count.specs.declared.step.Step.TheVariants.{Hold, Up, Down}

-- two levels differ
abbrev pub differ : Bool → Bool → Bool
differ x y = cond x (not y) y

-- a level goes from 0 to 1
abbrev pub rises : Bool → Bool → Bool
rises x y = not x && y

-- the levels through the polarity bits
abbrev pub seen_through : Control → Levels → Levels
seen_through k v = record { a = differ v.a k.invert_a; b = differ v.b k.invert_b; i = differ v.i k.invert_i }

-- the levels before a tick and after it, through the polarity bits
abbrev pub change_through : Control → Change → Change
change_through k d = record { before = seen_through k d.before; after = seen_through k d.after }

-- A changes and B does not
abbrev pub a_alone : Levels → Levels → Bool
a_alone o n = differ o.a n.a && not (differ o.b n.b)

-- B changes and A does not
abbrev pub b_alone : Levels → Levels → Bool
b_alone o n = differ o.b n.b && not (differ o.a n.a)

-- one up or one down
abbrev pub step_towards : Bool → Step
step_towards up = cond up Up Down

-- the step of a tick from the levels o to n; due: the clock's period ends in it
abbrev pub step_of : InputMode → Bool → Levels → Levels → Step
step_of Disabled due o n = Hold
step_of TimerUp due o n = cond due Up Hold
step_of TimerDown due o n = cond due Down Hold
step_of Direction due o n = cond (rises o.a n.a) (step_towards n.b) Hold
step_of UpDown due o n =
    cond (rises o.a n.a) (cond (rises o.b n.b) Hold Up) (cond (rises o.b n.b) Down Hold)
step_of Quadrature1 due o n = cond (a_alone o n && not n.b) (step_towards n.a) Hold
step_of Quadrature2 due o n = cond (a_alone o n) (step_towards (differ n.a n.b)) Hold
step_of Quadrature4 due o n =
    cond (a_alone o n) (step_towards (differ n.a n.b))
    (cond (b_alone o n) (step_towards (not (differ n.a n.b))) Hold)

-- the step that the clock alone makes, at the end of its period
abbrev pub clock_step : InputMode → Bool → Step
clock_step Disabled due = Hold
clock_step TimerUp due = cond due Up Hold
clock_step TimerDown due = cond due Down Hold
clock_step Direction due = Hold
clock_step UpDown due = Hold
clock_step Quadrature1 due = Hold
clock_step Quadrature2 due = Hold
clock_step Quadrature4 due = Hold

-- Gate on I lets a step pass while I is 1
abbrev pub step_gated : IndexMode → Bool → Step → Step
step_gated Ignore i s = s
step_gated Load i s = s
step_gated Latch i s = s
step_gated Gate i s = cond i s Hold
step_gated Reset i s = s
