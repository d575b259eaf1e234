-- The phases of the controller, tick by tick.
use Rattle.std.specs.Prelude.{ℕ, ◌+◌, ◌-◌, ◌*◌, ◌%◌, ◌^◌, Bool, true, false, cond, not, Some, None, Option, ◌==◌, nat_lt}
use Rattle.frame.specs.Layout.{frame_bits}
use Rattle.controller.specs.declared.phase.Transmission.{Transmission}
use Rattle.controller.specs.declared.phase.Phase.{Phase}
use Rattle.controller.specs.declared.phase.Phase.TheVariants.{Waiting, Clocking, Recovering}
use Rattle.controller.specs.declared.phase.Due.{Due}
use Rattle.controller.specs.declared.phase.Due.TheVariants.{Toggle, Completion, Drop}

-- a transmission with another clock level, number of rises, wait, word and fault
abbrev pub clocked : Transmission → Bool → ℕ → ℕ → ℕ → Bool → Transmission
clocked t high rises wait word fault =
    record { half = t.half; format = t.format; high = high; rises = rises; wait = wait; word = word; fault = fault }

-- a word with one more bit at its low end
abbrev pub pushed : ℕ → Bool → ℕ
pushed w x = w * 2 % 2 ^ 64 + cond x 1 0

-- one tick less to wait
abbrev pub waited : Transmission → Transmission
waited t = clocked t t.high t.rises (t.wait - 1) t.word t.fault

-- the clock falls with the line at x: first the idle line is checked, then a bit is taken
abbrev pub fell : Bool → Transmission → Transmission
fell x t = clocked t false t.rises (t.half - 1) (cond (t.rises == 0) t.word (pushed t.word x)) (cond (t.rises == 0) (not x) t.fault)

-- the clock rises: the rise after the last bit leaves it high until completion, 500 ticks later
abbrev pub rose : Transmission → Transmission
rose t = clocked t true ((t.rises + 1) % 2 ^ 32) (cond (nat_lt t.rises (frame_bits t.format)) (t.half - 1) 499) t.word t.fault

abbrev pub toggled : Bool → Transmission → Transmission
toggled x t = cond t.high (fell x t) (rose t)

-- what a tick brings: after the last rise there is only completion
abbrev pub due_of : Phase → Option Due
due_of Waiting = None
due_of (Clocking t) = cond (nat_lt 0 t.wait) None (cond (nat_lt (frame_bits t.format) t.rises) (Some Completion) (Some Toggle))
due_of (Recovering left) = cond (nat_lt 0 left) None (Some Completion)

-- the phase after what is due, with the line at x: recovery takes 2,600 ticks from completion
abbrev pub stepped : Option Due → Bool → Phase → Phase
stepped None x Waiting = Waiting
stepped None x (Clocking t) = Clocking (waited t)
stepped None x (Recovering left) = Recovering (left - 1)
stepped (Some Toggle) x Waiting = Waiting
stepped (Some Toggle) x (Clocking t) = Clocking (toggled x t)
stepped (Some Toggle) x (Recovering left) = Recovering left
stepped (Some Completion) x Waiting = Waiting
stepped (Some Completion) x (Clocking t) = Recovering 2599
stepped (Some Completion) x (Recovering left) = Waiting
stepped (Some Drop) x p = Waiting

-- the phase after a tick with the line at x
unfoldable pub phase_ticked : Bool → Phase → Phase
phase_ticked x p = stepped (due_of p) x p

-- the level of the SSI clock, idle 1
abbrev pub clock_of : Phase → Bool
clock_of Waiting = true
clock_of (Clocking t) = t.high
clock_of (Recovering left) = true

-- BSY
abbrev pub busy_in : Phase → Bool
busy_in Waiting = false
busy_in (Clocking t) = true
busy_in (Recovering left) = false

-- SENSOR STATUS
abbrev pub active_in : Phase → Bool
active_in Waiting = false
active_in (Clocking t) = true
active_in (Recovering left) = true
