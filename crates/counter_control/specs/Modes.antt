-- The numbers of the modes in a Counter Mode Control word.
use Rattle.std.specs.Prelude.{◌≡◌, ℕ, cond, Some, None, Ok, Err, Option, Result, ◌==◌, refl}
use Rattle.refusal.specs.declared.Refusal.{Refusal}
use Rattle.refusal.specs.declared.Refusal.TheVariants.{Setting}
use Rattle.counter_control.specs.declared.modes.InputMode.{InputMode}
use Rattle.counter_control.specs.declared.modes.InputMode.TheVariants.{Disabled, TimerUp, TimerDown, Direction, UpDown, Quadrature1, Quadrature2, Quadrature4}
use Rattle.counter_control.specs.declared.modes.BaseClock.{BaseClock}
use Rattle.counter_control.specs.declared.modes.BaseClock.TheVariants.{Mhz1, Mhz2, Mhz4, Mhz5, Mhz10, Mhz20, Mhz50, Mhz100}
use Rattle.counter_control.specs.declared.modes.SpecialMode.{SpecialMode}
use Rattle.counter_control.specs.declared.modes.SpecialMode.TheVariants.{Cycling, DivideByN, SingleCycle, CyclingAlternate}
use Rattle.counter_control.specs.declared.modes.IndexMode.{IndexMode}
use Rattle.counter_control.specs.declared.modes.IndexMode.TheVariants.{Ignore, Load, Latch, Gate, Reset}

-- INPUT
abbrev pub input_code : InputMode → ℕ
input_code Disabled = 0
input_code TimerUp = 1
input_code TimerDown = 2
input_code Direction = 3
input_code UpDown = 4
input_code Quadrature1 = 5
input_code Quadrature2 = 6
input_code Quadrature4 = 7

-- the input mode of a number, from 7 on the last
abbrev pub input_at : ℕ → InputMode
input_at n =
    cond (n == 0) Disabled (
    cond (n == 1) TimerUp (
    cond (n == 2) TimerDown (
    cond (n == 3) Direction (
    cond (n == 4) UpDown (
    cond (n == 5) Quadrature1 (
    cond (n == 6) Quadrature2 Quadrature4))))))

pub input_reads_back : (s : InputMode) → input_at (input_code s) ≡ s
input_reads_back Disabled = refl
input_reads_back TimerUp = refl
input_reads_back TimerDown = refl
input_reads_back Direction = refl
input_reads_back UpDown = refl
input_reads_back Quadrature1 = refl
input_reads_back Quadrature2 = refl
input_reads_back Quadrature4 = refl

-- CLKDIV
abbrev pub clock_code : BaseClock → ℕ
clock_code Mhz1 = 0
clock_code Mhz2 = 1
clock_code Mhz4 = 2
clock_code Mhz5 = 3
clock_code Mhz10 = 4
clock_code Mhz20 = 5
clock_code Mhz50 = 6
clock_code Mhz100 = 7

-- the clock of a number, from 7 on the last
abbrev pub clock_at : ℕ → BaseClock
clock_at n =
    cond (n == 0) Mhz1 (
    cond (n == 1) Mhz2 (
    cond (n == 2) Mhz4 (
    cond (n == 3) Mhz5 (
    cond (n == 4) Mhz10 (
    cond (n == 5) Mhz20 (
    cond (n == 6) Mhz50 Mhz100))))))

pub clock_reads_back : (s : BaseClock) → clock_at (clock_code s) ≡ s
clock_reads_back Mhz1 = refl
clock_reads_back Mhz2 = refl
clock_reads_back Mhz4 = refl
clock_reads_back Mhz5 = refl
clock_reads_back Mhz10 = refl
clock_reads_back Mhz20 = refl
clock_reads_back Mhz50 = refl
clock_reads_back Mhz100 = refl

-- the ticks of 10 ns in a period of a clock
abbrev pub ticks_of : BaseClock → ℕ
ticks_of Mhz1 = 100
ticks_of Mhz2 = 50
ticks_of Mhz4 = 25
ticks_of Mhz5 = 20
ticks_of Mhz10 = 10
ticks_of Mhz20 = 5
ticks_of Mhz50 = 2
ticks_of Mhz100 = 1

-- SCM
abbrev pub special_code : SpecialMode → ℕ
special_code Cycling = 0
special_code DivideByN = 1
special_code SingleCycle = 2
special_code CyclingAlternate = 3

-- the special mode of a number, from 3 on the last
abbrev pub special_at : ℕ → SpecialMode
special_at n =
    cond (n == 0) Cycling (
    cond (n == 1) DivideByN (
    cond (n == 2) SingleCycle CyclingAlternate))

pub special_reads_back : (s : SpecialMode) → special_at (special_code s) ≡ s
special_reads_back Cycling = refl
special_reads_back DivideByN = refl
special_reads_back SingleCycle = refl
special_reads_back CyclingAlternate = refl

-- ICM
abbrev pub index_code : IndexMode → ℕ
index_code Ignore = 0
index_code Load = 1
index_code Latch = 2
index_code Gate = 3
index_code Reset = 4

-- the index mode of a number; from 5 on the card has none
abbrev pub index_at : ℕ → Option IndexMode
index_at n =
    cond (n == 0) (Some Ignore) (
    cond (n == 1) (Some Load) (
    cond (n == 2) (Some Latch) (
    cond (n == 3) (Some Gate) (
    cond (n == 4) (Some Reset) None))))

-- what the card lacks is refused
abbrev pub index_or_refused : Option IndexMode → Result IndexMode Refusal
index_or_refused (Some m) = Ok m
index_or_refused None = Err Setting

-- the index mode of a number, refused where the card has none
abbrev pub index_answer : ℕ → Result IndexMode Refusal
index_answer n = index_or_refused (index_at n)
