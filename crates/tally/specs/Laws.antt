-- Laws of counting.
use Rattle.std.specs.Prelude.{◌≡◌, ℕ, ◌^◌, ◌<◌, Bool, true, false}
use Rattle.counter_count.specs.declared.levels.Levels.{Levels}
use Rattle.counter_count.specs.Counts.{commanded, control_written, power_on_count, preloaded, preload_loaded, restarted}
use Rattle.counter_count.specs.Ticks.{count_ticked}
use Rattle.counter.specs.declared.counter.Counter.{Counter}
use Rattle.counter.specs.Counters.{power_on_counter, ticked}
use Rattle.counter.specs.Registers as register
use Rattle.tally.specs.Tally.{Tally, stands, tally_command, tally_control, tally_enter, tally_load, tally_power_on, tally_preload, tally_tick}

-- a tally stands for the count at power-on, and after each call if before; its preload changes by a preload write alone
pub record TallyStands : Type 0 where
  pub start : stands tally_power_on ≡ power_on_count
  pub tick : (o n : Levels) (t : Tally) → t.preload < 2 ^ 32 → stands (tally_tick o n t) ≡ count_ticked o n (stands t)
  pub command : (w : ℕ) (t : Tally) → t.preload < 2 ^ 32 → stands (tally_command w t) ≡ commanded w (stands t)
  pub load : (t : Tally) → t.preload < 2 ^ 32 → stands (tally_load t) ≡ preload_loaded (stands t)
  pub control : (w : ℕ) (t : Tally) → stands (tally_control w t) ≡ control_written w (stands t)
  pub preload : (w : ℕ) (t : Tally) → stands (tally_preload w t) ≡ preloaded w (stands t)
  pub enter : (t : Tally) → stands (tally_enter t) ≡ restarted (stands t)
  pub tick_keeps : (o n : Levels) (t : Tally) → (tally_tick o n t).preload ≡ t.preload
  pub command_keeps : (w : ℕ) (t : Tally) → (tally_command w t).preload ≡ t.preload
  pub load_keeps : (t : Tally) → (tally_load t).preload ≡ t.preload
  pub control_keeps : (w : ℕ) (t : Tally) → (tally_control w t).preload ≡ t.preload

-- the count after a call is a function of the count before and the call
pub record CountAlone : Type 0 where
  pub tick : (o n : Levels) (c : Counter) → (ticked o n c).count ≡ count_ticked o n c.count
  pub command : (w : ℕ) (c : Counter) → (register.commanded w c).count ≡ commanded w c.count
  pub load : (c : Counter) → (register.preload_loaded c).count ≡ preload_loaded c.count
  pub control : (w : ℕ) (c : Counter) → (register.control_written w c).count ≡ control_written w c.count
  pub preload : (w : ℕ) (c : Counter) → (register.preload_written w c).count ≡ preloaded w c.count
  pub enter : (c : Counter) → (register.entered c).count ≡ restarted c.count
  pub leave : (c : Counter) → (register.left c).count ≡ c.count
  pub compare : (w : ℕ) (c : Counter) → (register.compare_written w c).count ≡ c.count
  pub status : (w : ℕ) (c : Counter) → (register.status_cleared w c).count ≡ c.count
  pub read : (c : Counter) → (register.data_read c).count ≡ c.count

-- levels of A and B, with I at 0
abbrev pub lines : Bool → Bool → Levels
lines a b = record { a = a; b = b; i = false }

-- a counter at power-on with a control word, a preload and a command
abbrev pub set_up : ℕ → ℕ → ℕ → Counter
set_up control preload command = register.commanded command (register.preload_written preload (register.control_written control power_on_counter))

-- a tick at which no line changes
abbrev pub quiet_tick : Counter → Counter
quiet_tick c = ticked (lines false false) (lines false false) c

-- (A, B) goes 00, 10, 11, 01, 00
abbrev pub turn : Counter → Counter
turn c =
    ticked (lines false true) (lines false false)
    (ticked (lines true true) (lines false true)
    (ticked (lines true false) (lines true true)
    (ticked (lines false false) (lines true false) c)))

-- worked examples
pub record Figures : Type 0 where
  -- a turn counts 4, 2 and 1 for INPUT 111, 110 and 101
  pub four : (turn (set_up 7 0 0)).count.value ≡ 4
  pub two : (turn (set_up 6 0 0)).count.value ≡ 2
  pub one : (turn (set_up 5 0 0)).count.value ≡ 1
  -- 0xFFFFFFFF plus 1 is 0 with CRY
  pub wrapped : (quiet_tick (set_up 57 4294967295 2)).count.value ≡ 0
  pub carry : (quiet_tick (set_up 57 4294967295 2)).flags.carry ≡ true
  -- Divide-by-N, preload 5: 0 stepped down gives 5 and BOR
  pub divided : (quiet_tick (set_up 122 5 0)).count.value ≡ 5
  pub borrow : (quiet_tick (set_up 122 5 0)).flags.borrow ≡ true
  -- Single Cycle: 0 stepped down stays and SGL clears
  pub running : (set_up 186 0 1).count.single ≡ true
  pub stopped : (quiet_tick (set_up 186 0 1)).count.value ≡ 0
  pub ended : (quiet_tick (set_up 186 0 1)).count.single ≡ false
