-- The status bits and the status word.
use Rattle.std.specs.Prelude.{ℕ, ◌+◌, Bool, true, false, not, ◌&&◌}
use Rattle.bits.specs.Words.{bit_at, word_flag}
use Rattle.counter_control.specs.declared.modes.InputMode.{InputMode}
use Rattle.counter_control.specs.declared.modes.InputMode.TheVariants.{Disabled, TimerUp, TimerDown, Direction, UpDown, Quadrature1, Quadrature2, Quadrature4}
use Rattle.counter_count.specs.declared.count.Outcome.{Outcome}
use Rattle.counter_count.specs.declared.count.Outcome.TheVariants.{Held, Loaded, Up, Down, Carry, Borrow}
use Rattle.counter.specs.declared.flags.Flags.{Flags}

abbrev pub power_on_flags : Flags
power_on_flags = record { borrow = false; carry = false; matched = false; sign = false; up = false; locked = false; overflow = false }

-- DIR set to x
abbrev pub with_up : Bool → Flags → Flags
with_up x f = record { borrow = f.borrow; carry = f.carry; matched = f.matched; sign = f.sign; up = x; locked = f.locked; overflow = f.overflow }

-- MAT set to x
abbrev pub with_matched : Bool → Flags → Flags
with_matched x f = record { borrow = f.borrow; carry = f.carry; matched = x; sign = f.sign; up = f.up; locked = f.locked; overflow = f.overflow }

-- DRL set to x, OVFL to y
abbrev pub with_lock : Bool → Bool → Flags → Flags
with_lock x y f = record { borrow = f.borrow; carry = f.carry; matched = f.matched; sign = f.sign; up = f.up; locked = x; overflow = y }

-- the lock is released
abbrev pub released : Flags → Flags
released f = with_lock false f.overflow f

-- what the bits but MAT follow: steps, and above all those that wrap
abbrev pub flags_noted : Outcome → Flags → Flags
flags_noted Held f = f
flags_noted Loaded f = f
flags_noted Up f = with_up true f
flags_noted Down f = with_up false f
flags_noted Carry f = record { borrow = f.borrow; carry = true; matched = f.matched; sign = true; up = true; locked = f.locked; overflow = f.overflow }
flags_noted Borrow f = record { borrow = true; carry = f.carry; matched = f.matched; sign = false; up = false; locked = f.locked; overflow = f.overflow }

-- in the direction mode DIR shows B
abbrev pub flags_pointed : InputMode → Bool → Flags → Flags
flags_pointed Disabled b f = f
flags_pointed TimerUp b f = f
flags_pointed TimerDown b f = f
flags_pointed Direction b f = with_up b f
flags_pointed UpDown b f = f
flags_pointed Quadrature1 b f = f
flags_pointed Quadrature2 b f = f
flags_pointed Quadrature4 b f = f

-- written ones clear BOR 0, CRY 1, MAT 2, DRL 5 and OVFL 6
abbrev pub cleared_by : ℕ → Flags → Flags
cleared_by w f = record {
  borrow = f.borrow && not (word_flag w 0);
  carry = f.carry && not (word_flag w 1);
  matched = f.matched && not (word_flag w 2);
  sign = f.sign;
  up = f.up;
  locked = f.locked && not (word_flag w 5);
  overflow = f.overflow && not (word_flag w 6);
}

-- BOR 0, CRY 1, MAT 2, SGN 3, DIR 4, DRL 5, OVFL 6, SGL 7
abbrev pub status_word : Bool → Flags → ℕ
status_word single f =
    bit_at 0 f.borrow + bit_at 1 f.carry + bit_at 2 f.matched + bit_at 3 f.sign +
    bit_at 4 f.up + bit_at 5 f.locked + bit_at 6 f.overflow + bit_at 7 single
