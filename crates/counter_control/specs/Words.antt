-- The Counter Mode Control word: INPUT 2:0, CLKDIV 5:3, SCM 7:6, ICM 10:8, POL A 11, POL B 12, POL I 13.
use Rattle.std.specs.Prelude.{◌≡◌, ℕ, ◌+◌, ◌%◌, ◌^◌, false, Some, None, Ok, Err, Option, Result}
use Rattle.bits.specs.Words.{bit_at, field_at, word_field, word_flag}
use Rattle.refusal.specs.declared.Refusal.{Refusal}
use Rattle.refusal.specs.declared.Refusal.TheVariants.{Setting}
use Rattle.counter_control.specs.declared.modes.IndexMode.{IndexMode}
use Rattle.counter_control.specs.declared.modes.InputMode.TheVariants.{Disabled}
use Rattle.counter_control.specs.declared.modes.BaseClock.TheVariants.{Mhz1}
use Rattle.counter_control.specs.declared.modes.SpecialMode.TheVariants.{Cycling}
use Rattle.counter_control.specs.declared.modes.IndexMode.TheVariants.{Ignore}
use Rattle.counter_control.specs.declared.control.Control.{Control}
use Rattle.counter_control.specs.Modes.{clock_at, clock_code, index_at, index_code, input_at, input_code, special_at, special_code}

-- all settings at 0
abbrev pub power_on_control : Control
power_on_control = record {
  input = Disabled;
  clock = Mhz1;
  special = Cycling;
  index = Ignore;
  invert_a = false;
  invert_b = false;
  invert_i = false;
}

-- the settings of a word whose index mode is m
abbrev pub control_of : IndexMode → ℕ → Control
control_of m w = record {
  input = input_at (word_field w 0 3);
  clock = clock_at (word_field w 3 3);
  special = special_at (word_field w 6 2);
  index = m;
  invert_a = word_flag w 11;
  invert_b = word_flag w 12;
  invert_i = word_flag w 13;
}

-- a word is refused where the card lacks its index mode
abbrev pub decoded_with : Option IndexMode → ℕ → Result Control Refusal
decoded_with (Some m) w = Ok (control_of m w)
decoded_with None w = Err Setting

-- a written word
unfoldable pub decoded : ℕ → Result Control Refusal
decoded w = decoded_with (index_at (word_field w 8 3)) w

-- the word as it is read back
unfoldable pub word_of_control : Control → ℕ
word_of_control k =
    field_at 0 (input_code k.input) + field_at 3 (clock_code k.clock) + field_at 6 (special_code k.special) + field_at 8 (index_code k.index) +
    bit_at 11 k.invert_a + bit_at 12 k.invert_b + bit_at 13 k.invert_i

-- an accepted word is read back as written, in its lowest 14 bits
abbrev pub Kept : ℕ → Result Control Refusal → Type 0
Kept w (Ok k) = word_of_control k ≡ w % 2 ^ 14
Kept w (Err e) = Unit {0}
