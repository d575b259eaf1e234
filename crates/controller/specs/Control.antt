-- The SSI Mode Control word and what it sets.
use Rattle.std.specs.Prelude.{ℕ, ◌+◌, ◌-◌, Bool, cond, ◌||◌, Ok, Err, Result, Some, None, Option, ◌==◌, nat_lt}
use Rattle.bits.specs.Words.{word_field, word_flag, field_at, bit_at}
use Rattle.refusal.specs.declared.Refusal.{Refusal}
use Rattle.refusal.specs.declared.Refusal.TheVariants.{Setting}
use Rattle.frame.specs.Numbers.{code_at, code_number, span_at, span_number}
use Rattle.frame.specs.declared.format.Span.{Span}
use Rattle.frame.specs.declared.format.Parity.{Parity}
use Rattle.frame.specs.declared.format.Format.{Format}
use Rattle.controller.specs.declared.control.Start.{Start}
use Rattle.controller.specs.declared.control.Start.TheVariants.{Request, Timer}
use Rattle.controller.specs.declared.control.SsiControl.{SsiControl}

-- PAR 00 and the spans 01 to 11
abbrev pub check_field : Option Span → ℕ
check_field None = 0
check_field (Some s) = span_number s

-- START 00 and 01
abbrev pub start_at : ℕ → Start
start_at n = cond (n == 1) Timer Request

abbrev pub start_number : Start → ℕ
start_number Request = 0
start_number Timer = 1

-- a word with listen-only mode or START 10 or 11 is refused
abbrev pub control_refused : ℕ → Bool
control_refused w = word_flag w 24 || nat_lt 1 (word_field w 25 2)

-- the settings of a word
abbrev pub control_of : ℕ → SsiControl
control_of w =
    record {
      rate = word_field w 0 12;
      data_bits = word_field w 12 5 + 1;
      extra_bits = word_field w 17 3;
      check = span_at (word_field w 20 2);
      odd = word_flag w 22;
      code = code_at (word_field w 23 1);
      start = start_at (word_field w 25 1);
      delay = word_field w 27 5;
    }

abbrev pub decoded : ℕ → Result SsiControl Refusal
decoded w = cond (control_refused w) (Err Setting) (Ok (control_of w))

-- the word that shows the settings
abbrev pub word_of_control : SsiControl → ℕ
word_of_control c =
    word_field c.rate 0 12 + field_at 12 (word_field (c.data_bits - 1) 0 5) + field_at 17 (word_field c.extra_bits 0 3) + field_at 20 (check_field c.check) + bit_at 22 c.odd + field_at 23 (code_number c.code) + field_at 25 (start_number c.start) + field_at 27 (word_field c.delay 0 5)

-- the parity bit of a frame
abbrev pub parity_of : Option Span → Bool → Option Parity
parity_of None odd = None
parity_of (Some s) odd = Some (record { span = s; odd = odd })

-- the format of the frames that the settings ask for
abbrev pub format_of : SsiControl → Format
format_of c = record { data_bits = c.data_bits; extra_bits = c.extra_bits; parity = parity_of c.check c.odd; code = c.code }
