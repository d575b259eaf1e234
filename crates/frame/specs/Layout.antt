-- The layout of a frame word: data bits, extra bits, parity bit, highest first.
use Rattle.std.specs.Prelude.{ℕ, ◌+◌, ◌-◌, ◌*◌, ◌/◌, ◌%◌, ◌^◌, min, Bool, false, cond, ◌==◌, Option, Some, None, bit_and, count_ones}
use Rattle.frame.specs.Gray.{gray_word, ungray}
use Rattle.frame.specs.declared.format.Code.{Code}
use Rattle.frame.specs.declared.format.Code.TheVariants.{Binary, Gray}
use Rattle.frame.specs.declared.format.Span.{Span}
use Rattle.frame.specs.declared.format.Span.TheVariants.{Data, Extra, Both}
use Rattle.frame.specs.declared.format.Parity.{Parity}
use Rattle.frame.specs.declared.format.Format.{Format}
use Rattle.frame.specs.declared.reader.Reading.{Reading}

-- how many data bits: at most 32
abbrev pub data_bit_count : Format → ℕ
data_bit_count f = min f.data_bits 32

-- how many extra bits: at most 7
abbrev pub extra_bit_count : Format → ℕ
extra_bit_count f = min f.extra_bits 7

-- how many parity bits
abbrev pub parity_bits : Option Parity → ℕ
parity_bits None = 0
parity_bits (Some p) = 1

-- how many bits in all
abbrev pub frame_bits : Format → ℕ
frame_bits f = data_bit_count f + extra_bit_count f + parity_bits f.parity

-- the covered bits among d data bits and z extra bits
abbrev pub covered_bits : Span → ℕ → ℕ → ℕ
covered_bits Data d z = (2 ^ d - 1) * 2 ^ z
covered_bits Extra d z = 2 ^ z - 1
covered_bits Both d z = 2 ^ (d + z) - 1

-- and the parity bit below them
abbrev pub parity_mask : Span → ℕ → ℕ → ℕ
parity_mask s d z = covered_bits s d z * 2 + 1

-- the ones of a frame word that take part in parity
abbrev pub parity_ones : Span → ℕ → ℕ → ℕ → ℕ
parity_ones s d z w = count_ones (bit_and w (parity_mask s d z))

-- 1 if these are odd in number where they should be even, or even where they should be odd
abbrev pub parity_off : Parity → ℕ → ℕ → ℕ → ℕ
parity_off p d z w = (parity_ones p.span d z w + cond p.odd 1 0) % 2

-- a position as the data bits carry it
abbrev pub coded_as : Code → ℕ → ℕ
coded_as Binary p = p
coded_as Gray p = gray_word p

-- the position that data bits carry
abbrev pub decoded_as : Code → ℕ → ℕ
decoded_as Binary w = w
decoded_as Gray w = ungray 32 w

-- data bits, then extra bits
abbrev pub body_of : Format → ℕ → ℕ → ℕ
body_of f p x = coded_as f.code p * 2 ^ extra_bit_count f + x

-- the parity bit that makes the ones even or odd in number, for a body that has 0 in its place
abbrev pub parity_for : Option Parity → ℕ → ℕ → ℕ → ℕ
parity_for None d z b = 0
parity_for (Some p) d z b = parity_off p d z (b * 2)

abbrev pub sent_parity : Format → ℕ → ℕ
sent_parity f b = parity_for f.parity (data_bit_count f) (extra_bit_count f) b

-- the frame word of the position p and the extra bits x
unfoldable pub word_of_frame : Format → ℕ → ℕ → ℕ
word_of_frame f p x = body_of f p x * 2 ^ parity_bits f.parity + sent_parity f (body_of f p x)

-- the parity bit of a frame word
abbrev pub shown_parity : Option Parity → ℕ → Bool
shown_parity None w = false
shown_parity (Some p) w = w % 2 == 1

-- whether the ones that take part in parity are wrong in number
abbrev pub parity_wrong : Option Parity → ℕ → ℕ → ℕ → Bool
parity_wrong None d z w = false
parity_wrong (Some p) d z w = parity_off p d z w == 1

abbrev pub is_parity_wrong : Format → ℕ → Bool
is_parity_wrong f w = parity_wrong f.parity (data_bit_count f) (extra_bit_count f) w

-- what a frame word says
unfoldable pub reading_of : Format → ℕ → Reading
reading_of f w =
    record {
      number = decoded_as f.code (w / 2 ^ (extra_bit_count f + parity_bits f.parity) % 2 ^ data_bit_count f);
      extra = w / 2 ^ parity_bits f.parity % 2 ^ extra_bit_count f;
      parity_bit = shown_parity f.parity w;
      parity_error = is_parity_wrong f w;
    }
