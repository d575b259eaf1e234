-- What is sent is read back.
use Rattle.std.specs.Prelude.{◌≡◌, ℕ, ◌^◌, ◌<◌, ◌≤◌, false, ◌==◌}
use Rattle.frame.specs.Layout.{body_of, frame_bits, word_of_frame, reading_of, sent_parity}
use Rattle.frame.specs.declared.format.Format.{Format}
use Rattle.frame.specs.declared.reader.Reading.{Reading}

-- a format in range, and a position and extra bits that it can carry
pub record Carries (f : Format) (p x : ℕ) : Type 0 where
  pub wide : f.data_bits ≤ 32
  pub spare : f.extra_bits ≤ 7
  pub position : p < 2 ^ f.data_bits
  pub extra : x < 2 ^ f.extra_bits

-- the position p and the extra bits x were read, with the parity bit that was sent and no parity error
pub record ReadAs (f : Format) (p x : ℕ) (r : Reading) : Type 0 where
  pub number : r.number ≡ p
  pub extra : r.extra ≡ x
  pub bit : r.parity_bit ≡ (sent_parity f (body_of f p x) == 1)
  pub agrees : r.parity_error ≡ false

-- a frame word has no more than the frame's bits
abbrev pub FrameFits : Type 0
FrameFits = (f : Format) (p x : ℕ) → Carries f p x → word_of_frame f p x < 2 ^ frame_bits f

-- a frame that is sent is read back
abbrev pub ReadsBack : Type 0
ReadsBack = (f : Format) (p x : ℕ) → Carries f p x → ReadAs f p x (reading_of f (word_of_frame f p x))
