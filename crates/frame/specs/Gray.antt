-- Gray code, in which neighbouring numbers differ in one bit.
use Rattle.std.specs.Prelude.{◌≡◌, ℕ, zero, suc, ◌/◌, ◌^◌, ◌<◌, bit_xor}

-- the Gray word of a number: each bit against the bit above it
abbrev pub gray_word : ℕ → ℕ
gray_word p = bit_xor p (p / 2)

-- the number of a Gray word of n bits: the word against all its right shifts
unfoldable pub ungray : ℕ → ℕ → ℕ
ungray zero w = 0
ungray (suc n) w = bit_xor w (ungray n (w / 2))

-- Gray words and numbers of n bits turn into one another and back
pub record GrayTurnsBack : Type 0 where
  pub number : (n p : ℕ) → p < 2 ^ n → ungray n (gray_word p) ≡ p
  pub word : (n w : ℕ) → w < 2 ^ n → gray_word (ungray n w) ≡ w

-- 9 is 1101 in Gray code
abbrev pub GrayOfNine : Type 0
GrayOfNine = gray_word 9 ≡ 13
