-- A field put above a word that ends below it.
use Rattle.std.proofs.Common.{◌≡◌, ℕ, ◌+◌, ◌*◌, ◌%◌, ◌^◌, ◌<◌, ◌≤◌, ap, ◌∙◌, add_comm, arith}
use lib.Bits.{bit_or}
use Rattle.std.proofs.lemmas.Nat.{shl_whole, or_shifted, or_comm, mul-add-lt, pow-add}

-- the word or the shifted field is their sum
pub put : (w v k n : ℕ) → k + n ≤ 32 → w < 2 ^ k → v < 2 ^ n → bit_or w (v * 2 ^ k % 2 ^ 32) ≡ w + v * 2 ^ k
put w v k n room below fits =
    ap (bit_or w) (shl_whole v n k 32 fits (omega arith)) ∙ (or_comm w (v * 2 ^ k) ∙ (or_shifted v k w below ∙ add_comm (v * 2 ^ k) w))

-- and ends below the place above the field
pub put_below : (w v k n : ℕ) → w < 2 ^ k → v < 2 ^ n → w + v * 2 ^ k < 2 ^ (k + n)
put_below w v k n below fits = omega (arith, mul-add-lt v (2 ^ k) w (2 ^ n) fits below, pow-add 2 k n)

-- a place higher, twice the bound
pub double : (k : ℕ) → 2 ^ (k + 1) ≡ 2 ^ k * 2
double k = pow-add 2 k 1
