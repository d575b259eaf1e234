-- The bounds of the masks of a frame word.
use Rattle.std.proofs.Common.{ℕ, ◌+◌, ◌-◌, ◌*◌, ◌%◌, ◌^◌, ◌<◌, ◌≤◌, arith, pow_mono, shl_exact}
use Rattle.std.proofs.lemmas.Nat.{shl_below, one_shl, pow_pos}

-- the bound of a part shifted by at most seven places
pub shifted_below : (w z : ℕ) → w < 2 ^ 32 → z ≤ 7 → w * 2 ^ z < 2 ^ 39
shifted_below w z h l =
    let p : 2 ^ (32 + z) ≤ 2 ^ 39 = pow_mono {i = 32 + z} {j = 39} (omega arith) in
    omega (arith, shl_below w 32 z h)

-- the masks of data bits, and of data and extra bits, end below the parity bit's sum
pub data_below : (d z : ℕ) → d ≤ 32 → z ≤ 7 → (1 * 2 ^ d % 2 ^ 64 - 1) * 2 ^ z % 2 ^ 64 < 2 ^ 39
data_below d z l k =
    let p : 2 ^ d ≤ 2 ^ 32 = pow_mono {i = d} {j = 32} l in
    let q : 1 * 2 ^ d % 2 ^ 64 - 1 < 2 ^ 32 = omega (arith, one_shl d 64 (omega arith), pow_pos d) in
    omega (arith, shl_exact 32 z 64 q (omega arith), shifted_below _ z q k)

pub all_below : (d z : ℕ) → d ≤ 32 → z ≤ 7 → 1 * 2 ^ (d + z) % 2 ^ 64 - 1 < 2 ^ 39
all_below d z l k =
    let p : 2 ^ (d + z) ≤ 2 ^ 39 = pow_mono {i = d + z} {j = 39} (omega arith) in
    omega (arith, one_shl (d + z) 64 (omega arith), pow_pos (d + z))
