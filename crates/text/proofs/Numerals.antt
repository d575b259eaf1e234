-- Steps of `number_from`, and its bound.
use Rattle.std.proofs.Common.{◌≡◌, ℕ, ◌+◌, ◌*◌, ◌^◌, ◌<◌, ◌≤◌, List, length, get_or, drop, Some, refl, ap, ◌∙◌, mul-le-mul_left, pow-suc, add-one, arith, lt-ltb}
use native.Mathlib.Nat.{pow-le-pow_right}
use Rattle.std.proofs.lemmas.List.{at_drop_more}
use Rattle.text.specs.Fields.{digit_of, number_from}

pub one_digit : (base v : ℕ) (s : List ℕ) (i : ℕ) → i < length s → (d : ℕ) → Some d ≡ digit_of (get_or s i 0) → d < base
    → number_from base v (drop i s) ≡ number_from base (v * base + d) (drop (i + 1) s)
one_digit base v s i h d e lt =
    at_drop_more (number_from base v) s i 0 h ∙ rw (← e, lt-ltb d base lt) refl

pub digit_bound : (v base d i : ℕ) → v < 16 ^ i → base ≤ 16 → d < base → v * base + d < 16 ^ (i + 1)
digit_bound v base d i hv hb hd =
    omega (arith, mul-le-mul_left v hb, pow-suc 16 i, ap (λ k. 16 ^ k) (add-one i))

pub digit_fits : (x i : ℕ) → x < 16 ^ (i + 1) → i < 8 → x < 2 ^ 32
digit_fits x i hx hi =
    let p : 16 ^ (i + 1) ≤ 16 ^ 8 = pow-le-pow_right {n = 16} (omega arith) {i = i + 1} {j = 8} (omega arith) in omega arith
