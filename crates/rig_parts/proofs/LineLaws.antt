-- The bits of the composed lines.
use Rattle.std.proofs.Common.{◌≡◌, ℕ, zero, suc, ◌+◌, ◌-◌, ◌*◌, ◌/◌, ◌%◌, ◌^◌, ◌<◌, ◌≤◌, Bool, true, false, ◌⊎◌, Some, None, Option, unwrap_or, refl, ap, ◌∙◌, subst, inl, inr, one-mul, add-one, arith, pow-add}
use native.Mathlib.Nat.{div-eq_of_lt}
use lib.Bits.{bit_or, bit_xor, or_shr, or_mod, or_lt, xor_lt, xor_shr, xor_mod}
use lib.Pow.{pow-lt, shl-shr}
use Rattle.std.proofs.lemmas.Bool.{cases_order}
use Rattle.field.specs.Wiring.{FieldModel, level_at}
use Rattle.bits.specs.Words.{word_flag}
use Rattle.rig_parts.specs.Lines.{with_bit, with_level, composed, in1, LinesCarryLevels}

or_bit : (a b j : ℕ) → bit_or a b / 2 ^ j % 2 ≡ bit_or (a / 2 ^ j % 2) (b / 2 ^ j % 2)
or_bit a b j = ap (λ x. x % 2) (or_shr a b j) ∙ or_mod (a / 2 ^ j) (b / 2 ^ j) 1

xor_bit : (a b j : ℕ) → bit_xor a b / 2 ^ j % 2 ≡ bit_xor (a / 2 ^ j % 2) (b / 2 ^ j % 2)
xor_bit a b j = ap (λ x. x % 2) (xor_shr a b j) ∙ xor_mod (a / 2 ^ j) (b / 2 ^ j) 1

pow_bit_same : (k : ℕ) → 2 ^ k / 2 ^ k % 2 ≡ 1
pow_bit_same k = let e : 2 ^ k / 2 ^ k ≡ 1 = subst (λ x. x / 2 ^ k ≡ 1) (one-mul (2 ^ k)) (shl-shr 1 k) in rw e

pow_bit_other : (k j : ℕ) → (j ≡ k → ⊥) → 2 ^ k / 2 ^ j % 2 ≡ 0
pow_bit_other k j ne = at (cases_order j k)
  where
    at : (j ≡ k) ⊎ ((j < k) ⊎ (k < j)) → 2 ^ k / 2 ^ j % 2 ≡ 0
    at (inl e) = absurd (ne e)
    at (inr (inl l)) =
        let n = k - (j + 1) in
        let e : 2 ^ k ≡ 2 ^ n * 2 * 2 ^ j = ap (λ x. 2 ^ x) (split) ∙ pow-add 2 (n + 1) j ∙ ap (λ x. x * 2 ^ j) (pow-add 2 n 1) in
        rw e (rw (shl-shr (2 ^ n * 2) j) (omega arith))
      where
        split : k ≡ (k - (j + 1) + 1) + j
        split = omega arith
    at (inr (inr l)) = rw (div-eq_of_lt (pow-lt {i = k} {j = j} l))

bit_two : (x : ℕ) → x < 2 → (x ≡ 0) ⊎ (x ≡ 1)
bit_two x h = grind arith

low_bit : (w j : ℕ) → w / 2 ^ j % 2 < 2
low_bit w j = omega arith

-- with a bit that is 0 nothing changes, with one that is 1 the or is 1
or_none : (x : ℕ) → x < 2 → bit_or x 0 ≡ x
or_none x h = at (bit_two x h)
  where
    at : (x ≡ 0) ⊎ (x ≡ 1) → bit_or x 0 ≡ x
    at (inl e) = rw e
    at (inr e) = rw e

or_one : (x : ℕ) → x < 2 → bit_or x 1 ≡ 1
or_one x h = at (bit_two x h)
  where
    at : (x ≡ 0) ⊎ (x ≡ 1) → bit_or x 1 ≡ 1
    at (inl e) = rw e
    at (inr e) = rw e

or_with : (w k j : ℕ) → (j ≡ k → ⊥) → bit_or w (2 ^ k) / 2 ^ j % 2 ≡ w / 2 ^ j % 2
or_with w k j ne = or_bit w (2 ^ k) j ∙ ap (bit_or (w / 2 ^ j % 2)) (pow_bit_other k j ne) ∙ or_none (w / 2 ^ j % 2) (low_bit w j)

or_at : (w k : ℕ) → bit_or w (2 ^ k) / 2 ^ k % 2 ≡ 1
or_at w k = or_bit w (2 ^ k) k ∙ ap (bit_or (w / 2 ^ k % 2)) (pow_bit_same k) ∙ or_one (w / 2 ^ k % 2) (low_bit w k)

xor_none : (x : ℕ) → x < 2 → bit_xor x 0 ≡ x
xor_none x h = at (bit_two x h)
  where
    at : (x ≡ 0) ⊎ (x ≡ 1) → bit_xor x 0 ≡ x
    at (inl e) = rw e
    at (inr e) = rw e

pub put_same : (w k : ℕ) (b : Bool) → word_flag (with_bit w k b) k ≡ b
put_same w k true = rw (or_at w k)
put_same w k false =
    let e : bit_xor (bit_or w (2 ^ k)) (2 ^ k) / 2 ^ k % 2 ≡ 0 = xor_bit (bit_or w (2 ^ k)) (2 ^ k) k ∙ ap (λ x. bit_xor x (2 ^ k / 2 ^ k % 2)) (or_at w k) ∙ ap (bit_xor 1) (pow_bit_same k) in rw e

pub put_other : (w k j : ℕ) (b : Bool) → (j ≡ k → ⊥) → word_flag (with_bit w k b) j ≡ word_flag w j
put_other w k j true ne = rw (or_with w k j ne)
put_other w k j false ne =
    let e : bit_xor (bit_or w (2 ^ k)) (2 ^ k) / 2 ^ j % 2 ≡ w / 2 ^ j % 2 = xor_bit (bit_or w (2 ^ k)) (2 ^ k) j ∙ ap (bit_xor (bit_or w (2 ^ k) / 2 ^ j % 2)) (pow_bit_other k j ne) ∙ xor_none _ (low_bit (bit_or w (2 ^ k)) j) ∙ or_with w k j ne in rw e

level_same : (w k : ℕ) (o : Option Bool) → word_flag (with_level w k o) (in1 k) ≡ unwrap_or o (word_flag w (in1 k))
level_same w k None = refl
level_same w k (Some b) = put_same w (in1 k) b

level_other : (w k j : ℕ) (o : Option Bool) → (j ≡ in1 k → ⊥) → word_flag (with_level w k o) j ≡ word_flag w j
level_other w k j None ne = refl
level_other w k j (Some b) ne = put_other w (in1 k) j b ne

-- the bits that no channel below n has as its IN1
pub composed_other : (f : FieldModel) (n w j : ℕ) → ((k : ℕ) → k < n → j ≡ in1 k → ⊥) → word_flag (composed f n w) j ≡ word_flag w j
unfolding composed
composed_other f zero w j ne = refl
composed_other f (suc n) w j ne = level_other (composed f n w) n j (level_at f n) (ne n (omega arith)) ∙ composed_other f n w j (λ k h. ne k (omega arith))

pub composed_in1 : (f : FieldModel) (n w k : ℕ) → k < n → word_flag (composed f n w) (in1 k) ≡ unwrap_or (level_at f k) (word_flag w (in1 k))
unfolding composed
composed_in1 f zero w k h = absurd (omega arith)
composed_in1 f (suc n) w k h = at (λ l. composed_in1 f n w k l) (cases_order k n)
  where
    at : (k < n → word_flag (composed f n w) (in1 k) ≡ unwrap_or (level_at f k) (word_flag w (in1 k))) → (k ≡ n) ⊎ ((k < n) ⊎ (n < k)) → word_flag (with_level (composed f n w) n (level_at f n)) (in1 k) ≡ unwrap_or (level_at f k) (word_flag w (in1 k))
    at below (inl e) = rw e (level_same (composed f n w) n (level_at f n) ∙ ap (unwrap_or (level_at f n)) (composed_other f n w (in1 n) (λ i l q. omega arith)))
    at below (inr (inl l)) = level_other (composed f n w) n (in1 k) (level_at f n) (λ q. omega arith) ∙ below l
    at below (inr (inr l)) = absurd (omega arith)

pub lines_carry : LinesCarryLevels
lines_carry f w = record { sensors = λ k h. composed_in1 f 8 w k h; others = λ j ne. composed_other f 8 w j ne }

pub composed_none : (f : FieldModel) (w : ℕ) → w ≡ composed f 0 w
unfolding composed
composed_none f w = refl

-- one channel more
pub composed_more : (f : FieldModel) (n w a r : ℕ) (o : Option Bool) → a ≡ composed f n w → o ≡ level_at f n → r ≡ with_level a n o → r ≡ composed f (n + 1) w
unfolding composed
composed_more f n w a r o ea eo er = rw add-one (er ∙ ap (λ x. with_level x n o) ea ∙ ap (with_level (composed f n w) n) eo)

put_below : (w k : ℕ) (b : Bool) → w < 2 ^ 32 → k < 32 → with_bit w k b < 2 ^ 32
put_below w k true h l = or_lt 32 w (2 ^ k) h (pow-lt {i = k} {j = 32} l)
put_below w k false h l = xor_lt 32 (bit_or w (2 ^ k)) (2 ^ k) (or_lt 32 w (2 ^ k) h (pow-lt {i = k} {j = 32} l)) (pow-lt {i = k} {j = 32} l)

level_below : (w k : ℕ) (o : Option Bool) → w < 2 ^ 32 → k < 8 → with_level w k o < 2 ^ 32
level_below w k None h l = h
level_below w k (Some b) h l = put_below w (in1 k) b h (omega arith)

-- the composed lines are a word of 32 bits as well
pub composed_below : (f : FieldModel) (n w : ℕ) → n ≤ 8 → w < 2 ^ 32 → composed f n w < 2 ^ 32
unfolding composed
composed_below f zero w l h = h
composed_below f (suc n) w l h = level_below (composed f n w) n (level_at f n) (composed_below f n w (omega arith) h) (omega arith)
