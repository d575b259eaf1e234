-- Bits of words: words that agree in their bits, sums of fields, fields gathered from a table.
use Rattle.std.proofs.Common.{◌≡◌, ℕ, zero, suc, ◌+◌, ◌-◌, ◌*◌, ◌/◌, ◌%◌, ◌^◌, ◌<◌, ◌≤◌, false, ◌&&◌, eqb, List, [], ◌∷◌, length, get_or, sym, ap, ◌∙◌, min, mul_comm, add_comm, mul-zero, mul-suc, pow_pos, zero-add, arith}
use lib.Bits.{bit_and}
use Rattle.std.proofs.lemmas.Nat.{div-add-mod', mod_below, mul-add-lt, pow-add, shr-shr}
use Rattle.std.proofs.lemmas.Nat.Bits.{bit_at_above, bit_at_and, bit_at_cat_high, bit_at_cat_low, bit_at-lt, same_from_bits, same_from_bits_below}
use Rattle.std.proofs.lemmas.Bool.Decides.{nat_tests}
use Rattle.std.specs.Int.{bit_at as bit}
use Rattle.bits.specs.Words.{word_field, word_flag}
use Rattle.table.specs.Tables.{word_of}

-- a bit by its flag
bit_same : (x y : ℕ) → x < 2 → y < 2 → eqb x 1 ≡ eqb y 1 → x ≡ y
bit_same x y p q e = grind (arith, nat_tests)

bits_min : (x y : ℕ) → x < 2 → y < 2 → eqb (min x y) 1 ≡ (eqb x 1 && eqb y 1)
bits_min x y p q = grind (arith, nat_tests)

flag_same : (v w b : ℕ) → word_flag v b ≡ word_flag w b → bit v b ≡ bit w b
flag_same v w b e = bit_same (bit v b) (bit w b) (bit_at-lt v b) (bit_at-lt w b) e

-- words all of whose bits agree
pub word_same : (v w : ℕ) → ((b : ℕ) → word_flag v b ≡ word_flag w b) → v ≡ w
word_same v w h = same_from_bits v w (λ b. flag_same v w b (h b))

-- a field put above a word leaves the word's bits
pub flag_low : (x y n b : ℕ) → b < n → word_flag (x + y * 2 ^ n) b ≡ word_flag x b
flag_low x y n b l = ap (λ q. eqb q 1) (ap (λ q. bit q b) (add_comm x (y * 2 ^ n)) ∙ bit_at_cat_low y n x b l)

-- and its own bits stand above
pub flag_high : (x y n b : ℕ) → x < 2 ^ n → n ≤ b → word_flag (x + y * 2 ^ n) b ≡ word_flag y (b - n)
flag_high x y n b h l = ap (λ q. eqb q 1) (ap (λ q. bit q b) (add_comm x (y * 2 ^ n)) ∙ bit_at_cat_high y n x b h l)

-- a word has no bits above its bound
pub flag_above : (x n b : ℕ) → x < 2 ^ n → n ≤ b → word_flag x b ≡ false
flag_above x n b h l = ap (λ q. eqb q 1) (bit_at_above x n b h l)

-- fields whose bits agree
pub field_same : (v w k n : ℕ) → ((b : ℕ) → b < n → word_flag v (k + b) ≡ word_flag w (k + b)) → word_field v k n ≡ word_field w k n
field_same v w k n h = same_from_bits_below n (word_field v k n) (word_field w k n) (mod_below _ _ (pow_pos n)) (mod_below _ _ (pow_pos n))
    (λ b l. inside v b l ∙ flag_same v w (k + b) (h b l) ∙ sym (inside w b l))
  where
    inside : (x b : ℕ) → b < n → bit (word_field x k n) b ≡ bit x (k + b)
    inside x b l = sym (bit_at_cat_low (x / 2 ^ k / 2 ^ n) n (word_field x k n) b l)
        ∙ ap (λ q. bit q b) (div-add-mod' (x / 2 ^ k) (2 ^ n)) ∙ ap (λ q. q % 2) (shr-shr x k b)

-- a bit of two words at once
pub flag_and : (x y b : ℕ) → word_flag (bit_and x y) b ≡ (word_flag x b && word_flag y b)
flag_and x y b = ap (λ q. eqb q 1) (bit_at_and x y b) ∙ bits_min (bit x b) (bit y b) (bit_at-lt x b) (bit_at-lt y b)

-- the fields that a table gives: their word's bound, and each by its place
pub word_below : {A : Type 0} (w : ℕ) (f : A → ℕ) (xs : List A) → ((x : A) → f x < 2 ^ w) → word_of w f xs < 2 ^ (w * length xs)
word_below w f [] h = rw (mul-zero w) (omega arith)
word_below w f (x ∷ xs) h =
    let e : 2 ^ (w * suc (length xs)) ≡ 2 ^ (w * length xs) * 2 ^ w = ap (λ q. 2 ^ q) (mul-suc w (length xs)) ∙ pow-add 2 (w * length xs) w in
    omega (arith, mul-add-lt (word_of w f xs) (2 ^ w) (f x) (2 ^ (w * length xs)) (word_below w f xs h) (h x))

pub word_bit : {A : Type 0} (w : ℕ) (f : A → ℕ) (xs : List A) (d : A) (k r : ℕ) → ((x : A) → f x < 2 ^ w) → k < length xs → r < w
    → word_flag (word_of w f xs) (w * k + r) ≡ word_flag (f (get_or xs k d)) r
word_bit w f [] d k r h p q = absurd (omega arith)
word_bit w f (x ∷ xs) d zero r h p q = rw (mul-zero w, mul_comm (2 ^ w) (word_of w f xs)) (simp zero-add (flag_low (f x) (word_of w f xs) w r q))
word_bit w f (x ∷ xs) d (suc k) r h p q =
    let e : w * suc k + r ≡ w * k + r + w = omega (arith, mul-suc w k) in
    rw (e, mul_comm (2 ^ w) (word_of w f xs)) (flag_high (f x) (word_of w f xs) w (w * k + r + w) (h x) (omega arith))
    ∙ ap (word_flag (word_of w f xs)) (let g : w * k + r + w - w ≡ w * k + r = omega arith in g)
    ∙ word_bit w f xs d k r h (omega arith) q
