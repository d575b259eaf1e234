-- Loops over a table: one record more changed, one field more gathered.
use Rattle.std.proofs.Common.{◌≡◌, ℕ, zero, suc, ◌+◌, ◌*◌, ◌^◌, ◌<◌, ◌≤◌, List, [], ◌∷◌, length, get_or, take, set, sym, refl, ap, ◌∙◌, subst, mul_assoc, mul_comm, mul-zero, mul-one, mul-suc, mul-add, add-one, arith}
use Rattle.std.proofs.lemmas.Nat.{pow-add, mul-le}
use Rattle.table.specs.Tables.{changed, word_of}

changed_suc : {A : Type 0} (f : ℕ → A → A) (k n j : ℕ) (xs : List A) (d : A) → k + n ≡ j
    → set (changed f k n xs) n (f j (get_or (changed f k n xs) n d)) ≡ changed f k (suc n) xs
changed_suc f k zero j [] d e = refl
changed_suc f k (suc n) j [] d e = refl
changed_suc f k zero j (x ∷ xs) d e = let g : k ≡ j = omega arith in cc
changed_suc f k (suc n) j (x ∷ xs) d e =
    ap (λ t. f k x ∷ t) (changed_suc f (suc k) n j xs d (omega arith))

-- one record more
pub changed_more : {A : Type 0} (f : ℕ → A → A) (E xs : List A) (k : ℕ) (d y : A)
    → xs ≡ changed f 0 k E → y ≡ f k (get_or xs k d) → set xs k y ≡ changed f 0 (k + 1) E
changed_more f E xs k d y e g =
    let s = changed_suc f 0 k k E d (omega arith) in
    let a = add-one k in
    cc

-- a record of a table whose first n records are changed
pub get_d_changed : {A : Type 0} (f : ℕ → A → A) (k n i j : ℕ) (xs : List A) (d : A) → i < n → i < length xs → k + i ≡ j
    → get_or (changed f k n xs) i d ≡ f j (get_or xs i d)
get_d_changed f k zero i j xs d h l e = absurd (omega arith)
get_d_changed f k (suc n) i j [] d h l e = absurd (omega arith)
get_d_changed f k (suc n) zero j (x ∷ xs) d h l e = let g : k ≡ j = omega arith in cc
get_d_changed f k (suc n) (suc i) j (x ∷ xs) d h l e =
    get_d_changed f (suc k) n i j xs d (omega arith) (omega arith) (omega arith)

pub length_changed : {A : Type 0} (f : ℕ → A → A) (k n : ℕ) (xs : List A) → length (changed f k n xs) ≡ length xs
length_changed f k zero xs = refl
length_changed f k (suc n) [] = refl
length_changed f k (suc n) (x ∷ xs) = ap suc (length_changed f (suc k) n xs)

spread : (b a g p : ℕ) → b * (a + g * p) ≡ b * a + g * (p * b)
spread b a g p = mul-add b a (g * p) ∙ ap (λ t. b * a + t) (mul_comm b (g * p) ∙ mul_assoc g p b)

power_more : (w k : ℕ) → 2 ^ (w * suc k) ≡ 2 ^ (w * k) * 2 ^ w
power_more w k = ap (λ n. 2 ^ n) (mul-suc w k) ∙ pow-add 2 (w * k) w

-- the fields of the first k records and of the next
word_of_suc : {A : Type 0} (w : ℕ) (f : A → ℕ) (xs : List A) (k : ℕ) (d : A) → k < length xs
    → word_of w f (take (suc k) xs) ≡ word_of w f (take k xs) + f (get_or xs k d) * 2 ^ (w * k)
word_of_suc w f [] k d h = absurd (omega arith)
word_of_suc w f (x ∷ xs) zero d h = rw (mul-zero w) (omega arith)
word_of_suc w f (x ∷ xs) (suc k) d h =
    let i = ap (λ n. 2 ^ w * n) (word_of_suc w f xs k d (omega arith)) ∙ spread (2 ^ w) (word_of w f (take k xs)) (f (get_or xs k d)) (2 ^ (w * k)) in
    let p = ap (λ n. f (get_or xs k d) * n) (power_more w k) in
    omega arith

-- one field more, and where the word then ends
pub gathered_more : {A : Type 0} (w : ℕ) (f : A → ℕ) (xs : List A) (k : ℕ) (d : A) (u word v r : ℕ) → u ≡ w → k < length xs
    → word ≡ word_of w f (take k xs) → v ≡ f (get_or xs k d) → r ≡ word + v * 2 ^ (u * k) → r < 2 ^ (u * k + u)
    → (r ≡ word_of w f (take (k + 1) xs)) × (r < 2 ^ (w * (k + 1)))
gathered_more w f xs k d u word v r e h a b q l =
    let s = word_of_suc w f xs k d h in
    let n = add-one k in
    let t : w * (k + 1) ≡ w * k + w = mul-add w k 1 ∙ ap (λ x. w * k + x) (mul-one w) in
    let m : r ≡ word_of w f (take k xs) + f (get_or xs k d) * 2 ^ (w * k) = rw (← a, ← b, ← e) q in
    let P : ℕ → Type 0 = λ x. r < 2 ^ x in
    let g : r < 2 ^ (w * k + w) = rw e at l in
    (m ∙ (sym s ∙ ap (λ x. word_of w f (take x xs)) (sym n)), subst P (sym t) g)

-- eight fields of at most three bits fit a word
pub gathered_room : (u k : ℕ) → u ≤ 3 → k < 8 → u * k + u ≤ 32
gathered_room u k h l = omega (arith, mul-le u k 3 7 h (omega arith))

pub gathered_below : (u k : ℕ) → u ≤ 3 → k < 8 → u * k < 32
gathered_below u k h l = omega (arith, mul-le u k 3 7 h (omega arith))
