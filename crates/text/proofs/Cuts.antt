-- What is cut off at the first byte that passes, and how many pass.
use Rattle.std.proofs.Common.{◌≡◌, ◌==◌, ℕ, suc, ◌+◌, ◌<◌, Bool, true, false, not, cond, eqb, ltb, List, [], ◌∷◌, length, take, drop, Some, None, unwrap_or, refl, ap, ◌∙◌, arith, add-one, ltb-false, ne_eqb}
use Rattle.std.specs.List.{position, position_or_len, onto_first}
use Rattle.std.proofs.lemmas.List.Sums.{prefix_len-le-length, sum_by-cons}
use Rattle.text.specs.Fields.{commas}
use Rattle.text.specs.Lines.{up_to, past, lines_of}

-- where the first one stands, or how long the list is
pub unwrap_position : (p : ℕ → Bool) (xs : List ℕ) → unwrap_or (position p xs) (length xs) ≡ position_or_len p xs
unwrap_position p xs =
    (elim (ltb (position_or_len p xs) (length xs)) as (λ v. ltb (position_or_len p xs) (length xs) ≡ v → unwrap_or (cond v (Some (position_or_len p xs)) None) (length xs) ≡ position_or_len p xs) [
      | true ↦ λ e. refl
      | false ↦ λ e. omega (arith, ltb-false (position_or_len p xs) (length xs) e, prefix_len-le-length (λ b. not (p b)) xs)
    ]) refl

one_add : (n : ℕ) → 1 + n ≡ suc n
one_add n = omega arith

pub comma_here : (bs : List ℕ) → commas (44 ∷ bs) ≡ suc (commas bs)
comma_here bs = sum_by-cons (λ b. cond (b == 44) 1 0) 44 bs ∙ one_add (commas bs)

pub comma_more : (b : ℕ) (bs : List ℕ) → (b ≡ 44 → ⊥) → commas (b ∷ bs) ≡ commas bs
comma_more b bs h =
    let none : ◌≡◌ {A = ℕ} (cond (b == 44) 1 0) 0 = rw (ne_eqb b 44 h) refl in
    omega (arith, sum_by-cons (λ x. cond (x == 44) 1 0) b bs, none)

-- at one more byte that is not `e`
pub up_to_more : (e b : ℕ) (bs : List ℕ) → (b ≡ e → ⊥) → up_to e (b ∷ bs) ≡ b ∷ up_to e bs
up_to_more e b bs h = rw (ne_eqb b e h, one_add) refl

pub past_more : (e b : ℕ) (bs : List ℕ) → (b ≡ e → ⊥) → past e (b ∷ bs) ≡ past e bs
past_more e b bs h = rw (ne_eqb b e h, one_add, add-one, add-one) refl

-- the first line, and the lines after it
pub lines_cons : (s : List ℕ) → 0 < length s → lines_of s ≡ up_to 10 s ∷ lines_of (past 10 s)
unfolding lines_of
lines_cons [] h = absurd (omega arith)
lines_cons (b ∷ []) h =
    elim (eqb b 10) as (λ v. cond v ([] ∷ []) ((b ∷ []) ∷ []) ≡ take (cond (not v) (1 + 0) 0) (b ∷ []) ∷ lines_of (drop (cond (not v) (1 + 0) 0 + 1) (b ∷ [])))
    [ true ↦ refl | false ↦ refl ]
lines_cons (b ∷ c ∷ cs) h =
    let ih = lines_cons (c ∷ cs) (omega arith) in
    let n = position_or_len (λ x. eqb x 10) (c ∷ cs) in
    let k : 1 + n + 1 ≡ suc (n + 1) = omega arith in
    elim (eqb b 10) as (λ v. cond v ([] ∷ lines_of (c ∷ cs)) (onto_first b (lines_of (c ∷ cs))) ≡ take (cond (not v) (1 + n) 0) (b ∷ c ∷ cs) ∷ lines_of (drop (cond (not v) (1 + n) 0 + 1) (b ∷ c ∷ cs))) [
      | true ↦ refl
      | false ↦ ap (onto_first b) ih ∙ rw (k, one_add n) refl
    ]

pub lines_none : lines_of [] ≡ []
unfolding lines_of
lines_none = refl
