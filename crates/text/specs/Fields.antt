-- The fields of a line, and the numbers that they write.
use Rattle.std.specs.Prelude.{ℕ, zero, suc, Bool, false, ◌+◌, ◌-◌, ◌*◌, cond, not, ◌&&◌, List, [], ◌∷◌, length, Some, None, Option, ◌==◌, nat_le, nat_lt, slice_index}
use Rattle.std.specs.List.{count_by}
use Rattle.text.specs.Lines.{up_to, past}

-- how many bytes are a comma, 44
abbrev pub commas : List ℕ → ℕ
commas l = count_by (λ b. b == 44) l

-- the fields of a line are what stands between commas, and count from 0
abbrev pub field : ℕ → List ℕ → List ℕ
field zero l = up_to 44 l
field (suc n) l = field n (past 44 l)

-- the letter of a field of one byte
abbrev pub letter : List ℕ → Option ℕ
letter [] = None
letter (b ∷ []) = Some b
letter (b ∷ c ∷ bs) = None

-- this letter, where there is one
abbrev pub is_letter : ℕ → Option ℕ → Bool
is_letter b None = false
is_letter b (Some c) = c == b

-- the value of one of 0 to 9 and A to F
abbrev pub digit_of : ℕ → Option ℕ
digit_of b =
    cond (nat_le 48 b && nat_le b 57) (Some (b - 48)) (cond (nat_le 65 b && nat_le b 70) (Some (b - 55)) None)

-- what follows from a digit, where it is one of the base
abbrev pub with_digit : ℕ → (ℕ → Option ℕ) → Option ℕ → Option ℕ
with_digit base go None = None
with_digit base go (Some d) = cond (nat_lt d base) (go d) None

-- the number that digits give, after those that gave v
abbrev pub number_from : ℕ → ℕ → List ℕ → Option ℕ
number_from base v [] = Some v
number_from base v (b ∷ bs) = with_digit base (λ d. number_from base (v * base + d) bs) (digit_of b)

-- exactly w hexadecimal digits
abbrev pub hex_field : ℕ → List ℕ → Option ℕ
hex_field w f = cond (length f == w) (number_from 16 0 f) None

-- a number that is not above n
abbrev pub at_most : ℕ → Option ℕ → Option ℕ
at_most n None = None
at_most n (Some v) = cond (nat_le v n) (Some v) None

-- 1 to 100,000 with no leading zero, so of one to six digits
abbrev pub count_field : List ℕ → Option ℕ
count_field f =
    cond (nat_le 1 (length f) && (nat_le (length f) 6 && not (slice_index f 0 == 48))) (at_most 100000 (number_from 10 0 f)) None
