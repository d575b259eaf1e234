-- An accepted control word is read back as it was written.
use Rattle.std.proofs.Common.{◌≡◌, ℕ, ◌*◌, ◌%◌, ◌^◌, ◌<◌, cond, eqb, Some, None, Ok, Option, refl, subst, sym, arith}
use Rattle.std.proofs.lemmas.Bool.Decides.{nat_tests}
use Rattle.bits.specs.Words.{word_field}
use Rattle.counter_control.specs.declared.modes.IndexMode.{IndexMode}
use Rattle.counter_control.specs.declared.control.Control.{Control}
use Rattle.counter_control.specs.Modes.{clock_at, clock_code, index_at, index_code, input_at, input_code, special_at, special_code}
use Rattle.counter_control.specs.Words.{Kept, control_of, word_of_control, decoded, decoded_with}

-- the mode of a number has that number
input_code_lem : (n : ℕ) → n < 8 → input_code (input_at n) ≡ n
input_code_lem n h = grind (arith, nat_tests)

clock_code_lem : (n : ℕ) → n < 8 → clock_code (clock_at n) ≡ n
clock_code_lem n h = grind (arith, nat_tests)

special_code_lem : (n : ℕ) → n < 4 → special_code (special_at n) ≡ n
special_code_lem n h = grind (arith, nat_tests)

index_code_lem : (n : ℕ) (m : IndexMode) → index_at n ≡ Some m → n ≡ index_code m
index_code_lem n m e = grind (arith, nat_tests)

-- a bit is worth its place's number
bit_worth : (n p : ℕ) → n < 2 → cond (eqb n 1) p 0 ≡ n * p
bit_worth n p h = grind (arith, nat_tests)

-- the fields make up the lowest 14 bits
word_kept : (m : IndexMode) (w : ℕ) → word_field w 8 3 ≡ index_code m → word_of_control (control_of m w) ≡ w % 2 ^ 14
unfolding word_of_control
word_kept m w e = omega (arith, input_code_lem, clock_code_lem, special_code_lem, bit_worth)

index_kept : (o : Option IndexMode) (w : ℕ) → index_at (word_field w 8 3) ≡ o → Kept w (decoded_with o w)
index_kept (Some m) w e = word_kept m w (index_code_lem (word_field w 8 3) m e)
index_kept None w e = tt

pub kept : (w : ℕ) → Kept w (decoded w)
unfolding decoded
kept w = index_kept (index_at (word_field w 8 3)) w refl

pub kept_at : (w : ℕ) (k : Control) → Ok k ≡ decoded w → word_of_control k ≡ w % 2 ^ 14
kept_at w k e = subst (Kept w) (sym e) (kept w)
