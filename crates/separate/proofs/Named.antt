-- Which bits are named for others: a channel's own fields are not, and neither is what lies outside the fields.
use Rattle.std.proofs.Common.{◌≡◌, ℕ, ◌+◌, ◌-◌, ◌*◌, ◌/◌, ◌<◌, ◌≤◌, false, arith}
use Rattle.std.proofs.lemmas.Bool.Decides.{nat_tests}
use Rattle.separate.specs.Separation.{others_in}

-- a bit in k's own field
pub own_bit : (k f w b : ℕ) → (b - f) / w ≡ k → others_in k f w b ≡ false
own_bit k f w b e = grind (arith, nat_tests)

-- a bit below the fields, and one above them
pub below_fields : (k f w b : ℕ) → b < f → others_in k f w b ≡ false
below_fields k f w b h = grind (arith, nat_tests)

pub above_fields : (k f w b : ℕ) → f + 8 * w ≤ b → others_in k f w b ≡ false
above_fields k f w b h = grind (arith, nat_tests)

-- a bit in the fields that is not another's is in k's
pub in_own : (k f w b : ℕ) → others_in k f w b ≡ false → f ≤ b → b < f + 8 * w → (b - f) / w ≡ k
in_own k f w b e l h = grind (arith, nat_tests)
