-- The total one step on, and after a load.
use Rattle.std.proofs.Common.{◌≡◌, ℕ, ◌+◌, ◌-◌, ◌%◌, ◌^◌, ◌<◌, true, false, ℤ, pos, negsuc, ◌+ℤ◌, sym, ap, ◌∙◌, arith}
use lib.IntN.{+ℤ_assoc, +ℤ_idr, +ℤ_one, -ℤ_one, suc_ℤ, pred_ℤ}
use Rattle.counter_count.specs.Counts.{next_value}
use Rattle.tally.specs.Tally.{modulo}

modulo_up : (z : ℤ) → modulo (suc_ℤ z) ≡ (modulo z + 1) % 2 ^ 32
modulo_up z = grind arith

modulo_down : (z : ℤ) → modulo (pred_ℤ z) ≡ (modulo z + (2 ^ 32 - 1)) % 2 ^ 32
modulo_down z = grind arith

module _ (load : ℕ) (sum : ℤ) where
  pub total_up : modulo (pos load +ℤ (sum +ℤ pos 1)) ≡ next_value true (modulo (pos load +ℤ sum))
  total_up = ap modulo (sym (+ℤ_assoc (pos load) sum (pos 1)) ∙ +ℤ_one (pos load +ℤ sum)) ∙ modulo_up (pos load +ℤ sum)

  pub total_down : modulo (pos load +ℤ (sum +ℤ negsuc 0)) ≡ next_value false (modulo (pos load +ℤ sum))
  total_down = ap modulo (sym (+ℤ_assoc (pos load) sum (negsuc 0)) ∙ -ℤ_one (pos load +ℤ sum)) ∙ modulo_down (pos load +ℤ sum)

  pub total_same : modulo (pos load +ℤ (sum +ℤ pos 0)) ≡ modulo (pos load +ℤ sum)
  total_same = ap (λ z. modulo (pos load +ℤ z)) (+ℤ_idr sum)

pub total_load : (v : ℕ) → v < 2 ^ 32 → modulo (pos v +ℤ pos 0) ≡ v
total_load v h = omega arith
