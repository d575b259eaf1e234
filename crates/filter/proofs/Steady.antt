-- A sample of a line that has stood still alters nothing.
use Rattle.std.proofs.Common.{◌≡◌, ℕ, Bool, true, false, sym, refl, arith}
use Rattle.filter.specs.declared.samples.Samples.{Samples}
use Rattle.filter.specs.Filters.{line_filtered, steady_at, taken}

abbrev made : Bool → Bool → Bool → Samples
made a b l = record { last = a; before = b; level = l }

steady_made : (x a b l : Bool) → steady_at x (made a b l) ≡ true → taken x (made a b l) ≡ made a b l
steady_made true true true true e = refl
steady_made true true true false e = let z : ◌≡◌ {A = ℕ} 0 1 = cc in absurd (omega arith)
steady_made true true false l e = let z : ◌≡◌ {A = ℕ} 0 1 = cc in absurd (omega arith)
steady_made true false b l e = let z : ◌≡◌ {A = ℕ} 0 1 = cc in absurd (omega arith)
steady_made false false false false e = refl
steady_made false false false true e = let z : ◌≡◌ {A = ℕ} 0 1 = cc in absurd (omega arith)
steady_made false false true l e = let z : ◌≡◌ {A = ℕ} 0 1 = cc in absurd (omega arith)
steady_made false true b l e = let z : ◌≡◌ {A = ℕ} 0 1 = cc in absurd (omega arith)

pub steady_filtered : (due x : Bool) (s : Samples) → steady_at x s ≡ true → s ≡ line_filtered due x s
steady_filtered false x s e = refl
steady_filtered true x s e = sym (steady_made x s.last s.before s.level e)
