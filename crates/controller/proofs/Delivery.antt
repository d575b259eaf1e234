-- A frame on the line is completed with its position.
use Rattle.std.proofs.Common.{◌≡◌, ℕ, ◌+◌, ◌-◌, ◌*◌, ◌^◌, ◌<◌, ◌≤◌, Bool, true, not, ◌||◌, eqb, refl, ap, ◌∙◌, subst, arith}
use Rattle.std.proofs.lemmas.Nat.Bits.{same_from_bits_below}
use Rattle.std.proofs.lemmas.Bool.{eq-eqb}
use Rattle.std.proofs.lemmas.Bool.Decides.{nat_tests}
use Rattle.bits.specs.Words.{word_flag}
use Rattle.frame.specs.Layout.{frame_bits, word_of_frame, reading_of}
use Rattle.frame.proofs.Read.{frame_fits, reads_back}
use Rattle.controller.specs.Timing.{phase_before, last_rise, taken_in, Sampled, Delivers}
use Rattle.controller.proofs.Timing.{takes_bits, completes}

-- equal bits, as numbers
same_bit : (a b : ℕ) → a < 2 → b < 2 → eqb a 1 ≡ eqb b 1 → a ≡ b
same_bit a b p q e = grind (arith, nat_tests)

-- a word whose bits were on the line is the word that was taken
pub sampled_is : (n H : ℕ) (line : ℕ → Bool) (w v : ℕ) → Sampled n H line w → v < 2 ^ n →
    ((i : ℕ) → 1 ≤ i → i ≤ n → line (2 * (i * H)) ≡ word_flag v (n - i)) → w ≡ v
sampled_is n H line w v s below on =
    same_from_bits_below n w v s.below below (λ k l.
    let back : n - (n - k) ≡ k = omega arith in
    let same : word_flag w (n - (n - k)) ≡ word_flag v (n - (n - k)) = s.bits (n - k) (omega arith) (omega arith) ∙ on (n - k) (omega arith) (omega arith) in
    same_bit _ _ (omega arith) (omega arith) (subst (λ m. word_flag w m ≡ word_flag v m) back same))

pub delivers : Delivers
delivers f H line p x h c on =
    let τ = last_rise f H + 500 in
    let bad = not (line 0) || line τ in
    let taken : taken_in (phase_before f H line τ) ≡ word_of_frame f p x = sampled_is (frame_bits f) H line _ _ (takes_bits f H line h) (frame_fits f p x c) on in
    let due : eqb τ τ ≡ true = eq-eqb τ τ refl in
    let position : (reading_of f (taken_in (phase_before f H line τ))).number ≡ p = ap (λ w. (reading_of f w).number) taken ∙ (reads_back f p x c).number in
    rw (completes f H line τ h, due, position)
