-- Where a transmission stands after tick s + τ, and that every tick leads on.
use Rattle.std.proofs.Common.{◌≡◌, ℕ, zero, suc, ◌+◌, ◌-◌, ◌*◌, ◌/◌, ◌%◌, ◌^◌, ◌<◌, ◌≤◌, Bool, true, false, cond, not, eqb, ◌⊎◌, sym, refl, ap, ◌∙◌, subst, ap₂, inl, inr, mod-eq_of_lt, pow-suc, arith, pow_mono}
use Rattle.std.proofs.lemmas.Bool.{cases_eq}
use Rattle.std.proofs.lemmas.Bool.Decides.{nat_tests}
use Rattle.std.proofs.lemmas.Nat.Bits.{bit_at-suc}
use Rattle.bits.specs.Words.{word_flag}
use Rattle.frame.specs.Layout.{frame_bits}
use Rattle.frame.specs.declared.format.Format.{Format}
use Rattle.controller.specs.Phase.{pushed, phase_ticked}
use Rattle.controller.specs.Registers.{started}
use Rattle.controller.specs.Timing.{phase_before, last_rise, Sampled}
use Rattle.controller.specs.declared.phase.Phase.{Phase}
use Rattle.controller.specs.declared.phase.Phase.TheVariants.{Waiting, Clocking, Recovering}
use Rattle.controller.proofs.Steps.{transmission, bits_most, waits, falls_first, falls, rises, rises_last, ends, recovers, recovered, idles}

abbrev pub bit : Bool → ℕ
bit x = cond x 1 0

-- the word of the first r bits
abbrev pub collected : ℕ → (ℕ → Bool) → ℕ → ℕ
collected H line zero = 0
collected H line (suc r) = collected H line r * 2 + bit (line (2 * (suc r * H)))

bit_most : (x : Bool) → bit x ≤ 1
bit_most x = grind (arith, nat_tests)

pub collected_below : (H : ℕ) (line : ℕ → Bool) (r : ℕ) → collected H line r < 2 ^ r
collected_below H line zero = omega arith
collected_below H line (suc r) = omega (arith, collected_below H line r, pow-suc 2 r, bit_most (line (2 * (suc r * H))))

-- the lowest bit of a word that a bit was put to
low_bit : (w : ℕ) (x : Bool) → word_flag (w * 2 + bit x) 0 ≡ x
low_bit w x = grind (arith, nat_tests)

-- and a bit above it
high_bit : (w k : ℕ) (x : Bool) → word_flag (w * 2 + bit x) (suc k) ≡ word_flag w k
high_bit w k x =
    let half : (w * 2 + bit x) / 2 ≡ w = omega (arith, bit_most x) in
    ap (λ n. eqb n 1) (bit_at-suc (w * 2 + bit x) k ∙ ap (λ n. n / 2 ^ k % 2) half)

-- each bit of the word is the level in its tick
pub collected_bit : (H : ℕ) (line : ℕ → Bool) (r k : ℕ) → k < r → word_flag (collected H line r) k ≡ line (2 * ((r - k) * H))
collected_bit H line zero k l = absurd (omega arith)
collected_bit H line (suc r) zero l =
    let e : suc r ≡ suc r - 0 = omega arith in
    low_bit (collected H line r) (line (2 * (suc r * H))) ∙ ap (λ n. line (2 * (n * H))) e
collected_bit H line (suc r) (suc k) l =
    let e : r - k ≡ suc r - suc k = omega arith in
    high_bit (collected H line r) k (line (2 * (suc r * H))) ∙ collected_bit H line r k (omega arith) ∙ ap (λ n. line (2 * (n * H))) e

pub collected_sampled : (H : ℕ) (line : ℕ → Bool) (n : ℕ) → Sampled n H line (collected H line n)
collected_sampled H line n =
    record {
      below = collected_below H line n;
      bits = λ i p q. let e : n - (n - i) ≡ i = omega arith in collected_bit H line n (n - i) (omega arith) ∙ ap (λ k. line (2 * (k * H))) e;
    }

-- no bit is lost at the top
pub push_collected : (H : ℕ) (line : ℕ → Bool) (r : ℕ) (x : Bool) → r ≤ 40 → x ≡ line (2 * (suc r * H)) → pushed (collected H line r) x ≡ collected H line (suc r)
push_collected H line r x h e =
    let room : 2 ^ r ≤ 2 ^ 40 = pow_mono {i = r} {j = 40} h in
    let small : collected H line r * 2 < 2 ^ 64 = omega (arith, collected_below H line r) in
    ap₂ ◌+◌ (mod-eq_of_lt small) (ap bit e)

-- a transmission in which the line was checked
abbrev pub under : Format → ℕ → (ℕ → Bool) → Bool → ℕ → ℕ → ℕ → Phase
under f H line high r w a = Clocking (transmission f H high r w a (not (line 0)))

-- with the clock low or high after r bits: how often it has risen, and how many half periods have passed
abbrev pub risen : Bool → ℕ → ℕ
risen high r = cond high (suc r) r

abbrev pub halves : Bool → ℕ → ℕ
halves high r = cond high (2 * r + 1) (2 * r)

-- where the transmission stands after tick s + τ, w ticks before the next change
pub data Under (f : Format) (H : ℕ) (line : ℕ → Bool) (τ : ℕ) : Phase → Type 0 where
  toggling : (b : Bool) (r w : ℕ) → risen b r ≤ frame_bits f → w < H → τ + w + 1 ≡ (halves b r + 1) * H → Under f H line τ (under f H line b (risen b r) w (collected H line r))
  settling : (w : ℕ) → w < 500 → τ + w + 1 ≡ last_rise f H + 500 → Under f H line τ (under f H line true (suc (frame_bits f)) w (collected H line (frame_bits f)))
  recovering : (left : ℕ) → left < 2600 → τ + left + 1 ≡ last_rise f H + 3100 → Under f H line τ (Recovering left)
  waiting : last_rise f H + 3100 ≤ τ → Under f H line τ Waiting

-- tick s
pub under_first : (f : Format) (H : ℕ) (line : ℕ → Bool) → 1 ≤ H → Under f H line 0 (phase_ticked (line 0) (Clocking (started H f)))
under_first f H line h = rw falls_first (toggling false 0 (H - 1) (omega arith) (omega arith) (omega arith))

-- the tick after, while the clock toggles
toggling_tick : (f : Format) (H : ℕ) (line : ℕ → Bool) (τ : ℕ) (b : Bool) (r w : ℕ) (x : Bool) → x ≡ line (suc τ) → risen b r ≤ frame_bits f → w < H → τ + w + 1 ≡ (halves b r + 1) * H →
    Under f H line (suc τ) (phase_ticked x (under f H line b (risen b r) w (collected H line r)))
toggling_tick f H line τ b r (suc w) x v p q e =
    let l : 0 < suc w = omega arith in
    rw waits (toggling b r (suc w - 1) p (omega arith) (omega arith))
toggling_tick f H line τ false r zero x v p q e = go (cases_eq r (frame_bits f))
  where
    go : (r ≡ frame_bits f) ⊎ (r ≡ frame_bits f → ⊥) → Under f H line (suc τ) (phase_ticked x (under f H line false r 0 (collected H line r)))
    go (inl s) =
        subst (λ n. Under f H line (suc τ) (phase_ticked x (under f H line false n 0 (collected H line n)))) (sym s)
        (subst (Under f H line (suc τ)) (sym (rises_last f H (frame_bits f) _ _ x (omega arith) (omega arith))) (settling 499 (omega arith) (omega (arith, ap (λ n. n * H) s))))
    go (inr ne) =
        let l : r < frame_bits f = omega (arith, ne) in
        rw rises (toggling true r (H - 1) (omega arith) (omega arith) (omega arith))
toggling_tick f H line τ true r zero x v p q e =
    let tick : suc τ ≡ 2 * (suc r * H) = omega arith in
    let some : 0 < suc r = omega arith in
    rw (falls, push_collected H line r x (omega (arith, bits_most f)) (v ∙ ap line tick)) (toggling false (suc r) (H - 1) p (omega arith) (omega arith))

-- every tick leads on
pub under_tick : {f : Format} {H : ℕ} {line : ℕ → Bool} {τ : ℕ} {p : Phase} (x : Bool) → x ≡ line (suc τ) → Under f H line τ p → Under f H line (suc τ) (phase_ticked x p)
under_tick {f} {H} {line} {τ} x v (toggling b r w p q e) = toggling_tick f H line τ b r w x v p q e
under_tick x v (settling (suc w) q e) = let l : 0 < suc w = omega arith in rw waits (settling (suc w - 1) (omega arith) (omega arith))
under_tick x v (settling zero q e) = rw ends (recovering 2599 (omega arith) (omega arith))
under_tick x v (recovering (suc left) q e) = let l : 0 < suc left = omega arith in rw recovers (recovering (suc left - 1) (omega arith) (omega arith))
under_tick x v (recovering zero q e) = rw recovered (waiting (omega arith))
under_tick x v (waiting l) = rw idles (waiting (omega arith))

pub under_all : (f : Format) (H : ℕ) (line : ℕ → Bool) → 1 ≤ H → (τ : ℕ) → Under f H line τ (phase_before f H line (suc τ))
under_all f H line h zero = under_first f H line h
under_all f H line h (suc τ) = under_tick (line (suc τ)) refl (under_all f H line h τ)
