-- A frame that is sent is read back.
use Rattle.std.proofs.Common.{◌≡◌, ℕ, ◌+◌, ◌*◌, ◌/◌, ◌%◌, ◌^◌, ◌<◌, ◌≤◌, false, eqb, Option, Some, None, sym, refl, ap, ◌∙◌, subst, mod-eq_of_lt, arith, pow_mono}
use lib.Bits.{bit_and, and_block, and_mask}
use lib.Count.{ones, ones_cat, ones_step, ones-le}
use Rattle.std.proofs.lemmas.Nat.{mul-add-lt, pow-add, shr-shr, shr_high, mod_low}
use Rattle.std.proofs.lemmas.Bool.{ne_eqb}
use Rattle.frame.specs.Layout.{coded_as, decoded_as, data_bit_count, extra_bit_count, parity_bits, body_of, parity_for, parity_ones, parity_off, covered_bits, shown_parity, parity_wrong, word_of_frame, reading_of}
use Rattle.frame.specs.ReadBack.{Carries, FrameFits, ReadsBack}
use Rattle.frame.specs.declared.format.Code.{Code}
use Rattle.frame.specs.declared.format.Code.TheVariants.{Binary, Gray}
use Rattle.frame.specs.declared.format.Span.{Span}
use Rattle.frame.specs.declared.format.Parity.{Parity}
use Rattle.frame.specs.declared.format.Format.{Format}
use Rattle.frame.proofs.GrayWords.{ungray_gray, gray_below}

-- coding and decoding a position
pub coded_below : (code : Code) (d p : ℕ) → p < 2 ^ d → coded_as code p < 2 ^ d
coded_below Binary d p h = h
coded_below Gray d p h = gray_below d p h

pub decoded_coded : (code : Code) (p : ℕ) → p < 2 ^ 32 → decoded_as code (coded_as code p) ≡ p
decoded_coded Binary p h = refl
decoded_coded Gray p h = ungray_gray 32 p h

-- a parity bit under the mask counts as itself
bit_ones : (v : ℕ) → v < 2 → ones (bit_and v 1) ≡ v
bit_ones v h =
    let same : bit_and v 1 ≡ v = and_mask v 1 ∙ mod-eq_of_lt h in
    let half : v / 2 ≡ 0 = omega arith in
    let none : ones (v / 2) ≡ 0 = ap ones half ∙ (let z : ones 0 ≡ 0 = omega (arith, ones-le 0 0 (omega arith)) in z) in
    ap ones same ∙ omega (arith, ones_step v)

pub ones_with : (s : Span) (d z b v : ℕ) → v < 2 → parity_ones s d z (b * 2 + v) ≡ ones (bit_and b (covered_bits s d z)) + v
ones_with s d z b v h =
    let m = covered_bits s d z in
    let low : bit_and v 1 < 2 ^ 1 = omega (arith, and_mask v 1) in
    ap ones (and_block 1 b m v 1 h (omega arith)) ∙ ones_cat 1 (bit_and b m) (bit_and v 1) low ∙ ap (λ n. ones (bit_and b m) + n) (bit_ones v h)

pub ones_without : (s : Span) (d z b : ℕ) → parity_ones s d z (b * 2) ≡ ones (bit_and b (covered_bits s d z))
ones_without s d z b =
    ap (parity_ones s d z) (let e : b * 2 ≡ b * 2 + 0 = omega arith in e) ∙ ones_with s d z b 0 (omega arith) ∙ omega arith

-- the parity bit, as it is sent and as it is read
pub parity_below : (k : Option Parity) (d z b : ℕ) → parity_for k d z b < 2 ^ parity_bits k
parity_below None d z b = omega arith
parity_below (Some p) d z b = omega arith

pub parity_seen : (k : Option Parity) (d z b : ℕ) → shown_parity k (b * 2 ^ parity_bits k + parity_for k d z b) ≡ eqb (parity_for k d z b) 1
parity_seen None d z b = refl
parity_seen (Some p) d z b = ap (λ n. eqb n 1) (mod_low b 1 _ (parity_below (Some p) d z b))

pub parity_agrees : (k : Option Parity) (d z b : ℕ) → parity_wrong k d z (b * 2 ^ parity_bits k + parity_for k d z b) ≡ false
parity_agrees None d z b = refl
parity_agrees (Some p) d z b =
    ne_eqb _ 1 (λ e. omega (arith, e, ones_with p.span d z b (parity_off p d z (b * 2)) (omega arith), ones_without p.span d z b))

-- in range the bits are as many as the format says
data_is : (f : Format) → f.data_bits ≤ 32 → data_bit_count f ≡ f.data_bits
data_is f h = omega arith

extra_is : (f : Format) → f.extra_bits ≤ 7 → extra_bit_count f ≡ f.extra_bits
extra_is f h = omega arith

-- a sum of three fields, taken apart
top_field : (c x v d z k : ℕ) → c < 2 ^ d → x < 2 ^ z → v < 2 ^ k → ((c * 2 ^ z + x) * 2 ^ k + v) / 2 ^ (z + k) % 2 ^ d ≡ c
top_field c x v d z k p q r =
    let w = (c * 2 ^ z + x) * 2 ^ k + v in
    let swap : w / 2 ^ (z + k) ≡ w / 2 ^ (k + z) = ap (λ n. w / 2 ^ n) (let e : z + k ≡ k + z = omega arith in e) in
    let two : w / 2 ^ (k + z) ≡ c = sym (shr-shr w k z) ∙ ap (λ n. n / 2 ^ z) (shr_high (c * 2 ^ z + x) k v r) ∙ shr_high c z x q in
    ap (λ n. n % 2 ^ d) (swap ∙ two) ∙ mod-eq_of_lt p

mid_field : (c x v z k : ℕ) → x < 2 ^ z → v < 2 ^ k → ((c * 2 ^ z + x) * 2 ^ k + v) / 2 ^ k % 2 ^ z ≡ x
mid_field c x v z k q r = ap (λ n. n % 2 ^ z) (shr_high (c * 2 ^ z + x) k v r) ∙ mod_low c z x q

all_below : (c x v d z k : ℕ) → c < 2 ^ d → x < 2 ^ z → v < 2 ^ k → (c * 2 ^ z + x) * 2 ^ k + v < 2 ^ (d + z + k)
all_below c x v d z k p q r =
    let b : c * 2 ^ z + x < 2 ^ (d + z) = omega (arith, mul-add-lt c (2 ^ z) x (2 ^ d) p q, pow-add 2 z d, ap (λ n. 2 ^ n) (let e : z + d ≡ d + z = omega arith in e)) in
    omega (arith, mul-add-lt (c * 2 ^ z + x) (2 ^ k) v (2 ^ (d + z)) b r, pow-add 2 k (d + z), ap (λ n. 2 ^ n) (let e : k + (d + z) ≡ d + z + k = omega arith in e))

-- what a format carries is below its bounds
coded_fits : (f : Format) (p x : ℕ) → Carries f p x → coded_as f.code p < 2 ^ data_bit_count f
coded_fits f p x h = subst (λ n. coded_as f.code p < 2 ^ n) (sym (data_is f h.wide)) (coded_below f.code _ p h.position)

extra_fits : (f : Format) (p x : ℕ) → Carries f p x → x < 2 ^ extra_bit_count f
extra_fits f p x h = subst (λ n. x < 2 ^ n) (sym (extra_is f h.spare)) h.extra

pub frame_fits : FrameFits
unfolding word_of_frame
frame_fits f p x h = all_below (coded_as f.code p) x _ _ _ (parity_bits f.parity) (coded_fits f p x h) (extra_fits f p x h) (parity_below f.parity _ _ _)

pub reads_back : ReadsBack
unfolding word_of_frame reading_of
reads_back f p x h =
    let v = parity_below f.parity (data_bit_count f) (extra_bit_count f) (body_of f p x) in
    let small : p < 2 ^ 32 = omega (arith, h.position, pow_mono {i = f.data_bits} {j = 32} h.wide) in
    record {
      number = ap (decoded_as f.code) (top_field (coded_as f.code p) x _ _ _ (parity_bits f.parity) (coded_fits f p x h) (extra_fits f p x h) v) ∙ decoded_coded f.code p small;
      extra = mid_field (coded_as f.code p) x _ _ (parity_bits f.parity) (extra_fits f p x h) v;
      bit = parity_seen f.parity (data_bit_count f) (extra_bit_count f) (body_of f p x);
      agrees = parity_agrees f.parity (data_bit_count f) (extra_bit_count f) (body_of f p x);
    }
