-- Gray words and numbers turn into one another.
use Rattle.std.proofs.Common.{◌≡◌, ℕ, zero, suc, ◌/◌, ◌^◌, ◌<◌, sym, ap, ◌∙◌, pow-suc, arith}
use lib.Bits.{bit_xor, xor_assoc, xor_self, xor_zero_r, xor_shr, xor_lt}
use Rattle.frame.specs.Gray.{gray_word, ungray, GrayTurnsBack}

-- a word put against another twice is itself
xor_back : (a b : ℕ) → bit_xor (bit_xor a b) b ≡ a
xor_back a b = xor_assoc a b b ∙ ap (bit_xor a) (xor_self b) ∙ xor_zero_r a

half_below : (n p : ℕ) → p < 2 ^ suc n → p / 2 < 2 ^ n
half_below n p h = omega (arith, pow-suc 2 n)

-- half of a Gray word is the Gray word of the half
gray_half : (p : ℕ) → gray_word p / 2 ≡ gray_word (p / 2)
gray_half p = xor_shr p (p / 2) 1

pub ungray_gray : (n p : ℕ) → p < 2 ^ n → ungray n (gray_word p) ≡ p
unfolding ungray
ungray_gray zero p h = omega arith
ungray_gray (suc n) p h =
    ap (λ x. bit_xor (gray_word p) (ungray n x)) (gray_half p)
    ∙ ap (bit_xor (gray_word p)) (ungray_gray n (p / 2) (half_below n p h))
    ∙ xor_back p (p / 2)

pub gray_ungray : (n w : ℕ) → w < 2 ^ n → gray_word (ungray n w) ≡ w
unfolding ungray
gray_ungray zero w h = omega arith
gray_ungray (suc n) w h =
    let x = ungray n (w / 2) in
    let back : gray_word x ≡ w / 2 = gray_ungray n (w / 2) (half_below n w h) in
    let halved : bit_xor w x / 2 ≡ x = xor_shr w x 1 ∙ ap (λ y. bit_xor y (x / 2)) (sym back) ∙ xor_back x (x / 2) in
    ap (bit_xor (bit_xor w x)) halved ∙ xor_back w x

-- neither needs more bits than it is given
pub gray_below : (n p : ℕ) → p < 2 ^ n → gray_word p < 2 ^ n
gray_below n p h = xor_lt n p (p / 2) h (omega arith)

pub ungray_below : (n k w : ℕ) → w < 2 ^ k → ungray n w < 2 ^ k
unfolding ungray
ungray_below zero k w h = omega arith
ungray_below (suc n) k w h = xor_lt k w (ungray n (w / 2)) h (ungray_below n k (w / 2) (omega arith))

-- one turn of the loop that reads a Gray word
pub ungray_turn : (k number rest word : ℕ) → bit_xor number (ungray (suc k) rest) ≡ word → bit_xor (bit_xor number rest) (ungray k (rest / 2)) ≡ word
unfolding ungray
ungray_turn k number rest word h = xor_assoc number rest (ungray k (rest / 2)) ∙ h

-- and its end
pub ungray_none : (number rest word : ℕ) → bit_xor number (ungray 0 rest) ≡ word → number ≡ word
unfolding ungray
ungray_none number rest word h = sym (xor_zero_r number) ∙ h

pub gray_turns_back : GrayTurnsBack
gray_turns_back = record { number = ungray_gray; word = gray_ungray }
