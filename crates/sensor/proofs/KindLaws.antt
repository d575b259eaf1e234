-- The Gray word that a sensor keeps, and its position.
use Rattle.std.proofs.Common.{◌≡◌, ℕ, ◌^◌, ◌<◌, Bool, true, false, cond, Ok, Err, Result, refl, arith}
use Rattle.std.proofs.lemmas.Bool.{ltb-true}
use Rattle.frame.specs.Gray.{gray_word, ungray}
use Rattle.frame.proofs.GrayWords.{ungray_gray, gray_below}
use Rattle.sensor.specs.declared.constants.Constants.{Constants}
use Rattle.sensor.specs.declared.refusal.FieldRefusal.{FieldRefusal}
use Rattle.sensor.specs.declared.refusal.FieldRefusal.TheVariants.{Value}
use Rattle.sensor.specs.Model.{admitted}

-- a position that is let in fits
let_in : (b : Bool) → ◌≡◌ {A = Result (Unit {0}) FieldRefusal} (cond b (Ok tt) (Err Value)) (Ok tt) → b ≡ true
let_in true e = refl
let_in false e = cc

-- and so does its Gray word
pub gray_fits : (c : Constants) (p : ℕ) → admitted c p ≡ Ok tt → gray_word p < 2 ^ c.format.data_bits
gray_fits c p h = gray_below c.format.data_bits p (ltb-true p (2 ^ c.format.data_bits) (let_in _ h))

-- from the Gray word the position comes back
pub gray_back : (p : ℕ) → p < 2 ^ 32 → ungray 32 (gray_word p) ≡ p
gray_back p h = ungray_gray 32 p h

pub gray_zero : ungray 32 0 ≡ 0
gray_zero = ungray_gray 32 0 (omega arith)
