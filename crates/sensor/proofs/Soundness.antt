-- Every act keeps a sensor sound.
use Rattle.std.proofs.Common.{ℕ, ◌+◌, ◌^◌, ◌<◌, ◌≤◌, Bool, true, false, ltb, arith}
use Rattle.std.proofs.lemmas.Bool.{cond_both, ltb-true}
use Rattle.frame.specs.Layout.{frame_bits}
use Rattle.frame.specs.ReadBack.{Carries}
use Rattle.frame.proofs.Read.{frame_fits, reads_back}
use Rattle.sensor.specs.declared.constants.Constants.{Constants}
use Rattle.sensor.specs.declared.phase.Phase.{Phase}
use Rattle.sensor.specs.declared.phase.Phase.TheVariants.{Idle, Sending, Recovering}
use Rattle.sensor.specs.Model.{Model, Sound, model, advanced, fits_in, frame_of, next_phase, reset_to, risen, rises_in, turned}
use Rattle.sensor.specs.Sending.{SentIsRead}
use Rattle.sensor.proofs.Ranges.{ranged}

risen_within : (c : Constants) (w r : ℕ) → rises_in (risen c w r) ≤ frame_bits c.format
risen_within c w r =
    cond_both (ltb r (frame_bits c.format)) (Sending w (r + 1)) (Recovering c.recovery) (λ f. rises_in f ≤ frame_bits c.format)
    (λ t. omega (arith, ltb-true r (frame_bits c.format) t)) (λ t. omega arith)

next_within : (c : Constants) (p : ℕ) (f : Phase) (last now : Bool) → rises_in f ≤ frame_bits c.format → rises_in (next_phase c p f last now) ≤ frame_bits c.format
next_within c p Idle true true h = h
next_within c p Idle true false h = h
next_within c p Idle false now h = h
next_within c p (Sending w r) true now h = h
next_within c p (Sending w r) false true h = risen_within c w r
next_within c p (Sending w r) false false h = h
next_within c p (Recovering k) last now h = cond_both (ltb 1 k) (Recovering _) Idle (λ f. rises_in f ≤ frame_bits c.format) (λ t. omega arith) (λ t. omega arith)

pub advanced_sound : (m : Model) (b : Bool) → Sound m → Sound (advanced m b)
unfolding advanced
advanced_sound m b s = record { ranged = s.ranged; below = s.below; within = next_within m.constants m.position m.phase m.clock b s.within }

pub turned_sound : (m : Model) (p : ℕ) → Sound m → Sound (turned m p)
unfolding turned
turned_sound m p s =
    cond_both (fits_in m p) (model m.constants p m.phase m.clock) m Sound
    (λ t. record { ranged = s.ranged; below = ltb-true p (2 ^ m.constants.format.data_bits) t; within = s.within }) (λ t. s)

pub reset_sound : (m : Model) → Sound m → Sound (reset_to m)
unfolding reset_to
reset_sound m s = record { ranged = s.ranged; below = s.below; within = omega arith }

-- a sound sensor's frame can be read back
pub carries : (m : Model) → Sound m → Carries m.constants.format m.position m.constants.extra
carries m s =
    let r = ranged m.constants s.ranged in
    record { wide = r.most; spare = r.spare; position = s.below; extra = r.extra }

-- and has no more bits than its format says
pub frame_below : (m : Model) → Sound m → frame_of m.constants m.position < 2 ^ frame_bits m.constants.format
frame_below m s = frame_fits m.constants.format m.position m.constants.extra (carries m s)

pub sent_is_read : SentIsRead
sent_is_read m s = reads_back m.constants.format m.position m.constants.extra (carries m s)
