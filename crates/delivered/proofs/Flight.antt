-- One line: a sensor's frame, the filter of the data line and the controller, tick by tick.
use Rattle.std.proofs.Common.{◌≡◌, ℕ, zero, suc, ◌+◌, ◌-◌, ◌*◌, ◌/◌, ◌^◌, ◌<◌, ◌≤◌, Bool, true, false, not, ◌⊎◌, sym, ap, ◌∙◌, subst, inl, inr, div-le_self, div-one, add-one, arith}
use native.Mathlib.Nat.{div-eq_of_lt}
use Rattle.std.proofs.lemmas.Nat.{shr-shr}
use Rattle.std.proofs.lemmas.Bool.{cases_eq, lt-ltb}
use Rattle.bits.specs.Words.{word_flag}
use Rattle.filter.specs.declared.samples.Samples.{Samples}
use Rattle.filter.specs.declared.timing.FilterTiming.{FilterTiming}
use Rattle.filter.specs.Filters.{line_filtered, samples_in, ticked}
use Rattle.filter.proofs.Held.{Held, held_none, held_tick, held_level, tick_period, tick_sound}
use Rattle.frame.specs.Layout.{frame_bits, reading_of}
use Rattle.controller.specs.declared.phase.Phase.{Phase}
use Rattle.controller.specs.declared.phase.Phase.TheVariants.{Clocking, Recovering}
use Rattle.controller.specs.declared.registers.Ssi.{Ssi}
use Rattle.controller.specs.Phase.{busy_in, clock_of, phase_ticked, pushed}
use Rattle.controller.specs.Registers.{started, ticked as ssi_ticked}
use Rattle.controller.proofs.Steps.{transmission, waits, falls_first, falls, rises, rises_last, ends, ends_in}
use Rattle.sensor.specs.declared.constants.Constants.{Constants}
use Rattle.sensor.specs.declared.phase.Phase.{Phase as Sensing}
use Rattle.sensor.specs.declared.phase.Phase.TheVariants.{Idle, Sending}
use Rattle.sensor.specs.Model.{frame_of, next_phase, phase_level}

-- the number of bits of the sensor's frames
abbrev pub bits_of : Constants → ℕ
bits_of c = frame_bits c.format

-- the filter samples slowly enough to see every bit: three periods at least to a half clock period
pub record Slow (H : ℕ) (t : FilterTiming) : Type 0 where
  pub sound : t.phase < t.period
  pub half : 3 * t.period ≤ H

-- Where a transmission of the frame F stands: the filter of the data line, the controller, the sensor and its clock. While the clock
-- is low, j bits are still to come. While it is high, a bit has been on the line for m ticks, and j bits come after it. After the last
-- rise the word is the frame.
pub data Flight (c : Constants) (F H : ℕ) (t : FilterTiming) (s : Samples) : Phase → Sensing → Bool → Type 0 where
  low : (r j w : ℕ) (bad : Bool) → r + j ≡ bits_of c → w < H → Slow H t
      → Flight c F H t s (Clocking (transmission c.format H false r w (F / 2 ^ j) bad)) (Sending F r) false
  high : (r j w m : ℕ) (bad : Bool) → suc r + j ≡ bits_of c → m + w + 1 ≡ H → Slow H t → Held (word_flag F j) m t s
      → Flight c F H t s (Clocking (transmission c.format H true (suc r) w (F / 2 ^ (j + 1)) bad)) (Sending F (suc r)) true
  settling : (w : ℕ) (bad : Bool) (q : Sensing) (k : Bool)
      → Flight c F H t s (Clocking (transmission c.format H true (suc (bits_of c)) w F bad)) q k

-- what is in flight is under way
pub flight_busy : {c : Constants} {F H : ℕ} {t : FilterTiming} {s : Samples} {p : Phase} {q : Sensing} {k : Bool} → Flight c F H t s p q k → busy_in p ≡ true
flight_busy f = grind arith

-- the tick of completion with the line at x: the registers take what the frame says
pub record Lands (c : Constants) (F : ℕ) (x : Bool) (p : Phase) : Type 0 where
  pub phase : phase_ticked x p ≡ Recovering 2599
  pub word : (i : Ssi) → (ssi_ticked x p i).word ≡ (reading_of c.format F).number

-- after a tick with the line at x
abbrev pub FlightAfter : Constants → ℕ → ℕ → FilterTiming → Samples → Sensing → Bool → ℕ → Phase → Type 0
FlightAfter c F H t s q k pos p = Flight c F H t s p (next_phase c pos q k (clock_of p)) (clock_of p)

pub slow_tick : (H : ℕ) (t : FilterTiming) → Slow H t → Slow H (ticked t)
slow_tick H t a = record { sound = tick_sound t a.sound; half = omega (arith, a.half, tick_period t a.sound) }

-- one bit more of a frame
bits_more : (F j : ℕ) → F < 2 ^ 40 → pushed (F / 2 ^ (j + 1)) (word_flag F j) ≡ F / 2 ^ j
bits_more F j h =
    let a = shr-shr F j 1 in
    let b = div-le_self F (2 ^ (j + 1)) in
    grind arith

-- what a tick leads to
abbrev pub Goes : Constants → ℕ → ℕ → FilterTiming → Samples → Sensing → Bool → ℕ → Bool → Phase → Phase → Type 0
Goes c F H t s q k pos x p p' = (FlightAfter c F H t s q k pos p') ⊎ (Lands c F x p)

low_tick : (c : Constants) (F H r j w pos : ℕ) (t : FilterTiming) (s : Samples) (bad x : Bool) → r + j ≡ bits_of c → w < H → Slow H t
    → FlightAfter c F H t s (Sending F r) false pos (phase_ticked x (Clocking (transmission c.format H false r w (F / 2 ^ j) bad)))
low_tick c F H r j (suc w) pos t s bad x a b d =
    rw (waits c.format H false r (suc w) (F / 2 ^ j) bad x (omega arith)) (low r j (suc w - 1) bad a (omega arith) d)
low_tick c F H r j zero pos t s bad x a b d = go (cases_eq r (bits_of c))
  where
    go : (r ≡ bits_of c) ⊎ (r ≡ bits_of c → ⊥) → FlightAfter c F H t s (Sending F r) false pos (phase_ticked x (Clocking (transmission c.format H false r 0 (F / 2 ^ j) bad)))
    go (inl e) =
        let z : j ≡ 0 = omega arith in
        rw (rises_last c.format H r (F / 2 ^ j) bad x (omega arith) (omega arith), z, div-one F, e) (settling 499 bad _ _)
    go (inr ne) =
        let one : j ≡ j - 1 + 1 = omega (arith, ne) in
        rw (rises c.format H r (F / 2 ^ j) bad x (omega (arith, ne)), one, lt-ltb r (bits_of c) (omega (arith, ne)), add-one r)
        (high r (j - 1) (H - 1) 0 bad (omega arith) (omega arith) d (held_none _ t s d.sound))

high_tick : (c : Constants) (F H r j w m pos : ℕ) (t : FilterTiming) (s : Samples) (bad : Bool) → F < 2 ^ 40 → suc r + j ≡ bits_of c → m + w + 1 ≡ H → Slow H t → Held (word_flag F j) (m + 1) t s
    → FlightAfter c F H t s (Sending F (suc r)) true pos (phase_ticked s.level (Clocking (transmission c.format H true (suc r) w (F / 2 ^ (j + 1)) bad)))
high_tick c F H r j (suc w) m pos t s bad f a b d h =
    rw (waits c.format H true (suc r) (suc w) (F / 2 ^ (j + 1)) bad s.level (omega arith)) (high r j (suc w - 1) (m + 1) bad a (omega arith) d h)
high_tick c F H r j zero m pos t s bad f a b d h =
    let seen : s.level ≡ word_flag F j = held_level (word_flag F j) (m + 1) t s h (omega (arith, d.half)) in
    rw (falls c.format H (suc r) (F / 2 ^ (j + 1)) bad s.level (omega arith) (omega arith), seen, bits_more F j f) (low (suc r) j (H - 1) bad a (omega arith) d)

settling_tick : (c : Constants) (F H w pos : ℕ) (t : FilterTiming) (s : Samples) (q : Sensing) (k bad x : Bool)
    → Goes c F H t s q k pos x (Clocking (transmission c.format H true (suc (bits_of c)) w F bad)) (phase_ticked x (Clocking (transmission c.format H true (suc (bits_of c)) w F bad)))
settling_tick c F H (suc w) pos t s q k bad x = inl (rw (waits c.format H true (suc (bits_of c)) (suc w) F bad x (omega arith)) (settling (suc w - 1) bad _ _))
settling_tick c F H zero pos t s q k bad x = inr (record { phase = ends c.format H F bad x; word = λ i. ap (λ (n : Ssi). n.word) (ends_in c.format H F bad x i) })

-- the bit that the sensor shows
shows_bit : (c : Constants) (F r j : ℕ) → suc r + j ≡ bits_of c → phase_level c (Sending F (suc r)) ≡ word_flag F j
shows_bit c F r j a =
    let e : bits_of c - suc r ≡ j = omega arith in
    grind arith

-- one tick of filter, controller and sensor: the transmission goes on, or it completes with the frame
pub flight_tick : {c : Constants} {F H : ℕ} {t : FilterTiming} {s : Samples} {p : Phase} {q : Sensing} {k : Bool} (pos : ℕ) → F < 2 ^ 40 → Flight c F H t s p q k
    → Goes c F H (ticked t) (line_filtered (samples_in t) (phase_level c q) s) q k pos (line_filtered (samples_in t) (phase_level c q) s).level p (phase_ticked (line_filtered (samples_in t) (phase_level c q) s).level p)
flight_tick {c} {F} {H} {t} {s} pos f (low r j w bad a b d) = inl (low_tick c F H r j w pos (ticked t) _ bad _ a b (slow_tick H t d))
flight_tick {c} {F} {H} {t} {s} pos f (high r j w m bad a b d h) =
    inl (rw (shows_bit c F r j a) (high_tick c F H r j w m pos (ticked t) _ bad f a b (slow_tick H t d) (held_tick (word_flag F j) m t s h)))
flight_tick {c} {F} {H} {t} {s} pos f (settling w bad q k) = settling_tick c F H w pos (ticked t) _ q k bad _

-- the tick in which the clock first falls, with the sensor idle and its clock last seen high
pub flight_first : (c : Constants) (pos H : ℕ) (t : FilterTiming) (s : Samples) (x : Bool) → 1 ≤ H → frame_of c pos < 2 ^ bits_of c → Slow H t
    → FlightAfter c (frame_of c pos) H t s Idle true pos (phase_ticked x (Clocking (started H c.format)))
flight_first c pos H t s x h f d =
    let none : 0 ≡ frame_of c pos / 2 ^ bits_of c = sym (div-eq_of_lt f) in
    let next : phase_ticked x (Clocking (started H c.format)) ≡ Clocking (transmission c.format H false 0 (H - 1) (frame_of c pos / 2 ^ bits_of c) (not x)) =
    falls_first c.format H 0 false x ∙ ap (λ v. Clocking (transmission c.format H false 0 (H - 1) v (not x))) none in
    subst (FlightAfter c (frame_of c pos) H t s Idle true pos) (sym next) (low 0 (bits_of c) (H - 1) (not x) (omega arith) (omega arith) d)
