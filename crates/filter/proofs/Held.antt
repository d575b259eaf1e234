-- A line that has stood at one level: what the filter's samples and level then are.
use Rattle.std.proofs.Common.{◌≡◌, ℕ, zero, suc, ◌+◌, ◌*◌, ◌<◌, ◌≤◌, Bool, true, false, cond, ◌&&◌, replicate, sym, refl, ap, subst, arith}
use Rattle.std.proofs.lemmas.Bool.{eqb-true, eqb-false, lt-ltb}
use Rattle.filter.specs.declared.samples.Samples.{Samples}
use Rattle.filter.specs.declared.timing.FilterTiming.{FilterTiming}
use Rattle.filter.specs.Filters.{checked, clock_ticked, is_due, line_filtered, same, samples_in, taken, ticked}
use Rattle.filter.specs.Settling.{filtered_over, Settles}

-- the line has been v for the last m ticks
pub record Held (v : Bool) (m : ℕ) (t : FilterTiming) (s : Samples) : Type 0 where
  pub sound : t.phase < t.period
  pub one : t.phase < m → s.last ≡ v
  pub two : t.phase + t.period < m → s.before ≡ v
  pub three : t.phase + 2 * t.period < m → s.level ≡ v

pub held_none : (v : Bool) (t : FilterTiming) (s : Samples) → t.phase < t.period → Held v 0 t s
held_none v t s h = record {
  sound = h;
  one = λ k. absurd (omega arith);
  two = λ k. absurd (omega arith);
  three = λ k. absurd (omega arith);
}

pub held_level : (v : Bool) (m : ℕ) (t : FilterTiming) (s : Samples) → Held v m t s → 3 * t.period ≤ m → s.level ≡ v
held_level v m t s h l = h.three (omega (arith, h.sound))

-- numbers whose phase is below the period pass the check
pub checked_sound : (t : FilterTiming) → t.phase < t.period → checked t ≡ t
checked_sound t h = rw (lt-ltb t.phase t.period h) refl

pub due_sound : (t : FilterTiming) → t.phase < t.period → samples_in t ≡ is_due t
unfolding samples_in
due_sound t h = ap is_due (checked_sound t h)

pub ticked_sound : (t : FilterTiming) → t.phase < t.period → ticked t ≡ clock_ticked t
unfolding ticked
ticked_sound t h = ap clock_ticked (checked_sound t h)

three_same : (v l : Bool) → cond (same v v && same v v) v l ≡ v
three_same true l = refl
three_same false l = refl

three_equal : (v a b l : Bool) → a ≡ v → b ≡ v → cond (same v a && same v b) v l ≡ v
three_equal v a b l p q = rw (p, q) (three_same v l)

held_due : (v : Bool) (m : ℕ) (t : FilterTiming) (s : Samples) → Held v m t s → Held v (m + 1) (clock_ticked t) (line_filtered (is_due t) v s)
held_due v m t s h = go (is_due t) refl
  where
    go : (b : Bool) → is_due t ≡ b → Held v (m + 1) (record { period = t.period; phase = cond b 0 (t.phase + 1) }) (cond b (taken v s) s)
    go true e =
        let q : t.phase + 1 ≡ t.period = eqb-true _ _ e in
        record {
          sound = omega (arith, h.sound);
          one = λ _. refl;
          two = λ k. h.one (omega arith);
          three = λ k. three_equal v s.last s.before s.level (h.one (omega arith)) (h.two (omega arith));
        }
    go false e =
        record {
          sound = omega (arith, eqb-false _ _ e, h.sound);
          one = λ k. h.one (omega arith);
          two = λ k. h.two (omega arith);
          three = λ k. h.three (omega arith);
        }

-- one tick more
pub held_tick : (v : Bool) (m : ℕ) (t : FilterTiming) (s : Samples) → Held v m t s → Held v (m + 1) (ticked t) (line_filtered (samples_in t) v s)
held_tick v m t s h =
    let P : FilterTiming → Type 0 = λ q. Held v (m + 1) q (line_filtered (samples_in t) v s) in
    let Q : Bool → Type 0 = λ b. Held v (m + 1) (clock_ticked t) (line_filtered b v s) in
    subst P (sym (ticked_sound t h.sound)) (subst Q (sym (due_sound t h.sound)) (held_due v m t s h))

-- a tick keeps the period
pub tick_period : (t : FilterTiming) → t.phase < t.period → (ticked t).period ≡ t.period
tick_period t h = ap (λ (q : FilterTiming). q.period) (ticked_sound t h)

-- and a phase below it
pub tick_sound : (t : FilterTiming) → t.phase < t.period → (ticked t).phase < (ticked t).period
tick_sound t h =
    let P : FilterTiming → Type 0 = λ q. q.phase < q.period in
    subst P (sym (ticked_sound t h)) (go (is_due t) refl)
  where
    go : (b : Bool) → is_due t ≡ b → cond b 0 (t.phase + 1) < t.period
    go true e = omega arith
    go false e = omega (arith, eqb-false _ _ e)

held_over : (v : Bool) (n m : ℕ) (t : FilterTiming) (s : Samples) → Held v m t s → 3 * t.period ≤ m + n
    → (filtered_over t s (replicate n v)).level ≡ v
held_over v zero m t s h l = held_level v m t s h (omega arith)
held_over v (suc n) m t s h l =
    held_over v n (m + 1) (ticked t) (line_filtered (samples_in t) v s) (held_tick v m t s h) (omega (arith, tick_period t h.sound))

pub settles : Settles
settles t s x n h l = held_over x n 0 t s (held_none x t s h) (omega arith)
