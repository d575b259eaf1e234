-- The ticks left until the timer expires fall by one each tick.
use Rattle.std.proofs.Common.{◌≡◌, ℕ, zero, suc, ◌+◌, ◌-◌, ◌*◌, ◌<◌, true, false, eqb, ltb, refl, ap, ◌∙◌, suc-mul, zero-mul, arith}
use Rattle.std.proofs.lemmas.Bool.{lt-ltb, ne_eqb}
use Rattle.timer.specs.declared.Base.{Base}
use Rattle.timer.specs.declared.Base.TheVariants.{Ns100, Us1, Ms1, S1}
use Rattle.timer.specs.declared.Timer.{Timer}
use Rattle.timer.specs.Timers.{base_ticks, expires, loaded, ticked}
use Rattle.timer.specs.Intervals.{interval, later, KeepsInterval}

-- an enabled timer with l + 1 periods and v + 1 ticks of the present one left
abbrev at : Timer → ℕ → ℕ → Timer
at t l v = record { enabled = true; base = t.base; preload = t.preload; left = suc l; wait = suc v }

base_pos : (b : Base) → (k : ℕ) × (base_ticks b ≡ suc k)
base_pos Ns100 = (9, refl)
base_pos Us1 = (99, refl)
base_pos Ms1 = (99999, refl)
base_pos S1 = (99999999, refl)

runs_at : (l : ℕ) → eqb (suc l) 0 ≡ false
runs_at l = ne_eqb (suc l) 0 (λ e. omega arith)

more : (n : ℕ) → ltb 1 (suc (suc n)) ≡ true
more n = lt-ltb 1 (suc (suc n)) (omega arith)

less_one : (n : ℕ) → suc n - 1 ≡ n
less_one n = omega arith

-- the last tick of all
last_tick : (t : Timer) → (expires (at t 0 0) ≡ true) × (ticked (at t 0 0) ≡ loaded (at t 0 0))
last_tick t = (refl, refl)

-- a tick within a period
in_period : (t : Timer) (l v : ℕ) → (expires (at t l (suc v)) ≡ false) × (ticked (at t l (suc v)) ≡ at t l v)
in_period t l v = (rw (runs_at l, more v) refl, rw (runs_at l, more v, less_one (suc v)) refl)

-- the last tick of a period that is not the last
period_end : (t : Timer) (l k : ℕ) → base_ticks t.base ≡ suc k
    → (expires (at t (suc l) 0) ≡ false) × (ticked (at t (suc l) 0) ≡ at t l k)
period_end t l k e = (rw (runs_at (suc l), more l) refl, rw (runs_at (suc l), more l, less_one (suc l), e) refl)

-- the ticks left, with the present one
abbrev left_ticks : Timer → ℕ → ℕ → ℕ
left_ticks t l v = l * base_ticks t.base + suc v

silent : (t : Timer) (k : ℕ) → base_ticks t.base ≡ suc k → (n l v : ℕ) → n + 1 < left_ticks t l v
    → expires (later n (at t l v)) ≡ false
silent t k e zero zero zero h = absurd (omega arith)
silent t k e zero (suc l) zero h = (period_end t l k e).0
silent t k e zero l (suc v) h = (in_period t l v).0
silent t k e (suc n) zero zero h = absurd (omega arith)
silent t k e (suc n) (suc l) zero h =
    ap (λ (q : Timer). expires (later n q)) (period_end t l k e).1
    ∙ silent t k e n l k (omega (arith, suc-mul l (base_ticks t.base)))
silent t k e (suc n) l (suc v) h =
    ap (λ (q : Timer). expires (later n q)) (in_period t l v).1 ∙ silent t k e n l v (omega arith)

due : (t : Timer) (k : ℕ) → base_ticks t.base ≡ suc k → (n l v : ℕ) → n + 1 ≡ left_ticks t l v
    → later n (at t l v) ≡ at t 0 0
due t k e zero zero zero h = refl
due t k e zero (suc l) zero h = absurd (omega (arith, suc-mul l (base_ticks t.base)))
due t k e zero l (suc v) h = absurd (omega arith)
due t k e (suc n) zero zero h = absurd (omega arith)
due t k e (suc n) (suc l) zero h =
    ap (λ (q : Timer). later n q) (period_end t l k e).1
    ∙ due t k e n l k (omega (arith, suc-mul l (base_ticks t.base)))
due t k e (suc n) l (suc v) h =
    ap (λ (q : Timer). later n q) (in_period t l v).1 ∙ due t k e n l v (omega arith)

-- a timer just loaded with p + 1 periods
loaded_at : (t : Timer) (p k : ℕ) → t.enabled ≡ true → t.preload ≡ suc p → base_ticks t.base ≡ suc k → loaded t ≡ at t p k
loaded_at t p k on e b = rw (on, e, b) refl

again : (t : Timer) → t.enabled ≡ true → loaded (at t 0 0) ≡ loaded t
again t on = rw on refl

pub keeps_interval : KeepsInterval
keeps_interval t on n = go t.preload refl
  where
    Goal : Type 0
    Goal = (n + 1 < interval t → expires (later n (loaded t)) ≡ false)
        × (n + 1 ≡ interval t → (expires (later n (loaded t)) ≡ true) × (ticked (later n (loaded t)) ≡ loaded t))

    go : (p : ℕ) → t.preload ≡ p → Goal
    go zero e =
        let z : interval t ≡ 0 = ap (λ p. p * base_ticks t.base) e ∙ zero-mul (base_ticks t.base) in
        (λ h. absurd (omega arith), λ h. absurd (omega arith))
    go (suc p) e =
        let k = (base_pos t.base).0 in
        let b : base_ticks t.base ≡ suc k = (base_pos t.base).1 in
        let l : loaded t ≡ at t p k = loaded_at t p k on e b in
        let i : interval t ≡ p * base_ticks t.base + base_ticks t.base =
        ap (λ q. q * base_ticks t.base) e ∙ suc-mul p (base_ticks t.base) in (
          λ h. ap (λ (q : Timer). expires (later n q)) l ∙ silent t k b n p k (omega arith),
          λ h.
              let d : later n (loaded t) ≡ at t 0 0 = ap (λ (q : Timer). later n q) l ∙ due t k b n p k (omega arith) in (
                ap (λ (q : Timer). expires q) d,
                ap (λ (q : Timer). ticked q) d ∙ again t on,
              ),
        )
