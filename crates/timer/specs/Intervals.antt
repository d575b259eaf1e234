-- When the timer expires, over many ticks.
use Rattle.std.specs.Prelude.{◌≡◌, ℕ, zero, suc, ◌+◌, ◌*◌, ◌<◌, true, false}
use Rattle.timer.specs.declared.Timer.{Timer}
use Rattle.timer.specs.Timers.{base_ticks, expires, loaded, ticked}

-- the timer n ticks later
abbrev pub later : ℕ → Timer → Timer
later zero t = t
later (suc n) t = later n (ticked t)

-- ticks from a load to the expiry: the preload times the base
abbrev pub interval : Timer → ℕ
interval t = t.preload * base_ticks t.base

-- an enabled timer that was just loaded expires in the last tick of its interval and in none before it, and is then just loaded again
abbrev pub KeepsInterval : Type 0
KeepsInterval = (t : Timer) → t.enabled ≡ true → (n : ℕ)
    → (n + 1 < interval t → expires (later n (loaded t)) ≡ false)
    × (n + 1 ≡ interval t → (expires (later n (loaded t)) ≡ true) × (ticked (later n (loaded t)) ≡ loaded t))
