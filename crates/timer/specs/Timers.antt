-- The interval timer: ITEN in bit 0 and ITTB in bits 2 and 1 of its control word, the preload ITPRE, the periods left.
use Rattle.std.specs.Prelude.{ℕ, ◌+◌, ◌-◌, Bool, true, false, cond, not, ◌&&◌, ◌||◌, ◌==◌, nat_lt}
use Rattle.bits.specs.Words.{bit_at, field_at, word_field, word_flag}
use Rattle.timer.specs.declared.Base.{Base}
use Rattle.timer.specs.declared.Base.TheVariants.{Ns100, Us1, Ms1, S1}
use Rattle.timer.specs.declared.Timer.{Timer}

-- 00: 100 ns, 01: 1 µs, 10: 1 ms, 11: 1 s
abbrev pub base_at : ℕ → Base
base_at n = cond (n == 0) Ns100 (cond (n == 1) Us1 (cond (n == 2) Ms1 S1))

-- a tick is 10 ns
abbrev pub base_ticks : Base → ℕ
base_ticks Ns100 = 10
base_ticks Us1 = 100
base_ticks Ms1 = 100000
base_ticks S1 = 100000000

abbrev pub base_word : Base → ℕ
base_word Ns100 = 0
base_word Us1 = 1
base_word Ms1 = 2
base_word S1 = 3

abbrev pub same_base : Base → Base → Bool
same_base a b = base_word a == base_word b

abbrev pub new_timer : Timer
new_timer = record { enabled = false; base = Ns100; preload = 0; left = 0; wait = 0 }

-- a timer with other periods left and other ticks left of the present one
abbrev pub with : Timer → ℕ → ℕ → Timer
with t l w = record { enabled = t.enabled; base = t.base; preload = t.preload; left = l; wait = w }

-- a load: all of the preload is left, and a base period starts
abbrev pub loaded : Timer → Timer
loaded t = with t t.preload (base_ticks t.base)

-- a base period's last tick: one period less, or expiry and a load
abbrev pub period_ended : Timer → Timer × Bool
period_ended t = cond (nat_lt 1 t.left) (with t (t.left - 1) (base_ticks t.base), false) (loaded t, true)

-- a timer that is enabled and was loaded with more than 0 runs
abbrev pub runs : Timer → Bool
runs t = t.enabled && not (t.left == 0)

-- whether the timer expires in this tick
abbrev pub expires : Timer → Bool
expires t = cond (runs t) (cond (nat_lt 1 t.wait) false (period_ended t).1) false

-- the timer after a tick
abbrev pub ticked : Timer → Timer
ticked t = cond (runs t) (cond (nat_lt 1 t.wait) (with t t.left (t.wait - 1)) (period_ended t).0) t

-- a write loads where ITEN rises, or where ITTB changes while ITEN stays 1
abbrev pub reloads : Bool → Base → Timer → Bool
reloads on b t = on && (not t.enabled || not (same_base t.base b))

abbrev pub settings : Bool → Base → Timer → Timer
settings on b t = record { enabled = on; base = b; preload = t.preload; left = t.left; wait = t.wait }

-- the settings are taken, and the timer is loaded where a write of them loads it
abbrev pub set_to : Bool → Base → Timer → Timer
set_to on b t = cond (reloads on b t) (loaded (settings on b t)) (settings on b t)

abbrev pub control_written : ℕ → Timer → Timer
control_written w t = set_to (word_flag w 0) (base_at (word_field w 1 2)) t

abbrev pub word_of_control : Timer → ℕ
word_of_control t = bit_at 0 t.enabled + field_at 1 (base_word t.base)

abbrev pub preload_written : ℕ → Timer → Timer
preload_written v t = record { enabled = t.enabled; base = t.base; preload = v; left = t.left; wait = t.wait }
