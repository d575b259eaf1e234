-- The debouncing register's fields: DEB BASE in bits 17 and 16, DEB TIME in bits 15 to 0.
use Rattle.std.specs.Prelude.{ℕ, ◌+◌, ◌*◌, cond, ◌==◌}
use Rattle.bits.specs.Words.{field_at, word_field}
use Rattle.filter.specs.declared.debounce.TimeBase.{TimeBase}
use Rattle.filter.specs.declared.debounce.TimeBase.TheVariants.{Ns30, Ns100, Us1, Ms1}
use Rattle.filter.specs.declared.debounce.Debounce.{Debounce}

-- 00: 30 ns, 01: 100 ns, 10: 1 µs, 11: 1 ms
abbrev pub base_at : ℕ → TimeBase
base_at n = cond (n == 0) Ns30 (cond (n == 1) Ns100 (cond (n == 2) Us1 Ms1))

-- a tick is 10 ns
abbrev pub base_ticks : TimeBase → ℕ
base_ticks Ns30 = 3
base_ticks Ns100 = 10
base_ticks Us1 = 100
base_ticks Ms1 = 100000

abbrev pub base_word : TimeBase → ℕ
base_word Ns30 = 0
base_word Ns100 = 1
base_word Us1 = 2
base_word Ms1 = 3

abbrev pub debounce_of : ℕ → Debounce
debounce_of w = record { base = base_at (word_field w 16 2); time = word_field w 0 16 }

abbrev pub word_of_debounce : Debounce → ℕ
word_of_debounce d = d.time + field_at 16 (base_word d.base)

-- at power-on DEB TIME is 1 and DEB BASE 00
abbrev pub reset : Debounce
reset = record { base = Ns30; time = 1 }

-- ticks between samples: 1 where DEB TIME is 0
abbrev pub period_of : Debounce → ℕ
period_of d = cond (d.time == 0) 1 (d.time * base_ticks d.base)
