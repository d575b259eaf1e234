-- Bits and bit fields of a word, as numbers.
use Rattle.std.specs.Prelude.{ℕ, ◌*◌, ◌/◌, ◌%◌, ◌^◌, Bool, cond, ◌==◌}

-- the field of n bits whose lowest is bit k
abbrev pub word_field : ℕ → ℕ → ℕ → ℕ
word_field w k n = w / 2 ^ k % 2 ^ n

-- bit k
abbrev pub word_flag : ℕ → ℕ → Bool
word_flag w k = word_field w k 1 == 1

-- what a field whose lowest bit is bit k adds to a word
abbrev pub field_at : ℕ → ℕ → ℕ
field_at k v = v * 2 ^ k

-- what bit k adds to a word
abbrev pub bit_at : ℕ → Bool → ℕ
bit_at k b = cond b (2 ^ k) 0
