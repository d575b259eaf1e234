-- The table of eight channels.
use Rattle.std.specs.Prelude.{ℕ, zero, suc, ◌+◌, ◌*◌, ◌^◌, Bool, List, [], ◌∷◌}
use Rattle.bits.specs.Words.{word_flag}
use Rattle.counter_count.specs.declared.levels.Levels.{Levels}
use Rattle.channel.specs.declared.act.Act.{Act}
use Rattle.channel.specs.declared.act.Share.{Share}
use Rattle.channel.specs.declared.channel.Channel.{Channel}
use Rattle.channel.specs.Shares.{performed, share_of, width_of}
use Rattle.channel.specs.Ticks.{channel_ticked}

-- the first n records of a table whose first place is k, each changed by f at its place
abbrev pub changed : {A : Type 0} → (ℕ → A → A) → ℕ → ℕ → List A → List A
changed f k zero xs = xs
changed f k (suc n) [] = []
changed f k (suc n) (x ∷ xs) = f k x ∷ changed f (suc k) n xs

-- fields of w bits, one from each record, the first lowest
abbrev pub word_of : {A : Type 0} → ℕ → (A → ℕ) → List A → ℕ
word_of w f [] = 0
word_of w f (x ∷ xs) = f x + 2 ^ w * word_of w f xs

-- the levels on the lines of channel k: IO0 is A, IN1 is B and SSI data, IN2 is I
abbrev pub line_levels_at : ℕ → ℕ → Levels
line_levels_at lines k = record { a = word_flag lines (3 * k); b = word_flag lines (3 * k + 1); i = word_flag lines (3 * k + 2) }

-- channel k's tick
abbrev pub tick_at : ℕ → ℕ → Bool → ℕ → Channel → Channel
tick_at lines inputs expired k c = channel_ticked (line_levels_at lines k) (word_flag inputs k) expired c

-- every channel ticks, with its own lines and input
unfoldable pub table_ticked : ℕ → ℕ → Bool → List Channel → List Channel
table_ticked lines inputs expired cs = changed (tick_at lines inputs expired) 0 8 cs

-- every channel does what a shared register's write asks of it
unfoldable pub acted : Act → List Channel → List Channel
acted act cs = changed (performed act) 0 8 cs

-- the shares of all channels in one word
unfoldable pub gathered : Share → List Channel → ℕ
gathered s cs = word_of (width_of s) (share_of s) cs
