-- What an access leaves alone.
use Rattle.std.specs.Prelude.{◌≡◌, ℕ, Bool, true, false, ◌&&◌, ◌||◌, Err, ◌==◌}
use Rattle.refusal.specs.declared.Refusal.{Refusal}
use Rattle.channel.specs.Registers.{is_counter_mode}
use Rattle.card.specs.Calls.{Card, accepted, card_after_read, card_after_write, read_done, value_of, write_done}
use Rattle.card.specs.Records.{channel_of}
use Rattle.card.specs.Registers.{channel_at, in_channels, in_snapshots, place_at, snapshot_at}

-- the offset is a register of channel j: one of its span, or its MCR Data Register
abbrev pub is_of : ℕ → ℕ → Bool
is_of o j = (in_channels o && channel_at o == j) || (in_snapshots o && snapshot_at o == j)

-- the offset is a register of some single channel
abbrev pub is_single : ℕ → Bool
is_single o = in_channels o || in_snapshots o

-- two cards have the same record for channel j, and the same shared part
pub record Untouched (j : ℕ) (c d : Card) : Type 0 where
  pub channel : channel_of j d ≡ channel_of j c
  pub shared : d.shared ≡ c.shared

-- an access to a register of one channel leaves every other channel's record and the shared part
abbrev pub AltersOneRecord : Type 0
AltersOneRecord = (c : Card) (o v j : ℕ) → is_single o ≡ true → is_of o j ≡ false
    → Untouched j c (card_after_read c (read_done c o)) × Untouched j c (card_after_write c (write_done c o v))

-- a refused access leaves the card
abbrev pub RefusedLeaves : Type 0
RefusedLeaves = (c : Card) (o v : ℕ) (e : Refusal)
    → (value_of (read_done c o) ≡ Err e → card_after_read c (read_done c o) ≡ c)
    × (accepted (write_done c o v) ≡ Err e → card_after_write c (write_done c o v) ≡ c)

-- a read of a Data Register unlocks a counting channel's latch
abbrev pub unlocks : Card → ℕ → Bool
unlocks c o = in_channels o && (place_at o == 32 && is_counter_mode (channel_of (channel_at o) c))

-- with IRQ ACK CONFIG a read of an interrupt status register, 0x188 or 0x18C, clears it
abbrev pub acknowledges : Card → ℕ → Bool
acknowledges c o = (o == 392 || o == 396) && c.shared.clear_on_read

-- every other read, but that of an MCR Data Register, leaves the card
abbrev pub QuietReads : Type 0
QuietReads = (c : Card) (o : ℕ) → unlocks c o ≡ false → acknowledges c o ≡ false → in_snapshots o ≡ false
    → card_after_read c (read_done c o) ≡ c
