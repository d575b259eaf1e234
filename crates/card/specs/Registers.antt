-- The register map: what stands at an offset, and which offsets are refused.
use Rattle.std.specs.Prelude.{ℕ, ◌-◌, ◌/◌, ◌%◌, Bool, cond, not, ◌&&◌, ◌||◌, Ok, Err, Result, ◌==◌, nat_le, nat_lt}
use Rattle.refusal.specs.declared.Refusal.{Refusal}
use Rattle.refusal.specs.declared.Refusal.TheVariants.{Offset}
use Rattle.parts.specs.Snapshots.{after_reading}
use Rattle.channel.specs.declared.act.Act.TheVariants.{AcknowledgeEdges}
use Rattle.channel.specs.Records.{with_snapshot}
use Rattle.channel.specs.Registers.{register_answer, register_shown, register_taken, register_written}
use Rattle.card.specs.declared.Card.{Card}
use Rattle.card.specs.Records.{channel_of, with_channel}
use Rattle.card.specs.SharedRegisters.{acknowledged_all, on_all, shared_written}
use Rattle.card.specs.Words.{register_word}

-- registers stand at the multiples of 4 up to 0x1FC
abbrev pub offset_checked : ℕ → Result (Unit {0}) Refusal
offset_checked o = cond (not (o % 4 == 0) || nat_lt 508 o) (Err Offset) (Ok tt)

-- the eight spans of 0x28 bytes, one for each channel, stand from 0x010 to 0x14F
abbrev pub in_channels : ℕ → Bool
in_channels o = nat_le 16 o && nat_lt o 336

-- the channel whose span an offset lies in, and the place in the span
abbrev pub channel_at : ℕ → ℕ
channel_at o = (o - 16) / 40

abbrev pub place_at : ℕ → ℕ
place_at o = (o - 16) % 40

-- the MCR Data Registers, one for each channel, stand from 0x190 to 0x1AC
abbrev pub in_snapshots : ℕ → Bool
in_snapshots o = nat_le 400 o && nat_lt o 432

abbrev pub snapshot_at : ℕ → ℕ
snapshot_at o = (o - 400) / 4

-- with IRQ ACK CONFIG a read of Interrupt Status acknowledges all that it shows
abbrev pub interrupts_read : Card → Card
interrupts_read c = cond c.shared.clear_on_read (acknowledged_all 4294967295 c) c

-- and a read of 24 V Input Interrupt Status all edges
abbrev pub edges_read : Card → Card
edges_read c = cond c.shared.clear_on_read (on_all (AcknowledgeEdges 4294967295) c) c

-- what the register at an offset shows
abbrev pub register_value : ℕ → Card → ℕ
register_value o c =
    cond (in_channels o) (register_shown (place_at o) (channel_of (channel_at o) c))
    (cond (in_snapshots o) (channel_of (snapshot_at o) c).snapshot.word (register_word o c))

-- the card after a read of it
abbrev pub register_read : ℕ → Card → Card
register_read o c =
    cond (in_channels o) (with_channel (channel_at o) (register_taken (place_at o) (channel_of (channel_at o) c)) c)
    (cond (o == 392) (interrupts_read c)
    (cond (o == 396) (edges_read c)
    (cond (in_snapshots o)
    (with_channel (snapshot_at o) (with_snapshot (after_reading (channel_of (snapshot_at o) c).snapshot) (channel_of (snapshot_at o) c)) c) c)))

-- whether a write is refused for what it sets
abbrev pub setting_checked : ℕ → ℕ → Result (Unit {0}) Refusal
setting_checked o v = cond (in_channels o) (register_answer (place_at o) v) (Ok tt)

-- the card after a write that is not refused
abbrev pub register_set : ℕ → ℕ → Card → Card
register_set o v c =
    cond (in_channels o) (with_channel (channel_at o) (register_written (place_at o) v (channel_of (channel_at o) c)) c) (shared_written o v c)
