-- Snapshots over all channels.
use Rattle.std.specs.Prelude.{ℕ, Bool, false, cond, not, ◌&&◌, List, ◌==◌}
use Rattle.bits.specs.Words.{word_flag}
use Rattle.channel.specs.declared.act.Act.TheVariants.{ClearSnapshot, Load, Snapshot}
use Rattle.channel.specs.declared.act.Bit.{Bit}
use Rattle.channel.specs.declared.act.Bit.TheVariants.{Collecting as CollectingBit, Unread as UnreadBit}
use Rattle.channel.specs.declared.act.Share.TheVariants.{Single}
use Rattle.channel.specs.declared.channel.Channel.{Channel}
use Rattle.table.specs.Tables.{acted, gathered}
use Rattle.card.specs.declared.Card.{Card}
use Rattle.card.specs.declared.snapshots.SnapshotStatus.{SnapshotStatus}
use Rattle.card.specs.declared.snapshots.SnapshotStatus.TheVariants.{Idle, Collecting, Unread, Overflow}
use Rattle.card.specs.Records.{with_shared, with_table}
use Rattle.card.specs.Shared.{with_overflow}

abbrev pub status_word : SnapshotStatus → ℕ
status_word Idle = 0
status_word Collecting = 1
status_word Unread = 2
status_word Overflow = 3

-- whether no channel has the bit
abbrev pub none_has : Bit → List Channel → Bool
none_has b cs = gathered (Single b) cs == 0

-- MCR STA: 11 after an overflow, else 01 while a channel collects, else 10 while one is unread, else 00
abbrev pub status_of : Card → SnapshotStatus
status_of c =
    cond c.shared.overflow Overflow
    (cond (none_has CollectingBit c.channels) (cond (none_has UnreadBit c.channels) Idle Unread) Collecting)

-- a trigger: overflow where the status was other than 00, and every enabled channel gives its word
abbrev pub triggered : Card → Card
triggered c = with_table (acted Snapshot c.channels) (with_shared (with_overflow (not (status_word (status_of c) == 0)) c.shared) c)

-- at MCR ITRIG the timer's expiry is a trigger
abbrev pub timer_triggered : Bool → Card → Card
timer_triggered expired c = cond (expired && c.shared.timer_triggers) (triggered c) c

-- MCR CLR clears every part and the overflow
abbrev pub snapshots_cleared : Bool → Card → Card
snapshots_cleared one c = cond one (with_table (acted ClearSnapshot c.channels) (with_shared (with_overflow false c.shared) c)) c

abbrev pub triggered_if : Bool → Card → Card
triggered_if one c = cond one (triggered c) c

-- Global Command: the loads, then MCR CLR (bit 9), then MCR TRIG (bit 8)
abbrev pub commanded : ℕ → Card → Card
commanded w c = triggered_if (word_flag w 8) (snapshots_cleared (word_flag w 9) (with_table (acted (Load w) c.channels) c))
