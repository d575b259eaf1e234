-- A channel's share of the shared registers.
use Rattle.std.specs.Prelude.{ℕ, ◌+◌, ◌*◌, Bool, true, cond}
use Rattle.bits.specs.Words.{bit_at, word_field, word_flag}
use Rattle.counter.specs.Registers.{preload_loaded, preload_matches}
use Rattle.controller.specs.Phase.{clock_of}
use Rattle.parts.specs.Inputs.{debounced_by}
use Rattle.parts.specs.Interrupts.{acknowledged, enabled_to, raised}
use Rattle.parts.specs.Snapshots.{cleared, enabled_as, is_collecting, is_unread}
use Rattle.parts.specs.declared.input.Input.{Input}
use Rattle.parts.specs.declared.interrupt.Interrupt.{Interrupt}
use Rattle.channel.specs.declared.act.Act.{Act}
use Rattle.channel.specs.declared.act.Act.TheVariants.{Control, Load, ClearSnapshot, Snapshot, DebounceInput, Output as SetOutput, EnableInterrupts, AcknowledgeInterrupts, EnableEdges, AcknowledgeEdges, TestOutput as SetTestOutput}
use Rattle.channel.specs.declared.act.Bit.{Bit}
use Rattle.channel.specs.declared.act.Bit.TheVariants.{SnapshotEnabled, Collecting, Unread, Input as InputLevel, InputDebounced, Output, ValidEnabled, ValidPending, FaultEnabled, FaultPending, RisingEnabled, RisingPending, FallingEnabled, FallingPending, TestOutput, Clock}
use Rattle.channel.specs.declared.act.Share.{Share}
use Rattle.channel.specs.declared.act.Share.TheVariants.{Mode as ModeShare, Lines as LinesShare, Single}
use Rattle.channel.specs.declared.mode.Mode.{Mode}
use Rattle.channel.specs.declared.mode.Mode.TheVariants.{Off, Counter as Counting, Ssi as Reading}
use Rattle.channel.specs.declared.mode.OffCode.{OffCode}
use Rattle.channel.specs.declared.mode.OffCode.TheVariants.{Zeros, Ones}
use Rattle.channel.specs.declared.channel.Channel.{Channel}
use Rattle.channel.specs.Modes.{mode_written}
use Rattle.channel.specs.Records.{with_counter, with_input, with_interrupts, with_outputs, with_snapshot}
use Rattle.channel.specs.Snapshots.{triggered}

-- Global Control: the mode first, then the snapshot enable
abbrev pub controlled : ℕ → Bool → Channel → Channel
controlled m on c = with_snapshot (enabled_as on (mode_written m c).snapshot) (mode_written m c)

-- LCNT, which only Counter Mode heeds
abbrev pub loaded_as : Mode → Channel → Channel
loaded_as (Off z) c = c
loaded_as Counting c = with_interrupts (raised (preload_matches c.counter) c.valid) c.fault (with_counter (preload_loaded c.counter) c)
loaded_as (Reading p) c = c

abbrev pub loaded_by : Bool → Channel → Channel
loaded_by one c = cond one (loaded_as c.mode c) c

abbrev pub interrupts_enabled : Bool → Bool → Channel → Channel
interrupts_enabled v f c = with_interrupts (enabled_to v c.valid) (enabled_to f c.fault) c

abbrev pub acknowledged_interrupts : Bool → Bool → Channel → Channel
acknowledged_interrupts v f c = with_interrupts (acknowledged v c.valid) (acknowledged f c.fault) c

abbrev pub with_edges : Interrupt → Interrupt → Input → Input
with_edges r f i = record { timing = i.timing; samples = i.samples; debounced = i.debounced; rising = r; falling = f }

abbrev pub edges_enabled : Bool → Bool → Channel → Channel
edges_enabled r f c = with_input (with_edges (enabled_to r c.input.rising) (enabled_to f c.input.falling) c.input) c

abbrev pub acknowledged_edges : Bool → Bool → Channel → Channel
acknowledged_edges r f c = with_input (with_edges (acknowledged r c.input.rising) (acknowledged f c.input.falling) c.input) c

-- what a write of a shared register asks of the channel at place k
unfoldable pub performed : Act → ℕ → Channel → Channel
performed (Control w) k c = controlled (word_field w (2 * k) 2) (word_flag w (16 + k)) c
performed (Load w) k c = loaded_by (word_flag w k) c
performed ClearSnapshot k c = with_snapshot (cleared c.snapshot) c
performed Snapshot k c = triggered c
performed (DebounceInput w p) k c = with_input (debounced_by (word_flag w (24 + k)) p c.input) c
performed (SetOutput w) k c = with_outputs (word_flag w k) c.test_output c
performed (EnableInterrupts w) k c = interrupts_enabled (word_flag w k) (word_flag w (8 + k)) c
performed (AcknowledgeInterrupts w) k c = acknowledged_interrupts (word_flag w k) (word_flag w (8 + k)) c
performed (EnableEdges w) k c = edges_enabled (word_flag w k) (word_flag w (8 + k)) c
performed (AcknowledgeEdges w) k c = acknowledged_edges (word_flag w k) (word_flag w (8 + k)) c
performed (SetTestOutput w) k c = with_outputs c.output (word_flag w (24 + k)) c

-- MODE as it reads back: 00 and 11 off, 01 SSI mode, 10 Counter Mode
abbrev pub off_word : OffCode → ℕ
off_word Zeros = 0
off_word Ones = 3

abbrev pub mode_word_as : Mode → ℕ
mode_word_as (Off z) = off_word z
mode_word_as Counting = 2
mode_word_as (Reading p) = 1

abbrev pub word_of_mode : Channel → ℕ
word_of_mode c = mode_word_as c.mode

-- the filtered levels, before any polarity
abbrev pub word_of_lines : Channel → ℕ
word_of_lines c = bit_at 0 c.lines.a.level + bit_at 1 c.lines.b.level + bit_at 2 c.lines.i.level

-- the SSI clock, 1 where the channel is not in SSI mode
abbrev pub clock_level_as : Mode → Bool
clock_level_as (Off z) = true
clock_level_as Counting = true
clock_level_as (Reading p) = clock_of p

abbrev pub clock_level : Channel → Bool
clock_level c = clock_level_as c.mode

-- the bits that a channel has in shared words
unfoldable pub bit_of : Bit → Channel → Bool
bit_of SnapshotEnabled c = c.snapshot.enabled
bit_of Collecting c = is_collecting c.snapshot
bit_of Unread c = is_unread c.snapshot
bit_of InputLevel c = c.input.samples.level
bit_of InputDebounced c = c.input.debounced
bit_of Output c = c.output
bit_of ValidEnabled c = c.valid.enabled
bit_of ValidPending c = c.valid.pending
bit_of FaultEnabled c = c.fault.enabled
bit_of FaultPending c = c.fault.pending
bit_of RisingEnabled c = c.input.rising.enabled
bit_of RisingPending c = c.input.rising.pending
bit_of FallingEnabled c = c.input.falling.enabled
bit_of FallingPending c = c.input.falling.pending
bit_of TestOutput c = c.test_output
bit_of Clock c = clock_level c

-- how many bits each channel has in a shared word
abbrev pub width_of : Share → ℕ
width_of ModeShare = 2
width_of LinesShare = 3
width_of (Single b) = 1

-- and which they are
unfoldable pub share_of : Share → Channel → ℕ
share_of ModeShare c = word_of_mode c
share_of LinesShare c = word_of_lines c
share_of (Single b) c = bit_at 0 (bit_of b c)
