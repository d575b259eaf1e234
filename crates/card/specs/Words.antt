-- Shared registers as they read.
use Rattle.std.specs.Prelude.{ℕ, ◌+◌, Bool, cond, not, List, ◌==◌, bit_and}
use Rattle.bits.specs.Words.{bit_at, field_at}
use Rattle.filter.specs.Debounces.{word_of_debounce as debounce_fields}
use Rattle.timer.specs.Timers.{word_of_control as timer_word}
use Rattle.channel.specs.declared.act.Bit.{Bit}
use Rattle.channel.specs.declared.act.Bit.TheVariants.{SnapshotEnabled, Input, InputDebounced, Output, ValidEnabled, ValidPending, FaultEnabled, FaultPending, RisingEnabled, RisingPending, FallingEnabled, FallingPending, TestOutput, Clock}
use Rattle.channel.specs.declared.act.Share.TheVariants.{Mode, Lines, Single}
use Rattle.channel.specs.declared.channel.Channel.{Channel}
use Rattle.table.specs.Tables.{gathered}
use Rattle.card.specs.declared.Card.{Card}
use Rattle.card.specs.declared.Levels.{Levels}
use Rattle.card.specs.Shared.{word_of_enables, mask_of_outputs}
use Rattle.card.specs.Snapshots.{status_of, status_word}

-- a bit of each channel in the lowest byte, and another in the next
abbrev pub pair_of : Bit → Bit → List Channel → ℕ
pair_of x y cs = gathered (Single x) cs + field_at 8 (gathered (Single y) cs)

-- Global Control: MODE 15:0, MCR 23:16, MCR ITRIG 24, TST EN 25
abbrev pub word_of_control : Card → ℕ
word_of_control c = gathered Mode c.channels + field_at 16 (gathered (Single SnapshotEnabled) c.channels)
    + bit_at 24 c.shared.timer_triggers + bit_at 25 c.shared.test_enabled

-- 24 V Input Debouncing: DEB TIME 15:0, DEB BASE 17:16, ADE 31:24
abbrev pub word_of_debounce : Card → ℕ
word_of_debounce c = debounce_fields c.shared.input_debounce + field_at 24 (gathered (Single InputDebounced) c.channels)

-- the outputs that are on: DO under DOEN
abbrev pub outputs_driven : Card → ℕ
outputs_driven c = bit_and (gathered (Single Output) c.channels) (mask_of_outputs c.shared)

-- what the card drives
abbrev pub levels_now : Card → Levels
levels_now c = record { clocks = gathered (Single Clock) c.channels; outputs = outputs_driven c }

-- Interrupt Enable: VCM EN 7:0, FCM EN 15:8, TIEN 20, IRQ ACK CONFIG 31
abbrev pub enables_of_interrupts : Card → ℕ
enables_of_interrupts c = pair_of ValidEnabled FaultEnabled c.channels
    + bit_at 20 c.shared.timer_interrupt.enabled + bit_at 31 c.shared.clear_on_read

-- EDGE STA: any bit of 24 V Input Interrupt Status
abbrev pub has_edge : List Channel → Bool
has_edge cs = not (pair_of RisingPending FallingPending cs == 0)

-- Interrupt Status: VCM STA 7:0, FCM STA 15:8, TISTA 20, EDGE STA 21
abbrev pub status_of_interrupts : Card → ℕ
status_of_interrupts c = pair_of ValidPending FaultPending c.channels
    + bit_at 20 c.shared.timer_interrupt.pending + bit_at 21 (has_edge c.channels)

-- Test: the filtered lines 23:0, OUT 31:24
abbrev pub word_of_test : List Channel → ℕ
word_of_test cs = gathered Lines cs + field_at 24 (gathered (Single TestOutput) cs)

-- a shared register by its offset; Global Command, the watchdog, the reserved and the left-out registers read 0
abbrev pub register_word : ℕ → Card → ℕ
register_word o c =
    cond (o == 0) (word_of_control c) (
    cond (o == 8) (status_word (status_of c)) (
    cond (o == 336) (gathered (Single Input) c.channels) (
    cond (o == 340) (word_of_debounce c) (
    cond (o == 352) (word_of_enables c.shared) (
    cond (o == 356) (gathered (Single Output) c.channels) (
    cond (o == 360) (outputs_driven c) (
    cond (o == 368) (timer_word c.shared.timer) (
    cond (o == 372) c.shared.timer.preload (
    cond (o == 376) c.shared.timer.left (
    cond (o == 384) (enables_of_interrupts c) (
    cond (o == 388) (pair_of RisingEnabled FallingEnabled c.channels) (
    cond (o == 392) (status_of_interrupts c) (
    cond (o == 396) (pair_of RisingPending FallingPending c.channels) (
    cond (o == 496) (word_of_test c.channels) (
    cond (o == 500) 33554432 (
    cond (o == 504) c.shared.scratchpad (
    cond (o == 508) 16777216 0)))))))))))))))))
