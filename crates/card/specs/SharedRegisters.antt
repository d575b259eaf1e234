-- Writes of shared registers.
use Rattle.std.specs.Prelude.{ℕ, cond, ◌==◌}
use Rattle.filter.specs.Debounces.{debounce_of, period_of}
use Rattle.timer.specs.Timers.{control_written as timer_written, preload_written as timer_preloaded}
use Rattle.channel.specs.declared.act.Act.{Act}
use Rattle.channel.specs.declared.act.Act.TheVariants.{Control, DebounceInput, Output, EnableInterrupts, AcknowledgeInterrupts, EnableEdges, AcknowledgeEdges, TestOutput}
use Rattle.table.specs.Tables.{acted}
use Rattle.card.specs.declared.Card.{Card}
use Rattle.card.specs.Records.{with_shared, with_table}
use Rattle.card.specs.Shared.{control_set, debounce_set, interrupts_set, outputs_enabled, timer_acknowledged, with_scratchpad, with_timer}
use Rattle.card.specs.Snapshots.{commanded}

-- every channel does what the write asks of it
abbrev pub on_all : Act → Card → Card
on_all a c = with_table (acted a c.channels) c

-- Global Control
abbrev pub control_written : ℕ → Card → Card
control_written w c = on_all (Control w) (with_shared (control_set w c.shared) c)

-- 24 V Input Debouncing
abbrev pub inputs_debounced : ℕ → Card → Card
inputs_debounced w c = on_all (DebounceInput w (period_of (debounce_of w))) (with_shared (debounce_set w c.shared) c)

-- Interrupt Enable
abbrev pub interrupts_enabled : ℕ → Card → Card
interrupts_enabled w c = on_all (EnableInterrupts w) (with_shared (interrupts_set w c.shared) c)

-- Interrupt Status: ones acknowledge
abbrev pub acknowledged_all : ℕ → Card → Card
acknowledged_all w c = on_all (AcknowledgeInterrupts w) (with_shared (timer_acknowledged w c.shared) c)

-- with IRQ ACK CONFIG ones acknowledge nothing
abbrev pub unless_cleared : Card → Card → Card
unless_cleared k c = cond c.shared.clear_on_read c k

-- a write outside the channels' spans
abbrev pub shared_written : ℕ → ℕ → Card → Card
shared_written o v c =
    cond (o == 0) (control_written v c) (
    cond (o == 4) (commanded v c) (
    cond (o == 340) (inputs_debounced v c) (
    cond (o == 352) (with_shared (outputs_enabled v c.shared) c) (
    cond (o == 356) (on_all (Output v) c) (
    cond (o == 368) (with_shared (with_timer (timer_written v c.shared.timer) c.shared.timer_interrupt c.shared) c) (
    cond (o == 372) (with_shared (with_timer (timer_preloaded v c.shared.timer) c.shared.timer_interrupt c.shared) c) (
    cond (o == 384) (interrupts_enabled v c) (
    cond (o == 388) (on_all (EnableEdges v) c) (
    cond (o == 392) (unless_cleared (acknowledged_all v c) c) (
    cond (o == 396) (unless_cleared (on_all (AcknowledgeEdges v) c) c) (
    cond (o == 496) (on_all (TestOutput v) c) (
    cond (o == 504) (with_shared (with_scratchpad v c.shared) c) c))))))))))))
