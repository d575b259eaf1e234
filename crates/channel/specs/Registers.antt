-- The registers of one channel, by their offset in the channel's span.
use Rattle.std.specs.Prelude.{ℕ, Bool, true, false, cond, Ok, Result, ◌==◌}
use Rattle.refusal.specs.declared.Refusal.{Refusal}
use Rattle.filter.specs.Debounces.{debounce_of, word_of_debounce, period_of}
use Rattle.counter_control.specs.Words.{word_of_control}
use Rattle.counter.specs.Registers.{commanded, command_matches, compare_written, control_answer, control_written, data_read, data_word, preload_written, status_cleared, status_shown}
use Rattle.controller.specs.declared.control.Start.{Start}
use Rattle.controller.specs.declared.control.Start.TheVariants.{Request, Timer}
use Rattle.controller.specs.Control.{word_of_control as ssi_control_word}
use Rattle.controller.specs.Phase.{active_in, busy_in}
use Rattle.controller.specs.Registers.{control_answer as ssi_control_answer, control_written as ssi_control_written, status_word as ssi_status_word}
use Rattle.parts.specs.Interrupts.{raised}
use Rattle.channel.specs.declared.mode.Mode.{Mode}
use Rattle.channel.specs.declared.mode.Mode.TheVariants.{Off, Counter as Counting, Ssi as Reading}
use Rattle.channel.specs.declared.channel.Channel.{Channel}
use Rattle.channel.specs.Lines.{lines_restarted}
use Rattle.channel.specs.Records.{seeing, with_counter, with_interrupts, with_ssi}
use Rattle.channel.specs.Ticks.{requested}

abbrev pub in_counter_mode_as : Mode → Bool
in_counter_mode_as (Off z) = false
in_counter_mode_as Counting = true
in_counter_mode_as (Reading p) = false

abbrev pub is_counter_mode : Channel → Bool
is_counter_mode c = in_counter_mode_as c.mode

-- LCNT and RCNT; a load that ends at the compare value is a match
abbrev pub command_written : ℕ → Channel → Channel
command_written v c = with_interrupts (raised (command_matches v c.counter) c.valid) c.fault (with_counter (commanded v c.counter) c)

-- the debouncing register restarts the filters of the three lines
abbrev pub debounce_written : ℕ → Channel → Channel
debounce_written v c = seeing c (lines_restarted (period_of (debounce_of v)) c.lines) (debounce_of v) c.input

-- at START 00 a write of the Data Register is a request
abbrev pub takes_requests_at : Start → Bool
takes_requests_at Request = true
takes_requests_at Timer = false

abbrev pub is_taking_requests : Channel → Bool
is_taking_requests c = takes_requests_at c.ssi.control.start

-- a write is refused for what it sets in a control register, whatever the channel is doing
abbrev pub register_answer : ℕ → ℕ → Result (Unit {0}) Refusal
register_answer o v = cond (o == 0) (ssi_control_answer v) (cond (o == 8) (control_answer v) (Ok tt))

-- a write: 0x00 SSI Mode Control, 0x08 Counter Mode Control, 0x0C Counter Mode Status, 0x10 Preload, 0x14 Compare,
-- 0x18 Counter Mode Command (in Counter Mode alone), 0x1C Debouncing, 0x20 Data (a request at START 00); others ignore it
unfoldable pub register_written : ℕ → ℕ → Channel → Channel
register_written o v c =
    cond (o == 0) (with_ssi (ssi_control_written v c.ssi) c) (
    cond (o == 8) (with_counter (control_written v c.counter) c) (
    cond (o == 12) (with_counter (status_cleared v c.counter) c) (
    cond (o == 16) (with_counter (preload_written v c.counter) c) (
    cond (o == 20) (with_counter (compare_written v c.counter) c) (
    cond (o == 24) (cond (is_counter_mode c) (command_written v c) c) (
    cond (o == 28) (debounce_written v c) (
    cond (o == 32) (cond (is_taking_requests c) (requested c) c) c)))))))

-- the Data Register: 0 where the channel is off, the count or the latched count, the last completed word
abbrev pub data_shown_as : Mode → Channel → ℕ
data_shown_as (Off z) c = 0
data_shown_as Counting c = data_word c.counter
data_shown_as (Reading p) c = c.ssi.word

abbrev pub data_shown : Channel → ℕ
data_shown c = data_shown_as c.mode c

-- in Counter Mode a read of it unlocks it
abbrev pub data_taken_as : Mode → Channel → Channel
data_taken_as (Off z) c = c
data_taken_as Counting c = with_counter (data_read c.counter) c
data_taken_as (Reading p) c = c

abbrev pub data_taken : Channel → Channel
data_taken c = data_taken_as c.mode c

-- outside SSI mode BSY and SENSOR STATUS are 0
abbrev pub ssi_status_shown_as : Mode → Channel → ℕ
ssi_status_shown_as (Off z) c = ssi_status_word false false c.ssi
ssi_status_shown_as Counting c = ssi_status_word false false c.ssi
ssi_status_shown_as (Reading p) c = ssi_status_word (active_in p) (busy_in p) c.ssi

abbrev pub ssi_status_shown : Channel → ℕ
ssi_status_shown c = ssi_status_shown_as c.mode c

-- a read; the Counter Mode Command Register, 0x18, and the reserved word, 0x24, read 0
unfoldable pub register_shown : ℕ → Channel → ℕ
register_shown o c =
    cond (o == 0) (ssi_control_word c.ssi.control) (
    cond (o == 4) (ssi_status_shown c) (
    cond (o == 8) (word_of_control c.counter.count.control) (
    cond (o == 12) (status_shown c.counter) (
    cond (o == 16) c.counter.count.preload (
    cond (o == 20) c.counter.compare (
    cond (o == 28) (word_of_debounce c.debounce) (
    cond (o == 32) (data_shown c) 0)))))))

-- of the channel's registers only the Data Register is altered by a read
unfoldable pub register_taken : ℕ → Channel → Channel
register_taken o c = cond (o == 32) (data_taken c) c
