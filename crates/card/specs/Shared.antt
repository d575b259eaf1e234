-- What the card keeps for no single channel.
use Rattle.std.specs.Prelude.{ℕ, ◌+◌, Bool, false, cond}
use Rattle.bits.specs.Words.{bit_at, word_flag}
use Rattle.filter.specs.Debounces.{debounce_of, reset}
use Rattle.parts.specs.declared.interrupt.Interrupt.{Interrupt}
use Rattle.parts.specs.Interrupts.{acknowledged, enabled_to, quiet, raised}
use Rattle.timer.specs.declared.Timer.{Timer}
use Rattle.timer.specs.Timers.{expires, new_timer, ticked}
use Rattle.card.specs.declared.shared.Shared.{Shared}

abbrev pub new_shared : Shared
new_shared = record {
  test_enabled = false;
  timer_triggers = false;
  overflow = false;
  input_debounce = reset;
  low_outputs = false;
  high_outputs = false;
  timer = new_timer;
  timer_interrupt = quiet;
  clear_on_read = false;
  scratchpad = 0;
}

-- the timer and its interrupt
abbrev pub with_timer : Timer → Interrupt → Shared → Shared
with_timer t i s = record {
  test_enabled = s.test_enabled;
  timer_triggers = s.timer_triggers;
  overflow = s.overflow;
  input_debounce = s.input_debounce;
  low_outputs = s.low_outputs;
  high_outputs = s.high_outputs;
  timer = t;
  timer_interrupt = i;
  clear_on_read = s.clear_on_read;
  scratchpad = s.scratchpad;
}

abbrev pub with_overflow : Bool → Shared → Shared
with_overflow o s = record {
  test_enabled = s.test_enabled;
  timer_triggers = s.timer_triggers;
  overflow = o;
  input_debounce = s.input_debounce;
  low_outputs = s.low_outputs;
  high_outputs = s.high_outputs;
  timer = s.timer;
  timer_interrupt = s.timer_interrupt;
  clear_on_read = s.clear_on_read;
  scratchpad = s.scratchpad;
}

abbrev pub with_scratchpad : ℕ → Shared → Shared
with_scratchpad v s = record {
  test_enabled = s.test_enabled;
  timer_triggers = s.timer_triggers;
  overflow = s.overflow;
  input_debounce = s.input_debounce;
  low_outputs = s.low_outputs;
  high_outputs = s.high_outputs;
  timer = s.timer;
  timer_interrupt = s.timer_interrupt;
  clear_on_read = s.clear_on_read;
  scratchpad = v;
}

-- whether the timer expires in this tick
abbrev pub expiry : Shared → Bool
expiry s = expires s.timer

-- a tick: the timer, and its interrupt where it expires
abbrev pub shared_ticked : Shared → Shared
shared_ticked s = with_timer (ticked s.timer) (raised (expires s.timer) s.timer_interrupt) s

-- Global Control: MCR ITRIG is bit 24, TST EN bit 25
abbrev pub control_set : ℕ → Shared → Shared
control_set w s = record {
  test_enabled = word_flag w 25;
  timer_triggers = word_flag w 24;
  overflow = s.overflow;
  input_debounce = s.input_debounce;
  low_outputs = s.low_outputs;
  high_outputs = s.high_outputs;
  timer = s.timer;
  timer_interrupt = s.timer_interrupt;
  clear_on_read = s.clear_on_read;
  scratchpad = s.scratchpad;
}

-- 24 V Input Debouncing
abbrev pub debounce_set : ℕ → Shared → Shared
debounce_set w s = record {
  test_enabled = s.test_enabled;
  timer_triggers = s.timer_triggers;
  overflow = s.overflow;
  input_debounce = debounce_of w;
  low_outputs = s.low_outputs;
  high_outputs = s.high_outputs;
  timer = s.timer;
  timer_interrupt = s.timer_interrupt;
  clear_on_read = s.clear_on_read;
  scratchpad = s.scratchpad;
}

-- 24 V Output Control: DOEN03 is bit 0, DOEN47 bit 1
abbrev pub outputs_enabled : ℕ → Shared → Shared
outputs_enabled w s = record {
  test_enabled = s.test_enabled;
  timer_triggers = s.timer_triggers;
  overflow = s.overflow;
  input_debounce = s.input_debounce;
  low_outputs = word_flag w 0;
  high_outputs = word_flag w 1;
  timer = s.timer;
  timer_interrupt = s.timer_interrupt;
  clear_on_read = s.clear_on_read;
  scratchpad = s.scratchpad;
}

-- Interrupt Enable: TIEN is bit 20, IRQ ACK CONFIG bit 31
abbrev pub interrupts_set : ℕ → Shared → Shared
interrupts_set w s = record {
  test_enabled = s.test_enabled;
  timer_triggers = s.timer_triggers;
  overflow = s.overflow;
  input_debounce = s.input_debounce;
  low_outputs = s.low_outputs;
  high_outputs = s.high_outputs;
  timer = s.timer;
  timer_interrupt = enabled_to (word_flag w 20) s.timer_interrupt;
  clear_on_read = word_flag w 31;
  scratchpad = s.scratchpad;
}

-- Interrupt Status: a one at bit 20 acknowledges the timer's interrupt
abbrev pub timer_acknowledged : ℕ → Shared → Shared
timer_acknowledged w s = with_timer s.timer (acknowledged (word_flag w 20) s.timer_interrupt) s

abbrev pub word_of_enables : Shared → ℕ
word_of_enables s = bit_at 0 s.low_outputs + bit_at 1 s.high_outputs

-- the channels whose outputs are enabled: DOEN03 for channels 0 to 3, DOEN47 for channels 4 to 7
abbrev pub mask_of_outputs : Shared → ℕ
mask_of_outputs s = cond s.low_outputs (cond s.high_outputs 255 15) (cond s.high_outputs 240 0)
