-- What writes, reads and changes of mode do to a counter.
use Rattle.std.specs.Prelude.{ℕ, Bool, cond, not, ◌&&◌, Ok, Err, Result}
use Rattle.bits.specs.Words.{word_flag}
use Rattle.refusal.specs.declared.Refusal.{Refusal}
use Rattle.counter_control.specs.declared.modes.IndexMode.{IndexMode}
use Rattle.counter_control.specs.declared.control.Control.{Control}
use Rattle.counter_control.specs.Words.{decoded}
use Rattle.counter_count.specs.declared.count.Outcome.TheVariants.{Loaded}
use Rattle.counter_count.specs.Counts.{command_outcome, preloaded, restarted}
use Rattle.counter_count.specs.Counts.{commanded as count_commanded, configured as count_configured, control_written as count_control_written, preload_loaded as count_preload_loaded}
use Rattle.counter.specs.declared.flags.Flags.{Flags}
use Rattle.counter.specs.declared.counter.Counter.{Counter}
use Rattle.counter.specs.Status.{cleared_by, released, status_word, with_lock}
use Rattle.counter.specs.Counters.{latches, marked, match_cause, with_count, with_flags}

-- DRL at new settings: the lock is let go where they leave Latch on I, whose index mode was m
abbrev pub lock_at : IndexMode → Control → Flags → Flags
lock_at m k f = with_lock (f.locked && not (latches m && not (latches k.index))) f.overflow f

-- new settings
abbrev pub configured : Control → Counter → Counter
configured k c = record {
  count = count_configured k c.count;
  compare = c.compare;
  latched = c.latched;
  flags = lock_at c.count.control.index k c.flags;
}

-- the status bits at a word's settings; a refused word leaves them
abbrev pub flags_settled : Result Control Refusal → IndexMode → Flags → Flags
flags_settled (Ok k) m f = lock_at m k f
flags_settled (Err e) m f = f

-- what a write of settings answers
abbrev pub settled_answer : Result Control Refusal → Result (Unit {0}) Refusal
settled_answer (Ok k) = Ok tt
settled_answer (Err e) = Err e

-- a Counter Mode Control write, and its answer
unfoldable pub control_written : ℕ → Counter → Counter
control_written w c = record {
  count = count_control_written w c.count;
  compare = c.compare;
  latched = c.latched;
  flags = flags_settled (decoded w) c.count.control.index c.flags;
}

unfoldable pub control_answer : ℕ → Result (Unit {0}) Refusal
control_answer w = settled_answer (decoded w)

-- the Counter Mode Status word
unfoldable pub status_shown : Counter → ℕ
status_shown c = status_word c.count.single c.flags

-- a Counter Mode Status write
unfoldable pub status_cleared : ℕ → Counter → Counter
status_cleared w c = with_flags (cleared_by w c.flags) c

-- a Counter Mode Preload write
unfoldable pub preload_written : ℕ → Counter → Counter
preload_written w c = with_count (preloaded w c.count) c

-- a Counter Mode Compare write
unfoldable pub compare_written : ℕ → Counter → Counter
compare_written w c = record { count = c.count; compare = w; latched = c.latched; flags = c.flags }

-- the count after a command word, whose bit 0, RCNT, releases the lock
abbrev pub command_taken : ℕ → Counter → Counter
command_taken w c = record {
  count = count_commanded w c.count;
  compare = c.compare;
  latched = c.latched;
  flags = cond (word_flag w 0) (released c.flags) c.flags;
}

-- a Counter Mode Command write in Counter Mode, and whether a load ended at compare
unfoldable pub commanded : ℕ → Counter → Counter
commanded w c = marked (command_outcome w) (command_taken w c)

unfoldable pub command_matches : ℕ → Counter → Bool
command_matches w c = match_cause (command_outcome w) (command_taken w c)

-- LCNT of the shared command register in Counter Mode, and whether the load ended at compare
unfoldable pub preload_loaded : Counter → Counter
preload_loaded c = marked Loaded (with_count (count_preload_loaded c.count) c)

unfoldable pub preload_matches : Counter → Bool
preload_matches c = match_cause Loaded (with_count (count_preload_loaded c.count) c)

-- the channel enters Counter Mode
unfoldable pub entered : Counter → Counter
entered c = with_count (restarted c.count) c

-- the channel leaves Counter Mode
unfoldable pub left : Counter → Counter
left c = with_flags (released c.flags) c

-- what the Data Register shows in Counter Mode
unfoldable pub data_word : Counter → ℕ
data_word c = cond (latches c.count.control.index) c.latched c.count.value

-- a Data Register read in Counter Mode
unfoldable pub data_read : Counter → Counter
data_read c = with_flags (released c.flags) c
