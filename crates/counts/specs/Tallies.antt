-- The tally of a channel: what it counts, folded over the calls alone, without any state or answer of the card.
use Rattle.std.specs.Prelude.{ℕ, ◌+◌, ◌*◌, Bool, true, false, cond, not, ◌&&◌, List, [], ◌∷◌, ◌==◌}
use Rattle.bits.specs.Words.{word_field, word_flag}
use Rattle.filter.specs.Debounces.{debounce_of, period_of}
use Rattle.counter_count.specs.declared.levels.Levels.{Levels}
use Rattle.channel.specs.declared.lines.Lines.{Lines}
use Rattle.channel.specs.Lines.{levels_of, lines_restarted, lines_ticked, new_lines}
use Rattle.tally.specs.Tally.{Tally, tally_command, tally_control, tally_enter, tally_load, tally_power_on, tally_preload, tally_tick}
use Rattle.runs.specs.declared.Call.{Call}
use Rattle.runs.specs.declared.Call.TheVariants.{Tick, Read, Write}

-- what MODE sets a channel to
pub data Setting : Type 0 where
  off : Setting
  counting : Setting
  reading : Setting

-- a channel's mode, the filters of its three lines, and the tally of its counter
pub record ChannelTally : Type 0 where
  pub mode : Setting
  pub lines : Lines
  pub counter : Tally

-- MODE 01 is SSI mode, 10 is Counter Mode, 00 and 11 are off
abbrev pub setting_at : ℕ → Setting
setting_at n = cond (n == 0) off (cond (n == 1) reading (cond (n == 2) counting off))

abbrev pub is_counting : Setting → Bool
is_counting off = false
is_counting counting = true
is_counting reading = false

-- what only Counter Mode does
abbrev pub in_counter_mode : {A : Type 0} → Setting → A → A → A
in_counter_mode s new old = cond (is_counting s) new old

-- Counter Mode is entered from another mode
abbrev pub enters : Setting → Setting → Bool
enters old new = is_counting new && not (is_counting old)

-- off, 0 loaded, and filters that sample every three ticks
abbrev pub power_on_tally : ChannelTally
power_on_tally = record { mode = off; lines = new_lines 3; counter = tally_power_on }

abbrev pub with_tally : Tally → ChannelTally → ChannelTally
with_tally n t = record { mode = t.mode; lines = t.lines; counter = n }

-- the levels on channel k's lines: A, B and I stand in bits 3k, 3k + 1 and 3k + 2
abbrev pub levels_on : ℕ → ℕ → Levels
levels_on k lines = record { a = word_flag lines (3 * k); b = word_flag lines (3 * k + 1); i = word_flag lines (3 * k + 2) }

-- the filters tick in every mode; Counter Mode counts by the filtered levels before and after the tick
abbrev pub tally_ticked : Levels → ChannelTally → ChannelTally
tally_ticked x t = record {
  mode = t.mode;
  lines = lines_ticked x t.lines;
  counter = in_counter_mode t.mode (tally_tick (levels_of t.lines) (levels_of (lines_ticked x t.lines)) t.counter) t.counter;
}

-- MODE as written: the divider restarts where Counter Mode is entered
abbrev pub tally_mode : Setting → ChannelTally → ChannelTally
tally_mode s t = record { mode = s; lines = t.lines; counter = cond (enters t.mode s) (tally_enter t.counter) t.counter }

-- LCNT of Global Command
abbrev pub tally_loaded : Bool → ChannelTally → ChannelTally
tally_loaded one t = cond one (with_tally (in_counter_mode t.mode (tally_load t.counter) t.counter) t) t

-- a debouncing write restarts the filters with its period
abbrev pub tally_debounced : ℕ → ChannelTally → ChannelTally
tally_debounced v t = record { mode = t.mode; lines = lines_restarted (period_of (debounce_of v)) t.lines; counter = t.counter }

-- the offset of channel k's register whose place in the channel's span is p
abbrev pub register_at : ℕ → ℕ → ℕ
register_at k p = 16 + 40 * k + p

-- channel k's registers: 0x08 Counter Mode Control, 0x10 Preload, 0x18 Command, 0x1C Debouncing; no other bears on the count
abbrev pub own_written : ℕ → ℕ → ℕ → ChannelTally → ChannelTally
own_written k o v t =
    cond (o == register_at k 8) (with_tally (tally_control v t.counter) t) (
    cond (o == register_at k 16) (with_tally (tally_preload v t.counter) t) (
    cond (o == register_at k 24) (with_tally (in_counter_mode t.mode (tally_command v t.counter) t.counter) t) (
    cond (o == register_at k 28) (tally_debounced v t) t)))

-- a write: Global Control at 0, Global Command at 4, else channel k's own registers
abbrev pub tally_written : ℕ → ℕ → ℕ → ChannelTally → ChannelTally
tally_written k o v t =
    cond (o == 0) (tally_mode (setting_at (word_field v (2 * k) 2)) t) (
    cond (o == 4) (tally_loaded (word_flag v k) t) (own_written k o v t))

-- a call, as it bears on channel k
abbrev pub tally_step : ℕ → ChannelTally → Call → ChannelTally
tally_step k t (Tick lines inputs) = tally_ticked (levels_on k lines) t
tally_step k t (Read o) = t
tally_step k t (Write o v) = tally_written k o v t

abbrev pub tally_over : ℕ → ChannelTally → List Call → ChannelTally
tally_over k t [] = t
tally_over k t (x ∷ xs) = tally_over k (tally_step k t x) xs

-- channel k's tally after a list of calls on a new card
abbrev pub tallied : ℕ → List Call → ChannelTally
tallied k xs = tally_over k power_on_tally xs
