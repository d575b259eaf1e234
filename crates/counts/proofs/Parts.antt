-- What the law of counts speaks of in a channel's record, and what each act of the card makes of it.
use Rattle.std.proofs.Common.{◌≡◌, ℕ, ◌*◌, Bool, cond, arith}
use Rattle.bits.specs.Words.{word_field, word_flag}
use Rattle.counter_count.specs.declared.levels.Levels.{Levels}
use Rattle.counter_count.specs.declared.count.Count.{Count}
use Rattle.counter_count.specs.Counts.{preload_loaded, restarted}
use Rattle.counter_count.specs.Ticks.{count_ticked}
use Rattle.counter.specs.Counters.{ticked}
use Rattle.counter.specs.Registers as register
use Rattle.channel.specs.declared.act.Act.{Act}
use Rattle.channel.specs.declared.act.Act.TheVariants.{Control, Load}
use Rattle.channel.specs.declared.lines.Lines.{Lines}
use Rattle.channel.specs.declared.mode.Mode.{Mode}
use Rattle.channel.specs.declared.mode.OffCode.{OffCode}
use Rattle.channel.specs.declared.mode.Mode.TheVariants.{Off, Counter as Counting, Ssi as Reading}
use Rattle.channel.specs.declared.channel.Channel.{Channel}
use Rattle.channel.specs.Lines.{levels_of, lines_ticked}
use Rattle.channel.specs.Modes.{became_off}
use Rattle.channel.specs.Records.{with_mode}
use Rattle.channel.specs.Shares.{performed}
use Rattle.channel.specs.Snapshots.{snapped}
use Rattle.channel.specs.Ticks.{channel_ticked, requested, timer_requested, transmitted}
use Rattle.counts.specs.Tallies.{Setting, off, counting, reading, enters, in_counter_mode, setting_at}

-- the filters of the lines, the mode without the controller's phase, and the count
pub record Part : Type 0 where
  pub lines : Lines
  pub mode : Setting
  pub count : Count

abbrev pub setting_of : Mode → Setting
setting_of (Off z) = off
setting_of Counting = counting
setting_of (Reading p) = reading

abbrev pub part : Channel → Part
part c = record { lines = c.lines; mode = setting_of c.mode; count = c.counter.count }

abbrev pub with_count : Count → Part → Part
with_count n p = record { lines = p.lines; mode = p.mode; count = n }

-- a change of mode
abbrev pub part_mode : Setting → Part → Part
part_mode s p = record { lines = p.lines; mode = s; count = cond (enters p.mode s) (restarted p.count) p.count }

off_part : (z : OffCode) (m : Mode) (c : Channel) → part (became_off z (with_mode m c)) ≡ part_mode off (part (with_mode m c))
unfolding register.left
off_part z m c = grind arith

-- LCNT
abbrev pub part_loaded : Bool → Part → Part
part_loaded one p = cond one (with_count (in_counter_mode p.mode (preload_loaded p.count) p.count) p) p

-- a request leaves all this, and so does a snapshot
pub requested_part : (c : Channel) → part (requested c) ≡ part c
requested_part c = grind arith

snapped_part : (c : Channel) → part (snapped c) ≡ part c
snapped_part c = grind arith

-- a shared register's write
abbrev pub part_acted : Act → ℕ → Part → Part
part_acted (Control w) k p = part_mode (setting_at (word_field w (2 * k) 2)) p
part_acted (Load w) k p = part_loaded (word_flag w k) p
part_acted a k p = p

pub performed_part : (a : Act) (k : ℕ) (c : Channel) → part (performed a k c) ≡ part_acted a k (part c)
unfolding performed register.left register.entered register.preload_loaded
performed_part a k c = grind (arith, snapped_part)

-- the working part's tick, from the filtered levels x to y
abbrev pub part_worked : Levels → Levels → Part → Part
part_worked x y p = with_count (in_counter_mode p.mode (count_ticked x y p.count) p.count) p

abbrev pub part_ticked : Levels → Part → Part
part_ticked x p = part_worked (levels_of p.lines) (levels_of (lines_ticked x p.lines)) (record { lines = lines_ticked x p.lines; mode = p.mode; count = p.count })

timer_part : (expired : Bool) (c : Channel) → part (timer_requested expired c) ≡ part c
timer_part expired c = grind arith

transmitted_part : (x : Bool) (c : Channel) → part (transmitted x c) ≡ part c
transmitted_part x c = grind arith

-- the timer's request, then the controller's tick
pub ticked_part : (x : Levels) (i expired : Bool) (c : Channel) → part (channel_ticked x i expired c) ≡ part_ticked x (part c)
unfolding channel_ticked ticked
ticked_part x i expired c = grind (arith, timer_part, transmitted_part)
