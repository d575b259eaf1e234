-- A channel's tally stands for the part of its record that the law of counts speaks of.
use Rattle.std.proofs.Common.{◌≡◌, ℕ, ◌^◌, ◌<◌, Bool, arith}
use Rattle.counter_count.specs.declared.levels.Levels.{Levels}
use Rattle.counter_count.specs.Counts.{control_written}
use Rattle.channel.specs.Lines.{levels_of, lines_ticked}
use Rattle.tally.specs.Tally.{stands, tally_command, tally_control}
use Rattle.tally.proofs.Stands.{tally_stands_lem}
use Rattle.counts.specs.Tallies.{ChannelTally, Setting, in_counter_mode, tally_loaded, tally_mode, tally_ticked, with_tally}
use Rattle.counts.proofs.Parts.{Part, part_loaded, part_mode, part_ticked, with_count}
use Rattle.counts.proofs.Registers.{part_commanded}

-- the part that a tally stands for
abbrev pub standing : ChannelTally → Part
standing t = record { lines = t.lines; mode = t.mode; count = stands t.counter }

pub mode_stands : (s : Setting) (t : ChannelTally) → standing (tally_mode s t) ≡ part_mode s (standing t)
mode_stands s t = grind arith

pub load_stands : (one : Bool) (t : ChannelTally) → t.counter.preload < 2 ^ 32 → standing (tally_loaded one t) ≡ part_loaded one (standing t)
load_stands one t h = grind (arith, tally_stands_lem.load t.counter h)

pub control_stands : (v : ℕ) (t : ChannelTally) → standing (with_tally (tally_control v t.counter) t) ≡ with_count (control_written v (stands t.counter)) (standing t)
control_stands v t = grind (arith, tally_stands_lem.control v t.counter)

pub command_stands : (v : ℕ) (t : ChannelTally) → t.counter.preload < 2 ^ 32
    → standing (with_tally (in_counter_mode t.mode (tally_command v t.counter) t.counter) t) ≡ part_commanded v (standing t)
command_stands v t h = grind (arith, tally_stands_lem.command v t.counter h)

pub tick_stands : (x : Levels) (t : ChannelTally) → t.counter.preload < 2 ^ 32 → standing (tally_ticked x t) ≡ part_ticked x (standing t)
tick_stands x t h = grind (arith, tally_stands_lem.tick (levels_of t.lines) (levels_of (lines_ticked x t.lines)) t.counter h)
