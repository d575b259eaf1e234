-- How a channel changes its mode.
use Rattle.std.specs.Prelude.{ℕ, cond, ◌==◌}
use Rattle.counter.specs.Registers.{entered, left}
use Rattle.controller.specs.declared.phase.Phase.TheVariants.{Waiting}
use Rattle.controller.specs.Phase.{busy_in}
use Rattle.parts.specs.Snapshots.{completed}
use Rattle.channel.specs.declared.mode.Mode.{Mode}
use Rattle.channel.specs.declared.mode.Mode.TheVariants.{Off, Counter as Counting, Ssi as Reading}
use Rattle.channel.specs.declared.mode.OffCode.{OffCode}
use Rattle.channel.specs.declared.mode.OffCode.TheVariants.{Zeros, Ones}
use Rattle.channel.specs.declared.channel.Channel.{Channel}
use Rattle.channel.specs.Records.{with_counter, with_mode, with_snapshot}

-- leaving Counter Mode unlocks the Data Register; leaving SSI mode drops a transmission, which is collected as 0
abbrev pub departed_as : Mode → Channel → Channel
departed_as (Off z) c = c
departed_as Counting c = with_counter (left c.counter) c
departed_as (Reading p) c = with_mode (Reading Waiting) (cond (busy_in p) (with_snapshot (completed 0 c.snapshot) c) c)

abbrev pub departed : Channel → Channel
departed c = departed_as c.mode c

-- MODE 00 or 11: off
abbrev pub became_off : OffCode → Channel → Channel
became_off z c = with_mode (Off z) (departed c)

-- MODE 10: Counter Mode, whose divider starts where the mode is entered
abbrev pub became_counter_as : Mode → Channel → Channel
became_counter_as (Off z) c = with_mode Counting (with_counter (entered (departed c).counter) (departed c))
became_counter_as Counting c = c
became_counter_as (Reading p) c = with_mode Counting (with_counter (entered (departed c).counter) (departed c))

abbrev pub became_counter : Channel → Channel
became_counter c = became_counter_as c.mode c

-- MODE 01: SSI mode, whose controller waits where the mode is entered
abbrev pub became_ssi_as : Mode → Channel → Channel
became_ssi_as (Off z) c = with_mode (Reading Waiting) (departed c)
became_ssi_as Counting c = with_mode (Reading Waiting) (departed c)
became_ssi_as (Reading p) c = c

abbrev pub became_ssi : Channel → Channel
became_ssi c = became_ssi_as c.mode c

-- MODE as written
abbrev pub mode_written : ℕ → Channel → Channel
mode_written n c = cond (n == 0) (became_off Zeros c) (cond (n == 1) (became_ssi c) (cond (n == 2) (became_counter c) (became_off Ones c)))
