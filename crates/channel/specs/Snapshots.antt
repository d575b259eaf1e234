-- What a snapshot trigger does to a channel.
use Rattle.std.specs.Prelude.{Bool, false, cond}
use Rattle.controller.specs.declared.control.Start.{Start}
use Rattle.controller.specs.declared.control.Start.TheVariants.{Request, Timer}
use Rattle.controller.specs.Phase.{busy_in}
use Rattle.parts.specs.Snapshots.{collects, latched_with}
use Rattle.channel.specs.declared.mode.Mode.{Mode}
use Rattle.channel.specs.declared.mode.Mode.TheVariants.{Off, Counter as Counting, Ssi as Reading}
use Rattle.channel.specs.declared.channel.Channel.{Channel}
use Rattle.channel.specs.Records.{with_snapshot}
use Rattle.channel.specs.Ticks.{requested}

-- whether a transmission is under way, from its acceptance to its completion
abbrev pub transmits_as : Mode → Bool
transmits_as (Off z) = false
transmits_as Counting = false
transmits_as (Reading p) = busy_in p

abbrev pub transmits : Channel → Bool
transmits c = transmits_as c.mode

-- a transmission under way is collected; where there is none, the last completed word is latched
abbrev pub collected_or_latched : Channel → Channel
collected_or_latched c = with_snapshot (cond (transmits c) (collects c.snapshot) (latched_with c.ssi.word c.snapshot)) c

-- an SSI channel is asked for a transmission at START 00, and gives its last word at START 01
abbrev pub ssi_snapped_as : Start → Channel → Channel
ssi_snapped_as Request c = collected_or_latched (requested c)
ssi_snapped_as Timer c = with_snapshot (latched_with c.ssi.word c.snapshot) c

abbrev pub ssi_snapped : Channel → Channel
ssi_snapped c = ssi_snapped_as c.ssi.control.start c

-- a counter gives its count, a disabled channel 0
abbrev pub snapped_as : Mode → Channel → Channel
snapped_as (Off z) c = with_snapshot (latched_with 0 c.snapshot) c
snapped_as Counting c = with_snapshot (latched_with c.counter.count.value c.snapshot) c
snapped_as (Reading p) c = ssi_snapped c

abbrev pub snapped : Channel → Channel
snapped c = snapped_as c.mode c

-- a trigger is heeded where the channel's MCR bit is 1
abbrev pub triggered : Channel → Channel
triggered c = cond c.snapshot.enabled (snapped c) c
