-- An interrupt: its enable bit and its pending bit.
use Rattle.std.specs.Prelude.{Bool, true, false, cond, ◌&&◌}
use Rattle.parts.specs.declared.interrupt.Interrupt.{Interrupt}

-- neither enabled nor pending
abbrev pub quiet : Interrupt
quiet = record { enabled = false; pending = false }

-- a cause counts only while the interrupt is enabled
abbrev pub raised : Bool → Interrupt → Interrupt
raised cause i = record { enabled = i.enabled; pending = cond (cause && i.enabled) true i.pending }

-- disabling clears the pending bit
abbrev pub enabled_to : Bool → Interrupt → Interrupt
enabled_to on i = record { enabled = on; pending = on && i.pending }

-- a one clears the pending bit
abbrev pub acknowledged : Bool → Interrupt → Interrupt
acknowledged one i = record { enabled = i.enabled; pending = cond one false i.pending }
