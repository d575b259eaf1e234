-- Two lists of calls that differ and are alike for channel 1, with what they answer.
use Rattle.std.specs.Prelude.{◌≡◌, List, [], ◌∷◌, Ok, Err}
use Rattle.refusal.specs.declared.Refusal.TheVariants.{Offset}
use Rattle.card.specs.Calls.{powered_on}
use Rattle.runs.specs.declared.Answer.TheVariants.{Levels, Value, Done}
use Rattle.runs.specs.declared.Call.{Call}
use Rattle.runs.specs.declared.Call.TheVariants.{Tick, Read, Write}
use Rattle.runs.specs.Runs.{answers}
use Rattle.separate.specs.Separation.{AllAlike}

-- channel 1 counts every tick (0x000: MODE 10; 0x040: INPUT 001, CLKDIV 111); channel 0 is off, and its status is read (0x01C)
abbrev pub quiet : List Call
quiet = Write 0 8 ∷ Write 64 57 ∷ Tick 0 0 ∷ Read 28 ∷ Tick 0 0 ∷ Read 88 ∷ Read 0 ∷ []

-- the same with channel 0 in SSI mode, its lines and its input high, and a write that is refused (0x201)
abbrev pub busy : List Call
busy = Write 0 9 ∷ Write 64 57 ∷ Tick 7 1 ∷ Write 513 5 ∷ Tick 5 1 ∷ Read 88 ∷ Read 0 ∷ []

-- the lists are alike for channel 1, whose Data Register (0x058) shows two steps; Global Control shows MODE of channel 0 too
abbrev pub AlikeForOne : Type 0
AlikeForOne = AllAlike 1 quiet busy
    × (answers powered_on quiet ≡ Done (Ok tt) ∷ Done (Ok tt) ∷ Levels (record { clocks = 255; outputs = 0 }) ∷ Value (Ok 0)
    ∷ Levels (record { clocks = 255; outputs = 0 }) ∷ Value (Ok 2) ∷ Value (Ok 8) ∷ [])
    × (answers powered_on busy ≡ Done (Ok tt) ∷ Done (Ok tt) ∷ Levels (record { clocks = 255; outputs = 0 }) ∷ Done (Err Offset)
    ∷ Levels (record { clocks = 255; outputs = 0 }) ∷ Value (Ok 2) ∷ Value (Ok 9) ∷ [])
