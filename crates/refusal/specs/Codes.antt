-- The number of each refusal of the card.
use Rattle.std.specs.Prelude.{ℕ}
use Rattle.refusal.specs.declared.Refusal.{Refusal}
use Rattle.refusal.specs.declared.Refusal.TheVariants.{Offset, Setting}

-- Offset, read or write: the offset is not a multiple of 4, or it is above 0x1FC.
-- Setting, write alone: Counter Mode Control with ICM (bits 10:8) 101 to 111, or SSI Mode Control with SSI MODE (bit 24) 1
-- or START (bits 26:25) 10 or 11.
abbrev pub code_of : Refusal → ℕ
code_of Offset = 1
code_of Setting = 2
