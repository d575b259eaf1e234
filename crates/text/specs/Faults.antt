-- The number of each reason why a script stops.
use Rattle.std.specs.Prelude.{ℕ}
use Rattle.refusal.specs.Codes.{code_of}
use Rattle.text.specs.declared.fault.Fault.{Fault}
use Rattle.text.specs.declared.fault.Fault.TheVariants.{Access, Length, Form, Field, Full}

-- Access: the card refuses the access, with the card's own number, 1 or 2.
-- Length: the script has more than 65,536 bytes.
-- Form: the first field is none of R, T and W, or the line has another number of fields than its kind has.
-- Field: a field is badly written.
-- Full: the output cannot hold the next line whole.
abbrev pub fault_code : Fault → ℕ
fault_code (Access refusal) = code_of refusal
fault_code Length = 5
fault_code Form = 6
fault_code Field = 7
fault_code Full = 8
