-- What a line of a script asks for.
use Rattle.std.specs.Prelude.{ℕ, cond, ◌&&◌, List, Some, None, Ok, Err, Option, Result, ◌==◌}
use Rattle.text.specs.Fields.{field, letter, is_letter, commas, hex_field, count_field}
use Rattle.text.specs.declared.fault.Fault.{Fault}
use Rattle.text.specs.declared.fault.Fault.TheVariants.{Form, Field}
use Rattle.text.specs.declared.command.Command.{Command}
use Rattle.text.specs.declared.command.Command.TheVariants.{Read, Write, Tick}

-- what follows from a field's value, where it is well written
abbrev pub given : Option ℕ → (ℕ → Result Command Fault) → Result Command Fault
given None go = Err Field
given (Some v) go = go v

-- R,offset
abbrev pub read_of : List ℕ → Result Command Fault
read_of l = given (hex_field 3 (field 1 l)) (λ o. Ok (Read o))

-- W,offset,value
abbrev pub write_of : List ℕ → Result Command Fault
write_of l = given (hex_field 3 (field 1 l)) (λ o. given (hex_field 8 (field 2 l)) (λ v. Ok (Write o v)))

-- T,count,lines,inputs
abbrev pub tick_of : List ℕ → Result Command Fault
tick_of l =
    given (count_field (field 1 l)) (λ n. given (hex_field 6 (field 2 l)) (λ b. given (hex_field 2 (field 3 l)) (λ i. Ok (Tick n b i))))

-- the kind, R 82, T 84 or W 87, and the number of fields come first
abbrev pub command_of : List ℕ → Result Command Fault
command_of l =
    cond (is_letter 82 (letter (field 0 l)) && commas l == 1) (read_of l)
    (cond (is_letter 84 (letter (field 0 l)) && commas l == 3) (tick_of l)
    (cond (is_letter 87 (letter (field 0 l)) && commas l == 2) (write_of l) (Err Form)))
