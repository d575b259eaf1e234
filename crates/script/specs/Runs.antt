-- What a script does on a new card.
use Rattle.std.specs.Prelude.{◌≡◌, ℕ, zero, suc, ◌+◌, ◌-◌, cond, List, [], ◌∷◌, ◌++◌, length, drop, Some, None, Option, Ok, Err, Result, nat_le, nat_lt}
use Rattle.card.specs.Calls.{Card, Got, powered_on, read_done, write_done, tick_done}
use Rattle.refusal.specs.declared.Refusal.{Refusal}
use Rattle.text.specs.Lines.{lines_of}
use Rattle.text.specs.Commands.{command_of}
use Rattle.text.specs.Faults.{fault_code}
use Rattle.text.specs.declared.fault.Fault.{Fault}
use Rattle.text.specs.declared.fault.Fault.TheVariants.{Access, Length, Full}
use Rattle.text.specs.declared.command.Command.{Command}
use Rattle.text.specs.declared.command.Command.TheVariants.{Read, Write, Tick}
use Rattle.script.specs.Output.{line_of_read}
use Rattle.script.specs.Cursor.{Written}
use Rattle.script.specs.declared.output.Output.{Output}
use Rattle.script.specs.declared.run.Run.{Run}
use Rattle.script.specs.declared.run.Runner.{Runner}
use Rattle.script.specs.declared.export.RunAnswer.{RunAnswer}

-- a line that was run: the card after it, and what it writes
pub record Done : Type 0 where
  pub card : Card
  pub bytes : List ℕ

-- a read that the card answers writes its line; a refusal is passed on
abbrev pub read_ran : ℕ → Result Got Refusal → Result Done Fault
read_ran off (Ok g) = Ok (record { card = g.card; bytes = line_of_read off g.value })
read_ran off (Err e) = Err (Access e)

-- a write that the card takes writes nothing; a refusal is passed on
abbrev pub write_ran : Result Card Refusal → Result Done Fault
write_ran (Ok k) = Ok (record { card = k; bytes = [] })
write_ran (Err e) = Err (Access e)

-- the same tick, n times
unfoldable pub ticked : ℕ → ℕ → ℕ → Card → Card
ticked zero lines inputs k = k
ticked (suc n) lines inputs k = tick_done lines inputs (ticked n lines inputs k)

-- a command on a card, whatever the room
abbrev pub performed : Command → Card → Result Done Fault
performed (Read off) k = read_ran off (read_done k off)
performed (Write off v) k = write_ran (write_done k off v)
performed (Tick n lines inputs) k = Ok (record { card = ticked n lines inputs k; bytes = [] })

-- what is written has to fit whole
abbrev pub fitting : ℕ → Result Done Fault → Result Done Fault
fitting room (Err e) = Err e
fitting room (Ok d) = cond (nat_le (length d.bytes) room) (Ok d) (Err Full)

-- a line that is well written is performed, and what it writes has to fit
abbrev pub command_ran : Result Command Fault → Card → ℕ → Result Done Fault
command_ran (Err e) k room = Err e
command_ran (Ok c) k room = fitting room (performed c k)

-- one line, where the output has room for so many bytes
unfoldable pub line_ran : List ℕ → Card → ℕ → Result Done Fault
line_ran l k room = command_ran (command_of l) k room

-- what a line answers
abbrev pub answered : Result Done Fault → Result (Unit {0}) Fault
answered (Ok d) = Ok tt
answered (Err e) = Err e

-- what a line wrote: nothing where it was not run
abbrev pub bytes_of : Result Done Fault → List ℕ
bytes_of (Ok d) = d.bytes
bytes_of (Err e) = []

-- the card after a line: as it was where the line was not run
abbrev pub card_of : Card → Result Done Fault → Card
card_of k (Ok d) = d.card
card_of k (Err e) = k

-- one line's outcome: the answer, the card after it, and its bytes written
pub record Ran (x : Result Done Fault) (r : Result (Unit {0}) Fault) (s s' : Runner) (o o' : Output) : Type 0 where
  pub answer : r ≡ answered x
  pub card : s'.card ≡ card_of s.card x
  pub output : Written (bytes_of x) o o'
  pub lines : s'.lines ≡ s.lines

-- a whole run: the lines run, the bytes written, and what stopped it
pub record Outcome : Type 0 where
  pub lines : ℕ
  pub bytes : List ℕ
  pub stopped : Option Fault

-- no line more, with what stopped it
abbrev pub ended : Option Fault → Outcome
ended f = record { lines = 0; bytes = []; stopped = f }

-- one line in front of a run
abbrev pub one_more : List ℕ → Outcome → Outcome
one_more bs o = record { lines = suc o.lines; bytes = bs ++ o.bytes; stopped = o.stopped }

-- after a line that is run the others follow; a line that is refused ends the run
abbrev pub go_on : (Card → ℕ → Outcome) → ℕ → Result Done Fault → Outcome
go_on go room (Ok d) = one_more d.bytes (go d.card (room - length d.bytes))
go_on go room (Err e) = ended (Some e)

-- the lines in their order, up to the first that is refused
unfoldable pub lines_ran : List (List ℕ) → Card → ℕ → Outcome
lines_ran [] k room = ended None
lines_ran (l ∷ ls) k room = go_on (λ k' room'. lines_ran ls k' room') room (line_ran l k room)

-- a script on a card; one of more than 65,536 bytes is not begun
abbrev pub script_on : List ℕ → Card → ℕ → Outcome
script_on script k room = cond (nat_lt 65536 (length script)) (ended (Some Length)) (lines_ran (lines_of script) k room)

-- a script on a new card
abbrev pub script_ran : List ℕ → ℕ → Outcome
script_ran script room = script_on script powered_on room

-- how a runner answers what stopped a run
abbrev pub result_of : Option Fault → Result (Unit {0}) Fault
result_of None = Ok tt
result_of (Some f) = Err f

-- a whole run's outcome on a runner: the answer, the lines, and the bytes written
pub record RanAll (x : Outcome) (r : Result (Unit {0}) Fault) (s s' : Runner) (o o' : Output) : Type 0 where
  pub answer : r ≡ result_of x.stopped
  pub lines : s'.lines ≡ s.lines + x.lines
  pub output : Written x.bytes o o'

-- how a run ended
abbrev pub run_of : Outcome → Run
run_of o = record { lines = o.lines; bytes = length o.bytes; stopped = o.stopped }

-- the code of what stopped a run, or 0
abbrev pub stop_code : Option Fault → ℕ
stop_code None = 0
stop_code (Some f) = fault_code f

-- how a run ended, as C reads it
abbrev pub record_of : Run → RunAnswer
record_of r = record { lines = r.lines; bytes = r.bytes; code = stop_code r.stopped }

-- what a run answers to C
abbrev pub answer_of : Outcome → RunAnswer
answer_of o = record_of (run_of o)

-- the output after a run: what was written, then what was there
abbrev pub output_of : Outcome → List ℕ → List ℕ
output_of o out = o.bytes ++ drop (length o.bytes) out
