-- What is said of scripts.
use Rattle.std.specs.Prelude.{◌≡◌, ℕ, ◌<◌, ◌≤◌, List, [], ◌∷◌, ◌++◌, length, None, Ok}
use Rattle.std.specs.List.{AllByRecursion}
use Rattle.card.specs.Calls.{Card, Got, powered_on, read_done, write_done}
use Rattle.text.specs.Lines.{lines_of}
use Rattle.text.specs.Commands.{command_of}
use Rattle.text.specs.declared.command.Command.{Command}
use Rattle.text.specs.declared.command.Command.TheVariants.{Read, Write, Tick}
use Rattle.script.specs.Output.{line_of_read}
use Rattle.script.specs.Runs.{ticked, script_ran, stop_code}
use Rattle.script_laws.specs.Written.{Line, written, Fits, text_of, texts_of}

-- lines that are written are the lines that are read, and so is a last line without its byte 10
abbrev pub LinesReadBack : Type 0
LinesReadBack =
    (ls : List (List ℕ)) → AllByRecursion Line ls
    → (lines_of (written ls) ≡ ls)
    × ((l : List ℕ) → Line l → 0 < length l → lines_of (written ls ++ l) ≡ ls ++ (l ∷ []))

-- a command that is written out is the command that is read
abbrev pub CommandsReadBack : Type 0
CommandsReadBack = (c : Command) → Fits c → command_of (text_of c) ≡ Ok c

-- from a card on, the card takes each of the commands in their order, and the reads write these bytes
pub data Performed : Card → List Command → List ℕ → Type 0 where
  nothing : {k : Card} → Performed k [] []
  read : {k : Card} {o : ℕ} {cs : List Command} {bs : List ℕ} (g : Got) → read_done k o ≡ Ok g
      → Performed g.card cs bs → Performed k (Read o ∷ cs) (line_of_read o g.value ++ bs)
  write : {k : Card} {o v : ℕ} {cs : List Command} {bs : List ℕ} (k' : Card) → write_done k o v ≡ Ok k'
      → Performed k' cs bs → Performed k (Write o v ∷ cs) bs
  tick : {k : Card} {n b i : ℕ} {cs : List Command} {bs : List ℕ}
      → Performed (ticked n b i k) cs bs → Performed k (Tick n b i ∷ cs) bs

-- a script of commands that a new card takes, with room for what they write, is run to its end
abbrev pub AccessesPerformed : Type 0
AccessesPerformed =
    (cs : List Command) (bs : List ℕ) (room : ℕ) → AllByRecursion Fits cs → Performed powered_on cs bs
    → length (written (texts_of cs)) ≤ 65536 → length bs ≤ room
    → script_ran (written (texts_of cs)) room ≡ record { lines = length cs; bytes = bs; stopped = None }

-- first lines of a script, and what follows them, run to the end, code 0: so are the first lines alone, with the first part of the output
abbrev pub PrefixStands : Type 0
PrefixStands =
    (ls : List (List ℕ)) (after : List ℕ) (room : ℕ) → AllByRecursion Line ls
    → stop_code (script_ran (written ls ++ after) room).stopped ≡ 0
    → (stop_code (script_ran (written ls) room).stopped ≡ 0)
    × ((script_ran (written ls) room).lines ≡ length ls)
    × ((more : List ℕ) × ((script_ran (written ls ++ after) room).bytes ≡ (script_ran (written ls) room).bytes ++ more))
