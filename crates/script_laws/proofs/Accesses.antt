-- A script of accesses that the card takes makes just these accesses.
use Rattle.std.proofs.Common.{◌≡◌, ℕ, ◌-◌, ◌≤◌, List, [], ◌∷◌, ◌++◌, length, None, Ok, sym, refl, ap, ◌∙◌, le-leb, arith}
use Rattle.std.specs.List.{AllByRecursion}
use Rattle.std.proofs.lemmas.List.{length-append}
use Rattle.card.specs.Calls.{Card, powered_on}
use Rattle.text.specs.declared.command.Command.{Command}
use Rattle.text.specs.declared.command.Command.TheVariants.{Read, Write, Tick}
use Rattle.script.specs.Output.{line_of_read}
use Rattle.script.specs.Runs.{Done, Outcome, one_more, read_ran, write_ran, ticked, performed, fitting, line_ran, lines_ran}
use Rattle.script.proofs.Steps.{line_as}
use Rattle.script_laws.specs.Written.{Line, Fits, written, text_of, texts_of}
use Rattle.script_laws.specs.Laws.{Performed, nothing, read, write, tick, AccessesPerformed}
use Rattle.script_laws.proofs.Lines.{lines_back, script_lines}
use Rattle.script_laws.proofs.Texts.{command_back, text_line}

-- so many lines run to the end
abbrev complete : ℕ → List ℕ → Outcome
complete n bs = record { lines = n; bytes = bs; stopped = None }

text_ran : (c : Command) (k : Card) (room : ℕ) → Fits c → line_ran (text_of c) k room ≡ fitting room (performed c k)
text_ran c k room h = line_as (text_of c) k room (sym (command_back c h))

-- a command that the card takes and whose output fits, then the others
command_first : (c : Command) (cs : List Command) (k : Card) (room : ℕ) (d : Done) (bs : List ℕ) → Fits c → performed c k ≡ Ok d → length d.bytes ≤ room
    → lines_ran (texts_of cs) d.card (room - length d.bytes) ≡ complete (length cs) bs → lines_ran (texts_of (c ∷ cs)) k room ≡ complete (length (c ∷ cs)) (d.bytes ++ bs)
unfolding lines_ran
command_first c cs k room d bs f p l rest = rw (text_ran c k room f, p, le-leb (length d.bytes) room l) (ap (one_more d.bytes) rest)

performed_ran : (k : Card) (cs : List Command) (bs : List ℕ) (room : ℕ) → AllByRecursion Fits cs → Performed k cs bs → length bs ≤ room
    → lines_ran (texts_of cs) k room ≡ complete (length cs) bs
unfolding lines_ran
performed_ran k [] bs room fits nothing h = refl
performed_ran k (Read o ∷ cs) bs room fits (read {bs = cs'} g q p) h =
    let whole = length-append (line_of_read o g.value) cs' in
    command_first (Read o) cs k room (record { card = g.card; bytes = line_of_read o g.value }) cs' fits.0 (ap (read_ran o) q) (omega arith)
    (performed_ran g.card cs cs' (room - 15) fits.1 p (omega arith))
performed_ran k (Write o v ∷ cs) bs room fits (write k' q p) h =
    command_first (Write o v) cs k room (record { card = k'; bytes = [] }) bs fits.0 (ap write_ran q) (omega arith)
    (performed_ran k' cs bs (room - 0) fits.1 p (omega arith))
performed_ran k (Tick n b i ∷ cs) bs room fits (tick p) h =
    command_first (Tick n b i) cs k room (record { card = ticked n b i k; bytes = [] }) bs fits.0 refl (omega arith)
    (performed_ran (ticked n b i k) cs bs (room - 0) fits.1 p (omega arith))

texts_lines : (cs : List Command) → AllByRecursion Fits cs → AllByRecursion Line (texts_of cs)
texts_lines [] h = tt
texts_lines (c ∷ cs) h = (text_line c h.0, texts_lines cs h.1)

pub accesses : AccessesPerformed
accesses cs bs room fits p short h =
    script_lines (written (texts_of cs)) (texts_of cs) room short (lines_back (texts_of cs) (texts_lines cs fits)) ∙ performed_ran powered_on cs bs room fits p h
