-- One line of a run.
use Rattle.std.proofs.Common.{◌≡◌, ℕ, ◌≤◌, List, [], IsErrAnd, Ok, Err, Result, sym, refl, ap, subst, arith, le-leb}
use Rattle.std.proofs.lemmas.List.{append-nil}
use Rattle.card.specs.Calls.{Card, Got, value_of, accepted}
use Rattle.refusal.specs.declared.Refusal.{Refusal}
use Rattle.text.specs.Commands.{command_of}
use Rattle.text.specs.declared.fault.Fault.{Fault}
use Rattle.text.specs.declared.command.Command.{Command}
use Rattle.script.specs.Output.{line_of_read}
use Rattle.script.specs.Cursor.{Written, written}
use Rattle.script.specs.Runs.{Done, Ran, read_ran, fitting, answered, card_of, bytes_of, command_ran, line_ran}
use Rattle.script.specs.declared.output.Output.{Output}
use Rattle.script.specs.declared.run.Runner.{Runner}

nothing_written : (o : Output) → Written [] o o
nothing_written o =
    record { before = sym (append-nil (written o)); after = refl; same = refl }

-- a line that writes nothing, on a runner whose card alone may be another
pub ran_quiet : {x y : Result Done Fault} {r : Result (Unit {0}) Fault} (s : Runner) (k : Card) (o : Output) → x ≡ y → r ≡ answered y → k ≡ card_of s.card y → bytes_of y ≡ []
    → Ran x r s (record s { card = k }) o o
ran_quiet {x} {y} {r} s k o e a c b =
    let P : Result Done Fault → Type 0 = λ z. Ran z r s (record s { card = k }) o o in
    let Q : List ℕ → Type 0 = λ bs. Written bs o o in
    subst P (sym e) (record { answer = a; card = c; output = subst Q (sym b) (nothing_written o); lines = refl })

pub value_ok : (g : Result Got Refusal) (v : ℕ) → Ok v ≡ value_of g → (x : Got) × (g ≡ Ok x) × (x.value ≡ v)
value_ok (Ok x) v q = (x, refl, cc)
value_ok (Err d) v q = let z : ◌≡◌ {A = ℕ} 0 1 = cc in absurd (omega arith)

pub accepted_err : (g : Result Card Refusal) (e : Refusal) → Err e ≡ accepted g → g ≡ Err e
accepted_err (Ok x) e q = cc
accepted_err (Err d) e q = cc

pub accepted_ok : (g : Result Card Refusal) → Ok tt ≡ accepted g → (x : Card) × (g ≡ Ok x)
accepted_ok (Ok x) q = (x, refl)
accepted_ok (Err d) q = let z : ◌≡◌ {A = ℕ} 0 1 = cc in absurd (omega arith)

-- 15 bytes have to fit
pub read_fits : (room off : ℕ) (x : Got) → 15 ≤ room
    → fitting room (read_ran off (Ok x)) ≡ Ok (record { card = x.card; bytes = line_of_read off x.value })
read_fits room off x h = rw (le-leb 15 room h) refl

-- what the exit of a `?` returns, where its conversion is an equation
pub exit_is : (r : Result (Unit {0}) Fault) {f : Fault} → IsErrAnd r (λ y. y ≡ f) → r ≡ Err f
exit_is (Ok x) h = absurd h
exit_is (Err e) h = ap (λ y. Err y) h

pub line_as : (l : List ℕ) (k : Card) (room : ℕ) {x : Result Command Fault} → x ≡ command_of l → line_ran l k room ≡ command_ran x k room
unfolding line_ran
line_as l k room q = sym (ap (λ y. command_ran y k room) q)

-- a command that writes nothing has room
pub fits_none : (room : ℕ) (k : Card) → fitting room (Ok (record { card = k; bytes = [] })) ≡ Ok (record { card = k; bytes = [] })
fits_none room k = rw (le-leb 0 room (omega arith)) refl
