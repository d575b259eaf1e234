-- Lines that are written are read back.
use Rattle.std.proofs.Common.{◌≡◌, ℕ, ◌<◌, ◌≤◌, List, [], ◌∷◌, ◌++◌, length, refl, ap, ◌∙◌, append_assoc, arith}
use Rattle.std.specs.List.{AllByRecursion}
use Rattle.std.proofs.lemmas.List.{append-nil}
use Rattle.std.proofs.lemmas.Bool.Decides.{nat_tests}
use Rattle.card.specs.Calls.{powered_on}
use Rattle.script.specs.Runs.{lines_ran, script_ran}
use Rattle.script.proofs.Runs.{script_short}
use Rattle.text.specs.Lines.{lines_of}
use Rattle.script_laws.specs.Written.{written, Line}
use Rattle.script_laws.specs.Laws.{LinesReadBack}

line_then : (l s : List ℕ) → Line l → lines_of (l ++ (10 ∷ s)) ≡ l ∷ lines_of s
unfolding lines_of
line_then [] s h = refl
line_then (b ∷ bs) s h = grind (arith, nat_tests, line_then bs s h.1)

-- written lines in front of anything else
pub lines_then : (ls : List (List ℕ)) (s : List ℕ) → AllByRecursion Line ls → lines_of (written ls ++ s) ≡ ls ++ lines_of s
lines_then [] s h = refl
lines_then (l ∷ ls) s h = grind (arith, append_assoc l (10 ∷ written ls) s, line_then l (written ls ++ s) h.0, lines_then ls s h.1)

last_line : (l : List ℕ) → Line l → 0 < length l → lines_of l ≡ l ∷ []
unfolding lines_of
last_line [] h p = absurd (omega arith)
last_line (b ∷ []) h p = grind (arith, nat_tests)
last_line (b ∷ c ∷ cs) h p = grind (arith, nat_tests, last_line (c ∷ cs) h.1 (omega arith))

pub lines_back : (ls : List (List ℕ)) → AllByRecursion Line ls → lines_of (written ls) ≡ ls
unfolding lines_of
lines_back ls h = grind (arith, lines_then ls [] h, append-nil)

-- a script that is not too long is its lines run on a new card
pub script_lines : (s : List ℕ) (ls : List (List ℕ)) (room : ℕ) → length s ≤ 65536 → lines_of s ≡ ls → script_ran s room ≡ lines_ran ls powered_on room
script_lines s ls room short e = script_short s powered_on room short ∙ ap (λ y. lines_ran y powered_on room) e

pub read_back : LinesReadBack
read_back ls h = (lines_back ls h, λ l line p. lines_then ls l h ∙ ap (λ y. ls ++ y) (last_line l line p))
