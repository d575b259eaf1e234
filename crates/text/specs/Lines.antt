-- The lines of a script.
use Rattle.std.specs.Prelude.{ℕ, cond, List, [], ◌∷◌, ◌==◌}
use Rattle.std.specs.List.{before_first, after_first, onto_first}

-- the bytes before the first `e`, or all of them
abbrev pub up_to : ℕ → List ℕ → List ℕ
up_to e l = before_first (λ b. b == e) l

-- the bytes after the first `e`, or none
abbrev pub past : ℕ → List ℕ → List ℕ
past e l = after_first (λ b. b == e) l

-- the lines of a script: each ends in byte 10, and the last may lack it
unfoldable pub lines_of : List ℕ → List (List ℕ)
lines_of [] = []
lines_of (b ∷ bs) = cond (b == 10) ([] ∷ lines_of bs) (onto_first b (lines_of bs))
