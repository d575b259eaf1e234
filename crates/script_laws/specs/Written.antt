-- Scripts as a host writes them.
use Rattle.std.specs.Prelude.{ℕ, ◌^◌, ◌<◌, ◌≤◌, List, [], ◌∷◌, ◌++◌, decimal, ◌≢◌}
use Rattle.std.specs.List.{AllByRecursion}
use Rattle.text.specs.declared.command.Command.{Command}
use Rattle.text.specs.declared.command.Command.TheVariants.{Read, Write, Tick}
use Rattle.script.specs.Output.{hex_bytes}

-- a line has no byte 10
abbrev pub Line : List ℕ → Type 0
Line l = AllByRecursion (λ b. b ≢ 10) l

-- lines in their order, each with its byte 10
abbrev pub written : List (List ℕ) → List ℕ
written [] = []
written (l ∷ ls) = l ++ (10 ∷ written ls)

-- R,offset or W,offset,value or T,count,lines,inputs: the letters are 82, 87 and 84, a comma is 44
abbrev pub text_of : Command → List ℕ
text_of (Read o) = 82 ∷ (44 ∷ hex_bytes 3 o)
text_of (Write o v) = 87 ∷ (44 ∷ (hex_bytes 3 o ++ (44 ∷ hex_bytes 8 v)))
text_of (Tick n b i) = 84 ∷ (44 ∷ (decimal n ++ (44 ∷ (hex_bytes 6 b ++ (44 ∷ hex_bytes 2 i)))))

-- the numbers of a command fit their fields
abbrev pub Fits : Command → Type 0
Fits (Read o) = o < 16 ^ 3
Fits (Write o v) = (o < 16 ^ 3) × (v < 16 ^ 8)
Fits (Tick n b i) = (1 ≤ n) × (n ≤ 100000) × (b < 16 ^ 6) × (i < 16 ^ 2)

-- a line for each command
abbrev pub texts_of : List Command → List (List ℕ)
texts_of [] = []
texts_of (c ∷ cs) = text_of c ∷ texts_of cs
