-- What a reader still has to read.
use Rattle.std.specs.Prelude.{◌≡◌, ℕ, ◌<◌, List, [], length, drop, Some, None, Option}
use Rattle.std.specs.Borrow.{Bor}
use Rattle.text.specs.Lines.{up_to, past}
use Rattle.text.specs.declared.reader.Reader.{Reader}

-- the bytes from the cursor on
abbrev pub rest : Reader → List ℕ
rest r = drop r.at r.bytes.now

-- one line taken, or none where nothing is left
abbrev pub line_taken : List ℕ → Option (Bor (List ℕ)) → List ℕ → Type 0
line_taken before None after = (before ≡ []) × (after ≡ before)
line_taken before (Some l) after =
    (0 < length before) × (l.now ≡ up_to 10 before) × (after ≡ past 10 before)
