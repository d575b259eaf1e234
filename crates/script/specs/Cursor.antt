-- What an output holds before its cursor and from there on.
use Rattle.std.specs.Prelude.{◌≡◌, ℕ, List, ◌++◌, length, take, drop}
use Rattle.script.specs.declared.output.Output.{Output}

-- the bytes that are written
abbrev pub written : Output → List ℕ
written o = take o.at o.bytes.now

-- the bytes that are left as they were
abbrev pub left : Output → List ℕ
left o = drop o.at o.bytes.now

-- bytes written to the same output
pub record Written (bs : List ℕ) (o o' : Output) : Type 0 where
  pub before : written o' ≡ written o ++ bs
  pub after : left o' ≡ drop (length bs) (left o)
  pub same : o'.bytes.ghost_name ≡ o.bytes.ghost_name
