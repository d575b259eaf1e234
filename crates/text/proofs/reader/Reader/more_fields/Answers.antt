use Rattle.std.proofs.Common.{◌-◌, ◌^◌, ◌≤◌, length, take, drop, rules, arith, tests}
use Rattle.std.proofs.lemmas.Iterator.{YieldsList-from_slice}
use Rattle.std.proofs.lemmas.Iterator.Adapters.{fits_from_length, at_most_from_yields_List}
use Rattle.text.proofs.reader.Reader.more_fields.Goals as goal

-- at most one for each byte
pub sum-requires-clause-fits : goal.sum-requires-clause-fits
sum-requires-clause-fits c =
    let S = c.args.self.now.bytes.now in
    let a = c.args.self.now.at in
    let left = take (length S - a) (drop a S) in
    let few : length left ≤ 2 ^ 63 = grind arith in
    fits_from_length _ _ (2 ^ 63) (2 ^ 64) (at_most_from_yields_List (YieldsList-from_slice left cc) few) c.map.ensures.closure (omega arith) (λ x r q k. search (rules, tests))
