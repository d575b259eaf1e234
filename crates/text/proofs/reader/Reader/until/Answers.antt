use Rattle.std.proofs.Common.{◌≡◌, ◌+◌, ◌-◌, ◌==◌, length, take, drop, unwrap_or, sym, refl, ap, ◌∙◌, arith, drop-drop, rules, tests}
use Rattle.std.specs.List.{position, position_or_len}
use Rattle.std.proofs.lemmas.Iterator.{YieldsList-from_slice}
use Rattle.std.proofs.lemmas.Iterator.Search.{position_from_yields_List}
use Rattle.std.proofs.lemmas.List.{take_rest, drop_min}
use Rattle.text.proofs.Cuts.{unwrap_position}
use Rattle.text.proofs.reader.Reader.until.Goals as goal

pub returns : goal.returns
returns c =
    let s = c.args.self.now.bytes.now in
    let a = c.args.self.now.at in
    let n = c.unwrap_or-n.result in
    let left = take (length s - a) (drop a s) in
    let q : c.position.result ≡ position (λ b. b == c.args.end) left =
    position_from_yields_List (λ b. b == c.args.end) _ _ _ c.position.ensures.ran (YieldsList-from_slice left cc) (λ x b q k. search (rules, tests)) in
    let p : n ≡ position_or_len (λ b. b == c.args.end) (drop a s) =
    c.unwrap_or-n.ensures ∙ (ap (λ o. unwrap_or o (length left)) q ∙ (unwrap_position (λ b. b == c.args.end) left ∙ ap (position_or_len (λ b. b == c.args.end)) (take_rest s a))) in
    let k : a + n + 1 ≡ a + (n + 1) = omega arith in
    record {
      answer = rw (take_rest s a, p) refl;
      after =
          ap (λ i. drop i s) (c.min-self.ensures) ∙ (drop_min (a + n + 1) s ∙ (ap (λ i. drop i s) k ∙ (sym (drop-drop (n + 1) a s) ∙ ap (λ i. drop (i + 1) (drop a s)) p)));
    }
