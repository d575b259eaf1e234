use Rattle.std.proofs.Common.{length, sym, refl, ap, ◌∙◌, arith}
use Rattle.card.specs.Calls.{read_done, card_after_read}
use Rattle.script.specs.Output.{line_of_read}
use Rattle.script.specs.Cursor.{left}
use Rattle.script.specs.Runs.{fitting, read_ran}
use Rattle.script.proofs.Steps.{value_ok, read_fits}
use Rattle.script.proofs.run.Runner.read.Goals as goal

pub returns : goal.returns
returns c =
    let s = c.args.self.now in
    let off = c.args.offset in
    let room = length (left c.args.output.now) in
    let q = value_ok (read_done s.card off) c.in_ok-value.value c.in_ok-value.ensures.answer in
    let e = ap (λ g. fitting room (read_ran off g)) q.1 ∙ read_fits room off q.0 (omega (arith, c.room.ensures)) in
    let line = c.read_line-line.ensures ∙ ap (λ v. line_of_read off v) (sym q.2) in
    rw e (record {
      answer = refl;
      card = c.in_ok-value.ensures.after ∙ ap (λ g. card_after_read s.card g) q.1;
      output = rw line at c.put.ensures;
      lines = refl;
    })
