use Rattle.std.proofs.Common.{◌≡◌, Ok, Err, sym, ap, ◌∙◌, arith, rules}
use Rattle.channel.specs.Registers.{register_answer}
use Rattle.card.specs.Registers.{offset_checked, place_at}
use Rattle.card.proofs.Refused.{exit_is, refused_record, refused_write}
use Rattle.card.specs.Calls.{accepted, card_after_write, write_done}
use Rattle.card.proofs.Card.write.Goals as goal

pub returns-in_err-write-in-16-to-335 : goal.returns-in_err-write-in-16-to-335
returns-in_err-write-in-16-to-335 c =
    let k = c.args.self.now in
    let e = c.in_err-write-in-16-to-335.field-0.0 in
    let s : register_answer (place_at c.args.offset) c.args.value ≡ Err e = sym c.write.ensures.answer ∙ c.in_err-write-in-16-to-335.was in
    let p : offset_checked c.args.offset ≡ Ok tt = sym c.check_offset.ensures ∙ c.in_ok-check_offset.was in
    let d : write_done k c.args.offset c.args.value ≡ Err e =
    refused_write k c.args.offset c.args.value e p (omega arith) (omega arith) s in
    record {
      answer = exit_is c.from_residual-in_err-write-in-16-to-335.result c.from_residual-in_err-write-in-16-to-335.ensures.1 ∙ ap accepted (sym d);
      after = refused_record k c.args.offset c.args.value e _ s c.write.ensures.after ∙ ap (card_after_write k) (sym d);
    }
