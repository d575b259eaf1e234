use Rattle.std.proofs.Common.{◌≡◌, ◌+◌, ◌*◌, ◌^◌, ◌<◌, Some, get_or, ◌∙◌, arith, rules, tests}
use Rattle.text.specs.Fields.{digit_of}
use Rattle.text.proofs.Numerals.{one_digit, digit_bound, digit_fits}
use Rattle.text.proofs.digits.number.Goals as goal

-- the next value, of one digit more
next_bound : (c : goal.In_ok-d) → c.loop-b.value * c.args.base + c.in_ok-d.d < 16 ^ (c.loop-b.b-index + 1)
next_bound c =
    digit_bound c.loop-b.value c.args.base c.in_ok-d.d c.loop-b.b-index c.loop-b.invariant.1 c.requires.base (search (rules, tests))

pub overflow_mul-value : goal.overflow_mul-value
overflow_mul-value c = omega (arith, digit_fits _ c.loop-b.b-index (next_bound c) (omega arith))

pub overflow_add-value : goal.overflow_add-value
overflow_add-value c = omega (arith, digit_fits _ c.loop-b.b-index (next_bound c) (omega arith))

pub loop-b-preserved : goal.loop-b-preserved
loop-b-preserved c =
    let lt : c.in_ok-d.d < c.args.base = search (rules, tests) in
    let d : Some c.in_ok-d.d ≡ digit_of (get_or c.args.field.now c.loop-b.b-index 0) = search (rules, tests) in (
      c.loop-b.invariant.0 ∙ one_digit c.args.base c.loop-b.value c.args.field.now c.loop-b.b-index (omega arith) c.in_ok-d.d d lt,
      next_bound c,
    )
