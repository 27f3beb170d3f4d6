use Rattle.std.proofs.Common.{arith}
use Rattle.selector_lexer.proofs.Limits.{past_limit}
use Rattle.selector_lexer.proofs.numbers.limited.Goals as goal

pub returns-then-number-from : goal.returns-then-number-from
returns-then-number-from c =
    let l = c.loop-digit in
    past_limit c.args.digits.now c.args.limit l.number l.digit-index c.digit_value.result c.loop-digit-test.true l.invariant.same c.digit_value.ensures.value (omega arith)
