use Rattle.std.proofs.Common.{◌+◌, ◌*◌, ◌<◌, ◌∙◌, sym, ap, min, length, arith}
use Rattle.html_tree.specs.Numerals.{radix, past}
use Rattle.html_tree.proofs.Resolving.{number_more, counted_more}
use Rattle.html_tree.proofs.references.digits_at.Goals as goal

pub loop-count-preserved : goal.loop-count-preserved
loop-count-preserved c =
    let within : c.loop-count.count < length c.args.bytes.now = c.loop-count-test.true in
    record {
      within = omega arith;
      counted = counted_more c.args.base c.args.bytes.now c.loop-count.count within (sym c.if-is_digit.ensures) c.loop-count.invariant.counted;
      value =
          c.with_digit-value.ensures ∙ ap (λ d. min past (c.loop-count.value * radix c.args.base + d)) c.digit_value.ensures.value
          ∙ number_more c.args.base c.args.bytes.now c.loop-count.count c.loop-count.value 0 within c.loop-count.invariant.value;
    }
