use Rattle.std.proofs.Common.{arith, ℕ, ◌+◌, ◌-◌, ◌<◌, get_or, sym, subst, ◌∙◌, ◌≡◌}
use Rattle.selector_lexer.proofs.Hexes.{fits_more, hex_more, hex_stop, hex_done, six_read}
use Rattle.selector_lexer.proofs.names.hex_number.Goals as goal

pub overflow_mul-number : goal.overflow_mul-number
overflow_mul-number c =
    let l = c.loop-count in
    omega (arith, fits_more l.number l.count 0 l.invariant.so_far.below c.loop-count-test.true (omega arith))

pub overflow_add-number : goal.overflow_add-number
overflow_add-number c =
    let l = c.loop-count in
    let low = c.digit_value.ensures.hex (sym c.is_ascii_hexdigit.ensures.value ∙ c.if-not-is_ascii_hexdigit.false) in
    omega (arith, fits_more l.number l.count c.digit_value.result l.invariant.so_far.below c.loop-count-test.true low)

pub loop-count-preserved : goal.loop-count-preserved
loop-count-preserved c =
    let l = c.loop-count in
    let hex = sym c.is_ascii_hexdigit.ensures.value ∙ c.if-not-is_ascii_hexdigit.false in
    let d = c.digit_value in
    record {
      so_far = hex_more c.args.bytes.now l.number l.count c.if-count-bytes.true l.invariant.so_far c.loop-count-test.true d.result hex d.ensures.value (d.ensures.hex hex);
      most = omega arith;
      last = λ _. let e : l.count + 1 - 1 ≡ l.count = omega arith in subst (λ (n : ℕ). get_or c.args.bytes.now n 0 < 128) (sym e) (omega (arith, c.if-not-is_ascii_hexdigit.ensures.cases));
    }

pub returns-after-loop-count-clause-number : goal.returns-after-loop-count-clause-number
returns-after-loop-count-clause-number c =
    let l = c.loop-count in
    (hex_done c.args.bytes.now l.number l.count l.invariant.so_far (six_read c.args.bytes.now l.count c.loop-count-test.false)).0

pub returns-after-loop-count-clause-count : goal.returns-after-loop-count-clause-count
returns-after-loop-count-clause-count c =
    let l = c.loop-count in
    (hex_done c.args.bytes.now l.number l.count l.invariant.so_far (six_read c.args.bytes.now l.count c.loop-count-test.false)).1

pub returns-then-not-is_ascii_hexdigit-clause-number : goal.returns-then-not-is_ascii_hexdigit-clause-number
returns-then-not-is_ascii_hexdigit-clause-number c =
    let l = c.loop-count in
    (hex_stop c.args.bytes.now l.number l.count c.if-count-bytes.true l.invariant.so_far c.loop-count-test.true (sym c.is_ascii_hexdigit.ensures.value ∙ c.if-not-is_ascii_hexdigit.true)).0

pub returns-then-not-is_ascii_hexdigit-clause-count : goal.returns-then-not-is_ascii_hexdigit-clause-count
returns-then-not-is_ascii_hexdigit-clause-count c =
    let l = c.loop-count in
    (hex_stop c.args.bytes.now l.number l.count c.if-count-bytes.true l.invariant.so_far c.loop-count-test.true (sym c.is_ascii_hexdigit.ensures.value ∙ c.if-not-is_ascii_hexdigit.true)).1
