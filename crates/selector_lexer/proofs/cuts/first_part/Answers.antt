use Rattle.std.proofs.Common.{arith, ◌<◌, ◌∙◌, ap, subst, length, get_or}
use Rattle.selector_spelling.specs.Bytes.{Bytes}
use Rattle.selector_lexer.specs.Splits.{EndsPart}
use Rattle.selector_lexer.proofs.Firsts.{is-last, is-first, behind-part}
use Rattle.selector_lexer.proofs.cuts.first_part.Goals as goal

pub returns-then-length-bytes : goal.returns-then-length-bytes
returns-then-length-bytes c =
    let n = c.in_ok-length.length in
    let same = c.as_bytes-bytes.ensures.value in
    let ends = subst (λ (v : Bytes). EndsPart c.args.cut v n) same c.in_ok-length.ensures in
    is-last c.args.cut c.args.text.now n c.split_at.result.0 ends (c.if-length-bytes.true ∙ ap length same) c.split_at.ensures.front

pub split_at-requires-2 : goal.split_at-requires-2
split_at-requires-2 c =
    let n = c.in_ok-length.length in
    let same = c.as_bytes-bytes.ensures.value in
    let ends = subst (λ (v : Bytes). EndsPart c.args.cut v n) same c.in_ok-length.ensures in
    let lt : n < length c.args.text.now = omega (arith, ends.most, c.if-length-bytes.false, ap length same) in
    behind-part c.args.cut c.args.text.now n c.utf8.text ends lt

pub returns : goal.returns
returns c =
    let n = c.in_ok-length.length in
    let same = c.as_bytes-bytes.ensures.value in
    let ends = subst (λ (v : Bytes). EndsPart c.args.cut v n) same c.in_ok-length.ensures in
    let lt : n < length c.args.text.now = omega (arith, ends.most, c.if-length-bytes.false, ap length same) in
    is-first c.args.cut c.args.text.now n _ c.split_at.result.0 c.split_at-2.result.1 ends lt c.split_at.ensures.front c.split_at-2.ensures.back (ap (λ (v : Bytes). get_or v n 0) same)
