use Rattle.std.proofs.Common.{arith, ◌<◌, ◌∙◌, sym, ap, subst, length}
use Rattle.selector_spelling.specs.Bytes.{Bytes}
use Rattle.selector_spelling.specs.Pieces.{where_closed}
use Rattle.selector_lexer.specs.Splits.{EndsArgument}
use Rattle.selector_lexer.specs.Stops.{Fails}
use Rattle.selector_lexer.specs.declared.stop.Stop.{Stop}
use Rattle.selector_lexer.proofs.Firsts.{behind-argument, is-open, is-argument}
use Rattle.selector_lexer.proofs.cuts.argument.Goals as goal

pub returns-then-length-bytes : goal.returns-then-length-bytes
returns-then-length-bytes c = λ read.
    let n = c.in_ok-length.length in
    let same = c.as_bytes-bytes.ensures.value in
    let ends = subst (λ (v : Bytes). EndsArgument c.args.opened v n) same c.in_ok-length.ensures in
    subst (λ (s : Stop). Fails s (where_closed c.args.at c.args.opened c.args.text.now read)) (sym c.bad.ensures) (is-open c.args.at c.args.opened c.args.text.now n read ends (c.if-length-bytes.true ∙ ap length same))

pub split_at-requires-2 : goal.split_at-requires-2
split_at-requires-2 c =
    let n = c.in_ok-length.length in
    let same = c.as_bytes-bytes.ensures.value in
    let ends = subst (λ (v : Bytes). EndsArgument c.args.opened v n) same c.in_ok-length.ensures in
    let lt : n < length c.args.text.now = omega (arith, ends.most, c.if-length-bytes.false, ap length same) in
    behind-argument c.args.opened c.args.text.now n c.utf8.text ends lt

pub returns : goal.returns
returns c =
    let n = c.in_ok-length.length in
    let same = c.as_bytes-bytes.ensures.value in
    let ends = subst (λ (v : Bytes). EndsArgument c.args.opened v n) same c.in_ok-length.ensures in
    let lt : n < length c.args.text.now = omega (arith, ends.most, c.if-length-bytes.false, ap length same) in
    is-argument c.args.opened c.args.text.now n c.split_at.result.0 c.split_at-2.result.1 ends lt c.split_at.ensures.front c.split_at-2.ensures.back
