use Rattle.std.proofs.Common.{arith}
use Rattle.selector_lexer.proofs.Escapes.{escape-numbered}
use Rattle.selector_lexer.proofs.scan.escape_length.Goals as goal

pub returns : goal.returns
returns c =
    let n = c.front_length-digits in
    escape-numbered c.args.rest.now c.min.result n.result c.space_length.result c.min.ensures n.ensures.front n.ensures.within (omega arith) c.space_length.ensures.value
