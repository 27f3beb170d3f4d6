use Rattle.std.proofs.Common.{sym, ◌∙◌}
use Rattle.selector_lexer.specs.Letters.{stands}
use Rattle.selector_lexer.proofs.LetterLaws.{plain-letter, other-letter, no-escaped-letter, escaped-letter, zero-escaped, other-escaped}
use Rattle.selector_lexer.proofs.names.letter.Goals as goal

pub returns-then-stands : goal.returns-then-stands
returns-then-stands c = plain-letter c.args.plain c.args.text.now c.in_ok-c.rest.now c.in_ok-c.c c.in_ok-c.ensures (sym c.stands.ensures ∙ c.if-stands.true)

pub returns-then-c-ne92 : goal.returns-then-c-ne92
returns-then-c-ne92 c = other-letter c.args.plain c.args.text.now c.in_ok-c.rest.now c.in_ok-c.c c.in_ok-c.ensures (sym c.stands.ensures ∙ c.if-stands.false) c.if-c-ne92.true

-- U+0000 behind `\` in a name
pub returns-then-refuses : goal.returns-then-refuses
returns-then-refuses c =
    no-escaped-letter c.args.plain c.args.text.now c.in_ok-c.rest.now c.in_ok-c.c c.in_ok-c.ensures c.if-c-ne92.false
    (zero-escaped (stands c.args.plain) c.in_ok-c.rest.now (sym c.refuses.ensures ∙ c.if-refuses.true))

pub returns : goal.returns
returns c =
    escaped-letter c.args.plain c.args.text.now c.in_ok-c.rest.now c.in_ok-c.c c.escape.result c.in_ok-c.ensures c.if-c-ne92.false
    (other-escaped (stands c.args.plain) c.in_ok-c.rest.now (sym c.refuses.ensures ∙ c.if-refuses.false)) c.escape.ensures
