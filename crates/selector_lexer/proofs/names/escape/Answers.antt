use Rattle.std.proofs.Common.{◌∙◌, ap, length}
use Rattle.selector_spelling.specs.Bytes.{Bytes, number}
use Rattle.selector_lexer.proofs.Hexes.{hex_front}
use Rattle.selector_lexer.proofs.LetterLaws.{by_number, first_escape}
use Rattle.selector_lexer.proofs.names.escape.Goals as goal

pub returns-then-count-gt0 : goal.returns-then-count-gt0
returns-then-count-gt0 c =
    let h = c.hex_number-number in
    let same = c.as_bytes.ensures.value in
    by_number c.args.text.now c.split_behind.result.1.now c.behind_space.result.now c.character.result h.result.0 h.result.1
    (h.ensures.number ∙ ap (λ (v : Bytes). number 16 (hex_front 6 v)) same) (h.ensures.count ∙ ap (λ (v : Bytes). length (hex_front 6 v)) same) c.if-count-gt0.true
    c.split_behind.ensures.back c.behind_space.ensures c.character.ensures

pub returns : goal.returns
returns c =
    let h = c.hex_number-number in
    first_escape c.args.text.now h.result.1 c.split_first.result (h.ensures.count ∙ ap (λ (v : Bytes). length (hex_front 6 v)) c.as_bytes.ensures.value) c.if-count-gt0.false c.split_first.ensures
