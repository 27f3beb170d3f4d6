use Rattle.std.proofs.Common.{arith, sym, ap, ◌∙◌, ◌-◌, length, take, drop}
use Rattle.selector_spelling.specs.Bytes.{Bytes}
use Rattle.selector_spelling.specs.Arguments.{unquoted}
use Rattle.spelling_reader.proofs.Unescaped.{unquoted-other, unquoted-quoted}
use Rattle.spelling_reader.proofs.texts.unquoted.Goals as goal

pub returns-then-not-is_quoted : goal.returns-then-not-is_quoted
returns-then-not-is_quoted c =
    let b = c.as_bytes-bytes in
    let e = unquoted-other b.result.now (omega arith) (sym c.is_quoted.ensures ∙ c.if-not-is_quoted.true) in
    sym b.ensures.value ∙ sym e ∙ ap unquoted b.ensures.value

pub returns : goal.returns
returns c =
    let b = c.as_bytes-bytes in
    let e = unquoted-quoted b.result.now (omega arith) (sym c.is_quoted.ensures ∙ c.if-not-is_quoted.false) in
    c.split_behind.ensures.back ∙ ap (λ (v : Bytes). drop 1 v) (c.split_at.ensures.front ∙ ap (λ (v : Bytes). take (length b.result.now - 1) v) (sym b.ensures.value))
    ∙ sym e ∙ ap unquoted b.ensures.value
