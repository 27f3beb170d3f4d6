use Rattle.std.proofs.Common.{◌∙◌, ℕ, List, ap, sym}
use Rattle.cos_source.specs.Spaces.{space_count, trimmed}
use Rattle.selector_spelling.specs.declared.finding.Cause.TheVariants as cause
use Rattle.selector_spelling.specs.declared.finding.Finding.TheVariants.{Malformed}
use Rattle.list_lines.specs.Lines.{noted, trimmed_line}
use Rattle.list_lines.proofs.LineLaws.{no_text_is, text_is}
use Rattle.list_lines.proofs.line.read_line.Goals as goal

pub returns-in-Ok-clause-meaning : goal.returns-in-Ok-clause-meaning
returns-in-Ok-clause-meaning c =
    let same = c.in-Ok.ensures.cases.0 in
    c.read_trimmed.ensures.meaning
    ∙ ap (λ (n : ℕ). trimmed_line n c.trim_text.result.now) (c.space_count.ensures.count ∙ ap space_count (c.as_bytes.ensures.value ∙ same))
    ∙ ap (λ (t : List ℕ). trimmed_line (space_count c.args.line.now) t) (c.trim_text.ensures.text ∙ ap trimmed same)
    ∙ text_is c.args.line.now c.if-line-gt-LINE_LIMIT.false c.in-Ok.ensures.cases.1

pub returns-in-Err-clause-meaning : goal.returns-in-Err-clause-meaning
returns-in-Err-clause-meaning c =
    ap (λ (n : ℕ). noted (Malformed cause.NotUtf8 n)) (c.valid_up_to.ensures ∙ c.in-Err.ensures.valid_len)
    ∙ no_text_is c.args.line.now c.if-line-gt-LINE_LIMIT.false c.in-Err.ensures.cases.0
