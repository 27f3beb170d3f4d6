use Rattle.std.proofs.Common.{◌∙◌, ap}
use Rattle.std.proofs.lemmas.Result.{IfOk-weaker}
use Rattle.cos_source.specs.Spaces.{trimmed}
use Rattle.host_names.specs.SuffixLines.{text_line}
use Rattle.host_names.proofs.Spelled.{is_text, no_text}
use Rattle.host_names.proofs.line.read_line.Goals as goal

pub returns-in-Ok : goal.returns-in-Ok
returns-in-Ok c =
    IfOk-weaker c.read_text.result _ _
    (λ read e. e ∙ ap text_line (c.trim_text.ensures.text ∙ ap trimmed c.in-Ok.ensures.cases.0) ∙ is_text c.args.line.now c.in-Ok.ensures.cases.1)
    c.read_text.ensures

pub returns-in-Err : goal.returns-in-Err
returns-in-Err c = no_text c.args.line.now c.in-Err.ensures.cases.0
