use Rattle.std.proofs.Common.{◌∙◌, ap, sym, arith}
use Rattle.std.proofs.lemmas.Result.{IfOk-weaker}
use Rattle.std.proofs.lemmas.Str.Pattern.{strip_prefix_char}
use Rattle.host_names.specs.SuffixLines.{by_rule}
use Rattle.host_names.proofs.Spelled.{no_exception}
use Rattle.host_names.proofs.line.read_rule.Goals as goal

pub returns-in-None : goal.returns-in-None
returns-in-None c =
    let none = rw c.in-None.is at (strip_prefix_char 33 c.args.text.now c.strip_prefix.result c.strip_prefix.ensures.cases (omega arith)) in
    IfOk-weaker c.read_plain.result _ _ (λ read e. e ∙ ap by_rule (sym (no_exception c.args.text.now none))) c.read_plain.ensures
