use Rattle.std.proofs.Common.{◌≡◌, ◌∙◌, false, sym, arith, codes, rules}
use Rattle.std.proofs.lemmas.Result.{IfOk-weaker}
use Rattle.std.proofs.lemmas.Str.Pattern.{strip_prefix_char}
use Rattle.std.specs.Str.{bytes_eq}
use Rattle.filter_scope.proofs.Reading.{plain_item}
use Rattle.filter_scope.proofs.item.read_item.Goals as goal

pub returns-in-None : goal.returns-in-None
returns-in-None c =
    let none = rw c.in-None.is at (strip_prefix_char 126 c.args.text.now c.strip_prefix.result c.strip_prefix.ensures.cases (omega arith)) in
    let star : bytes_eq c.args.text.now (codes "*") ≡ false = search rules in
    IfOk-weaker c.read_named-in-None.result _ _ (λ read e. e ∙ plain_item c.args.text.now star none) c.read_named-in-None.ensures
