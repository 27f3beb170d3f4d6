use Rattle.std.proofs.Common.{◌≡◌, ◌∙◌, ap, arith, rules}
use Rattle.std.proofs.lemmas.Result.{IfOk-weaker}
use Rattle.std.proofs.lemmas.Str.Pattern.{strip_suffix_char}
use Rattle.address_patterns.specs.Pages.{host_in, without_dot}
use Rattle.address_patterns.proofs.LastByte.{kept}
use Rattle.address_patterns.proofs.page.host_of.Goals as goal

pub returns-in-None : goal.returns-in-None
returns-in-None c =
    let is : c.slice-text.result.now ≡ host_in c.args.url.now = search rules in
    let other = rw c.in-None.is at (strip_suffix_char 46 c.slice-text.result.now c.strip_suffix.result c.strip_suffix.ensures.cases (omega arith)) in
    IfOk-weaker c.of_page-in-None.result _ _ (λ host e. e ∙ kept c.slice-text.result.now other ∙ ap without_dot is) c.of_page-in-None.ensures
