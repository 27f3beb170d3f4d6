use Rattle.std.proofs.Common.{sym, ◌∙◌}
use Rattle.std.proofs.lemmas.Result.{on_ok_weaker}
use Rattle.selector_tree.proofs.Spelled.{begun-letter, added}
use Rattle.selector_tree.proofs.letters.push_begun.Goals as goal

pub returns : goal.returns
returns c =
    on_ok_weaker c.push_letters-2.result
    (added c.args.out.now c.push_letter.new.out c.push_letters-2.new.out _ _ _ c.in_ok-push_letter.ensures
    (begun-letter c.args.first c.args.rest.now (sym c.is_digit.ensures ∙ c.if-is_digit.false))) c.push_letters-2.ensures
