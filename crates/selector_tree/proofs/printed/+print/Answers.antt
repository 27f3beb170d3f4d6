use Rattle.std.proofs.Common.{◌++◌, List, ℕ, ap, sym, ◌∙◌}
use Rattle.std.proofs.lemmas.Result.{on_ok_weaker}
use Rattle.selector_tree.specs.Canonical.{text_of_test}
use Rattle.selector_tree.proofs.TextLaws.{text_of_test-MinText, text_of_test-WatchAttr}
use Rattle.selector_tree.proofs.printed.+print.Goals as goal

pub push_test-returns-in-MinText : goal.push_test-returns-in-MinText
push_test-returns-in-MinText t c =
    on_ok_weaker c.push_counting.result
    (λ is. is ∙ ap (λ (v : List ℕ). c.args.out.now ++ v) (sym (ap text_of_test c.in-MinText.is ∙ text_of_test-MinText c.in-MinText.units)))
    c.push_counting.ensures

pub push_test-returns-in-WatchAttr : goal.push_test-returns-in-WatchAttr
push_test-returns-in-WatchAttr t c =
    on_ok_weaker c.push_listing.result
    (λ is. is ∙ ap (λ (v : List ℕ). c.args.out.now ++ v) (sym (ap text_of_test c.in-WatchAttr.is ∙ text_of_test-WatchAttr c.in-WatchAttr.names)))
    c.push_listing.ensures
