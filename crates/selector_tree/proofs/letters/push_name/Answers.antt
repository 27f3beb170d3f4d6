use Rattle.std.proofs.Common.{ap, sym, ◌∙◌, ◌++◌, List, ℕ}
use Rattle.std.proofs.lemmas.Result.{on_ok_weaker}
use Rattle.selector_tree.proofs.Spelled.{name-begun, name-second, added}
use Rattle.selector_tree.proofs.letters.push_name.Goals as goal

pub returns-then-first-ne45 : goal.returns-then-first-ne45
returns-then-first-ne45 c =
    on_ok_weaker c.push_begun.result
    (λ is. is ∙ ap (λ (v : List ℕ). c.args.out.now ++ v) (sym (name-begun c.in-Some.first c.args.name.now c.in-Some.rest.now c.in-Some.ensures c.if-first-ne45.true)))
    c.push_begun.ensures

pub returns : goal.returns
returns c =
    on_ok_weaker c.push_begun-2.result
    (added c.args.out.now c.push.new.self c.push_begun-2.new.out _ _ _ c.in_ok-push.ensures.ok
    (name-second c.in-Some.first c.in-Some-split_first.second c.args.name.now c.in-Some.rest.now c.in-Some-split_first.behind.now
    c.in-Some.ensures c.if-first-ne45.false c.in-Some-split_first.ensures)) c.push_begun-2.ensures
