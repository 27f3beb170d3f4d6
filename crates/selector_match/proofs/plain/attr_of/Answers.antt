use Rattle.std.proofs.Common.{◌≡◌, ℕ, List, Option, None, Some, subst, MatchOption}
use Rattle.selector_match.proofs.Shown.{attr_none, attr_some}
use Rattle.selector_match.proofs.plain.attr_of.Goals as goal

pub returns-in-None : goal.returns-in-None
returns-in-None c = attr_none c.args.dom.now c.is_tree.ensures c.args.x c.in-None.ensures c.args.key.now

pub returns-in-Some : goal.returns-in-Some
returns-in-Some c =
    subst (λ (o : Option (List ℕ)). MatchOption c.attr.result (o ≡ None) (λ value. o ≡ Some value.now))
    (attr_some c.args.dom.now c.is_tree.ensures c.args.x c.in-Some.node c.in-Some.ensures c.args.key.now) c.attr.ensures
