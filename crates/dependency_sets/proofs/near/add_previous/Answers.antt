use Rattle.std.proofs.Common.{ap, ◌∙◌}
use Rattle.dependency_sets.specs.Reaching.{leads_to}
use Rattle.page_tree.specs.Directions.{to_previous}
use Rattle.dependency_sets.proofs.Members.{adds_none}
use Rattle.dependency_sets.proofs.Nearby.{previous_none, before_document}
use Rattle.dependency_sets.proofs.near.add_previous.Goals as goal

pub returns-then-y-eq0 : goal.returns-then-y-eq0
returns-then-y-eq0 c =
    let t = c.args.dom.now in
    adds_none (leads_to t to_previous c.args.y) c.args.found.now
    (λ x. ap (λ y. leads_to t to_previous y x) c.if-y-eq0.true ∙ previous_none t c.is_tree.ensures 0 (before_document t c.is_tree.ensures) x)
