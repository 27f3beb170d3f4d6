use Rattle.std.proofs.Common.{ap, ◌∙◌}
use Rattle.dependency_sets.specs.Reaching.{leads_to}
use Rattle.page_tree.specs.Directions.{to_next}
use Rattle.dependency_sets.proofs.Members.{on_ok, adds_one, adds_none}
use Rattle.dependency_sets.proofs.Nearby.{element_place, next_some, next_none, next_document}
use Rattle.dependency_sets.proofs.near.add_next.Goals as goal

pub returns-then-y-eq0 : goal.returns-then-y-eq0
returns-then-y-eq0 c =
    adds_none (leads_to c.args.dom.now to_next c.args.y) c.args.found.now
    (λ x. ap (λ y. leads_to c.args.dom.now to_next y x) c.if-y-eq0.true ∙ next_document c.args.dom.now c.is_tree.ensures x)

pub returns-in-Some : goal.returns-in-Some
returns-in-Some c =
    let t = c.args.dom.now in
    let here = element_place t c.is_tree.ensures c.args.y c.requires c.if-y-eq0.false in
    on_ok c.add.result
    (λ e. rw e (adds_one (leads_to t to_next c.args.y) c.args.found.now c.in-Some.x (next_some t c.is_tree.ensures c.args.y here c.in-Some.x c.in-Some.ensures.first)))
    c.add.ensures

pub returns-in-None : goal.returns-in-None
returns-in-None c =
    let t = c.args.dom.now in
    let here = element_place t c.is_tree.ensures c.args.y c.requires c.if-y-eq0.false in
    adds_none (leads_to t to_next c.args.y) c.args.found.now (next_none t c.is_tree.ensures c.args.y here c.in-None.ensures.first)
