use Rattle.std.proofs.Common.{◌∙◌}
use Rattle.selector_match.proofs.SiblingLaws.{not_document}
use Rattle.procedural_ops.proofs.Chains.{beside_element}
use Rattle.procedural_ops.proofs.places.is_beside.Goals as goal

pub returns-in-Some : goal.returns-in-Some
returns-in-Some c =
    c.in_place.ensures
    ∙ beside_element c.args.dom.now c.args.y c.args.x c.in-Some.above _ (not_document c.args.dom.now c.is_tree.ensures c.in-Some.above c.in-Some.ensures.element) c.in-Some.ensures.first
