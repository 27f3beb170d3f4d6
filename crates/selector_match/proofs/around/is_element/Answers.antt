use Rattle.std.proofs.Common.{◌∙◌, ap}
use Rattle.selector_match.specs.Asked.{is_element_kind}
use Rattle.selector_match.proofs.SiblingLaws.{element_kind, no_element}
use Rattle.selector_match.proofs.around.is_element.Goals as goal

pub returns-in-None : goal.returns-in-None
returns-in-None c = no_element c.args.dom.now c.is_tree.ensures c.args.n c.in-None.ensures

pub returns-in-Some : goal.returns-in-Some
returns-in-Some c =
    element_kind c.args.dom.now c.is_tree.ensures c.args.n c.in-Some.node c.is_element_kind.result c.in-Some.ensures
    (c.is_element_kind.ensures ∙ ap is_element_kind c.kind.ensures)
