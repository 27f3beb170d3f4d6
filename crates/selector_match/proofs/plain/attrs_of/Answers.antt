use Rattle.std.proofs.Common.{◌∙◌}
use Rattle.selector_match.proofs.Shown.{attrs_none, attrs_some}
use Rattle.selector_match.proofs.plain.attrs_of.Goals as goal

pub returns-in-None : goal.returns-in-None
returns-in-None c = attrs_none c.args.dom.now c.is_tree.ensures c.args.x c.in-None.ensures

pub returns-in-Some : goal.returns-in-Some
returns-in-Some c = c.attrs.ensures ∙ attrs_some c.args.dom.now c.is_tree.ensures c.args.x c.in-Some.node c.in-Some.ensures
