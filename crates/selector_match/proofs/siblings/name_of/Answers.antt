use Rattle.selector_match.proofs.Shown.{name_none, name_some}
use Rattle.selector_match.proofs.siblings.name_of.Goals as goal

pub returns-in-None : goal.returns-in-None
returns-in-None c = name_none c.args.dom.now c.is_tree.ensures c.args.x c.in-None.ensures

pub returns-in-Some : goal.returns-in-Some
returns-in-Some c = name_some c.args.dom.now c.is_tree.ensures c.args.x c.in-Some.node c.name.result.now c.in-Some.ensures c.name.ensures
