use Rattle.hide_engine.proofs.Names.{name_of_node, name_of_none}
use Rattle.hide_engine.proofs.removing.name_of.Goals as goal

pub returns-in-Some : goal.returns-in-Some
returns-in-Some c = name_of_node c.args.dom.now c.is_tree.ensures c.args.n c.in-Some.node c.name.result.now c.in-Some.ensures c.name.ensures

pub returns-in-None : goal.returns-in-None
returns-in-None c = name_of_none c.args.dom.now c.is_tree.ensures c.args.n c.in-None.ensures
