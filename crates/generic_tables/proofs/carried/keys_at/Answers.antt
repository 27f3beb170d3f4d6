use Rattle.generic_tables.proofs.Carrying.{keys_none, keys_some}
use Rattle.generic_tables.proofs.carried.keys_at.Goals as goal

pub returns-in-None : goal.returns-in-None
returns-in-None c = keys_none c.args.dom.now c.is_tree.ensures c.args.x c.in-None.ensures

pub returns-in-Some : goal.returns-in-Some
returns-in-Some c =
    keys_some c.args.dom.now c.is_tree.ensures c.args.x c.in-Some.node c.name.result.now c.attr.result c.attr-in-Some.result c.text_or_empty.result.now
    c.in-Some.ensures c.name.ensures c.attr.ensures c.attr-in-Some.ensures c.text_or_empty.ensures
