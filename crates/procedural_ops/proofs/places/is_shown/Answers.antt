use Rattle.std.proofs.Common.{◌∙◌, ap}
use Rattle.selector_match.proofs.Shown.{name_none, name_some}
use Rattle.procedural_ops.specs.Reaching.{is_shown_name}
use Rattle.procedural_ops.proofs.places.is_shown.Goals as goal

pub returns-in-None : goal.returns-in-None
returns-in-None c = ap is_shown_name (name_none c.args.dom.now c.is_tree.ensures c.args.x c.in-None.ensures)

pub returns-in-Some : goal.returns-in-Some
returns-in-Some c =
    c.is_shown_name.ensures
    ∙ ap is_shown_name (name_some c.args.dom.now c.is_tree.ensures c.args.x c.in-Some.node c.name.result.now c.in-Some.ensures c.name.ensures)
