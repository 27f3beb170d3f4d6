use Rattle.std.proofs.Common.{arith, rules}
use Rattle.page_tree.specs.Standings.{name}
use Rattle.selector_match.specs.Asked.{side}
use Rattle.selector_match.proofs.SiblingLaws.{side_few, named_few}
use Rattle.selector_match.proofs.siblings.place_of.Goals as goal

pub overflow_add-place : goal.overflow_add-place
overflow_add-place c =
    let few = side_few c.args.dom.now c.is_tree.ensures c.args.x c.requires c.args.from_end in
    let named = named_few c.args.of_name (name c.args.dom.now c.args.x) (side c.args.dom.now c.args.from_end c.args.x) in
    search (rules, arith, few, named)
