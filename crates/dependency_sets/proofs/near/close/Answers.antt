use Rattle.std.proofs.Common.{sym, ◌∙◌}
use Rattle.dependency_sets.proofs.Members.{is_in-get}
use Rattle.dependency_sets.proofs.Closing.{closing_start, closing_on, closing_end}
use Rattle.dependency_sets.proofs.near.close.Goals as goal

pub each-init : goal.each-init
each-init c = closing_start c.args.dom.now c.is_tree.ensures c.args.near c.args.found.now c.requires

pub add_near-requires : goal.add_near-requires
add_near-requires c = c.each.invariant.places c.in-Some.y (is_in-get c.each.found c.each.k c.in-Some.y (sym c.in-Some.ensures.number))

pub each-preserved : goal.each-preserved
each-preserved c =
    closing_on c.args.dom.now c.is_tree.ensures c.args.near c.args.found.now c.each.found c.add_near.new.found c.each.k c.in-Some.y c.requires c.each.invariant
    (sym c.in-Some.ensures.number) c.in_ok-add_near.ensures

pub returns : goal.returns
returns c =
    closing_end c.args.dom.now c.is_tree.ensures c.args.near c.args.found.now c.each.found c.each.k c.each.invariant (sym c.at.ensures.number ∙ c.in_default.is)
