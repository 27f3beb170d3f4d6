use Rattle.std.proofs.Common.{◌≡◌, ◌+◌, ◌<◌, List, sym, subst, arith}
use Rattle.page_tree.specs.Forest.{size}
use Rattle.dom_arena.specs.declared.table.Slot.{Slot}
use Rattle.dom_arena.specs.Parts.{part_from}
use Rattle.dom_arena.proofs.Parting.{AreClearedTo, opened, none_cleared, cleared_step, all_cleared}
use Rattle.dom_arena.proofs.parts.+clear_all.Goals as goal

pub loop-at-init : goal.loop-at-init
loop-at-init t c = none_cleared c.args.table.now.0 c.args.first c.requires

pub clear_all-more-requires : goal.clear_all-more-requires
clear_all-more-requires t c =
    let inv = c.loop-at.invariant in
    let o = opened c.loop-at.table.0 _ c.loop-at.at c.first_child-below.result c.next-next.result inv.rest c.loop-at-test.true c.first_child-below.ensures c.next-next.ensures in
    let d : size (part_from c.args.table.now.0 c.args.first) ≡ t = c.decreases in
    let falls : size (part_from c.loop-at.table.0 c.first_child-below.result) < t = omega (arith, o.fewer_below, inv.counted, d) in
    (falls, o.held_below)

pub overflow_add-count : goal.overflow_add-count
overflow_add-count t c =
    let inv = c.loop-at.invariant in
    let o = opened c.loop-at.table.0 _ c.loop-at.at c.first_child-below.result c.next-next.result inv.rest c.loop-at-test.true c.first_child-below.ensures c.next-next.ensures in
    omega (arith, o.fewer_below, inv.rest.few, c.clear_all-more.ensures.count)

pub overflow_add-count-in-loop-at : goal.overflow_add-count-in-loop-at
overflow_add-count-in-loop-at t c =
    let inv = c.loop-at.invariant in
    let o = opened c.loop-at.table.0 _ c.loop-at.at c.first_child-below.result c.next-next.result inv.rest c.loop-at-test.true c.first_child-below.ensures c.next-next.ensures in
    omega (arith, o.fewer_below, inv.counted, c.requires.few, c.clear_all-more.ensures.count)

pub loop-at-preserved : goal.loop-at-preserved
loop-at-preserved t c =
    subst (λ (l : List Slot). AreClearedTo (part_from c.args.table.now.0 c.args.first) c.args.table.now.0 l c.next-next.result (c.loop-at.count + (c.clear_all-more.result + 1))) (sym c.clear.ensures)
    (cleared_step _ c.args.table.now.0 c.loop-at.table.0 c.clear_all-more.new.table.0 c.loop-at.at c.first_child-below.result c.next-next.result c.loop-at.count c.clear_all-more.result
    c.loop-at.invariant c.loop-at-test.true c.first_child-below.ensures c.next-next.ensures c.clear_all-more.ensures.cleared c.clear_all-more.ensures.count)

pub loop-at-smaller : goal.loop-at-smaller
loop-at-smaller t c =
    let inv = c.loop-at.invariant in
    let step : AreClearedTo (part_from c.args.table.now.0 c.args.first) c.args.table.now.0 c.clear.new.self.0 c.next-next.result (c.loop-at.count + (c.clear_all-more.result + 1)) =
    subst (λ (l : List Slot). AreClearedTo (part_from c.args.table.now.0 c.args.first) c.args.table.now.0 l c.next-next.result (c.loop-at.count + (c.clear_all-more.result + 1))) (sym c.clear.ensures)
    (cleared_step _ c.args.table.now.0 c.loop-at.table.0 c.clear_all-more.new.table.0 c.loop-at.at c.first_child-below.result c.next-next.result c.loop-at.count c.clear_all-more.result
    inv c.loop-at-test.true c.first_child-below.ensures c.next-next.ensures c.clear_all-more.ensures.cleared c.clear_all-more.ensures.count) in
    omega (arith, step.counted, inv.counted)

pub returns-clause-cleared : goal.returns-clause-cleared
returns-clause-cleared t c = (all_cleared _ c.args.table.now.0 c.loop-at.table.0 c.loop-at.at c.loop-at.count c.loop-at.invariant c.loop-at-test.false).0

pub returns-clause-count : goal.returns-clause-count
returns-clause-count t c = (all_cleared _ c.args.table.now.0 c.loop-at.table.0 c.loop-at.at c.loop-at.count c.loop-at.invariant c.loop-at-test.false).1
