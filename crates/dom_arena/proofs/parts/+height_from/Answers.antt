use Rattle.std.proofs.Common.{◌≡◌, ◌<◌, refl, arith}
use Rattle.page_tree.specs.Forest.{size}
use Rattle.dom_arena.specs.Slots.{slot_at}
use Rattle.dom_arena.specs.Parts.{part_from}
use Rattle.dom_arena.proofs.Parting.{opened, height-size}
use Rattle.dom_arena.proofs.parts.+height_from.Goals as goal

pub height_from-below-requires : goal.height_from-below-requires
height_from-below-requires t c =
    let inv = c.loop-at.invariant in
    let o = opened c.args.table.now.0 _ c.loop-at.at c.first_child.result (slot_at c.args.table.now.0 c.loop-at.at).next inv.rest c.loop-at-test.true c.first_child.ensures refl in
    let d : size (part_from c.args.table.now.0 c.args.first) ≡ t = c.decreases in
    let falls : size (part_from c.args.table.now.0 c.first_child.result) < t = omega (arith, o.fewer_below, inv.smaller, d) in
    (falls, o.held_below)

pub overflow_add-below : goal.overflow_add-below
overflow_add-below t c =
    let inv = c.loop-at.invariant in
    let o = opened c.args.table.now.0 _ c.loop-at.at c.first_child.result (slot_at c.args.table.now.0 c.loop-at.at).next inv.rest c.loop-at-test.true c.first_child.ensures refl in
    omega (arith, height-size (part_from c.args.table.now.0 c.first_child.result), o.fewer_below, inv.rest.few, c.height_from-below.ensures)

pub loop-at-smaller : goal.loop-at-smaller
loop-at-smaller t c =
    let inv = c.loop-at.invariant in
    (opened c.args.table.now.0 _ c.loop-at.at c.first_child.result c.next-at.result inv.rest c.loop-at-test.true c.first_child.ensures c.next-at.ensures).fewer

pub loop-at-preserved : goal.loop-at-preserved
loop-at-preserved t c =
    let inv = c.loop-at.invariant in
    let o = opened c.args.table.now.0 _ c.loop-at.at c.first_child.result c.next-at.result inv.rest c.loop-at-test.true c.first_child.ensures c.next-at.ensures in
    record {
      rest = o.held_behind;
      high = omega (arith, o.high, inv.high, c.height_from-below.ensures, c.higher-height.ensures);
      smaller = omega (arith, o.fewer, inv.smaller);
    }
