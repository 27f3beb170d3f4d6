use Rattle.std.proofs.Common.{List, sym, ◌∙◌, ap, subst, arith}
use Rattle.page_tree.specs.Forest.{Forest, size}
use Rattle.page_tree.specs.Edits.{without}
use Rattle.dom_arena.specs.declared.table.Slot.{Slot}
use Rattle.dom_arena.specs.Linked.{Stands, tree_of}
use Rattle.dom_arena.specs.Slots.{slot_at, past}
use Rattle.dom_arena.specs.Parts.{part_from, HoldPart, AreCleared}
use Rattle.dom_arena.proofs.Detached.{part_below, Stands-detached, sizes}
use Rattle.dom_arena.proofs.parts.take_out.Goals as goal

pub clear_all-below-requires : goal.clear_all-below-requires
clear_all-below-requires c =
    let first_is = c.first_child-first.ensures ∙ ap (λ (l : List Slot). (slot_at l c.args.n).first_child) c.unlink.ensures.slots in
    let part = part_below c.args.table.now.0 _ c.requires.stands c.args.n c.requires.used c.requires.below c.first_child-first.result first_is in
    subst (λ (l : List Slot). HoldPart l (part_from l c.first_child-first.result) c.first_child-first.result) (sym c.unlink.ensures.slots) part.0

pub overflow_add-result : goal.overflow_add-result
overflow_add-result c =
    let first_is = c.first_child-first.ensures ∙ ap (λ (l : List Slot). (slot_at l c.args.n).first_child) c.unlink.ensures.slots in
    let part = part_below c.args.table.now.0 _ c.requires.stands c.args.n c.requires.used c.requires.below c.first_child-first.result first_is in
    omega (arith, c.clear_all-below.ensures.count, ap (λ (l : List Slot). size (part_from l c.first_child-first.result)) c.unlink.ensures.slots, part.0.few)

pub returns-clause-stands : goal.returns-clause-stands
returns-clause-stands c =
    let first_is = c.first_child-first.ensures ∙ ap (λ (l : List Slot). (slot_at l c.args.n).first_child) c.unlink.ensures.slots in
    let part = part_below c.args.table.now.0 _ c.requires.stands c.args.n c.requires.used c.requires.below c.first_child-first.result first_is in
    let gone : AreCleared (part_from (past c.args.n c.args.table.now.0) c.first_child-first.result) (past c.args.n c.args.table.now.0) c.clear_all-below.new.table.0 =
    subst (λ (l : List Slot). AreCleared (part_from l c.first_child-first.result) l c.clear_all-below.new.table.0) c.unlink.ensures.slots c.clear_all-below.ensures.cleared in
    let gone' = subst (λ (g : Forest). AreCleared g (past c.args.n c.args.table.now.0) c.clear_all-below.new.table.0) part.1 gone in
    subst (λ (l : List Slot). Stands l (without c.args.n (tree_of c.args.table.now.0).nodes)) (sym c.clear.ensures)
    (Stands-detached c.args.table.now.0 _ c.requires.stands c.args.n c.requires.used c.requires.below c.clear_all-below.new.table.0 gone')

pub returns-clause-count : goal.returns-clause-count
returns-clause-count c =
    let first_is = c.first_child-first.ensures ∙ ap (λ (l : List Slot). (slot_at l c.args.n).first_child) c.unlink.ensures.slots in
    let part = part_below c.args.table.now.0 _ c.requires.stands c.args.n c.requires.used c.requires.below c.first_child-first.result first_is in
    omega (
      arith,
      c.clear_all-below.ensures.count,
      ap (λ (l : List Slot). size (part_from l c.first_child-first.result)) c.unlink.ensures.slots,
      ap size part.1,
      sizes c.args.table.now.0 _ c.requires.stands c.args.n c.requires.used c.requires.below,
    )
