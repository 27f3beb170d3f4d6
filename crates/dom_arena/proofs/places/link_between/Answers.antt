use Rattle.std.proofs.Common.{List, sym, subst}
use Rattle.dom_arena.specs.declared.table.Slot.{Slot}
use Rattle.dom_arena.specs.Slots.{slot_at, IsUsed}
use Rattle.dom_arena.proofs.Writes.{used-set, used-with_link}
use Rattle.dom_arena.proofs.places.link_between.Goals as goal

pub link_from_after-requires-clause-after : goal.link_from_after-requires-clause-after
link_from_after-requires-clause-after c ne =
    let slot : Slot = record (slot_at c.args.table.now.0 c.args.n) { parent = c.args.parent; next = c.args.after; previous = c.args.before } in
    let written : IsUsed c.set_place.new.self.0 c.args.after =
    subst (λ (l : List Slot). IsUsed l c.args.after) (sym c.set_place.ensures.slots)
    (used-set c.args.table.now.0 c.args.n slot c.args.after c.requires.used (c.requires.after ne)) in
    subst (λ (l : List Slot). IsUsed l c.args.after) (sym c.link_from_before.ensures.slots)
    (used-with_link c.args.n c.args.parent c.args.before c.args.after c.set_place.new.self.0 written)
