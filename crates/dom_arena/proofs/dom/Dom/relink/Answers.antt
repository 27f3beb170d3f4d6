use Rattle.std.proofs.Common.{◌∙◌, List, ap, sym, subst}
use Rattle.page_tree.specs.Edits.{moved}
use Rattle.dom_arena.specs.declared.table.Slot.{Slot}
use Rattle.dom_arena.specs.Slots.{slot_at, IsUsed, placed}
use Rattle.dom_arena.proofs.Moved.{moved_arena, used-past, before_used_then, after_used_then}
use Rattle.dom_arena.proofs.dom.Dom.relink.Goals as goal

pub link_between-requires-clause-used : goal.link_between-requires-clause-used
link_between-requires-clause-used c =
    subst (λ (l : List Slot). IsUsed l c.args.n) (sym c.unlink.ensures.slots) (used-past c.args.n c.args.n c.self.inside.table.0 c.in_ok-before.ensures.place.node)

pub link_between-requires-clause-parent : goal.link_between-requires-clause-parent
link_between-requires-clause-parent c =
    subst (λ (l : List Slot). IsUsed l c.args.parent) (sym c.unlink.ensures.slots) (used-past c.args.n c.args.parent c.self.inside.table.0 c.in_ok-before.ensures.place.used)

pub link_between-requires-clause-before : goal.link_between-requires-clause-before
link_between-requires-clause-before c ne =
    subst (λ (l : List Slot). IsUsed l c.in_ok-before.before) (sym c.unlink.ensures.slots)
    (before_used_then c.self.inside.table.0 c.self.invariant.stands c.args.n c.args.parent c.args.place c.in_ok-before.before c.in_ok-before.after c.in_ok-before.ensures.place ne)

pub link_between-requires-clause-after : goal.link_between-requires-clause-after
link_between-requires-clause-after c ne =
    subst (λ (l : List Slot). IsUsed l c.in_ok-before.after) (sym c.unlink.ensures.slots)
    (after_used_then c.self.inside.table.0 c.self.invariant.stands c.args.n c.args.parent c.args.place c.in_ok-before.before c.in_ok-before.after c.in_ok-before.ensures.place ne)

pub invariant_of-self : goal.invariant_of-self
invariant_of-self c =
    (moved_arena c.self.inside.table.0 c.self.inside.nodes c.args.n c.args.parent c.args.place c.in_ok-before.before c.in_ok-before.after c.link_between.new.table.0 c.self.invariant c.in_ok-before.ensures.place
    (c.link_between.ensures
    ∙ ap (λ (l : List Slot). placed c.args.n c.args.parent c.in_ok-before.before c.in_ok-before.after (record (slot_at l c.args.n) { parent = c.args.parent; next = c.in_ok-before.after; previous = c.in_ok-before.before }) l) c.unlink.ensures.slots)).0

pub returns-clause-tree : goal.returns-clause-tree
returns-clause-tree c =
    (moved_arena c.self.inside.table.0 c.self.inside.nodes c.args.n c.args.parent c.args.place c.in_ok-before.before c.in_ok-before.after c.link_between.new.table.0 c.self.invariant c.in_ok-before.ensures.place
    (c.link_between.ensures
    ∙ ap (λ (l : List Slot). placed c.args.n c.args.parent c.in_ok-before.before c.in_ok-before.after (record (slot_at l c.args.n) { parent = c.args.parent; next = c.in_ok-before.after; previous = c.in_ok-before.before }) l) c.unlink.ensures.slots)).1
    ∙ ap (moved c.args.n c.args.parent c.args.place) c.self.view_is
