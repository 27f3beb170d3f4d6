use Rattle.std.proofs.Common.{◌≡◌, ℕ, List, sym, subst}
use Rattle.dom_arena.specs.declared.table.Slot.{Slot}
use Rattle.dom_arena.specs.Slots.{IsUsed}
use Rattle.dom_arena.proofs.Family.{counted_used}
use Rattle.dom_arena.proofs.Detached.{parent_counted, before_counted, after_counted}
use Rattle.dom_arena.proofs.Writes.{used-with_link}
use Rattle.dom_arena.proofs.parts.unlink.Goals as goal

pub link_from_before-requires-clause-parent : goal.link_from_before-requires-clause-parent
link_from_before-requires-clause-parent c =
    subst (λ (j : ℕ). IsUsed c.args.table.now.0 j) (sym c.parent-parent.ensures)
    (counted_used c.args.table.now.0 _ c.requires.stands _ (parent_counted c.args.table.now.0 _ c.requires.stands c.args.n c.requires.used c.requires.below))

pub link_from_before-requires-clause-before : goal.link_from_before-requires-clause-before
link_from_before-requires-clause-before c =
    subst (λ (j : ℕ). (j ≡ 0 → ⊥) → IsUsed c.args.table.now.0 j) (sym c.previous-before.ensures)
    (λ ne. counted_used c.args.table.now.0 _ c.requires.stands _ (before_counted c.args.table.now.0 _ c.requires.stands c.args.n c.requires.used c.requires.below ne))

pub link_from_after-requires-clause-parent : goal.link_from_after-requires-clause-parent
link_from_after-requires-clause-parent c =
    subst (λ (l : List Slot). IsUsed l c.parent-parent.result) (sym c.link_from_before.ensures.slots)
    (used-with_link c.next-after.result c.parent-parent.result c.previous-before.result c.parent-parent.result c.args.table.now.0
    (subst (λ (j : ℕ). IsUsed c.args.table.now.0 j) (sym c.parent-parent.ensures)
    (counted_used c.args.table.now.0 _ c.requires.stands _ (parent_counted c.args.table.now.0 _ c.requires.stands c.args.n c.requires.used c.requires.below))))

pub link_from_after-requires-clause-after : goal.link_from_after-requires-clause-after
link_from_after-requires-clause-after c ne =
    subst (λ (l : List Slot). IsUsed l c.next-after.result) (sym c.link_from_before.ensures.slots)
    (used-with_link c.next-after.result c.parent-parent.result c.previous-before.result c.next-after.result c.args.table.now.0
    (subst (λ (j : ℕ). (j ≡ 0 → ⊥) → IsUsed c.args.table.now.0 j) (sym c.next-after.ensures)
    (λ nz. counted_used c.args.table.now.0 _ c.requires.stands _ (after_counted c.args.table.now.0 _ c.requires.stands c.args.n c.requires.used c.requires.below nz)) ne))
