-- What the slots say of a node's children.
use Rattle.std.proofs.Common.{◌≡◌, ℕ, ◌<◌, ◌≤◌, List, length, sym, ◌∙◌, inl, inr, arith}
use Rattle.std.proofs.lemmas.Bool.{cases_lt}
use Rattle.page_tree.specs.Forest.{Forest, empty, node, rooted, count, head, find, children}
use Rattle.page_tree.specs.Trees.{IsTree}
use Rattle.page_tree.proofs.Finding.{count-find, count-parts, same-eq}
use Rattle.dom_arena.specs.declared.table.Slot.{Slot}
use Rattle.dom_arena.specs.Slots.{slot_at, IsUsed, last}
use Rattle.dom_arena.specs.Linked.{Linked, Stands, from_place, before_place}
use Rattle.dom_arena.proofs.Links.{IsCell, IsCell-find, no_zero, payload_of-used, stands_used}
use Rattle.dom_arena.proofs.Siblings.{before_place-in, from_place-in}

pub record Family (slots : List Slot) (p : ℕ) (kids : Forest) : Type 0 where
  pub linked : Linked (slot_at slots) p 0 kids
  pub first : (slot_at slots p).first_child ≡ head kids
  pub last : (slot_at slots p).last_child ≡ last kids
  pub no_zero : count 0 kids ≡ 0
  pub once : (k : ℕ) → count k kids ≤ 1
  pub inside : (k : ℕ) → 0 < count k kids → k < length slots
  pub no_parent : count p kids ≡ 0
  pub present : p < length slots

module _ (slots : List Slot) (f : Forest) (linked : Linked (slot_at slots) 0 0 (rooted f)) (tree : IsTree (record { nodes = f; next = length slots })) where
  -- a number in the forest is below the number of slots
  pub inside_slots : (k : ℕ) → 0 < count k (rooted f) → k < length slots
  inside_slots k h =
      elim (cases_lt k (length slots)) [
        | inl lt ↦ lt
        | inr le ↦ absurd (omega (arith, tree.below k le))
      ]

  -- what the slots of a node say of its children
  pub family_of : (p : ℕ) → 0 < count p (rooted f) → Family slots p (children (find p (rooted f)))
  family_of p inside =
      let kids_count : (k : ℕ) → count k (children (find p (rooted f))) ≤ count k (rooted f) =
      λ k. omega (arith, count-find k p (rooted f), count-parts k (find p (rooted f))) in
      let cell_at : IsCell (slot_at slots) p (find p (rooted f)) = IsCell-find (slot_at slots) p (rooted f) 0 0 linked inside in
      record {
        linked = of_cell_linked (find p (rooted f)) cell_at;
        first = of_cell_first (find p (rooted f)) cell_at;
        last = of_cell_last (find p (rooted f)) cell_at;
        no_zero = (no_zero p f (tree.once 0)).0;
        once = λ k. omega (arith, kids_count k, tree.once k);
        inside = λ k h. inside_slots k (omega (arith, kids_count k));
        no_parent = of_cell_count (find p (rooted f)) cell_at (omega (arith, count-find p p (rooted f), tree.once p));
        present = inside_slots p inside;
      }
    where
      of_cell_linked : (g : Forest) → IsCell (slot_at slots) p g → Linked (slot_at slots) p 0 (children g)
      of_cell_linked empty c = absurd c
      of_cell_linked (node n c kids later) h = h.4

      of_cell_first : (g : Forest) → IsCell (slot_at slots) p g → (slot_at slots p).first_child ≡ head (children g)
      of_cell_first empty c = absurd c
      of_cell_first (node n c kids later) h = h.1

      of_cell_last : (g : Forest) → IsCell (slot_at slots) p g → (slot_at slots p).last_child ≡ last (children g)
      of_cell_last empty c = absurd c
      of_cell_last (node n c kids later) h = h.5

      of_cell_count : (g : Forest) → IsCell (slot_at slots) p g → count p g ≤ 1 → count p (children g) ≡ 0
      of_cell_count empty c h = absurd c
      of_cell_count (node n c kids later) h le = omega (arith, same-eq p n h.0)

module _ (slots : List Slot) (f : Forest) (stands : Stands slots f) where
  -- the same of slots that stand for a forest
  pub family : (p : ℕ) → IsUsed slots p → Family slots p (children (find p (rooted f)))
  family p used = family_of slots f stands.linked stands.tree p (stands_used slots f stands p used)

  -- what was found at a node, as its slot says
  pub found_node : (p : ℕ) → IsUsed slots p → IsCell (slot_at slots) p (find p (rooted f))
  found_node p used = IsCell-find (slot_at slots) p (rooted f) 0 0 stands.linked (stands_used slots f stands p used)

  -- a number in the forest is a node's
  pub counted_used : (k : ℕ) → 0 < count k (rooted f) → IsUsed slots k
  counted_used k h e = of_cell (find k (rooted f)) (IsCell-find (slot_at slots) k (rooted f) 0 0 stands.linked h)
    where
      of_cell : (g : Forest) → IsCell (slot_at slots) k g → ⊥
      of_cell empty c = c
      of_cell (node n c kids later) c' = payload_of-used c (sym c'.3 ∙ e)

  -- children are nodes of the forest
  kids_inside : (p k : ℕ) → 0 < count k (children (find p (rooted f))) → 0 < count k (rooted f)
  kids_inside p k h = omega (arith, count-find k p (rooted f), count-parts k (find p (rooted f)))

  -- the numbers beside a place are those of nodes, unless there is none
  pub before_used : (p i : ℕ) → (before_place 0 i (children (find p (rooted f))) ≡ 0 → ⊥) → IsUsed slots (before_place 0 i (children (find p (rooted f))))
  before_used p i ne =
      elim (before_place-in 0 i (children (find p (rooted f)))) [
        | inl e ↦ absurd (ne e)
        | inr h ↦ counted_used _ (kids_inside p _ h)
      ]

  -- the number behind a place is that of a node, unless there is none
  pub after_used : (p i : ℕ) → (head (from_place i (children (find p (rooted f)))) ≡ 0 → ⊥) → IsUsed slots (head (from_place i (children (find p (rooted f)))))
  after_used p i ne =
      elim (from_place-in i (children (find p (rooted f)))) [
        | inl e ↦ absurd (ne e)
        | inr h ↦ counted_used _ (kids_inside p _ h)
      ]
