-- The node behind another in document order, by the links.
use Rattle.std.proofs.Common.{◌≡◌, ℕ, ◌<◌, ◌≤◌, cond, List, [], Option, Some, None, refl, sym, ◌∙◌, ap, inl, inr, ◌⊎◌, arith}
use Rattle.std.proofs.lemmas.Bool.{cases_eq, eq-eqb, ne_eqb}
use Rattle.std.proofs.lemmas.List.{append-nil}
use Rattle.page_tree.specs.Forest.{document, Forest, empty, node, rooted, count, numbers, head, first, or_some, behind}
use Rattle.page_tree.specs.Edits.{behind_subtree}
use Rattle.page_tree.proofs.Finding.{same_cases, same-eq}
use Rattle.dom_arena.specs.declared.table.Slot.{Slot}
use Rattle.dom_arena.specs.Slots.{slot_at, IsUsed, number_of}
use Rattle.dom_arena.specs.Linked.{Linked, Stands}
use Rattle.dom_arena.proofs.Links.{stands_used, first_child_found}
use Rattle.page_tree.proofs.Below.{beyond, beyond-same, beyond-kids, beyond-later, behind-skip, behind-numbers}
use Rattle.page_tree.proofs.Behind.{behind_subtree-beyond}
use Rattle.dom_arena.proofs.Family.{counted_used}

-- beyond a node with a next sibling is that sibling
pub beyond-next : (s : ℕ → Slot) (k : ℕ) (f : Forest) (p b : ℕ) (rest : Option ℕ) → Linked s p b f → 0 < count k f → ((s k).next ≡ 0 → ⊥) → beyond k f rest ≡ Some (s k).next
beyond-next s k empty p b rest l h ne = absurd (omega arith)
beyond-next s k (node n c kids later) p b rest l h ne =
    elim (same_cases k n) [
      | inl q ↦
          let e : (s k).next ≡ head later = ap (λ (j : ℕ). (s j).next) q.0 ∙ ap (λ (x : Slot). x.next) l.0 in
          beyond-same k n c kids later rest q.0 ∙ some_first later (λ z. ne (e ∙ z)) ∙ ap Some (sym e)
      | inr q ↦ elim (cases_eq (count k kids) 0) [
        | inl z ↦ beyond-later k n c kids later rest q.0 z ∙ beyond-next s k later p n rest l.2 (omega arith) ne
        | inr z ↦ beyond-kids k n c kids later rest q.0 (omega arith) ∙ beyond-next s k kids n 0 (or_some (first later) rest) l.1 (omega arith) ne
      ]
    ]
  where
    some_first : (g : Forest) → (head g ≡ 0 → ⊥) → or_some (first g) rest ≡ Some (head g)
    some_first empty ne' = absurd (ne' refl)
    some_first (node m d ks ls) ne' = refl

-- beyond a node with no next sibling is what is beyond its parent
beyond-up : (s : ℕ → Slot) (k : ℕ) (f : Forest) (p b : ℕ) (rest : Option ℕ) → Linked s p b f → count 0 f ≡ 0 → ((j : ℕ) → count j f ≤ 1) → 0 < count k f → (s k).next ≡ 0
    → (((s k).parent ≡ p) × (beyond k f rest ≡ rest)) ⊎ ((0 < count (s k).parent f) × (beyond k f rest ≡ beyond (s k).parent f rest))
beyond-up s k empty p b rest l z once h end = absurd (omega arith)
beyond-up s k (node n c kids later) p b rest l z once h end =
    elim (same_cases k n) [
      | inl q ↦
          let e : (s k).next ≡ head later = ap (λ (j : ℕ). (s j).next) q.0 ∙ ap (λ (x : Slot). x.next) l.0 in
          inl (ap (λ (j : ℕ). (s j).parent) q.0 ∙ ap (λ (x : Slot). x.parent) l.0, beyond-same k n c kids later rest q.0 ∙ no_first later (omega arith) (sym e ∙ end))
      | inr q ↦ elim (cases_eq (count k kids) 0) [
        | inl y ↦ elim (beyond-up s k later p n rest l.2 (omega arith) (λ j. omega (arith, once j)) (omega arith) end) [
          | inl r ↦ inl (r.0, beyond-later k n c kids later rest q.0 y ∙ r.1)
          | inr r ↦ inr (omega (arith, r.0), beyond-later k n c kids later rest q.0 y ∙ r.1 ∙ sym (above_later (s k).parent r.0))
        ]
        | inr y ↦ elim (beyond-up s k kids n 0 (or_some (first later) rest) l.1 (omega arith) (λ j. omega (arith, once j)) (omega arith) end) [
          | inl r ↦ inr (
            omega (arith, same-eq (s k).parent n r.0),
            beyond-kids k n c kids later rest q.0 (omega arith) ∙ r.1 ∙ sym (beyond-same (s k).parent n c kids later rest r.0),
          )
          | inr r ↦ inr (omega (arith, r.0), beyond-kids k n c kids later rest q.0 (omega arith) ∙ r.1 ∙ sym (above_kids (s k).parent r.0))
        ]
      ]
    ]
  where
    no_first : (g : Forest) → count 0 g ≡ 0 → head g ≡ 0 → or_some (first g) rest ≡ rest
    no_first empty z' e = refl
    no_first (node m d ks ls) z' e = absurd (omega (arith, same-eq 0 m (sym e)))

    above_later : (j : ℕ) → 0 < count j later → beyond j (node n c kids later) rest ≡ beyond j later rest
    above_later j h' = beyond-later j n c kids later rest (λ e. omega (arith, same-eq j n e, once j)) (omega (arith, once j))

    above_kids : (j : ℕ) → 0 < count j kids → beyond j (node n c kids later) rest ≡ beyond j kids (or_some (first later) rest)
    above_kids j h' = beyond-kids j n c kids later rest (λ e. omega (arith, same-eq j n e, once j)) h'

module _ (slots : List Slot) (f : Forest) (stands : Stands slots f) where
  -- nothing is beyond the document
  none_beyond : beyond 0 (rooted f) None ≡ None
  none_beyond = beyond-same 0 0 document f empty None refl

  -- beyond a node below the document
  beyond_root : (k : ℕ) → 0 < count k f → beyond k (rooted f) None ≡ beyond k f None
  beyond_root k h = beyond-kids k 0 document f empty None (λ e. omega (arith, stands.tree.once k, same-eq k 0 e)) h

  -- beyond a node with a next sibling is that sibling, as the slots say
  pub next_beyond : (k : ℕ) → IsUsed slots k → ((slot_at slots k).next ≡ 0 → ⊥) → beyond k (rooted f) None ≡ Some (slot_at slots k).next
  next_beyond k used ne = beyond-next (slot_at slots) k (rooted f) 0 0 None stands.linked (stands_used slots f stands k used) ne

  -- beyond a node with none is what is beyond its parent, as the slots say
  pub up_beyond : (k : ℕ) → IsUsed slots k → (k ≡ 0 → ⊥) → (slot_at slots k).next ≡ 0 → IsUsed slots (slot_at slots k).parent × (beyond k (rooted f) None ≡ beyond (slot_at slots k).parent (rooted f) None)
  up_beyond k used nz end =
      let inside : 0 < count k f = below k nz (stands_used slots f stands k used) in
      elim (beyond-up (slot_at slots) k f 0 0 None stands.linked.1 (omega (arith, stands.tree.once 0)) (λ j. omega (arith, stands.tree.once j)) inside end) [
        | inl r ↦ (
          counted_used slots f stands _ (omega (arith, same-eq (slot_at slots k).parent 0 r.0)),
          beyond_root k inside ∙ r.1 ∙ sym (ap (λ (j : ℕ). beyond j (rooted f) None) r.0 ∙ none_beyond),
        )
        | inr r ↦ (counted_used slots f stands _ (omega (arith, r.0)), beyond_root k inside ∙ r.1 ∙ sym (beyond_root (slot_at slots k).parent r.0))
      ]
    where
      below : (j : ℕ) → (j ≡ 0 → ⊥) → 0 < count j (rooted f) → 0 < count j f
      below j ne h = elim (same_cases j 0) [ inl q ↦ absurd (ne q.0) | inr q ↦ omega arith ]

  -- behind a node is its first child, or else what is beyond it
  behind_node : (k : ℕ) → IsUsed slots k → behind k (numbers (rooted f)) ≡ or_some (number_of (slot_at slots k).first_child) (beyond k (rooted f) None)
  behind_node k used =
      ap (behind k) (sym (append-nil (numbers (rooted f))))
      ∙ behind-numbers k (rooted f) [] (stands_used slots f stands k used)
      ∙ ap (λ (o : Option ℕ). or_some o (beyond k (rooted f) None)) (sym (first_child_found slots f stands k))

  -- behind a node with children
  pub behind_child : (k : ℕ) → IsUsed slots k → ((slot_at slots k).first_child ≡ 0 → ⊥) → behind k (numbers (rooted f)) ≡ Some (slot_at slots k).first_child
  behind_child k used ne =
      behind_node k used ∙ ap (λ b. or_some (cond b None (Some (slot_at slots k).first_child)) (beyond k (rooted f) None)) (ne_eqb (slot_at slots k).first_child 0 ne)

  -- behind a node with none
  pub behind_leaf : (k : ℕ) → IsUsed slots k → (slot_at slots k).first_child ≡ 0 → behind k (numbers (rooted f)) ≡ beyond k (rooted f) None
  behind_leaf k used z =
      behind_node k used ∙ ap (λ b. or_some (cond b None (Some (slot_at slots k).first_child)) (beyond k (rooted f) None)) (eq-eqb (slot_at slots k).first_child 0 z)

  -- behind a node and all below it is what is beyond it
  pub behind_whole : (k : ℕ) → IsUsed slots k → behind_subtree k (rooted f) ≡ beyond k (rooted f) None
  behind_whole k used = behind_subtree-beyond k (rooted f) (omega (arith, stands_used slots f stands k used, stands.tree.once k))

  -- the way up ends at the document
  pub behind_end : (k : ℕ) → k ≡ 0 → beyond k (rooted f) None ≡ None
  behind_end k z = ap (λ (j : ℕ). beyond j (rooted f) None) z ∙ none_beyond

-- nothing is behind what is no node
pub behind-none : (f : Forest) (k : ℕ) → count k (rooted f) ≡ 0 → behind k (numbers (rooted f)) ≡ None
behind-none f k z = ap (behind k) (sym (append-nil (numbers (rooted f)))) ∙ behind-skip k (rooted f) [] z
