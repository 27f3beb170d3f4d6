-- What the slots that stand for a forest say of a node of it.
use Rattle.std.proofs.Common.{◌≡◌, ℕ, zero, suc, ◌<◌, ◌≤◌, cond, List, Some, None, length, refl, sym, ◌∙◌, ap, subst, inl, inr, arith}
use Rattle.std.proofs.lemmas.Bool.{cases_eq, cases_lt, ne_eqb}
use Rattle.std.proofs.lemmas.List.{get_or_past}
use Rattle.page_tree.specs.Forest.{Content, document, element, text, comment, Forest, empty, node, rooted, count, size, head, first, find, or_else, children, later_of, content, parent_in, previous_in}
use Rattle.page_tree.proofs.Finding.{same_cases, find-none, or_else-empty, count-find, count-parts}
use Rattle.page_tree.proofs.Depths.{or_none}
use Rattle.page_tree.proofs.Around.{parent_in-none, previous_in-none}
use Rattle.dom_arena.specs.declared.table.Slot.{Slot}
use Rattle.dom_arena.specs.declared.kinds.Payload.TheVariants.{Free}
use Rattle.dom_arena.specs.Contents.{payload_of, content_of}
use Rattle.dom_arena.specs.Slots.{free, slot_at, IsUsed, number_of, last, cell}
use Rattle.dom_arena.specs.Linked.{Linked, forest_of, Stands}

-- a slot gives back what it was given
pub content_of-payload_of : (c : Content) → content_of (payload_of c) ≡ c
content_of-payload_of document = refl
content_of-payload_of (element name attrs) = refl
content_of-payload_of (text bytes) = refl
content_of-payload_of (comment bytes) = refl

-- the slot of a node is not free
pub payload_of-used : (c : Content) → payload_of c ≡ Free → ⊥
payload_of-used document h = cc
payload_of-used (element name attrs) h = cc
payload_of-used (text bytes) h = cc
payload_of-used (comment bytes) h = cc

-- following the links gives the forest back
pub forest_of-linked : (s : ℕ → Slot) (f : Forest) (fuel parent previous : ℕ) → Linked s parent previous f → count 0 f ≡ 0 → size f ≤ fuel → forest_of fuel s (head f) ≡ f
forest_of-linked s empty zero parent previous l z h = refl
forest_of-linked s empty (suc fuel) parent previous l z h = refl
forest_of-linked s (node n c kids later) zero parent previous l z h = absurd (omega arith)
forest_of-linked s (node zero c kids later) (suc fuel) parent previous l z h = absurd (omega arith)
forest_of-linked s (node (suc n) c kids later) (suc fuel) parent previous l z h =
    let below : forest_of fuel s (head kids) ≡ kids = forest_of-linked s kids fuel (suc n) 0 l.1 (omega arith) (omega arith) in
    let behind : forest_of fuel s (head later) ≡ later = forest_of-linked s later fuel parent (suc n) l.2 (omega arith) (omega arith) in
    rw (l.0, content_of-payload_of c, below, behind) refl

-- what the slot of a node says of it
abbrev pub IsCell : (ℕ → Slot) → ℕ → Forest → Type 0
IsCell s k empty = ⊥
IsCell s k (node n c kids later) =
    (k ≡ n) × ((s k).first_child ≡ head kids) × ((s k).next ≡ head later) × ((s k).payload ≡ payload_of c) × Linked s k 0 kids × ((s k).last_child ≡ last kids)

-- what was found first counts
IsCell-or_else : (s : ℕ → Slot) (k : ℕ) (f g : Forest) → IsCell s k f → IsCell s k (or_else f g)
IsCell-or_else s k empty g h = absurd h
IsCell-or_else s k (node n c kids later) g h = h

-- the slot of a node says what is found under its number
pub IsCell-find : (s : ℕ → Slot) (k : ℕ) (f : Forest) (parent previous : ℕ) → Linked s parent previous f → 0 < count k f → IsCell s k (find k f)
IsCell-find s k empty parent previous l h = absurd (omega arith)
IsCell-find s k (node n c kids later) parent previous l h =
    elim (same_cases k n) [
      | inl p ↦
          let e : s k ≡ cell parent kids (head later) previous c = rw p.0 l.0 in
          rw p.2 (p.0, ap (λ (x : Slot). x.first_child) e, ap (λ (x : Slot). x.next) e, ap (λ (x : Slot). x.payload) e, subst (λ (m : ℕ). Linked s m 0 kids) (sym p.0) l.1, ap (λ (x : Slot). x.last_child) e)
      | inr p ↦ rw p.2 (elim (cases_eq (count k kids) 0) [
        | inl z ↦ rw (find-none k kids z) (IsCell-find s k later parent n l.2 (omega arith))
        | inr z ↦ IsCell-or_else s k (find k kids) (find k later) (IsCell-find s k kids n 0 l.1 (omega arith))
      ])
    ]

-- the slot of a node knows its parent
pub parent_in-linked : (s : ℕ → Slot) (k : ℕ) (f : Forest) (parent previous : ℕ) → Linked s parent previous f → 0 < count k f → parent_in k parent f ≡ Some (s k).parent
parent_in-linked s k empty parent previous l h = absurd (omega arith)
parent_in-linked s k (node n c kids later) parent previous l h =
    elim (same_cases k n) [
      | inl p ↦
          let e : s k ≡ cell parent kids (head later) previous c = rw p.0 l.0 in
          rw p.2 (ap (λ (x : Slot). Some x.parent) (sym e))
      | inr p ↦ rw p.2 (elim (cases_eq (count k kids) 0) [
        | inl z ↦ rw (parent_in-none k n kids z) (parent_in-linked s k later parent n l.2 (omega arith))
        | inr z ↦ rw (parent_in-linked s k kids n 0 l.1 (omega arith)) refl
      ])
    ]

-- a link to the first sibling
pub first-head : (f : Forest) → count 0 f ≡ 0 → number_of (head f) ≡ first f
first-head empty h = refl
first-head (node zero c kids later) h = absurd (omega arith)
first-head (node (suc n) c kids later) h = ap (λ b. cond b None (Some (suc n))) (ne_eqb (suc n) 0 (λ e. omega arith))

-- no child and no sibling is the document
pub no_zero : (k : ℕ) (f : Forest) → count 0 (rooted f) ≤ 1 → (count 0 (children (find k (rooted f))) ≡ 0) × (count 0 (later_of (find k (rooted f))) ≡ 0)
no_zero k f h =
    elim (same_cases k 0) [
      | inl p ↦ rw p.2 (omega arith, refl)
      | inr p ↦ rw (p.2, or_else-empty) (omega (arith, count-parts 0 (find k f), count-find 0 k f), omega (arith, count-parts 0 (find k f), count-find 0 k f))
    ]

-- the slot of a node knows the sibling before it
previous_in-linked : (s : ℕ → Slot) (k : ℕ) (f : Forest) (parent previous : ℕ) → Linked s parent previous f → 0 < count k f → count k f ≤ 1 → previous_in k previous f ≡ number_of (s k).previous
previous_in-linked s k empty parent previous l h le = absurd (omega arith)
previous_in-linked s k (node n c kids later) parent previous l h le =
    elim (same_cases k n) [
      | inl p ↦
          let e : s k ≡ cell parent kids (head later) previous c = rw p.0 l.0 in
          rw p.2 (ap (λ (x : Slot). number_of x.previous) (sym e))
      | inr p ↦ rw p.2 (elim (cases_eq (count k kids) 0) [
        | inl z ↦ rw (previous_in-none k 0 kids z) (previous_in-linked s k later parent n l.2 (omega arith) (omega arith))
        | inr z ↦ rw (previous_in-none k n later (omega arith), or_none) (previous_in-linked s k kids n 0 l.1 (omega arith) (omega arith))
      ])
    ]

-- a number past the last is no node's
pub used_inside : (slots : List Slot) (k : ℕ) → IsUsed slots k → k < length slots
used_inside slots k used =
    elim (cases_lt k (length slots)) [
      | inl lt ↦ lt
      | inr le ↦ absurd (used (ap (λ (x : Slot). x.payload) (get_or_past slots k free le)))
    ]

module _ (slots : List Slot) (f : Forest) (stands : Stands slots f) (k : ℕ) where
  -- the slot of each node says what is found under its number
  pub cell_at : 0 < count k (rooted f) → IsCell (slot_at slots) k (find k (rooted f))
  cell_at h = IsCell-find (slot_at slots) k (rooted f) 0 0 stands.linked h

  -- a free slot has no node
  pub stands_none : (slot_at slots k).payload ≡ Free → count k (rooted f) ≡ 0
  stands_none h =
      elim (cases_eq (count k (rooted f)) 0) [
        | inl z ↦ z
        | inr z ↦ absurd (used_cell (find k (rooted f)) (cell_at (omega arith)))
      ]
    where
      used_cell : (g : Forest) → IsCell (slot_at slots) k g → ⊥
      used_cell empty c = c
      used_cell (node n c kids later) h' = payload_of-used c (sym h'.3 ∙ h)

  -- a slot that is not free is that of a node
  pub stands_used : IsUsed slots k → 0 < count k (rooted f)
  stands_used h =
      elim (cases_eq (count k (rooted f)) 0) [
        | inl z ↦ absurd (h (ap (λ (x : Slot). x.payload) (stands.others k z)))
        | inr z ↦ omega arith
      ]

  -- under the number of a free slot nothing is found
  pub nothing_found : (slot_at slots k).payload ≡ Free → find k (rooted f) ≡ empty
  nothing_found h = find-none k (rooted f) (stands_none h)

  -- the links of each slot, also of a free one, are what the tree says of its number

  -- the first child
  pub first_child_found : number_of (slot_at slots k).first_child ≡ first (children (find k (rooted f)))
  first_child_found =
      elim (cases_eq (count k (rooted f)) 0) [
        | inl z ↦ rw (stands.others k z, find-none k (rooted f) z) refl
        | inr z ↦ from_cell (find k (rooted f)) (cell_at (omega arith)) (no_zero k f (stands.tree.once 0)).0
      ]
    where
      from_cell : (g : Forest) → IsCell (slot_at slots) k g → count 0 (children g) ≡ 0 → number_of (slot_at slots k).first_child ≡ first (children g)
      from_cell empty c z = absurd c
      from_cell (node n c kids later) h' z = rw (h'.1) (first-head kids z)

  -- the next sibling
  pub next_found : number_of (slot_at slots k).next ≡ first (later_of (find k (rooted f)))
  next_found =
      elim (cases_eq (count k (rooted f)) 0) [
        | inl z ↦ rw (stands.others k z, find-none k (rooted f) z) refl
        | inr z ↦ from_cell (find k (rooted f)) (cell_at (omega arith)) (no_zero k f (stands.tree.once 0)).1
      ]
    where
      from_cell : (g : Forest) → IsCell (slot_at slots) k g → count 0 (later_of g) ≡ 0 → number_of (slot_at slots k).next ≡ first (later_of g)
      from_cell empty c z = absurd c
      from_cell (node n c kids later) h' z = rw (h'.2) (first-head later z)

  -- the previous sibling
  pub previous_found : number_of (slot_at slots k).previous ≡ previous_in k 0 f
  previous_found =
      elim (cases_eq (count k f) 0) [
        | inr z ↦ sym (previous_in-linked (slot_at slots) k f 0 0 stands.linked.1 (omega arith) (omega (arith, stands.tree.once k)))
        | inl z ↦ elim (same_cases k 0) [
          | inl p ↦ ap (λ (j : ℕ). number_of (slot_at slots j).previous) p.0 ∙ ap (λ (x : Slot). number_of x.previous) stands.linked.0 ∙ sym (previous_in-none k 0 f z)
          | inr p ↦ ap (λ (x : Slot). number_of x.previous) (stands.others k (omega arith)) ∙ sym (previous_in-none k 0 f z)
        ]
      ]

  -- what the node is
  pub content_found : IsUsed slots k → Some (content_of (slot_at slots k).payload) ≡ content (find k (rooted f))
  content_found h = from_cell (find k (rooted f)) (cell_at (stands_used h))
    where
      from_cell : (g : Forest) → IsCell (slot_at slots) k g → Some (content_of (slot_at slots k).payload) ≡ content g
      from_cell empty c = absurd c
      from_cell (node n c kids later) h' = ap Some (ap content_of h'.3 ∙ content_of-payload_of c)

  -- the parent of a node below the document
  pub parent_found : IsUsed slots k → (k ≡ 0 → ⊥) → parent_in k 0 f ≡ Some (slot_at slots k).parent
  parent_found h ne =
      elim (same_cases k 0) [
        | inl p ↦ absurd (ne p.0)
        | inr p ↦ let inside : 0 < count k f = omega (arith, stands_used h) in parent_in-linked (slot_at slots) k f 0 0 stands.linked.1 inside
      ]

  -- no parent where there is no node
  pub parent_not_found : (slot_at slots k).payload ≡ Free → parent_in k 0 f ≡ None
  parent_not_found h = parent_in-none k 0 f (omega (arith, stands_none h))

-- the document has no parent
pub root_has_none : (slots : List Slot) (f : Forest) → Stands slots f → parent_in 0 0 f ≡ None
root_has_none slots f stands = parent_in-none 0 0 f (omega (arith, stands.tree.once 0))
