-- New children of a node, in the forest and in the slots.
use Rattle.std.proofs.Common.{◌≡◌, ℕ, zero, suc, ◌<◌, ◌≤◌, List, length, set, refl, sym, ◌∙◌, ap, subst, inl, inr, arith}
use Rattle.std.proofs.lemmas.Bool.{cases_eq}
use Rattle.std.proofs.lemmas.List.{get_or-set_same, get_or-set_other}
use Rattle.page_tree.specs.Forest.{Content, document, Forest, empty, node, rooted, count, head, tops}
use Rattle.page_tree.specs.Edits.{with_children}
use Rattle.page_tree.proofs.Finding.{same_cases, same-same, same-eq}
use Rattle.dom_arena.specs.declared.table.Slot.{Slot}
use Rattle.dom_arena.specs.Slots.{free, cell, slot_at, last_behind, last}
use Rattle.dom_arena.specs.Linked.{Linked, from_place, before_place}

-- new children below change neither the first number nor the last
pub head-with_children : (p : ℕ) (g f : Forest) → head (with_children p g f) ≡ head f
head-with_children p g empty = refl
head-with_children p g (node n c kids later) = refl

-- the last number stays
last_behind-with_children : (p b : ℕ) (g f : Forest) → last_behind b (with_children p g f) ≡ last_behind b f
last_behind-with_children p b g empty = refl
last_behind-with_children p b g (node n c kids later) = last_behind-with_children p n g later

-- new children further below change no slot of a node
cell-with_children : (p : ℕ) (g : Forest) (parent : ℕ) (kids : Forest) (next previous : ℕ) (c : Content) → cell parent (with_children p g kids) next previous c ≡ cell parent kids next previous c
cell-with_children p g parent kids next previous c = rw (head-with_children p g kids, last_behind-with_children p 0 g kids) refl

-- slots that differ in a node's first child, and hold its new children
pub Linked-with_children : (s s' : ℕ → Slot) (p : ℕ) (g f : Forest) (parent previous : ℕ) → Linked s parent previous f → (parent ≡ p → ⊥)
    → s' p ≡ record (s p) { first_child = head g; last_child = last g } → Linked s' p 0 g
    → ((k : ℕ) → 0 < count k f → (k ≡ p → ⊥) → ((s k).parent ≡ p → ⊥) → s' k ≡ s k)
    → Linked s' parent previous (with_children p g f)
Linked-with_children s s' p g empty parent previous l ne at below keep = tt
Linked-with_children s s' p g (node n c kids later) parent previous l ne at below keep =
    elim (same_cases p n) [
      | inl q ↦
          let e : s' n ≡ cell parent g (head (with_children p g later)) previous c =
          ap s' (sym q.0) ∙ at ∙ ap (λ (x : Slot). record x { first_child = head g; last_child = last g }) (ap s q.0 ∙ l.0) ∙ ap (λ h. cell parent g h previous c) (sym (head-with_children p g later)) in
          rw q.2 (e, subst (λ (m : ℕ). Linked s' m 0 g) q.0 below, Linked-with_children s s' p g later parent n l.2 ne at below (λ k h. keep k (omega arith)))
      | inr q ↦
          let other : n ≡ p → ⊥ = λ e. q.0 (sym e) in
          let e : s' n ≡ cell parent (with_children p g kids) (head (with_children p g later)) previous c =
          keep n (omega (arith, same-same n)) other (λ e. ne (sym (ap (λ (x : Slot). x.parent) l.0) ∙ e)) ∙ l.0
          ∙ sym (cell-with_children p g parent kids (head later) previous c)
          ∙ ap (λ h. cell parent (with_children p g kids) h previous c) (sym (head-with_children p g later)) in
          rw q.2 (
            e,
            Linked-with_children s s' p g kids n 0 l.1 other at below (λ k h. keep k (omega arith)),
            Linked-with_children s s' p g later parent n l.2 ne at below (λ k h. keep k (omega arith)),
          )
    ]

-- the same with the document among the nodes
pub Linked-rooted : (s s' : ℕ → Slot) (p : ℕ) (g f : Forest) → Linked s 0 0 (rooted f)
    → s' p ≡ record (s p) { first_child = head g; last_child = last g } → Linked s' p 0 g
    → ((k : ℕ) → 0 < count k (rooted f) → (k ≡ p → ⊥) → ((s k).parent ≡ p → ⊥) → s' k ≡ s k)
    → Linked s' 0 0 (with_children p g (rooted f))
Linked-rooted s s' p g f l at below keep =
    elim (same_cases p 0) [
      | inl q ↦
          let e : s' 0 ≡ cell 0 g 0 0 document =
          ap s' (sym q.0) ∙ at ∙ ap (λ (x : Slot). record x { first_child = head g; last_child = last g }) (ap s q.0 ∙ l.0) in
          rw q.2 (e, subst (λ (m : ℕ). Linked s' m 0 g) q.0 below, tt)
      | inr q ↦ Linked-with_children s s' p g (rooted f) 0 0 l (λ e. q.0 (sym e)) at below keep
    ]

-- ---- the places among siblings

-- the siblings from a place on are linked
pub Linked-from_place : (s : ℕ → Slot) (p i b : ℕ) (f : Forest) → Linked s p b f → Linked s p (before_place b i f) (from_place i f)
Linked-from_place s p zero b f l = l
Linked-from_place s p (suc i) b empty l = tt
Linked-from_place s p (suc i) b (node n c kids later) l = Linked-from_place s p i n later l.2

-- the first sibling leads to the parent
head-parent : (s : ℕ → Slot) (p b : ℕ) (f : Forest) → Linked s p b f → (head f ≡ 0 → ⊥) → (s (head f)).parent ≡ p
head-parent s p b empty l h = absurd (h refl)
head-parent s p b (node n c kids later) l h = ap (λ (x : Slot). x.parent) l.0

-- the sibling behind a place leads to the parent
pub after-parent : (s : ℕ → Slot) (p i b : ℕ) (f : Forest) → Linked s p b f → (head (from_place i f) ≡ 0 → ⊥) → (s (head (from_place i f))).parent ≡ p
after-parent s p i b f l h = head-parent s p (before_place b i f) (from_place i f) (Linked-from_place s p i b f l) h

-- the sibling before a place leads to the parent
pub before-parent : (s : ℕ → Slot) (p i b : ℕ) (f : Forest) → Linked s p b f → (before_place b i f ≡ b → ⊥) → (s (before_place b i f)).parent ≡ p
before-parent s p zero b f l h = absurd (h refl)
before-parent s p (suc i) b empty l h = absurd (h refl)
before-parent s p (suc i) b (node n c kids later) l h =
    elim (cases_eq (before_place n i later) n) [
      | inl e ↦ ap (λ (k : ℕ). (s k).parent) e ∙ ap (λ (x : Slot). x.parent) l.0
      | inr ne ↦ before-parent s p i n later l.2 ne
    ]

-- one step along the siblings
pub place_step : (s : ℕ → Slot) (p i b : ℕ) (f : Forest) → Linked s p b f → (head (from_place i f) ≡ 0 → ⊥)
    → (i < length (tops f)) × (before_place b (suc i) f ≡ head (from_place i f)) × (head (from_place (suc i) f) ≡ (s (head (from_place i f))).next)
place_step s p zero b empty l h = absurd (h refl)
place_step s p zero b (node n c kids later) l h = (omega arith, refl, ap (λ (x : Slot). x.next) (sym l.0))
place_step s p (suc i) b empty l h = absurd (h refl)
place_step s p (suc i) b (node n c kids later) l h =
    let r = place_step s p i n later l.2 h in
    (omega arith, r.1, r.2)

-- where no sibling is left the place is past the last
pub place_end : (i : ℕ) (f : Forest) → count 0 f ≡ 0 → head (from_place i f) ≡ 0 → length (tops f) ≤ i
place_end i empty z h = omega arith
place_end zero (node n c kids later) z h = absurd (omega (arith, same-eq 0 n (sym h)))
place_end (suc i) (node n c kids later) z h = omega (arith, place_end i later (omega arith) h)

-- ---- slots after a write

-- a written slot
pub slot_at-set_same : (l : List Slot) (i : ℕ) (v : Slot) → i < length l → slot_at (set l i v) i ≡ v
slot_at-set_same l i v h = get_or-set_same l i v free h

-- the other slots stay
pub slot_at-set_other : (l : List Slot) (i k : ℕ) (v : Slot) → (k ≡ i → ⊥) → slot_at (set l i v) k ≡ slot_at l k
slot_at-set_other l i k v h = get_or-set_other l i k v free h
