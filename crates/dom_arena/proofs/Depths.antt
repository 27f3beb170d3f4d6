-- The depth of a node, along its parents.
use Rattle.std.proofs.Common.{◌≡◌, ℕ, suc, ◌<◌, ◌≤◌, List, Option, Some, refl, ◌∙◌, ap, inl, inr, ◌⊎◌, arith}
use Rattle.std.proofs.lemmas.Bool.{cases_eq}
use Rattle.std.specs.Prelude.{unwrap_or}
use Rattle.page_tree.specs.Forest.{Forest, empty, node, rooted, count, depth_in}
use Rattle.page_tree.proofs.Finding.{same_cases, same-same, same-eq}
use Rattle.page_tree.proofs.Depths.{depth_in-none}
use Rattle.dom_arena.specs.declared.table.Slot.{Slot}
use Rattle.dom_arena.specs.Slots.{slot_at, IsUsed}
use Rattle.dom_arena.specs.Linked.{Linked, Stands}
use Rattle.dom_arena.proofs.Links.{stands_used}
use Rattle.dom_arena.proofs.Family.{counted_used}

-- a node is at the top, or one deeper than its parent
pub depth_step : (s : ℕ → Slot) (k : ℕ) (f : Forest) (p b d : ℕ) → Linked s p b f → ((j : ℕ) → count j f ≤ 1) → count p f ≡ 0 → 0 < count k f
    → (((s k).parent ≡ p) × (depth_in k d f ≡ Some d)) ⊎ ((e : ℕ) × (0 < count (s k).parent f) × (depth_in (s k).parent d f ≡ Some e) × (depth_in k d f ≡ Some (suc e)))
depth_step s k empty p b d l once np h = absurd (omega arith)
depth_step s k (node n c kids later) p b d l once np h =
    elim (same_cases k n) [
      | inl q ↦ inl (ap (λ (j : ℕ). (s j).parent) q.0 ∙ ap (λ (x : Slot). x.parent) l.0, rw q.2 refl)
      | inr q ↦ elim (cases_eq (count k kids) 0) [
        | inl z ↦ elim (depth_step s k later p n d l.2 (λ j. omega (arith, once j)) (omega arith) (omega arith)) [
          | inl r ↦ inl (r.0, rw (q.2, depth_in-none k (suc d) kids z) r.1)
          | inr r ↦ inr (
            r.0,
            omega (arith, r.1),
            deeper_later (s k).parent r.0 r.1 r.2,
            rw (q.2, depth_in-none k (suc d) kids z) r.3,
          )
        ]
        | inr z ↦ elim (depth_step s k kids n 0 (suc d) l.1 (λ j. omega (arith, once j)) (omega (arith, once n, same-same n)) (omega arith)) [
          | inl r ↦ inr (d, omega (arith, same-eq (s k).parent n r.0), at_n (s k).parent r.0, rw q.2 (rw r.1 refl))
          | inr r ↦ inr (
            r.0,
            omega (arith, r.1),
            deeper_kids (s k).parent r.0 r.1 r.2,
            rw q.2 (rw r.3 refl),
          )
        ]
      ]
    ]
  where
    at_n : (j : ℕ) → j ≡ n → depth_in j d (node n c kids later) ≡ Some d
    at_n j e = elim (same_cases j n) [ inl q ↦ rw q.2 refl | inr q ↦ absurd (q.0 e) ]

    deeper_later : (j e : ℕ) → 0 < count j later → depth_in j d later ≡ Some e → depth_in j d (node n c kids later) ≡ Some e
    deeper_later j e h' x = elim (same_cases j n) [
      | inl q ↦ absurd (omega (arith, once j))
      | inr q ↦ rw (q.2, depth_in-none j (suc d) kids (omega (arith, once j))) x
    ]

    deeper_kids : (j e : ℕ) → 0 < count j kids → depth_in j (suc d) kids ≡ Some e → depth_in j d (node n c kids later) ≡ Some e
    deeper_kids j e h' x = elim (same_cases j n) [
      | inl q ↦ absurd (omega (arith, once j))
      | inr q ↦ rw q.2 (rw x refl)
    ]

module _ (slots : List Slot) (f : Forest) (stands : Stands slots f) where
  -- one step up from a node
  pub depth_up : (k : ℕ) → IsUsed slots k → (k ≡ 0 → ⊥)
      → (e : ℕ) × (0 < count (slot_at slots k).parent (rooted f)) × (depth_in (slot_at slots k).parent 0 (rooted f) ≡ Some e) × (depth_in k 0 (rooted f) ≡ Some (suc e))
  depth_up k used nz =
      elim (same_cases k 0) [
        | inl q ↦ absurd (nz q.0)
        | inr q ↦
            elim (depth_step (slot_at slots) k f 0 0 1 stands.linked.1 (λ j. omega (arith, stands.tree.once j)) (omega (arith, stands.tree.once 0)) (omega (arith, stands_used slots f stands k used))) [
              | inl r ↦ (0, omega (arith, same-eq (slot_at slots k).parent 0 r.0), at_root (slot_at slots k).parent r.0, rw q.2 (rw r.1 refl))
              | inr r ↦ (r.0, omega (arith, r.1), under (slot_at slots k).parent r.0 r.1 r.2, rw q.2 (rw r.3 refl))
            ]
      ]
    where
      at_root : (j : ℕ) → j ≡ 0 → depth_in j 0 (rooted f) ≡ Some 0
      at_root j e = elim (same_cases j 0) [ inl q ↦ rw q.2 refl | inr q ↦ absurd (q.0 e) ]

      under : (j e : ℕ) → 0 < count j f → depth_in j 1 f ≡ Some e → depth_in j 0 (rooted f) ≡ Some e
      under j e h x = elim (same_cases j 0) [
        | inl q ↦ absurd (omega (arith, ap (λ (i : ℕ). count i f) q.0, stands.tree.once 0))
        | inr q ↦ rw q.2 (rw x refl)
      ]

  -- each node has a depth
  pub depth_known : (k : ℕ) → IsUsed slots k → (e : ℕ) × (depth_in k 0 (rooted f) ≡ Some e)
  depth_known k used =
      elim (cases_eq k 0) [
        | inl z ↦ (0, elim (same_cases k 0) [ inl q ↦ rw q.2 refl | inr q ↦ absurd (q.0 z) ])
        | inr nz ↦ let up = depth_up k used nz in (suc up.0, up.3)
      ]

  -- one step up, to a node
  pub up_facts : (k : ℕ) → IsUsed slots k → (k ≡ 0 → ⊥)
      → (e : ℕ) × IsUsed slots (slot_at slots k).parent × (depth_in (slot_at slots k).parent 0 (rooted f) ≡ Some e) × (depth_in k 0 (rooted f) ≡ Some (suc e))
  up_facts k used nz =
      let up = depth_up k used nz in
      (up.0, counted_used slots f stands (slot_at slots k).parent up.1, up.2, up.3)

-- the depth falls on the way up
pub falls : (o p : Option ℕ) (e : ℕ) → o ≡ Some e → p ≡ Some (suc e) → unwrap_or o 0 < unwrap_or p 0
falls o p e a b = rw (a, b) (omega arith)
