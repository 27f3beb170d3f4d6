-- Siblings without one of them, walked along.
use Rattle.std.proofs.Common.{◌≡◌, ℕ, zero, suc, ◌<◌, ◌≤◌, length, refl, sym, ◌∙◌, ap, inl, inr, arith}
use Rattle.std.proofs.lemmas.Bool.{cases_eq, eq-eqb, ne_eqb}
use Rattle.page_tree.specs.Forest.{Content, Forest, empty, node, count, head, tops}
use Rattle.page_tree.specs.Edits.{without}
use Rattle.page_tree.proofs.Finding.{same_cases, same-eq, counted_apart}
use Rattle.dom_arena.specs.declared.table.Slot.{Slot}
use Rattle.dom_arena.specs.Slots.{skipped_to}
use Rattle.dom_arena.specs.Linked.{Linked, from_place, before_place}
use Rattle.dom_arena.proofs.Siblings.{from_place-in}
use Rattle.dom_arena.proofs.Grafts.{place_step}

-- what stands before all siblings doesn't count behind the first
before_place-any : (b d i : ℕ) (f : Forest) → (head (from_place i f) ≡ 0 → ⊥) → before_place b (suc i) f ≡ before_place d (suc i) f
before_place-any b d zero empty ne = absurd (ne refl)
before_place-any b d (suc i) empty ne = absurd (ne refl)
before_place-any b d i (node n c kids later) ne = refl

module _ (s : ℕ → Slot) (k p : ℕ) where
  -- another number is not skipped
  pub skipped-other : (j : ℕ) → (j ≡ k → ⊥) → skipped_to s k j ≡ j
  skipped-other j ne = rw (ne_eqb j k ne) refl

  skipped-same : (j : ℕ) → j ≡ k → skipped_to s k j ≡ (s j).next
  skipped-same j e = rw (eq-eqb j k e) refl

  -- the first sibling that isn't k
  pub head_skipped : (b : ℕ) (f : Forest) → Linked s p b f → (s 0).next ≡ 0 → head (without k f) ≡ skipped_to s k (head f)
  head_skipped b empty l end =
      elim (cases_eq 0 k) [
        | inl e ↦ sym (skipped-same 0 e ∙ end)
        | inr ne ↦ sym (skipped-other 0 ne)
      ]
  head_skipped b (node n c kids later) l end =
      elim (same_cases k n) [
        | inl q ↦ rw q.2 (sym (skipped-same n (sym q.0) ∙ ap (λ (x : Slot). x.next) l.0))
        | inr q ↦ rw q.2 (sym (skipped-other n (λ e. q.0 (sym e))))
      ]

  -- one step along the siblings behind k
  behind_k : (i b : ℕ) (n : ℕ) (c : Content) (kids later : Forest) → Linked s p n later → k ≡ n → count k (node n c kids later) ≤ 1 → count 0 (node n c kids later) ≡ 0 → (head (from_place i later) ≡ 0 → ⊥)
      → (i < length (tops later)) × (before_place b (suc i) later ≡ head (from_place i later)) × (head (from_place (suc i) later) ≡ skipped_to s k (s (head (from_place i later))).next)
  behind_k i b n c kids later l e once z ne =
      let r = place_step s p i n later l ne in
      let other : head (from_place (suc i) later) ≡ k → ⊥ = λ u. elim (from_place-in (suc i) later) [
        | inl o ↦ omega (arith, same-eq 0 n (sym o ∙ u ∙ e))
        | inr o ↦ counted_apart (head (from_place (suc i) later)) k later o (omega (arith, same-eq k n e)) u
      ] in
      (r.0, before_place-any b n i later ne ∙ r.1, sym (skipped-other (head (from_place (suc i) later)) other) ∙ ap (skipped_to s k) r.2)

  -- one step along the others
  pub skip_step : (i b : ℕ) (f : Forest) → Linked s p b f → count k f ≤ 1 → count 0 f ≡ 0 → (s 0).next ≡ 0 → (head (from_place i (without k f)) ≡ 0 → ⊥)
      → (i < length (tops (without k f))) × (before_place b (suc i) (without k f) ≡ head (from_place i (without k f)))
      × (head (from_place (suc i) (without k f)) ≡ skipped_to s k (s (head (from_place i (without k f)))).next)
  skip_step zero b empty l once z end h = absurd (h refl)
  skip_step (suc i) b empty l once z end h = absurd (h refl)
  skip_step zero b (node n c kids later) l once z end h =
      elim (same_cases k n) [
        | inl q ↦ let h' : head (from_place zero later) ≡ 0 → ⊥ = rw q.2 at h in rw q.2 (behind_k zero b n c kids later l.2 q.0 once z h')
        | inr q ↦ rw q.2 (omega arith, refl, head_skipped n later l.2 end ∙ ap (skipped_to s k) (ap (λ (x : Slot). x.next) (sym l.0)))
      ]
  skip_step (suc i) b (node n c kids later) l once z end h =
      elim (same_cases k n) [
        | inl q ↦ let h' : head (from_place (suc i) later) ≡ 0 → ⊥ = rw q.2 at h in rw q.2 (behind_k (suc i) b n c kids later l.2 q.0 once z h')
        | inr q ↦ let h' : head (from_place i (without k later)) ≡ 0 → ⊥ = rw q.2 at h in
            let r = skip_step i n later l.2 (omega arith) (omega arith) end h' in
            rw q.2 (omega (arith, r.0), r.1, r.2)
      ]
