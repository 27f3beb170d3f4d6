-- A new node between siblings.
use Rattle.std.proofs.Common.{◌≡◌, ℕ, zero, suc, ◌+◌, ◌<◌, ◌≤◌, length, refl, sym, ◌∙◌, ap, inl, inr, ◌⊎◌, arith}
use Rattle.page_tree.specs.Forest.{Content, Forest, empty, node, count, head, tops}
use Rattle.page_tree.specs.Edits.{insert_at}
use Rattle.page_tree.proofs.Finding.{same-same, same-eq}
use Rattle.dom_arena.specs.declared.table.Slot.{Slot}
use Rattle.dom_arena.specs.Slots.{cell}
use Rattle.dom_arena.specs.Linked.{Linked, from_place, before_place}

-- slots that agree on a forest hold it alike
pub Linked-frame : (s s' : ℕ → Slot) (f : Forest) (parent previous : ℕ) → ((k : ℕ) → 0 < count k f → s' k ≡ s k) → Linked s parent previous f → Linked s' parent previous f
Linked-frame s s' empty parent previous same_slots l = tt
Linked-frame s s' (node n c kids later) parent previous same_slots l = (
  same_slots n (omega (arith, same-same n)) ∙ l.0,
  Linked-frame s s' kids n 0 (λ k h. same_slots k (omega arith)) l.1,
  Linked-frame s s' later parent n (λ k h. same_slots k (omega arith)) l.2,
)

-- the number before a place is a sibling, or what stands before them all
pub before_place-in : (b i : ℕ) (f : Forest) → (before_place b i f ≡ b) ⊎ (0 < count (before_place b i f) f)
before_place-in b zero f = inl refl
before_place-in b (suc i) empty = inl refl
before_place-in b (suc i) (node n c kids later) =
    elim (before_place-in n i later) [
      | inl e ↦ inr (rw e (omega (arith, same-same n)))
      | inr h ↦ inr (omega arith)
    ]

-- the number behind a place is a sibling, or none
pub from_place-in : (i : ℕ) (f : Forest) → (head (from_place i f) ≡ 0) ⊎ (0 < count (head (from_place i f)) f)
from_place-in zero empty = inl refl
from_place-in zero (node n c kids later) = inr (omega (arith, same-same n))
from_place-in (suc i) empty = inl refl
from_place-in (suc i) (node n c kids later) =
    elim (from_place-in i later) [
      | inl e ↦ inl e
      | inr h ↦ inr (omega arith)
    ]

-- a node put first is first
pub head-insert_first : (n : ℕ) (c : Content) (below f : Forest) → head (insert_at zero (node n c below empty) f) ≡ n
head-insert_first n c below empty = refl
head-insert_first n c below (node m d kids later) = refl

-- numbers of forests that share none differ
apart : (k j : ℕ) (f g : Forest) → 0 < count k f → 0 < count j g → count k f + count k g ≤ 1 → k ≡ j → ⊥
apart k j f g a b c e = let b' : 0 < count k g = rw e b in omega arith

-- a node with all below it goes in between siblings
module _ (s s' : ℕ → Slot) (n p : ℕ) (c : Content) (below : Forest) (held : Linked s' n 0 below) where
  -- along the siblings to the place
  pub Linked-insert : (i b : ℕ) (kids : Forest) → Linked s p b kids → ((k : ℕ) → count k kids ≤ 1) → count 0 kids ≡ 0 → count b kids ≡ 0 → i ≤ length (tops kids)
      → s' n ≡ cell p below (head (from_place i kids)) (before_place b i kids) c
      → ((k : ℕ) → 0 < count k kids → (k ≡ before_place b i kids → ⊥) → (k ≡ head (from_place i kids) → ⊥) → s' k ≡ s k)
      → (0 < count (before_place b i kids) kids → s' (before_place b i kids) ≡ record (s (before_place b i kids)) { next = n })
      → (0 < count (head (from_place i kids)) kids → s' (head (from_place i kids)) ≡ record (s (head (from_place i kids))) { previous = n })
      → Linked s' p b (insert_at i (node n c below empty) kids)
  Linked-insert zero b empty l once no_zero no_b le at keep bef aft = (at, held, tt)
  Linked-insert (suc i) b empty l once no_zero no_b le at keep bef aft = absurd (omega arith)
  Linked-insert zero b (node m d ks ls) l once no_zero no_b le at keep bef aft =
      let here : 0 < count m (node m d ks ls) = omega (arith, same-same m) in
      let m_slot : s' m ≡ cell p ks (head ls) n d = aft here ∙ ap (λ (x : Slot). record x { previous = n }) l.0 in (
        at,
        held,
        (
          m_slot,
          Linked-frame s s' ks m 0 (λ k h. keep k (omega arith) (λ e. let z : count k (node m d ks ls) ≡ 0 = ap (λ j. count j (node m d ks ls)) e ∙ no_b in omega arith) (λ e. omega (arith, same-eq k m e, once k))) l.1,
          Linked-frame s s' ls p m (λ k h. keep k (omega arith) (λ e. let z : count k (node m d ks ls) ≡ 0 = ap (λ j. count j (node m d ks ls)) e ∙ no_b in omega arith) (λ e. omega (arith, same-eq k m e, once k))) l.2,
        ),
      )
  Linked-insert (suc i) b (node m d ks ls) l once no_zero no_b le at keep bef aft = (
    m_slot i ls le (once m) no_zero bef keep l.0,
    Linked-frame s s' ks m 0 (λ k h. keep k (omega arith) (not_before k h) (not_after k h)) l.1,
    Linked-insert i m ls l.2 (λ k. omega (arith, once k)) (omega arith) (omega (arith, once m, same-same m)) (omega arith) at
        (λ k h nb na. keep k (omega arith) nb na) (λ h. bef (omega arith)) (λ h. aft (omega arith)),
  )
    where
      not_before : (k : ℕ) → 0 < count k ks → k ≡ before_place m i ls → ⊥
      not_before k h e = elim (before_place-in m i ls) [
        | inl q ↦ omega (arith, same-eq k m (e ∙ q), once k)
        | inr q ↦ apart k (before_place m i ls) ks ls h q (omega (arith, once k)) e
      ]

      not_after : (k : ℕ) → 0 < count k ks → k ≡ head (from_place i ls) → ⊥
      not_after k h e = elim (from_place-in i ls) [
        | inl q ↦ let z : k ≡ 0 = e ∙ q in let w : 0 < count 0 ks = rw (← z) h in omega arith
        | inr q ↦ apart k (head (from_place i ls)) ks ls h q (omega (arith, once k)) e
      ]

      m_slot : (j : ℕ) (ls' : Forest) → suc j ≤ length (tops (node m d ks ls')) → count m (node m d ks ls') ≤ 1 → count 0 (node m d ks ls') ≡ 0
          → (0 < count (before_place m j ls') (node m d ks ls') → s' (before_place m j ls') ≡ record (s (before_place m j ls')) { next = n })
          → ((k : ℕ) → 0 < count k (node m d ks ls') → (k ≡ before_place m j ls' → ⊥) → (k ≡ head (from_place j ls') → ⊥) → s' k ≡ s k)
          → s m ≡ cell p ks (head ls') b d
          → s' m ≡ cell p ks (head (insert_at j (node n c below empty) ls')) b d
      m_slot zero ls' le' once' zero' bef' keep' e =
          bef' (omega (arith, same-same m)) ∙ ap (λ (x : Slot). record x { next = n }) e ∙ ap (λ h. cell p ks h b d) (sym (head-insert_first n c below ls'))
      m_slot (suc j) empty le' once' zero' bef' keep' e = absurd (omega arith)
      m_slot (suc j) (node q dq kq lq) le' once' zero' bef' keep' e =
          keep' m (omega (arith, same-same m))
          (λ eq. elim (before_place-in q j lq) [
            | inl x ↦ omega (arith, same-same m, same-eq m q (eq ∙ x))
            | inr x ↦ let z : 0 < count m lq = rw eq x in omega (arith, same-same m)
          ])
          (λ eq. elim (from_place-in j lq) [
            | inl x ↦ omega (arith, same-eq 0 m (sym (eq ∙ x)))
            | inr x ↦ let z : 0 < count m lq = rw eq x in omega (arith, same-same m)
          ])
          ∙ e
