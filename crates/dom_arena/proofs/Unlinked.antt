-- A node taken out from among its siblings, in the forest and in the slots.
use Rattle.std.proofs.Common.{◌≡◌, ℕ, ◌+◌, ◌<◌, ◌≤◌, eqb, false, refl, sym, ◌∙◌, ap, subst, inl, inr, ◌⊎◌, arith}
use Rattle.std.proofs.lemmas.Bool.{cases_eq}
use Rattle.page_tree.specs.Forest.{Content, Forest, empty, node, same, count, head, find, children}
use Rattle.page_tree.specs.Edits.{with_children, without}
use Rattle.page_tree.proofs.Totals.{with_children-none, without-none}
use Rattle.dom_arena.specs.declared.table.Slot.{Slot}
use Rattle.dom_arena.specs.Slots.{last_behind, cell}
use Rattle.dom_arena.specs.Linked.{Linked}
use Rattle.dom_arena.proofs.Siblings.{Linked-frame}
use Rattle.page_tree.proofs.Finding.{find-counted, same_cases, find-none, same-same, same-eq, counted_apart}

-- how often a number stands among the siblings at the top
abbrev pub count_tops : ℕ → Forest → ℕ
count_tops k empty = 0
count_tops k (node n c kids later) = same k n + count_tops k later

-- not more often than in the forest
pub count_tops-le : (k : ℕ) (f : Forest) → count_tops k f ≤ count k f
count_tops-le k empty = omega arith
count_tops-le k (node n c kids later) = omega (arith, count_tops-le k later)

-- what stands at the top does not stand below a sibling too
pub count_tops-below : (k j : ℕ) (f : Forest) → 0 < count_tops k f → count k f ≤ 1 → count_tops j f + count j (children (find k f)) ≤ count j f
count_tops-below k j empty h once = absurd (omega arith)
count_tops-below k j (node n c kids later) h once =
    elim (same_cases k n) [
      | inl q ↦ rw q.2 (omega (arith, count_tops-le j later))
      | inr q ↦
          let none : count k kids ≡ 0 = omega (arith, count_tops-le k later) in
          rw (q.2, find-none k kids none) (omega (arith, count_tops-below k j later (omega arith) (omega arith)))
    ]

-- the first sibling is one of them
head_top : (f : Forest) → (head f ≡ 0) ⊎ (0 < count_tops (head f) f)
head_top empty = inl refl
head_top (node n c kids later) = inr (omega (arith, same-same n))

-- the siblings lead to their parent
pub parent_top : (s : ℕ → Slot) (k p b : ℕ) (f : Forest) → Linked s p b f → 0 < count_tops k f → (s k).parent ≡ p
parent_top s k p b empty l h = absurd (omega arith)
parent_top s k p b (node n c kids later) l h =
    elim (same_cases k n) [
      | inl q ↦ ap (λ (j : ℕ). (s j).parent) q.0 ∙ ap (λ (x : Slot). x.parent) l.0
      | inr q ↦ parent_top s k p n later l.2 (omega arith)
    ]

-- the siblings beside one are others, or there are none
pub record AreBeside (s : ℕ → Slot) (k b : ℕ) (f : Forest) : Type 0 where
  pub before : ((s k).previous ≡ b) ⊎ (0 < count_tops (s k).previous f)
  pub after : ((s k).next ≡ 0) ⊎ (0 < count_tops (s k).next f)
  pub before_other : (s k).previous ≡ k → ⊥
  pub after_other : ((s k).next ≡ 0 → ⊥) → (s k).next ≡ k → ⊥
  pub apart : ((s k).next ≡ 0 → ⊥) → (s k).next ≡ (s k).previous → ⊥

pub beside : (s : ℕ → Slot) (k p b : ℕ) (f : Forest) → Linked s p b f → 0 < count_tops k f → ((j : ℕ) → count j f ≤ 1) → count b f ≡ 0 → AreBeside s k b f
beside s k p b empty l h once nb = absurd (omega arith)
beside s k p b (node n c kids later) l h once nb =
    elim (same_cases k n) [
      | inl q ↦
          let e : s k ≡ cell p kids (head later) b c = ap s q.0 ∙ l.0 in
          let en : (s k).next ≡ head later = ap (λ (x : Slot). x.next) e in
          let eb : (s k).previous ≡ b = ap (λ (x : Slot). x.previous) e in
          let there : ((s k).next ≡ 0 → ⊥) → 0 < count (s k).next later = λ o. elim (head_top later) [
            | inl z ↦ absurd (o (en ∙ z))
            | inr m ↦ rw en (omega (arith, count_tops-le (head later) later))
          ] in
          record {
            before = inl eb;
            after = elim (head_top later) [ inl z ↦ inl (en ∙ z) | inr m ↦ let there' : 0 < count_tops (s k).next later = rw en m in inr (omega arith) ];
            before_other = λ u. counted_apart k b (node n c kids later) (omega arith) nb (sym u ∙ eb);
            after_other = λ o u. counted_apart (s k).next k later (there o) (omega (arith, once k)) u;
            apart = λ o u. counted_apart (s k).next b later (there o) (omega arith) (u ∙ eb);
          }
      | inr q ↦
          let r = beside s k p n later l.2 (omega arith) (λ j. omega (arith, once j)) (omega (arith, once n, same-same n)) in
          record {
            before = elim r.before [ inl e ↦ inr (omega (arith, same-eq (s k).previous n e)) | inr m ↦ inr (omega arith) ];
            after = elim r.after [ inl e ↦ inl e | inr m ↦ inr (omega arith) ];
            before_other = r.before_other;
            after_other = r.after_other;
            apart = r.apart;
          }
    ]

-- the first sibling without k: the one behind k where k was the first, and else as before
pub first_without : (s : ℕ → Slot) (k p b : ℕ) (f : Forest) → Linked s p b f → 0 < count_tops k f → ((j : ℕ) → count j f ≤ 1) → count b f ≡ 0
    → (((s k).previous ≡ b) × (head (without k f) ≡ (s k).next)) ⊎ ((0 < count (s k).previous f) × (head (without k f) ≡ head f))
first_without s k p b empty l h once nb = absurd (omega arith)
first_without s k p b (node n c kids later) l h once nb =
    elim (same_cases k n) [
      | inl q ↦
          let e : s k ≡ cell p kids (head later) b c = ap s q.0 ∙ l.0 in
          inl (ap (λ (x : Slot). x.previous) e, rw q.2 (ap (λ (x : Slot). x.next) (sym e)))
      | inr q ↦
          let r = beside s k p n later l.2 (omega arith) (λ j. omega (arith, once j)) (omega (arith, once n, same-same n)) in
          inr (
            elim r.before [
              | inl e ↦ omega (arith, same-eq (s k).previous n e)
              | inr m ↦ omega (arith, count_tops-le (s k).previous later)
            ],
            rw q.2 refl,
          )
    ]

-- the last sibling without k: the one before k where k was the last, and else as before
pub last_without : (s : ℕ → Slot) (k p b : ℕ) (f : Forest) → Linked s p b f → 0 < count_tops k f
    → (((s k).next ≡ 0) × (last_behind b (without k f) ≡ (s k).previous)) ⊎ ((0 < count (s k).next f) × (last_behind b (without k f) ≡ last_behind b f))
last_without s k p b empty l h = absurd (omega arith)
last_without s k p b (node n c kids later) l h =
    elim (same_cases k n) [
      | inl q ↦
          let e : s k ≡ cell p kids (head later) b c = ap s q.0 ∙ l.0 in
          rw q.2 (of_later later (ap (λ (x : Slot). x.next) e) (ap (λ (x : Slot). x.previous) e))
      | inr q ↦ elim (last_without s k p n later l.2 (omega arith)) [
        | inl r ↦ inl (r.0, rw q.2 r.1)
        | inr r ↦ inr (omega (arith, r.0), rw q.2 r.1)
      ]
    ]
  where
    of_later : (g : Forest) → (s k).next ≡ head g → (s k).previous ≡ b
        → (((s k).next ≡ 0) × (last_behind b g ≡ (s k).previous)) ⊎ ((0 < same (s k).next n + (count (s k).next kids + count (s k).next g)) × (last_behind b g ≡ last_behind n g))
    of_later empty en eb = inl (en, sym eb)
    of_later (node m d ks ls) en eb = inr (omega (arith, same-eq (s k).next m en), refl)

-- slots whose siblings lead past k
module _ (s s' : ℕ → Slot) (k p : ℕ) where
  -- the siblings behind k move up
  moved_up : (b : ℕ) (later : Forest) → Linked s p k later → (s k).previous ≡ b → (s k).next ≡ head later → ((j : ℕ) → count j later ≤ 1) → count k later ≡ 0 → count b later ≡ 0
      → ((j : ℕ) → 0 < count j later → (j ≡ k → ⊥) → (j ≡ (s k).previous → ⊥) → (j ≡ (s k).next → ⊥) → s' j ≡ s j)
      → (0 < count (s k).next later → s' (s k).next ≡ record (s (s k).next) { previous = (s k).previous })
      → Linked s' p b later
  moved_up b empty l eb en once nk nb keep aft = tt
  moved_up b (node m d ks ls) l eb en once nk nb keep aft =
      let stay : (j : ℕ) → 0 < count j (node m d ks ls) → (j ≡ m → ⊥) → s' j ≡ s j = λ j h ne.
      keep j h (counted_apart j k (node m d ks ls) h nk) (λ e. counted_apart j b (node m d ks ls) h nb (e ∙ eb)) (λ e. ne (e ∙ en)) in
      let m_slot : s' m ≡ cell p ks (head ls) b d =
      ap s' (sym en) ∙ aft (omega (arith, same-eq (s k).next m en)) ∙ ap (λ (j : ℕ). record (s j) { previous = (s k).previous }) en
      ∙ ap (λ (x : Slot). record x { previous = (s k).previous }) l.0 ∙ ap (λ (i : ℕ). cell p ks (head ls) i d) eb in (
        m_slot,
        Linked-frame s s' ks m 0 (λ j h. stay j (omega arith) (λ e. omega (arith, same-eq j m e, once j))) l.1,
        Linked-frame s s' ls p m (λ j h. stay j (omega arith) (λ e. omega (arith, same-eq j m e, once j))) l.2,
      )

  -- the others stay as they are
  pub Linked-without : (b : ℕ) (f : Forest) → Linked s p b f → 0 < count_tops k f → ((j : ℕ) → count j f ≤ 1) → count 0 f ≡ 0 → count b f ≡ 0
      → ((j : ℕ) → 0 < count j f → (j ≡ k → ⊥) → (j ≡ (s k).previous → ⊥) → (j ≡ (s k).next → ⊥) → s' j ≡ s j)
      → (0 < count (s k).previous f → s' (s k).previous ≡ record (s (s k).previous) { next = (s k).next })
      → (0 < count (s k).next f → s' (s k).next ≡ record (s (s k).next) { previous = (s k).previous })
      → Linked s' p b (without k f)
  Linked-without b empty l h once z nb keep bef aft = absurd (omega arith)
  Linked-without b (node n c kids later) l h once z nb keep bef aft =
      elim (same_cases k n) [
        | inl q ↦
            let e : s k ≡ cell p kids (head later) b c = ap s q.0 ∙ l.0 in
            rw q.2
            (moved_up b later (subst (λ (m : ℕ). Linked s p m later) (sym q.0) l.2) (ap (λ (x : Slot). x.previous) e) (ap (λ (x : Slot). x.next) e)
            (λ j. omega (arith, once j)) (omega (arith, once k)) (omega arith) (λ j u. keep j (omega arith)) (λ u. aft (omega arith)))
        | inr q ↦ later_one q.0 q.2 (omega arith) (Linked-without n later l.2 (omega arith) (λ j. omega (arith, once j)) (omega arith) (omega (arith, once n, same-same n)) (λ j u. keep j (omega arith)) (λ u. bef (omega arith)) (λ u. aft (omega arith)))
      ]
    where
      later_one : (k ≡ n → ⊥) → eqb k n ≡ false → 0 < count_tops k later → Linked s' p n (without k later) → Linked s' p b (without k (node n c kids later))
      later_one other test there rest =
          let none : count k kids ≡ 0 = omega (arith, once k, count_tops-le k later) in
          let r : AreBeside s k n later = beside s k p n later l.2 there (λ j. omega (arith, once j)) (omega (arith, once n, same-same n)) in
          let not_before : (j : ℕ) → 0 < count j kids → j ≡ (s k).previous → ⊥ = λ j u e. elim r.before [
            | inl x ↦ omega (arith, same-eq j n (e ∙ x), once j)
            | inr x ↦ let w : 0 < count j later = rw e (omega (arith, count_tops-le (s k).previous later)) in omega (arith, once j)
          ] in
          let not_after : (j : ℕ) → 0 < same j n + count j kids → j ≡ (s k).next → ⊥ = λ j u e. elim r.after [
            | inl x ↦ counted_apart j 0 (node n c kids later) (omega arith) z (e ∙ x)
            | inr x ↦ let w : 0 < count j later = rw e (omega (arith, count_tops-le (s k).next later)) in omega (arith, once j)
          ] in
          let n_slot : s' n ≡ cell p kids (head (without k later)) b c = elim (first_without s k p n later l.2 there (λ j. omega (arith, once j)) (omega (arith, once n, same-same n))) [
            | inl x ↦
                ap s' (sym x.0) ∙ bef (omega (arith, same-eq (s k).previous n x.0)) ∙ ap (λ (j : ℕ). record (s j) { next = (s k).next }) x.0
                ∙ ap (λ (y : Slot). record y { next = (s k).next }) l.0
                ∙ ap (λ i. cell p kids i b c) (sym x.1)
            | inr x ↦
                keep n (omega (arith, same-same n)) (λ e. other (sym e))
                (λ e. let w : 0 < count n later = rw e x.0 in omega (arith, once n, same-same n))
                (not_after n (omega (arith, same-same n)))
                ∙ l.0 ∙ ap (λ i. cell p kids i b c) (sym x.1)
          ] in
          rw (test, without-none k kids none) (
            n_slot,
            Linked-frame s s' kids n 0 (λ j u. keep j (omega arith) (counted_apart j k kids u none) (not_before j u) (not_after j (omega arith))) l.1,
            rest,
          )

-- ---- where a node stands among the children of its parent

-- q is the parent of k, and the forest without k is the one where q has its other children
pub record IsChild (k q : ℕ) (f : Forest) : Type 0 where
  pub there : 0 < count q f
  pub child : 0 < count_tops k (children (find q f))
  pub taken : without k f ≡ with_children q (without k (children (find q f))) f

module _ (k q n : ℕ) (c : Content) (kids later : Forest) (once : (j : ℕ) → count j (node n c kids later) ≤ 1) (ne : k ≡ n → ⊥) (test : eqb k n ≡ false) where
  -- k taken out below the first node, and behind it
  taken_below : count k later ≡ 0 → without k (node n c kids later) ≡ node n c (without k kids) later
  taken_below z = rw (test, without-none k later z) refl

  taken_behind : count k kids ≡ 0 → without k (node n c kids later) ≡ node n c kids (without k later)
  taken_behind z = rw (test, without-none k kids z) refl

  -- new children of the first node, of one below it, and of one behind it
  given_first : (g : Forest) → with_children n g (node n c kids later) ≡ node n c g later
  given_first g = elim (same_cases n n) [
    | inl x ↦ rw (x.2, with_children-none n g later (omega (arith, once n))) refl
    | inr x ↦ absurd (x.0 refl)
  ]

  given_below : (g : Forest) → (q ≡ n → ⊥) → count q later ≡ 0 → with_children q g (node n c kids later) ≡ node n c (with_children q g kids) later
  given_below g other z = elim (same_cases q n) [
    | inl x ↦ absurd (other x.0)
    | inr x ↦ rw (x.2, with_children-none q g later z) refl
  ]

  given_behind : (g : Forest) → (q ≡ n → ⊥) → count q kids ≡ 0 → with_children q g (node n c kids later) ≡ node n c kids (with_children q g later)
  given_behind g other z = elim (same_cases q n) [
    | inl x ↦ absurd (other x.0)
    | inr x ↦ rw (x.2, with_children-none q g kids z) refl
  ]

  found_first : find n (node n c kids later) ≡ node n c kids later
  found_first = elim (same_cases n n) [ inl x ↦ rw x.2 refl | inr x ↦ absurd (x.0 refl) ]

  found_below : (q ≡ n → ⊥) → 0 < count q kids → find q (node n c kids later) ≡ find q kids
  found_below other h = elim (same_cases q n) [ inl x ↦ absurd (other x.0) | inr x ↦ rw x.2 (find-counted q kids (find q later) h) ]

  found_behind : (q ≡ n → ⊥) → count q kids ≡ 0 → find q (node n c kids later) ≡ find q later
  found_behind other z = elim (same_cases q n) [ inl x ↦ absurd (other x.0) | inr x ↦ rw (x.2, find-none q kids z) refl ]

  -- what becomes of the forest, where its children of q are those of another
  by_children : (g h : Forest) → find q (node n c kids later) ≡ g → with_children q (without k (children g)) (node n c kids later) ≡ h
      → with_children q (without k (children (find q (node n c kids later)))) (node n c kids later) ≡ h
  by_children g h e r = ap (λ (x : Forest). with_children q (without k (children x)) (node n c kids later)) e ∙ r

  -- a child of the first node
  first_child_of : q ≡ n → 0 < count_tops k kids → IsChild k q (node n c kids later)
  first_child_of e h =
      let found : find q (node n c kids later) ≡ node n c kids later = ap (λ (j : ℕ). find j (node n c kids later)) e ∙ found_first in
      let given : with_children q (without k kids) (node n c kids later) ≡ node n c (without k kids) later =
      ap (λ (j : ℕ). with_children j (without k kids) (node n c kids later)) e ∙ given_first (without k kids) in
      record {
        there = omega (arith, same-eq q n e);
        child = subst (λ (x : Forest). 0 < count_tops k (children x)) (sym found) h;
        taken = taken_below (omega (arith, once k, count_tops-le k kids)) ∙ sym (by_children (node n c kids later) (node n c (without k kids) later) found given);
      }

  -- a child of a node below the first one
  child_below : 0 < count k kids → IsChild k q kids → IsChild k q (node n c kids later)
  child_below inside r =
      let other : q ≡ n → ⊥ = λ e. omega (arith, once q, same-eq q n e, r.there) in
      let found : find q (node n c kids later) ≡ find q kids = found_below other r.there in
      let given : with_children q (without k (children (find q kids))) (node n c kids later) ≡ node n c (without k kids) later =
      given_below (without k (children (find q kids))) other (omega (arith, once q, r.there)) ∙ ap (λ (g : Forest). node n c g later) (sym r.taken) in
      record {
        there = omega (arith, r.there);
        child = subst (λ (x : Forest). 0 < count_tops k (children x)) (sym found) r.child;
        taken = taken_below (omega (arith, once k)) ∙ sym (by_children (find q kids) (node n c (without k kids) later) found given);
      }

  -- a child of a node behind the first one
  child_behind : 0 < count k later → IsChild k q later → IsChild k q (node n c kids later)
  child_behind inside r =
      let other : q ≡ n → ⊥ = λ e. omega (arith, once q, same-eq q n e, r.there) in
      let found : find q (node n c kids later) ≡ find q later = found_behind other (omega (arith, once q, r.there)) in
      let given : with_children q (without k (children (find q later))) (node n c kids later) ≡ node n c kids (without k later) =
      given_behind (without k (children (find q later))) other (omega (arith, once q, r.there)) ∙ ap (λ (g : Forest). node n c kids g) (sym r.taken) in
      record {
        there = omega (arith, r.there);
        child = subst (λ (x : Forest). 0 < count_tops k (children x)) (sym found) r.child;
        taken = taken_behind (omega (arith, once k)) ∙ sym (by_children (find q later) (node n c kids (without k later)) found given);
      }

-- each node is one of those at the top, or the child of the node that its slot leads to
pub child_of : (s : ℕ → Slot) (k : ℕ) (f : Forest) (p b : ℕ) → Linked s p b f → ((j : ℕ) → count j f ≤ 1) → 0 < count k f
    → (((s k).parent ≡ p) × (0 < count_tops k f)) ⊎ IsChild k (s k).parent f
child_of s k empty p b l once h = absurd (omega arith)
child_of s k (node n c kids later) p b l once h =
    elim (same_cases k n) [
      | inl x ↦ inl (ap (λ (j : ℕ). (s j).parent) x.0 ∙ ap (λ (y : Slot). y.parent) l.0, omega arith)
      | inr x ↦ elim (cases_eq (count k kids) 0) [
        | inl z ↦ elim (child_of s k later p n l.2 (λ j. omega (arith, once j)) (omega arith)) [
          | inl r ↦ inl (r.0, omega (arith, r.1))
          | inr r ↦ inr (child_behind k (s k).parent n c kids later once x.0 x.2 (omega arith) r)
        ]
        | inr y ↦ elim (child_of s k kids n 0 l.1 (λ j. omega (arith, once j)) (omega arith)) [
          | inl r ↦ inr (first_child_of k (s k).parent n c kids later once x.0 x.2 r.0 r.1)
          | inr r ↦ inr (child_below k (s k).parent n c kids later once x.0 x.2 (omega arith) r)
        ]
      ]
    ]
