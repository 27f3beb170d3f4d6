-- A forest without a node and what is below it.
use Rattle.std.proofs.Common.{◌≡◌, ℕ, ◌+◌, ◌<◌, ◌≤◌, refl, sym, inl, inr, arith}
use Rattle.std.proofs.lemmas.Bool.{cases_eq}
use Rattle.page_tree.specs.Forest.{Forest, empty, node, same, count, find, children}
use Rattle.page_tree.specs.Edits.{without}
use Rattle.page_tree.proofs.Finding.{find-counted, same_cases, find-none, count-find, count-parts}
use Rattle.page_tree.proofs.Totals.{without-none}

-- no number stands more often
pub count-without_le : (j k : ℕ) (f : Forest) → count j (without k f) ≤ count j f
count-without_le j k empty = omega arith
count-without_le j k (node n c kids later) =
    elim (same_cases k n) [
      | inl q ↦ rw q.2 (omega arith)
      | inr q ↦ rw q.2 (omega (arith, count-without_le j k kids, count-without_le j k later))
    ]

-- ---- what is found there

-- the children of another node that stays
pub children-without : (k p : ℕ) (f : Forest) → count p f ≤ 1 → count k f ≤ 1 → 0 < count p (without k f) → children (find p (without k f)) ≡ without k (children (find p f))
children-without k p empty op ok h = absurd (omega arith)
children-without k p (node n c kids later) op ok h =
    elim (same_cases k n) [
      | inl q ↦
          let h' : 0 < count p later = rw q.2 at h in
          elim (same_cases p n) [
            | inl r ↦ absurd (omega arith)
            | inr r ↦
                let none : count k (children (find p later)) ≡ 0 = omega (arith, count-find k p later, count-parts k (find p later)) in
                rw (q.2, r.2, find-none p kids (omega arith)) (sym (without-none k (children (find p later)) none))
          ]
      | inr q ↦
          let h' : 0 < same p n + (count p (without k kids) + count p (without k later)) = rw q.2 at h in
          elim (same_cases p n) [
            | inl r ↦ rw (q.2, r.2) refl
            | inr r ↦ elim (cases_eq (count p (without k kids)) 0) [
              | inr some ↦
                  rw (q.2, r.2, find-counted p (without k kids) (find p (without k later)) (omega arith), find-counted p kids (find p later) (omega (arith, count-without_le p k kids)))
                  (children-without k p kids (omega arith) (omega arith) (omega arith))
              | inl none ↦
                  rw (q.2, r.2, find-none p (without k kids) none, find-none p kids (omega (arith, count-without_le p k later)))
                  (children-without k p later (omega arith) (omega arith) (omega arith))
            ]
          ]
    ]
