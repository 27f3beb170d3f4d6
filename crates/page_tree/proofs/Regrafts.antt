-- Nodes put in where others were put in before.
use Rattle.std.proofs.Common.{◌≡◌, ℕ, zero, suc, ◌+◌, ◌≤◌, length, refl, ◌∙◌, ap, inl, inr, arith}
use Rattle.std.proofs.lemmas.Bool.{cases_eq}
use Rattle.page_tree.specs.Forest.{Content, Forest, empty, node, count, tops, find, or_else, children}
use Rattle.page_tree.specs.Edits.{joined, insert_at, with_children}
use Rattle.page_tree.proofs.Finding.{same_cases, find-none, or_else-empty}
use Rattle.page_tree.proofs.Totals.{with_children-none}

-- ---- children put in place of others

-- a second time in place of the first
pub with_children-again : (p : ℕ) (y x f : Forest) → with_children p y (with_children p x f) ≡ with_children p y f
with_children-again p y x empty = refl
with_children-again p y x (node n c kids later) =
    elim (same_cases p n) [
      | inl q ↦ rw (q.2, with_children-again p y x later) refl
      | inr q ↦ rw (q.2, with_children-again p y x kids, with_children-again p y x later) refl
    ]

-- the children that a node was given
pub children-given : (p : ℕ) (x f : Forest) → count p f ≡ 1 → children (find p (with_children p x f)) ≡ x
children-given p x empty h = absurd (omega arith)
children-given p x (node n c kids later) h =
    elim (same_cases p n) [
      | inl q ↦ rw q.2 refl
      | inr q ↦ elim (cases_eq (count p kids) 0) [
        | inl z ↦ rw (q.2, with_children-none p x kids z, find-none p kids z) (children-given p x later (omega arith))
        | inr z ↦ rw (q.2, with_children-none p x later (omega arith), find-none p later (omega arith), or_else-empty (find p (with_children p x kids))) (children-given p x kids (omega arith))
      ]
    ]

-- what stands among the children that a node was given is found there
pub find-given : (k p : ℕ) (x f : Forest) → count p f ≡ 1 → count k f ≡ 0 → find k (with_children p x f) ≡ find k x
find-given k p x empty h z = absurd (omega arith)
find-given k p x (node n c kids later) h z =
    elim (same_cases k n) [
      | inl r ↦ absurd (omega arith)
      | inr r ↦ elim (same_cases p n) [
        | inl q ↦ rw (r.2, q.2, with_children-none p x later (omega arith), find-none k later (omega arith)) (or_else-empty (find k x))
        | inr q ↦ elim (cases_eq (count p kids) 0) [
          | inl e ↦ rw (r.2, q.2, with_children-none p x kids e, find-none k kids (omega arith)) (find-given k p x later (omega arith) (omega arith))
          | inr e ↦ rw (r.2, q.2, with_children-none p x later (omega arith), find-none k later (omega arith), or_else-empty (find k (with_children p x kids))) (find-given k p x kids (omega arith) (omega arith))
        ]
      ]
    ]

-- and gets new children there
pub with_children-given : (k p : ℕ) (y x f : Forest) → count k f ≡ 0 → with_children k y (with_children p x f) ≡ with_children p (with_children k y x) f
with_children-given k p y x empty z = refl
with_children-given k p y x (node n c kids later) z =
    elim (same_cases k n) [
      | inl r ↦ absurd (omega arith)
      | inr r ↦ elim (same_cases p n) [
        | inl q ↦ rw (r.2, q.2, with_children-given k p y x later (omega arith)) refl
        | inr q ↦ rw (r.2, q.2, with_children-given k p y x kids (omega arith), with_children-given k p y x later (omega arith)) refl
      ]
    ]

-- ---- nodes put in between siblings

-- what is found in joined forests
children-or_else : (a f g : Forest) → children f ≡ children g → children (or_else a f) ≡ children (or_else a g)
children-or_else empty f g e = e
children-or_else (node n c kids later) f g e = refl

children-joined : (k : ℕ) (g f : Forest) → count k f ≡ 0 → children (find k (joined g f)) ≡ children (find k g)
children-joined k empty f z = ap children (find-none k f z)
children-joined k (node n c kids later) f z =
    elim (same_cases k n) [
      | inl q ↦ rw q.2 refl
      | inr q ↦ rw q.2 (children-or_else (find k kids) (find k (joined later f)) (find k later) (children-joined k later f z))
    ]

pub children-inserted : (k i : ℕ) (g f : Forest) → count k f ≡ 0 → children (find k (insert_at i g f)) ≡ children (find k g)
children-inserted k i g empty z = refl
children-inserted k zero g (node n c kids later) z = children-joined k g (node n c kids later) z
children-inserted k (suc i) g (node n c kids later) z =
    elim (same_cases k n) [
      | inl q ↦ absurd (omega arith)
      | inr q ↦ rw (q.2, find-none k kids (omega arith)) (children-inserted k i g later (omega arith))
    ]

-- new children of one of them
with_children-joined : (k : ℕ) (y g f : Forest) → count k f ≡ 0 → with_children k y (joined g f) ≡ joined (with_children k y g) f
with_children-joined k y empty f z = with_children-none k y f z
with_children-joined k y (node n c kids later) f z = rw (with_children-joined k y later f z) refl

pub with_children-inserted : (k i : ℕ) (y g f : Forest) → count k f ≡ 0 → with_children k y (insert_at i g f) ≡ insert_at i (with_children k y g) f
with_children-inserted k i y g empty z = refl
with_children-inserted k zero y g (node n c kids later) z = with_children-joined k y g (node n c kids later) z
with_children-inserted k (suc i) y g (node n c kids later) z =
    elim (same_cases k n) [
      | inl q ↦ absurd (omega arith)
      | inr q ↦ rw (q.2, with_children-none k y kids (omega arith), with_children-inserted k i y g later (omega arith)) refl
    ]

-- a place behind the nodes that were put in is one behind them in between the others
pub insert-end : (new g : Forest) → insert_at (length (tops g)) new g ≡ joined g new
insert-end new empty = refl
insert-end new (node n c kids later) = ap (λ rest. node n c kids rest) (insert-end new later)

insert-joined : (new g : Forest) (n : ℕ) (c : Content) (kids later : Forest) → insert_at (length (tops g)) new (joined g (node n c kids later)) ≡ joined (joined g new) (node n c kids later)
insert-joined new empty n c kids later = refl
insert-joined new (node m e inner behind) n c kids later = ap (λ rest. node m e inner rest) (insert-joined new behind n c kids later)

pub insert-behind : (j i : ℕ) (new g f : Forest) → j ≡ i + length (tops g) → i ≤ length (tops f) → insert_at j new (insert_at i g f) ≡ insert_at i (joined g new) f
insert-behind j zero new g empty e le = ap (λ (k : ℕ). insert_at k new g) (let same : j ≡ length (tops g) = omega arith in same) ∙ insert-end new g
insert-behind j (suc i) new g empty e le = absurd (omega arith)
insert-behind j zero new g (node n c kids later) e le =
    ap (λ (k : ℕ). insert_at k new (joined g (node n c kids later))) (let same : j ≡ length (tops g) = omega arith in same) ∙ insert-joined new g n c kids later
insert-behind zero (suc i) new g (node n c kids later) e le = absurd (omega arith)
insert-behind (suc j) (suc i) new g (node n c kids later) e le = ap (λ rest. node n c kids rest) (insert-behind j i new g later (omega arith) (omega arith))
