-- Forests without some nodes: taking out, putting in and moving are the same notion.
use Rattle.std.proofs.Common.{◌≡◌, ℕ, zero, suc, ◌+◌, ◌<◌, ◌≤◌, ◌==◌, true, false, refl, sym, ◌∙◌, ap, inl, inr, arith}
use Rattle.std.proofs.lemmas.Bool.{cases_eq, cases_Bool, eq-eqb, ne_eqb}
use Rattle.std.specs.Prelude.{Bool, not}
use Rattle.page_tree.specs.Forest.{document, Forest, empty, node, Tree, rooted, same, count, find, children}
use Rattle.page_tree.specs.Edits.{joined, insert_at, with_children, without, pruned, alone, subtree, grafted, moved}
use Rattle.page_tree.proofs.Finding.{same_cases, same-same, find-none, find-counted, count-find}
use Rattle.page_tree.proofs.Totals.{with_children-none, count-without}

module _ (gone : ℕ → Bool) where
  -- where no node is named all stays, and where all are named nothing
  pub pruned-kept : (f : Forest) → ((x : ℕ) → 0 < count x f → gone x ≡ false) → pruned gone f ≡ f
  pruned-kept empty h = refl
  pruned-kept (node n c kids later) h =
      rw (h n (omega (arith, same-same n)), pruned-kept kids (λ x i. h x (omega arith)), pruned-kept later (λ x i. h x (omega arith))) refl

  pub pruned-all : (f : Forest) → ((x : ℕ) → 0 < count x f → gone x ≡ true) → pruned gone f ≡ empty
  pruned-all empty h = refl
  pruned-all (node n c kids later) h = rw (h n (omega (arith, same-same n))) (pruned-all later (λ x i. h x (omega arith)))

  -- nodes put in that are all named
  pub pruned-joined : (f g : Forest) → pruned gone (joined f g) ≡ joined (pruned gone f) (pruned gone g)
  pruned-joined empty g = refl
  pruned-joined (node n c kids later) g =
      elim (cases_Bool (gone n)) [
        | inl q ↦ rw q (pruned-joined later g)
        | inr q ↦ rw (q, pruned-joined later g) refl
      ]

  pub pruned-insert : (i : ℕ) (new f : Forest) → ((x : ℕ) → 0 < count x new → gone x ≡ true) → pruned gone (insert_at i new f) ≡ pruned gone f
  pruned-insert i new empty h = pruned-all new h
  pruned-insert zero new (node n c kids later) h =
      pruned-joined new (node n c kids later) ∙ ap (λ (g : Forest). joined g (pruned gone (node n c kids later))) (pruned-all new h)
  pruned-insert (suc i) new (node n c kids later) h =
      elim (cases_Bool (gone n)) [
        | inl q ↦ rw q (pruned-insert i new later h)
        | inr q ↦ rw (q, pruned-insert i new later h) refl
      ]

  -- other children that are the same without those that are named
  pub pruned-with_children : (p : ℕ) (g f : Forest) → count p f ≤ 1 → pruned gone g ≡ pruned gone (children (find p f)) → pruned gone (with_children p g f) ≡ pruned gone f
  pruned-with_children p g empty le e = refl
  pruned-with_children p g (node n c kids later) le e =
      elim (same_cases p n) [
        | inl q ↦
            let same_kids : pruned gone g ≡ pruned gone kids = rw q.2 at e in
            rw (q.2, with_children-none p g later (omega arith), same_kids) refl
        | inr q ↦ elim (cases_eq (count p kids) 0) [
          | inl z ↦
              let same_kids : pruned gone g ≡ pruned gone (children (find p later)) = rw (q.2, find-none p kids z) at e in
              rw (q.2, with_children-none p g kids z, pruned-with_children p g later (omega arith) same_kids) refl
          | inr z ↦
              let same_kids : pruned gone g ≡ pruned gone (children (find p kids)) = rw (q.2, find-counted p kids (find p later) (omega arith)) at e in
              rw (q.2, with_children-none p g later (omega arith), pruned-with_children p g kids (omega arith) same_kids) refl
        ]
      ]

  pub pruned-grafted : (p place : ℕ) (new f : Forest) → count p f ≤ 1 → ((x : ℕ) → 0 < count x new → gone x ≡ true) → pruned gone (grafted p place new f) ≡ pruned gone f
  pruned-grafted p place new f le h =
      pruned-with_children p (insert_at place new (children (find p f))) f le (pruned-insert place new (children (find p f)) h)

  -- the same below the document, which is not named
  pub pruned-placed : (p place : ℕ) (new nodes : Forest) → count p (rooted nodes) ≤ 1 → gone 0 ≡ false → ((x : ℕ) → 0 < count x new → gone x ≡ true)
      → pruned gone (children (grafted p place new (rooted nodes))) ≡ pruned gone nodes
  pruned-placed p place new nodes le z h =
      let whole = pruned-grafted p place new (rooted nodes) le h in
      let named : pruned gone (node 0 document (children (grafted p place new (rooted nodes))) empty) ≡ pruned gone (node 0 document nodes empty) = whole in
      ap children (rw z at named)

  -- a node that is named, where what stays without it isn't
  pub pruned-without : (k : ℕ) (f : Forest) → gone k ≡ true → ((x : ℕ) → 0 < count x (without k f) → gone x ≡ false) → pruned gone f ≡ without k f
  pruned-without k empty here out = refl
  pruned-without k (node n c kids later) here out =
      elim (same_cases k n) [
        | inl q ↦
            let named : gone n ≡ true = ap gone (sym q.0) ∙ here in
            let rest : (x : ℕ) → 0 < count x later → gone x ≡ false = λ x i. out x (rw q.2 i) in
            rw (named, q.2) (pruned-kept later rest)
        | inr q ↦
            let rest : (x : ℕ) → 0 < same x n + (count x (without k kids) + count x (without k later)) → gone x ≡ false = λ x i. out x (rw q.2 i) in
            rw (
              rest n (omega (arith, same-same n)),
              q.2,
              pruned-without k kids here (λ x i. rest x (omega arith)),
              pruned-without k later here (λ x i. rest x (omega arith)),
            ) refl
      ]

-- ---- a node and what is below it

-- a number stands in the part of n
abbrev pub is_part : ℕ → Forest → ℕ → Bool
is_part n f x = not (count x (subtree n f) == 0)

pub part-in : (n : ℕ) (f : Forest) (x : ℕ) → 0 < count x (subtree n f) → is_part n f x ≡ true
part-in n f x h = rw (ne_eqb (count x (subtree n f)) 0 (λ e. omega arith)) refl

pub part-out : (n : ℕ) (f : Forest) (x : ℕ) → count x (subtree n f) ≡ 0 → is_part n f x ≡ false
part-out n f x h = rw (eq-eqb (count x (subtree n f)) 0 h) refl

-- what is found stands in its own part
pub count-subtree : (k : ℕ) (f : Forest) → 0 < count k f → 0 < count k (subtree k f)
count-subtree k empty h = absurd (omega arith)
count-subtree k (node n c kids later) h =
    elim (same_cases k n) [
      | inl q ↦ rw q.2 (omega arith)
      | inr q ↦ elim (cases_eq (count k kids) 0) [
        | inl z ↦ rw (q.2, find-none k kids z) (count-subtree k later (omega arith))
        | inr z ↦ rw (q.2, find-counted k kids (find k later) (omega arith)) (count-subtree k kids (omega arith))
      ]
    ]

pub count-subtree-le : (j k : ℕ) (f : Forest) → count j (subtree k f) ≤ count j f
count-subtree-le j k f = first_le (find k f) (count-find j k f)
  where
    first_le : (g : Forest) → count j g ≤ count j f → count j (alone g) ≤ count j f
    first_le empty le = omega arith
    first_le (node n c kids later) le = omega arith

-- taking a node out leaves what is not in its part
module _ (f : Forest) (once : (x : ℕ) → count x f ≤ 1) (n : ℕ) (there : 0 < count n f) where
  out_of_part : (x : ℕ) → 0 < count x (without n f) → is_part n f x ≡ false
  out_of_part x h = part-out n f x (omega (arith, count-without x n f (once n), once x))

  pub without-part : pruned (is_part n f) f ≡ without n f
  without-part = pruned-without (is_part n f) n f (part-in n f n (count-subtree n f there)) out_of_part

  pub without-one : pruned (λ x. x == n) f ≡ without n f
  without-one =
      pruned-without (λ x. x == n) n f (eq-eqb n n refl)
      (λ x h. ne_eqb x n (λ e. omega (arith, ap (λ (i : ℕ). count i (without n f)) e, count-without n n f (once n), once n, count-subtree n f there)))

-- putting nodes in whose numbers are new: without them the tree is as before
pub grafted-part : (gone : ℕ → Bool) (p place : ℕ) (new nodes : Forest) → count p (rooted nodes) ≤ 1
    → ((x : ℕ) → 0 < count x new → gone x ≡ true) → ((x : ℕ) → 0 < count x (rooted nodes) → gone x ≡ false)
    → pruned gone (children (grafted p place new (rooted nodes))) ≡ nodes
grafted-part gone p place new nodes le into old =
    pruned-placed gone p place new nodes le (old 0 (omega (arith, same-same 0))) into
    ∙ pruned-kept gone nodes (λ x h. old x (omega arith))

-- moving a node: without its part the trees before and after are the same
pub moved-part : (n p place : ℕ) (t : Tree) → ((x : ℕ) → count x (rooted t.nodes) ≤ 1) → 0 < count n t.nodes
    → pruned (is_part n t.nodes) (moved n p place t).nodes ≡ pruned (is_part n t.nodes) t.nodes
moved-part n p place t once there =
    pruned-placed (is_part n t.nodes) p place (subtree n t.nodes) (without n t.nodes)
    (omega (arith, once p, count-without p n t.nodes (below n)))
    (part-out n t.nodes 0 (omega (arith, once 0, same-same 0, count-subtree-le 0 n t.nodes)))
    (λ x h. part-in n t.nodes x h)
    ∙ pruned-kept (is_part n t.nodes) (without n t.nodes) (out_of_part t.nodes below n there)
    ∙ sym (without-part t.nodes below n there)
  where
    below : (x : ℕ) → count x t.nodes ≤ 1
    below x = omega (arith, once x)
