-- What is found under each number after a change, and its parent.
use Rattle.std.proofs.Common.{◌≡◌, ℕ, zero, suc, ◌<◌, ◌≤◌, refl, sym, ◌∙◌, ap, inl, inr, arith}
use Rattle.std.proofs.lemmas.Bool.{cases_eq}
use Rattle.page_tree.specs.Forest.{Content, Forest, empty, node, count, find, or_else, children, parent_in, numbers}
use Rattle.page_tree.specs.Edits.{joined, insert_at, with_children, with_content, without, subtree, grafted}
use Rattle.page_tree.proofs.Finding.{same_cases, find-none, find-counted, count-find, count-parts}
use Rattle.page_tree.proofs.Totals.{with_children-none, without-none, count-without}
use Rattle.page_tree.proofs.Depths.{or_none}
use Rattle.page_tree.proofs.Around.{parent_in-none}
use Rattle.page_tree.proofs.Regrafts.{find-given, children-inserted}

-- ---- a node with another content: only contents change

module _ (k : ℕ) (new : Content) where
  pub find-with_content : (j : ℕ) (f : Forest) → find j (with_content k new f) ≡ with_content k new (find j f)
  find-with_content j empty = refl
  find-with_content j (node n c kids later) =
      elim (same_cases j n) [
        | inl q ↦ rw q.2 refl
        | inr q ↦ rw (q.2, find-with_content j kids, find-with_content j later) (either (find j kids) (find j later))
      ]
    where
      either : (a b : Forest) → or_else (with_content k new a) (with_content k new b) ≡ with_content k new (or_else a b)
      either empty b = refl
      either (node m d ks ls) b = refl

  pub numbers-with_content : (f : Forest) → numbers (with_content k new f) ≡ numbers f
  numbers-with_content empty = refl
  numbers-with_content (node n c kids later) = rw (numbers-with_content kids, numbers-with_content later) refl

  pub parent_in-with_content : (j up : ℕ) (f : Forest) → parent_in j up (with_content k new f) ≡ parent_in j up f
  parent_in-with_content j up empty = refl
  parent_in-with_content j up (node n c kids later) = rw (parent_in-with_content j n kids, parent_in-with_content j up later) refl

-- ---- a node with other children

module _ (p : ℕ) (g : Forest) where
  -- a node that stands neither among them nor among those before
  pub find-with_children : (j : ℕ) (f : Forest) → count p f ≤ 1 → count j g ≡ 0 → count j (children (find p f)) ≡ 0 → find j (with_children p g f) ≡ with_children p g (find j f)
  find-with_children j empty le new old = refl
  find-with_children j (node n c kids later) le new old =
      elim (same_cases j n) [
        | inl r ↦ rw r.2 refl
        | inr r ↦ elim (same_cases p n) [
          | inl q ↦
              let out : count j kids ≡ 0 = rw q.2 at old in
              rw (r.2, q.2, find-none j g new, find-none j kids out, with_children-none p g later (omega arith))
              (sym (with_children-none p g (find j later) (omega (arith, count-find p j later))))
          | inr q ↦ elim (cases_eq (count p kids) 0) [
            | inl z ↦
                let out : count j (children (find p later)) ≡ 0 = rw (q.2, find-none p kids z) at old in
                rw (r.2, q.2, with_children-none p g kids z, find-with_children j later (omega arith) new out)
                (in_later (find j kids) (find j later) (omega (arith, count-find p j kids)))
            | inr z ↦
                let out : count j (children (find p kids)) ≡ 0 = rw (q.2, find-counted p kids (find p later) (omega arith)) at old in
                rw (r.2, q.2, with_children-none p g later (omega arith), find-with_children j kids (omega arith) new out)
                (in_kids (find j kids) (find j later) (omega (arith, count-find p j later)))
          ]
        ]
      ]
    where
      in_later : (a b : Forest) → count p a ≡ 0 → or_else a (with_children p g b) ≡ with_children p g (or_else a b)
      in_later empty b z = refl
      in_later (node m d ks ls) b z = sym (with_children-none p g (node m d ks ls) z)

      in_kids : (a b : Forest) → count p b ≡ 0 → or_else (with_children p g a) b ≡ with_children p g (or_else a b)
      in_kids empty b z = sym (with_children-none p g b z)
      in_kids (node m d ks ls) b z = refl

  pub parent_in-with_children : (j up : ℕ) (f : Forest) → count p f ≤ 1 → count j g ≡ 0 → count j (children (find p f)) ≡ 0 → parent_in j up (with_children p g f) ≡ parent_in j up f
  parent_in-with_children j up empty le new old = refl
  parent_in-with_children j up (node n c kids later) le new old =
      elim (same_cases p n) [
        | inl q ↦
            let out : count j kids ≡ 0 = rw q.2 at old in
            rw (q.2, with_children-none p g later (omega arith), parent_in-none j n g new, parent_in-none j n kids out) refl
        | inr q ↦ elim (cases_eq (count p kids) 0) [
          | inl z ↦
              let out : count j (children (find p later)) ≡ 0 = rw (q.2, find-none p kids z) at old in
              rw (q.2, with_children-none p g kids z, parent_in-with_children j up later (omega arith) new out) refl
          | inr z ↦
              let out : count j (children (find p kids)) ≡ 0 = rw (q.2, find-counted p kids (find p later) (omega arith)) at old in
              rw (q.2, with_children-none p g later (omega arith), parent_in-with_children j n kids (omega arith) new out) refl
        ]
      ]

  -- a node that stands among them alone
  pub parent_in-given : (j up : ℕ) (f : Forest) → count p f ≡ 1 → count j f ≡ 0 → parent_in j up (with_children p g f) ≡ parent_in j p g
  parent_in-given j up empty one none = absurd (omega arith)
  parent_in-given j up (node n c kids later) one none =
      elim (same_cases j n) [
        | inl r ↦ absurd (omega arith)
        | inr r ↦ elim (same_cases p n) [
          | inl q ↦
              rw (r.2, q.2, with_children-none p g later (omega arith), parent_in-none j up later (omega arith))
              (or_none (parent_in j n g) ∙ ap (λ (i : ℕ). parent_in j i g) (sym q.0))
          | inr q ↦ elim (cases_eq (count p kids) 0) [
            | inl z ↦ rw (r.2, q.2, with_children-none p g kids z, parent_in-none j n kids (omega arith)) (parent_in-given j up later (omega arith) (omega arith))
            | inr z ↦
                rw (r.2, q.2, with_children-none p g later (omega arith), parent_in-none j up later (omega arith))
                (or_none (parent_in j n (with_children p g kids)) ∙ parent_in-given j n kids (omega arith) (omega arith))
          ]
        ]
      ]

-- ---- nodes put in

parent_in-joined : (j up : ℕ) (new f : Forest) → count j f ≡ 0 → parent_in j up (joined new f) ≡ parent_in j up new
parent_in-joined j up empty f z = parent_in-none j up f z
parent_in-joined j up (node n c kids later) f z = rw (parent_in-joined j up later f z) refl

parent_in-insert : (j up i : ℕ) (new f : Forest) → count j f ≡ 0 → parent_in j up (insert_at i new f) ≡ parent_in j up new
parent_in-insert j up i new empty z = refl
parent_in-insert j up zero new (node n c kids later) z = parent_in-joined j up new (node n c kids later) z
parent_in-insert j up (suc i) new (node n c kids later) z =
    elim (same_cases j n) [
      | inl q ↦ absurd (omega arith)
      | inr q ↦ rw (q.2, parent_in-none j n kids (omega arith)) (parent_in-insert j up i new later (omega arith))
    ]

-- each keeps what is below it, and those at the top are children of p
module _ (p place : ℕ) (new f : Forest) (one : count p f ≡ 1) (j : ℕ) (old : count j f ≡ 0) where
  no_child : count j (children (find p f)) ≡ 0
  no_child = omega (arith, count-parts j (find p f), count-find j p f)

  pub children-grafted : children (find j (grafted p place new f)) ≡ children (find j new)
  children-grafted =
      ap children (find-given j p (insert_at place new (children (find p f))) f one old) ∙ children-inserted j place new (children (find p f)) no_child

  pub parent_in-grafted : (up : ℕ) → parent_in j up (grafted p place new f) ≡ parent_in j p new
  parent_in-grafted up =
      parent_in-given p (insert_at place new (children (find p f))) j up f one old ∙ parent_in-insert j p place new (children (find p f)) no_child

-- ---- nodes taken out

-- the parent of a node outside the part
pub parent_in-without : (j k up : ℕ) (f : Forest) → count k f ≤ 1 → count j (subtree k f) ≡ 0 → parent_in j up (without k f) ≡ parent_in j up f
parent_in-without j k up empty h out = refl
parent_in-without j k up (node n c kids later) h out =
    elim (same_cases k n) [
      | inl q ↦
          let o : count j (node n c kids empty) ≡ 0 = rw q.2 at out in
          elim (same_cases j n) [
            | inl r ↦ absurd (omega arith)
            | inr r ↦ rw (q.2, r.2, parent_in-none j n kids (omega arith)) refl
          ]
      | inr q ↦ elim (cases_eq (count k kids) 0) [
        | inl z ↦
            let o : count j (subtree k later) ≡ 0 = rw (q.2, find-none k kids z) at out in
            rw (q.2, without-none k kids z, parent_in-without j k up later (omega arith) o) refl
        | inr z ↦
            let o : count j (subtree k kids) ≡ 0 = rw (q.2, find-counted k kids (find k later) (omega arith)) at out in
            rw (q.2, without-none k later (omega arith), parent_in-without j k n kids (omega arith) o) refl
      ]
    ]

-- nothing of the part is found any more
pub gone-without : (j k : ℕ) (f : Forest) → ((x : ℕ) → count x f ≤ 1) → 0 < count j (subtree k f) → find j (without k f) ≡ empty
gone-without j k f once h = find-none j (without k f) (omega (arith, count-without j k f (once k), once j))
