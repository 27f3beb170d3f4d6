-- How high a forest is after each change, and how deep its nodes stand.
use Rattle.std.proofs.Common.{◌≡◌, ℕ, zero, suc, ◌+◌, ◌<◌, ◌≤◌, max, Some, None, Option, refl, sym, ap, ◌∙◌, inl, inr, arith}
use Rattle.std.proofs.lemmas.Bool.{cases_eq, cases_Bool}
use Rattle.std.specs.Prelude.{Bool}
use Rattle.page_tree.specs.Forest.{Content, Forest, empty, node, count, find, children, or_some, depth_in, height}
use Rattle.page_tree.specs.Edits.{joined, insert_at, with_children, with_content, without, pruned, subtree, grafted}
use Rattle.page_tree.proofs.Finding.{same_cases, find-none, find-counted}
use Rattle.page_tree.proofs.Totals.{with_children-none, without-none}

-- no second choice
pub or_none : (o : Option ℕ) → or_some o None ≡ o
or_none None = refl
or_none (Some x) = refl

-- what is no node has no depth, and each node has one
pub depth_in-none : (k d : ℕ) (f : Forest) → count k f ≡ 0 → depth_in k d f ≡ None
depth_in-none k d empty h = refl
depth_in-none k d (node n c kids later) h =
    elim (same_cases k n) [
      | inl p ↦ absurd (omega arith)
      | inr p ↦ rw (p.2, depth_in-none k (suc d) kids (omega arith)) (depth_in-none k d later (omega arith))
    ]

pub depth_in-some : (k d : ℕ) (f : Forest) → 0 < count k f → (e : ℕ) × (depth_in k d f ≡ Some e)
depth_in-some k d empty h = absurd (omega arith)
depth_in-some k d (node n c kids later) h =
    elim (same_cases k n) [
      | inl p ↦ (d, rw p.2 refl)
      | inr p ↦ elim (cases_eq (count k kids) 0) [
        | inl z ↦
            let r = depth_in-some k d later (omega arith) in
            let here : depth_in k d (node n c kids later) ≡ depth_in k d later = rw (p.2, depth_in-none k (suc d) kids z) refl in
            (r.0, here ∙ r.1)
        | inr z ↦
            let r = depth_in-some k (suc d) kids (omega arith) in
            let here : depth_in k d (node n c kids later) ≡ or_some (depth_in k (suc d) kids) (depth_in k d later) = rw p.2 refl in
            (r.0, here ∙ ap (λ (o : Option ℕ). or_some o (depth_in k d later)) r.1)
      ]
    ]

-- no node is deeper than the forest is high
pub depth_in-height : (k d e : ℕ) (f : Forest) → depth_in k d f ≡ Some e → e < d + height f
depth_in-height k d e empty h = cc
depth_in-height k d e (node n c kids later) h =
    elim (same_cases k n) [
      | inl q ↦ let x : Some d ≡ Some e = rw q.2 at h in let y : d ≡ e = cc (x) in omega arith
      | inr q ↦ by_part (λ m. depth_in-height k (suc d) m kids) (depth_in-height k d e later) (depth_in k (suc d) kids) refl (rw q.2 at h)
    ]
  where
    by_part : ((m : ℕ) → depth_in k (suc d) kids ≡ Some m → m < suc d + height kids) → (depth_in k d later ≡ Some e → e < d + height later)
        → (o : Option ℕ) → depth_in k (suc d) kids ≡ o → or_some o (depth_in k d later) ≡ Some e → e < d + max (suc (height kids)) (height later)
    by_part below behind None x y = omega (arith, behind y)
    by_part below behind (Some m) x y = let z : m ≡ e = cc (y) in omega (arith, below m x)

-- ---- nodes put in

pub height-joined : (f g : Forest) → height (joined f g) ≤ max (height f) (height g)
height-joined empty g = omega arith
height-joined (node n c kids later) g = omega (arith, height-joined later g)

pub height-insert : (i : ℕ) (new f : Forest) → height (insert_at i new f) ≤ max (height new) (height f)
height-insert i new empty = omega arith
height-insert zero new (node n c kids later) = height-joined new (node n c kids later)
height-insert (suc i) new (node n c kids later) = omega (arith, height-insert i new later)

-- the children of a node at depth e, and what the forest is with others in their place
pub heights : (p : ℕ) (g f : Forest) (d e l : ℕ) → count p f ≡ 1 → depth_in p d f ≡ Some e → d + height f ≤ l
    → (suc e + height (children (find p f)) ≤ l) × (suc e + height g ≤ l → d + height (with_children p g f) ≤ l)
heights p g empty d e l h de le = absurd (omega arith)
heights p g (node n c kids later) d e l h de le =
    elim (same_cases p n) [
      | inl q ↦
          let x : Some d ≡ Some e = rw q.2 at de in
          let y : d ≡ e = cc (x) in
          rw (q.2, with_children-none p g later (omega arith)) (omega arith, λ u. omega arith)
      | inr q ↦ elim (cases_eq (count p kids) 0) [
        | inl z ↦
            let x : depth_in p d later ≡ Some e = rw (q.2, depth_in-none p (suc d) kids z) at de in
            let ih = heights p g later d e l (omega arith) x (omega arith) in
            rw (q.2, find-none p kids z, with_children-none p g kids z) (ih.0, λ u. omega (arith, ih.1 u))
        | inr z ↦
            let x : depth_in p (suc d) kids ≡ Some e = sym (or_none (depth_in p (suc d) kids)) ∙ (rw (q.2, depth_in-none p d later (omega arith)) at de) in
            let ih = heights p g kids (suc d) e l (omega arith) x (omega arith) in
            rw (q.2, find-counted p kids (find p later) (omega arith), with_children-none p g later (omega arith))
            (ih.0, λ u. omega (arith, ih.1 u))
      ]
    ]

-- new nodes below one at depth e
pub height-grafted : (p place : ℕ) (new f : Forest) (d e l : ℕ) → count p f ≡ 1 → depth_in p d f ≡ Some e → d + height f ≤ l → suc e + height new ≤ l
    → d + height (grafted p place new f) ≤ l
height-grafted p place new f d e l h de le fits =
    let r = heights p (insert_at place new (children (find p f))) f d e l h de le in
    r.1 (omega (arith, r.0, height-insert place new (children (find p f))))

-- ---- a node with another content, and nodes taken out

pub height-with_content : (k : ℕ) (new : Content) (f : Forest) → height (with_content k new f) ≡ height f
height-with_content k new empty = refl
height-with_content k new (node n c kids later) = rw (height-with_content k new kids, height-with_content k new later) refl

pub height-pruned : (gone : ℕ → Bool) (f : Forest) → height (pruned gone f) ≤ height f
height-pruned gone empty = omega arith
height-pruned gone (node n c kids later) =
    elim (cases_Bool (gone n)) [
      | inl q ↦ rw q (omega (arith, height-pruned gone later))
      | inr q ↦ rw q (omega (arith, height-pruned gone kids, height-pruned gone later))
    ]

pub height-without : (k : ℕ) (f : Forest) → height (without k f) ≤ height f
height-without k empty = omega arith
height-without k (node n c kids later) =
    elim (same_cases k n) [
      | inl q ↦ rw q.2 (omega arith)
      | inr q ↦ rw q.2 (omega (arith, height-without k kids, height-without k later))
    ]

-- ---- depths that stay

-- of a node that gets other children
pub depth_in-given : (p d : ℕ) (x f : Forest) → count p f ≡ 1 → depth_in p d (with_children p x f) ≡ depth_in p d f
depth_in-given p d x empty h = refl
depth_in-given p d x (node n c kids later) h =
    elim (same_cases p n) [
      | inl q ↦ rw q.2 refl
      | inr q ↦ elim (cases_eq (count p kids) 0) [
        | inl z ↦ rw (q.2, with_children-none p x kids z, depth_in-none p (suc d) kids z) (depth_in-given p d x later (omega arith))
        | inr z ↦ rw (q.2, with_children-none p x later (omega arith), depth_in-given p (suc d) x kids (omega arith)) refl
      ]
    ]

-- of a node outside a part that is taken out
pub depth_in-without : (j k d : ℕ) (f : Forest) → count k f ≤ 1 → count j (subtree k f) ≡ 0 → depth_in j d (without k f) ≡ depth_in j d f
depth_in-without j k d empty h out = refl
depth_in-without j k d (node n c kids later) h out =
    elim (same_cases k n) [
      | inl q ↦
          let o : count j (node n c kids empty) ≡ 0 = rw q.2 at out in
          elim (same_cases j n) [
            | inl r ↦ absurd (omega arith)
            | inr r ↦ rw (q.2, r.2, depth_in-none j (suc d) kids (omega arith)) refl
          ]
      | inr q ↦ elim (cases_eq (count k kids) 0) [
        | inl z ↦
            let o : count j (subtree k later) ≡ 0 = rw (q.2, find-none k kids z) at out in
            rw (q.2, without-none k kids z, depth_in-without j k d later (omega arith) o) refl
        | inr z ↦
            let o : count j (subtree k kids) ≡ 0 = rw (q.2, find-counted k kids (find k later) (omega arith)) at out in
            rw (q.2, without-none k later (omega arith), depth_in-without j k (suc d) kids (omega arith) o) refl
      ]
    ]
