-- Sums over the nodes of a forest after each change. How often a number stands there and how many nodes there are are such
-- sums.
use Rattle.std.proofs.Common.{◌≡◌, ℕ, zero, suc, ◌+◌, ◌≤◌, refl, inl, inr, arith}
use Rattle.std.proofs.lemmas.Bool.{cases_eq, cases_Bool}
use Rattle.std.specs.Prelude.{Bool, length}
use Rattle.page_tree.specs.Forest.{Content, Forest, empty, node, same, count, size, tops, find, children}
use Rattle.page_tree.specs.Edits.{joined, insert_at, with_children, with_content, without, pruned, subtree, grafted}
use Rattle.page_tree.proofs.Finding.{same_cases, find-none, find-counted}

-- the sum of these weights of numbers over all nodes
abbrev pub total : (ℕ → ℕ) → Forest → ℕ
total w empty = 0
total w (node n c kids later) = w n + (total w kids + total w later)

pub total-count : (k : ℕ) (f : Forest) → total (same k) f ≡ count k f
total-count k empty = refl
total-count k (node n c kids later) = omega (arith, total-count k kids, total-count k later)

pub total-size : (f : Forest) → total (λ _. 1) f ≡ size f
total-size empty = refl
total-size (node n c kids later) = omega (arith, total-size kids, total-size later)

-- ---- numbers that don't stand in a forest

pub with_children-none : (p : ℕ) (g f : Forest) → count p f ≡ 0 → with_children p g f ≡ f
with_children-none p g empty h = refl
with_children-none p g (node n c kids later) h =
    elim (same_cases p n) [
      | inl q ↦ absurd (omega arith)
      | inr q ↦ rw (q.2, with_children-none p g kids (omega arith), with_children-none p g later (omega arith)) refl
    ]

pub with_content-none : (k : ℕ) (new : Content) (f : Forest) → count k f ≡ 0 → with_content k new f ≡ f
with_content-none k new empty h = refl
with_content-none k new (node n c kids later) h =
    elim (same_cases k n) [
      | inl q ↦ absurd (omega arith)
      | inr q ↦ rw (q.2, with_content-none k new kids (omega arith), with_content-none k new later (omega arith)) refl
    ]

pub without-none : (k : ℕ) (f : Forest) → count k f ≡ 0 → without k f ≡ f
without-none k empty h = refl
without-none k (node n c kids later) h =
    elim (same_cases k n) [
      | inl q ↦ absurd (omega arith)
      | inr q ↦ rw (q.2, without-none k kids (omega arith), without-none k later (omega arith)) refl
    ]

module _ (w : ℕ → ℕ) where
  -- ---- nodes put in

  pub total-joined : (f g : Forest) → total w (joined f g) ≡ total w f + total w g
  total-joined empty g = omega arith
  total-joined (node n c kids later) g = omega (arith, total-joined later g)

  pub total-insert : (i : ℕ) (new f : Forest) → total w (insert_at i new f) ≡ total w new + total w f
  total-insert i new empty = omega arith
  total-insert zero new (node n c kids later) = total-joined new (node n c kids later)
  total-insert (suc i) new (node n c kids later) = omega (arith, total-insert i new later)

  -- ---- a node with other children, or with another content

  pub total-with_children : (p : ℕ) (g f : Forest) → count p f ≡ 1 → total w (with_children p g f) + total w (children (find p f)) ≡ total w f + total w g
  total-with_children p g empty h = absurd (omega arith)
  total-with_children p g (node n c kids later) h =
      elim (same_cases p n) [
        | inl q ↦ rw (q.2, with_children-none p g later (omega arith)) (omega arith)
        | inr q ↦ elim (cases_eq (count p kids) 0) [
          | inl z ↦ rw (q.2, find-none p kids z, with_children-none p g kids z) (omega (arith, total-with_children p g later (omega arith)))
          | inr z ↦
              rw (q.2, find-counted p kids (find p later) (omega arith), with_children-none p g later (omega arith))
              (omega (arith, total-with_children p g kids (omega arith)))
        ]
      ]

  pub total-grafted : (p place : ℕ) (new f : Forest) → count p f ≡ 1 → total w (grafted p place new f) ≡ total w f + total w new
  total-grafted p place new f h =
      omega (arith, total-with_children p (insert_at place new (children (find p f))) f h, total-insert place new (children (find p f)))

  pub total-with_content : (k : ℕ) (new : Content) (f : Forest) → total w (with_content k new f) ≡ total w f
  total-with_content k new empty = refl
  total-with_content k new (node n c kids later) = rw (total-with_content k new kids, total-with_content k new later) refl

  -- ---- nodes taken out

  pub total-without : (k : ℕ) (f : Forest) → count k f ≤ 1 → total w (without k f) + total w (subtree k f) ≡ total w f
  total-without k empty h = omega arith
  total-without k (node n c kids later) h =
      elim (same_cases k n) [
        | inl q ↦ rw q.2 (omega arith)
        | inr q ↦ elim (cases_eq (count k kids) 0) [
          | inl z ↦ rw (q.2, find-none k kids z, without-none k kids z) (omega (arith, total-without k later (omega arith)))
          | inr z ↦
              rw (q.2, find-counted k kids (find k later) (omega arith), without-none k later (omega arith))
              (omega (arith, total-without k kids (omega arith)))
        ]
      ]

  pub total-pruned : (gone : ℕ → Bool) (f : Forest) → total w (pruned gone f) ≤ total w f
  total-pruned gone empty = omega arith
  total-pruned gone (node n c kids later) =
      elim (cases_Bool (gone n)) [
        | inl q ↦ rw q (omega (arith, total-pruned gone later))
        | inr q ↦ rw q (omega (arith, total-pruned gone kids, total-pruned gone later))
      ]

-- ---- counts

module _ (j : ℕ) where
  pub count-joined : (f g : Forest) → count j (joined f g) ≡ count j f + count j g
  count-joined f g = omega (arith, total-joined (same j) f g, total-count j f, total-count j g, total-count j (joined f g))

  pub count-insert : (i : ℕ) (new f : Forest) → count j (insert_at i new f) ≡ count j new + count j f
  count-insert i new f = omega (arith, total-insert (same j) i new f, total-count j f, total-count j new, total-count j (insert_at i new f))

  pub count-with_children : (p : ℕ) (g f : Forest) → count p f ≡ 1 → count j (with_children p g f) + count j (children (find p f)) ≡ count j f + count j g
  count-with_children p g f h =
      omega (arith, total-with_children (same j) p g f h, total-count j (with_children p g f), total-count j (children (find p f)), total-count j f, total-count j g)

  pub count-grafted : (p place : ℕ) (new f : Forest) → count p f ≡ 1 → count j (grafted p place new f) ≡ count j f + count j new
  count-grafted p place new f h =
      omega (arith, total-grafted (same j) p place new f h, total-count j (grafted p place new f), total-count j f, total-count j new)

  pub count-with_content : (k : ℕ) (new : Content) (f : Forest) → count j (with_content k new f) ≡ count j f
  count-with_content k new f = omega (arith, total-with_content (same j) k new f, total-count j f, total-count j (with_content k new f))

  pub count-without : (k : ℕ) (f : Forest) → count k f ≤ 1 → count j (without k f) + count j (subtree k f) ≡ count j f
  count-without k f h = omega (arith, total-without (same j) k f h, total-count j (without k f), total-count j (subtree k f), total-count j f)

  pub count-pruned : (gone : ℕ → Bool) (f : Forest) → count j (pruned gone f) ≤ count j f
  count-pruned gone f = omega (arith, total-pruned (same j) gone f, total-count j (pruned gone f), total-count j f)

-- ---- sizes

pub size-joined : (f g : Forest) → size (joined f g) ≡ size f + size g
size-joined f g = omega (arith, total-joined (λ _. 1) f g, total-size f, total-size g, total-size (joined f g))

pub size-insert : (i : ℕ) (new f : Forest) → size (insert_at i new f) ≡ size new + size f
size-insert i new f = omega (arith, total-insert (λ _. 1) i new f, total-size f, total-size new, total-size (insert_at i new f))

pub size-with_children : (p : ℕ) (g f : Forest) → count p f ≡ 1 → size (with_children p g f) + size (children (find p f)) ≡ size f + size g
size-with_children p g f h =
    omega (arith, total-with_children (λ _. 1) p g f h, total-size (with_children p g f), total-size (children (find p f)), total-size f, total-size g)

pub size-grafted : (p place : ℕ) (new f : Forest) → count p f ≡ 1 → size (grafted p place new f) ≡ size f + size new
size-grafted p place new f h =
    omega (arith, total-grafted (λ _. 1) p place new f h, total-size (grafted p place new f), total-size f, total-size new)

pub size-with_content : (k : ℕ) (new : Content) (f : Forest) → size (with_content k new f) ≡ size f
size-with_content k new f = omega (arith, total-with_content (λ _. 1) k new f, total-size f, total-size (with_content k new f))

pub size-without : (k : ℕ) (f : Forest) → count k f ≤ 1 → size (without k f) + size (subtree k f) ≡ size f
size-without k f h = omega (arith, total-without (λ _. 1) k f h, total-size (without k f), total-size (subtree k f), total-size f)

pub size-pruned : (gone : ℕ → Bool) (f : Forest) → size (pruned gone f) ≤ size f
size-pruned gone f = omega (arith, total-pruned (λ _. 1) gone f, total-size (pruned gone f), total-size f)

-- ---- how many stand at the top

pub tops-joined : (f g : Forest) → length (tops (joined f g)) ≡ length (tops f) + length (tops g)
tops-joined empty g = omega arith
tops-joined (node n c kids later) g = omega (arith, tops-joined later g)

pub tops-insert : (i : ℕ) (new f : Forest) → length (tops (insert_at i new f)) ≡ length (tops new) + length (tops f)
tops-insert i new empty = omega arith
tops-insert zero new (node n c kids later) = tops-joined new (node n c kids later)
tops-insert (suc i) new (node n c kids later) = omega (arith, tops-insert i new later)
