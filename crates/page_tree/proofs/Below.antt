-- The nodes below a node in document order, each from the one before it.
use Rattle.std.proofs.Common.{◌≡◌, ℕ, suc, ◌<◌, ◌≤◌, cond, eqb, List, [], ◌∷◌, ◌++◌, Option, Some, None, refl, sym, ◌∙◌, ap, inl, inr, ◌⊎◌, arith, append_assoc}
use Rattle.std.proofs.lemmas.Bool.{cases_eq, eq-eqb, ne_eqb}
use Rattle.std.proofs.lemmas.List.{append-nil}
use Rattle.page_tree.specs.Forest.{Content, document, Forest, empty, node, count, numbers, first, find, children, later_of, or_some, first_in, behind, parent_in, depth_in}
use Rattle.page_tree.proofs.Finding.{same_cases, same-eq, find-none, find-counted, find-first, find-below, find-behind, found, count-find}
use Rattle.page_tree.proofs.Depths.{depth_in-none}
use Rattle.page_tree.proofs.Around.{counted_first, where_is, parent_in-below, parent_in-behind}
use Rattle.page_tree.proofs.Parts.{inside}

-- the number behind a node and all below it in document order, where `rest` follows the forest
abbrev pub beyond : ℕ → Forest → Option ℕ → Option ℕ
beyond k empty rest = None
beyond k (node n c kids later) rest =
    cond (eqb k n) (or_some (first later) rest)
    (cond (eqb (count k kids) 0) (beyond k later rest) (beyond k kids (or_some (first later) rest)))

-- beyond the first node
pub beyond-same : (k n : ℕ) (c : Content) (kids later : Forest) (rest : Option ℕ) → k ≡ n → beyond k (node n c kids later) rest ≡ or_some (first later) rest
beyond-same k n c kids later rest e = rw (eq-eqb k n e) refl

-- beyond a node below the first one
pub beyond-kids : (k n : ℕ) (c : Content) (kids later : Forest) (rest : Option ℕ) → (k ≡ n → ⊥) → 0 < count k kids → beyond k (node n c kids later) rest ≡ beyond k kids (or_some (first later) rest)
beyond-kids k n c kids later rest ne h = rw (ne_eqb k n ne, ne_eqb (count k kids) 0 (λ e. omega arith)) refl

-- beyond a node behind the first one
pub beyond-later : (k n : ℕ) (c : Content) (kids later : Forest) (rest : Option ℕ) → (k ≡ n → ⊥) → count k kids ≡ 0 → beyond k (node n c kids later) rest ≡ beyond k later rest
beyond-later k n c kids later rest ne z = rw (ne_eqb k n ne, eq-eqb (count k kids) 0 z) refl

-- the first number of a forest before others
pub first_in-numbers : (f : Forest) (xs : List ℕ) → first_in (numbers f ++ xs) ≡ or_some (first f) (first_in xs)
first_in-numbers empty xs = refl
first_in-numbers (node n c kids later) xs = refl

-- a node that is not in a forest is looked for behind it
pub behind-skip : (k : ℕ) (f : Forest) (xs : List ℕ) → count k f ≡ 0 → behind k (numbers f ++ xs) ≡ behind k xs
behind-skip k empty xs z = refl
behind-skip k (node n c kids later) xs z =
    elim (same_cases k n) [
      | inl q ↦ absurd (omega arith)
      | inr q ↦ rw (q.2, append_assoc (numbers kids) (numbers later) xs) (behind-skip k kids (numbers later ++ xs) (omega arith) ∙ behind-skip k later xs (omega arith))
    ]

-- the number behind a node is its first child's, or else the one beyond it
pub behind-numbers : (k : ℕ) (f : Forest) (xs : List ℕ) → 0 < count k f → behind k (numbers f ++ xs) ≡ or_some (first (children (find k f))) (beyond k f (first_in xs))
behind-numbers k empty xs h = absurd (omega arith)
behind-numbers k (node n c kids later) xs h =
    elim (same_cases k n) [
      | inl q ↦ rw q.2 (ap first_in (append_assoc (numbers kids) (numbers later) xs) ∙ first_in-numbers kids (numbers later ++ xs) ∙ ap (or_some (first kids)) (first_in-numbers later xs))
      | inr q ↦ rw (q.2, append_assoc (numbers kids) (numbers later) xs) (elim (cases_eq (count k kids) 0) [
        | inl z ↦
            rw (eq-eqb (count k kids) 0 z, find-none k kids z)
            (behind-skip k kids (numbers later ++ xs) z ∙ behind-numbers k later xs (omega arith))
        | inr z ↦
            rw (ne_eqb (count k kids) 0 z, find-counted k kids (find k later) (omega arith))
            (behind-numbers k kids (numbers later ++ xs) (omega arith) ∙ ap (λ (o : Option ℕ). or_some (first (children (find k kids))) (beyond k kids o)) (first_in-numbers later xs))
      ])
    ]

-- beyond a node with a next sibling is that sibling
pub beyond-next : (k m : ℕ) (f : Forest) (rest : Option ℕ) → 0 < count k f → first (later_of (find k f)) ≡ Some m → beyond k f rest ≡ Some m
beyond-next k m empty rest h s = absurd (omega arith)
beyond-next k m (node n c kids later) rest h s =
    elim (same_cases k n) [
      | inl q ↦
          let next : first later ≡ Some m = rw q.2 at s in
          beyond-same k n c kids later rest q.0 ∙ ap (λ (o : Option ℕ). or_some o rest) next
      | inr q ↦ elim (cases_eq (count k kids) 0) [
        | inl z ↦
            let next : first (later_of (find k later)) ≡ Some m = rw (q.2, find-none k kids z) at s in
            beyond-later k n c kids later rest q.0 z ∙ beyond-next k m later rest (omega arith) next
        | inr z ↦
            let next : first (later_of (find k kids)) ≡ Some m = rw (q.2, find-counted k kids (find k later) (omega arith)) at s in
            beyond-kids k n c kids later rest q.0 (omega arith) ∙ beyond-next k m kids (or_some (first later) rest) (omega arith) next
      ]
    ]

module _ (k n : ℕ) (c : Content) (kids later : Forest) (once : count k (node n c kids later) ≤ 1) where
  pub depth_in-first : (d : ℕ) → k ≡ n → depth_in k d (node n c kids later) ≡ Some d
  depth_in-first d e = rw (eq-eqb k n e) refl

  pub depth_in-below : (d e : ℕ) → 0 < count k kids → depth_in k (suc d) kids ≡ Some e → depth_in k d (node n c kids later) ≡ Some e
  depth_in-below d e b h = rw (ne_eqb k n (λ q. omega (arith, same-eq k n q)), h) refl

  pub depth_in-behind : (d : ℕ) → 0 < count k later → depth_in k d (node n c kids later) ≡ depth_in k d later
  depth_in-behind d b = rw (ne_eqb k n (λ q. omega (arith, same-eq k n q)), depth_in-none k (suc d) kids (omega arith)) refl

-- beyond a node with no next sibling is what is beyond its parent, which is less deep
abbrev pub Climbs : ℕ → ℕ → Forest → Option ℕ → Type 0
Climbs k up f rest =
    (p : ℕ) × (parent_in k up f ≡ Some p)
    × (((p ≡ up) × (beyond k f rest ≡ rest) × ((d : ℕ) → depth_in k d f ≡ Some d))
    ⊎ ((0 < count p f) × (beyond k f rest ≡ beyond p f rest) × ((d : ℕ) → (e : ℕ) × (depth_in p d f ≡ Some e) × (depth_in k d f ≡ Some (suc e)))))

pub beyond-up : (k up : ℕ) (f : Forest) (rest : Option ℕ) → ((j : ℕ) → count j f ≤ 1) → 0 < count k f → first (later_of (find k f)) ≡ None → Climbs k up f rest
beyond-up k up empty rest once h s = absurd (omega arith)
beyond-up k up (node n c kids later) rest once h s =
    elim (where_is k n c kids later h) [
      | inl e ↦ (
        up,
        rw (eq-eqb k n e) refl,
        inl (
          refl,
          beyond-same k n c kids later rest e
              ∙ ap (λ (o : Option ℕ). or_some o rest)
              (sym (ap (λ (g : Forest). first (later_of g)) (ap (λ (j : ℕ). find j (node n c kids later)) e ∙ find-first n c kids later)) ∙ s),
          λ d. depth_in-first k n c kids later (once k) d e,
        ),
      )
      | inr more ↦ elim more [
        | inl b ↦
            let ne : k ≡ n → ⊥ = λ e. omega (arith, once k, same-eq k n e) in
            let r = beyond-up k n kids (or_some (first later) rest) (λ j. omega (arith, once j)) b (ap (λ (g : Forest). first (later_of g)) (sym (find-below k n c kids later (once k) b)) ∙ s) in (
              r.0,
              parent_in-below k n c kids later (once k) b up r.0 r.1,
              inr (elim r.2 [
                | inl top ↦ (
                  omega (arith, ap (λ (j : ℕ). count j (node n c kids later)) top.0, counted_first n c kids later),
                  beyond-kids k n c kids later rest ne b ∙ top.1 ∙ sym (beyond-same r.0 n c kids later rest top.0),
                  λ d. (d, depth_in-first r.0 n c kids later (once r.0) d top.0, depth_in-below k n c kids later (once k) d (suc d) b (top.2 (suc d))),
                )
                | inr low ↦ (
                  omega (arith, low.0),
                  beyond-kids k n c kids later rest ne b ∙ low.1
                      ∙ sym (beyond-kids r.0 n c kids later rest (λ e. omega (arith, once r.0, low.0, same-eq r.0 n e)) low.0),
                  λ d. let e = low.2 (suc d) in (
                    e.0,
                    depth_in-below r.0 n c kids later (once r.0) d e.0 low.0 e.1,
                    depth_in-below k n c kids later (once k) d (suc e.0) b e.2,
                  ),
                )
              ]),
            )
        | inr b ↦
            let ne : k ≡ n → ⊥ = λ e. omega (arith, once k, same-eq k n e) in
            let r = beyond-up k up later rest (λ j. omega (arith, once j)) b (ap (λ (g : Forest). first (later_of g)) (sym (find-behind k n c kids later (once k) b)) ∙ s) in (
              r.0,
              parent_in-behind k n c kids later (once k) b up ∙ r.1,
              elim r.2 [
                | inl top ↦ inl (
                  top.0,
                  beyond-later k n c kids later rest ne (omega (arith, once k)) ∙ top.1,
                  λ d. depth_in-behind k n c kids later (once k) d b ∙ top.2 d,
                )
                | inr low ↦ inr (
                  omega (arith, low.0),
                  beyond-later k n c kids later rest ne (omega (arith, once k)) ∙ low.1
                      ∙ sym (beyond-later r.0 n c kids later rest (λ e. omega (arith, once r.0, low.0, same-eq r.0 n e)) (omega (arith, once r.0, low.0))),
                  λ d. let e = low.2 d in (
                    e.0,
                    depth_in-behind r.0 n c kids later (once r.0) d low.0 ∙ e.1,
                    depth_in-behind k n c kids later (once k) d b ∙ e.2,
                  ),
                )
              ],
            )
      ]
    ]

-- ---- a node with all below it

-- a node before those below it, by itself
abbrev pub branch : ℕ → Forest → Forest
branch top kids = node top document kids empty

-- what is below a node of a forest, with that node
module _ (f : Forest) (once : (j : ℕ) → count j f ≤ 1) (top : ℕ) (there : 0 < count top f) where
  abbrev kids_of : Forest
  kids_of = children (find top f)

  pub once-branch : (k : ℕ) → count k (branch top kids_of) ≤ 1
  once-branch k =
      let r = found top f there in
      omega (arith, count-find k top f, ap (count k) r.3, ap (λ (g : Forest). count k (children g)) r.3, once k)

  pub once-kids : (k : ℕ) → count k kids_of ≤ 1
  once-kids k = omega (arith, once-branch k)

  apart-top : (k : ℕ) → 0 < count k kids_of → k ≡ top → ⊥
  apart-top k h e = omega (arith, once-branch k, same-eq k top e)

  -- behind a node in this part of the order
  pub behind-branch : (k : ℕ) → 0 < count k (branch top kids_of) →
      behind k (top ∷ numbers kids_of) ≡ or_some (first (children (find k f))) (beyond k (branch top kids_of) None)
  behind-branch k h =
      ap (λ (ns : List ℕ). behind k (top ∷ ns)) (sym (append-nil (numbers kids_of)))
      ∙ ap (behind k) (sym (append-nil (numbers (branch top kids_of))))
      ∙ behind-numbers k (branch top kids_of) [] h
      ∙ ap (λ (o : Option ℕ). or_some o (beyond k (branch top kids_of) None)) same_children
    where
      same_children : first (children (find k (branch top kids_of))) ≡ first (children (find k f))
      same_children =
          elim (where_is k top document kids_of empty h) [
            | inl e ↦
                ap (λ (g : Forest). first (children g)) (ap (λ (j : ℕ). find j (branch top kids_of)) e ∙ find-first top document kids_of empty)
                ∙ ap (λ (j : ℕ). first (children (find j f))) (sym e)
            | inr more ↦ elim more [
              | inl b ↦
                  ap (λ (g : Forest). first (children g)) (find-below k top document kids_of empty (once-branch k) b ∙ sym (inside k top f once b).1)
              | inr b ↦ absurd (omega (arith, b))
            ]
          ]

  -- nothing is beyond the node itself
  pub beyond-top : (k : ℕ) → k ≡ top → beyond k (branch top kids_of) None ≡ None
  beyond-top k e = beyond-same k top document kids_of empty None e

  module _ (k : ℕ) (low : (k ≡ top → ⊥)) (h : 0 < count k (branch top kids_of)) where
    below : 0 < count k kids_of
    below = elim (where_is k top document kids_of empty h) [ inl e ↦ absurd (low e) | inr more ↦ elim more [ inl b ↦ b | inr b ↦ absurd (omega (arith, b)) ] ]

    to_kids : beyond k (branch top kids_of) None ≡ beyond k kids_of None
    to_kids = beyond-kids k top document kids_of empty None low below

    -- beyond another one with a next sibling
    pub beyond-branch-next : (m : ℕ) → first (later_of (find k f)) ≡ Some m → beyond k (branch top kids_of) None ≡ Some m
    beyond-branch-next m s =
        to_kids ∙ beyond-next k m kids_of None below (ap (λ (g : Forest). first (later_of g)) (sym (inside k top f once below).1) ∙ s)

    -- and beyond one without
    pub beyond-branch-up : first (later_of (find k f)) ≡ None → (up : ℕ) →
        (p : ℕ) × (parent_in k up f ≡ Some p) × (0 < count p (branch top kids_of))
        × (beyond k (branch top kids_of) None ≡ beyond p (branch top kids_of) None)
        × (e : ℕ) × (depth_in p 0 (branch top kids_of) ≡ Some e) × (depth_in k 0 (branch top kids_of) ≡ Some (suc e))
    beyond-branch-up s up =
        let i = inside k top f once below in
        let r = beyond-up k top kids_of None once-kids below (ap (λ (g : Forest). first (later_of g)) (sym i.1) ∙ s) in
        elim r.2 [
          | inl at ↦ (
            r.0,
            i.2 up ∙ r.1,
            omega (arith, same-eq r.0 top at.0),
            to_kids ∙ at.1 ∙ sym (beyond-top r.0 at.0),
            0,
            depth_in-first r.0 top document kids_of empty (once-branch r.0) 0 at.0,
            depth_in-below k top document kids_of empty (once-branch k) 0 1 below (at.2 1),
          )
          | inr in_kids ↦
              let e = in_kids.2 1 in (
                r.0,
                i.2 up ∙ r.1,
                omega (arith, in_kids.0),
                to_kids ∙ in_kids.1 ∙ sym (beyond-kids r.0 top document kids_of empty None (apart-top r.0 in_kids.0) in_kids.0),
                e.0,
                depth_in-below r.0 top document kids_of empty (once-branch r.0) 0 e.0 in_kids.0 e.1,
                depth_in-below k top document kids_of empty (once-branch k) 0 (suc e.0) below e.2,
              )
        ]
