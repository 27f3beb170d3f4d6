-- The children and the later siblings of a node, by the first of them, and what stands below a node.
use Rattle.std.proofs.Common.{◌≡◌, ℕ, ◌<◌, ◌≤◌, ◌==◌, ◌||◌, true, false, Option, Some, None, refl, sym, ◌∙◌, ap, inl, inr, ◌⊎◌, arith}
use Rattle.std.proofs.lemmas.Bool.{cases_eq, eq-eqb, ne_eqb, both_ways, or_left, or_right}
use Rattle.page_tree.specs.Forest.{Content, Forest, empty, node, count, tops, first, find, children, later_of, parent_in}
use Rattle.page_tree.specs.Directions.{is_in}
use Rattle.page_tree.proofs.Finding.{same_cases, find-none, find-first, find-below, find-behind}
use Rattle.page_tree.proofs.Around.{counted_first, where_is, parent_in-below, parent_in-behind}

-- the siblings from a node on; none without a node
abbrev pub siblings_from : Option ℕ → Forest → Forest
siblings_from None f = empty
siblings_from (Some m) f = find m f

no_first : (f : Forest) → first f ≡ None → f ≡ empty
no_first empty h = refl
no_first (node n c kids later) h = let no : Some n ≡ None = h in cc

first_counted : (m : ℕ) (f : Forest) → first f ≡ Some m → 0 < count m f
first_counted m empty h = let no : None ≡ Some m = h in cc
first_counted m (node n c kids later) h =
    let e : n ≡ m = cc (h) in
    elim (same_cases m n) [ inl p ↦ omega arith | inr p ↦ absurd (p.0 (sym e)) ]

first_found : (m : ℕ) (f : Forest) → first f ≡ Some m → find m f ≡ f
first_found m empty h = refl
first_found m (node n c kids later) h = let e : m ≡ n = cc (h) in rw (eq-eqb m n e) refl

-- a part of each node, which stands in the forest
module _ (part : Forest → Forest) (none : part empty ≡ empty)
    (here : (n m : ℕ) (c : Content) (kids later : Forest) → ((j : ℕ) → count j (node n c kids later) ≤ 1) →
    first (part (node n c kids later)) ≡ Some m → find m (node n c kids later) ≡ part (node n c kids later)) where
  found : (k m : ℕ) (f : Forest) → ((j : ℕ) → count j f ≤ 1) → first (part (find k f)) ≡ Some m → find m f ≡ part (find k f)
  found k m empty once h = sym none
  found k m (node n c kids later) once h =
      elim (same_cases k n) [
        | inl p ↦
            let e : find k (node n c kids later) ≡ node n c kids later = rw p.2 refl in
            here n m c kids later once (ap (λ (g : Forest). first (part g)) (sym e) ∙ h) ∙ ap part (sym e)
        | inr p ↦ elim (cases_eq (count k kids) 0) [
          | inl z ↦ elim (cases_eq (count k later) 0) [
            | inl y ↦
                let e : find k (node n c kids later) ≡ empty = find-none k (node n c kids later) (omega arith) in
                absurd (let no : None ≡ Some m = sym (ap (λ (g : Forest). first (part g)) e ∙ ap first none) ∙ h in cc)
            | inr y ↦
                let e : find k (node n c kids later) ≡ find k later = find-behind k n c kids later (once k) (omega arith) in
                let h2 : first (part (find k later)) ≡ Some m = ap (λ (g : Forest). first (part g)) (sym e) ∙ h in
                let r = found k m later (λ j. omega (arith, once j)) h2 in
                find-behind m n c kids later (once m) (some_counted m later (part (find k later)) r h2) ∙ r ∙ ap part (sym e)
          ]
          | inr z ↦
              let e : find k (node n c kids later) ≡ find k kids = find-below k n c kids later (once k) (omega arith) in
              let h2 : first (part (find k kids)) ≡ Some m = ap (λ (g : Forest). first (part g)) (sym e) ∙ h in
              let r = found k m kids (λ j. omega (arith, once j)) h2 in
              find-below m n c kids later (once m) (some_counted m kids (part (find k kids)) r h2) ∙ r ∙ ap part (sym e)
        ]
      ]
    where
      some_counted : (m : ℕ) (f g : Forest) → find m f ≡ g → first g ≡ Some m → 0 < count m f
      some_counted m f g e h =
          elim (cases_eq (count m f) 0) [
            | inl z ↦ absurd (let no : None ≡ Some m = sym (ap first (sym e ∙ find-none m f z)) ∙ h in cc)
            | inr z ↦ omega arith
          ]

  found_from : (k : ℕ) (f : Forest) → ((j : ℕ) → count j f ≤ 1) → (o : Option ℕ) → first (part (find k f)) ≡ o → siblings_from o f ≡ part (find k f)
  found_from k f once None h = sym (no_first (part (find k f)) h)
  found_from k f once (Some m) h = found k m f once h

children_here : (n m : ℕ) (c : Content) (kids later : Forest) → ((j : ℕ) → count j (node n c kids later) ≤ 1) →
    first kids ≡ Some m → find m (node n c kids later) ≡ kids
children_here n m c kids later once h = find-below m n c kids later (once m) (first_counted m kids h) ∙ first_found m kids h

later_here : (n m : ℕ) (c : Content) (kids later : Forest) → ((j : ℕ) → count j (node n c kids later) ≤ 1) →
    first later ≡ Some m → find m (node n c kids later) ≡ later
later_here n m c kids later once h = find-behind m n c kids later (once m) (first_counted m later h) ∙ first_found m later h

-- the children of a node are the siblings from the first of them on
pub from_first_child : (k : ℕ) (f : Forest) → ((j : ℕ) → count j f ≤ 1) → (o : Option ℕ) → o ≡ first (children (find k f)) → siblings_from o f ≡ children (find k f)
from_first_child k f once o h = found_from children refl children_here k f once o (sym h)

-- the later siblings of a node are the siblings from the next one on
pub from_next : (k : ℕ) (f : Forest) → ((j : ℕ) → count j f ≤ 1) → (o : Option ℕ) → o ≡ first (later_of (find k f)) → siblings_from o f ≡ later_of (find k f)
from_next k f once o h = found_from later_of refl later_here k f once o (sym h)

-- ---- what stands below a node

-- a node below `top` is found below it, and has its parent there
abbrev pub Inside : ℕ → ℕ → Forest → Type 0
Inside k top f =
    (0 < count k f) × (find k f ≡ find k (children (find top f)))
    × ((up : ℕ) → parent_in k up f ≡ parent_in k top (children (find top f)))

-- each node has a parent, among whose children it is
pub parent_some : (k up : ℕ) (f : Forest) → ((j : ℕ) → count j f ≤ 1) → 0 < count k f →
    (p : ℕ) × (parent_in k up f ≡ Some p)
    × (((p ≡ up) × (is_in (tops f) k ≡ true)) ⊎ ((0 < count p f) × (is_in (tops (children (find p f))) k ≡ true)))
parent_some k up empty once h = absurd (omega arith)
parent_some k up (node n c kids later) once h =
    elim (where_is k n c kids later h) [
      | inl e ↦ (up, rw (eq-eqb k n e) refl, inl (refl, or_left (n == k) (is_in (tops later) k) (eq-eqb n k (sym e))))
      | inr more ↦ elim more [
        | inl b ↦
            let r = parent_some k n kids (λ j. omega (arith, once j)) b in (
              r.0,
              parent_in-below k n c kids later (once k) b up r.0 r.1,
              inr (elim r.2 [
                | inl top ↦ (
                  omega (arith, ap (λ (j : ℕ). count j (node n c kids later)) top.0, counted_first n c kids later),
                  ap (λ (g : Forest). is_in (tops (children g)) k) (ap (λ (j : ℕ). find j (node n c kids later)) top.0 ∙ find-first n c kids later) ∙ top.1,
                )
                | inr low ↦ (
                  omega (arith, low.0),
                  ap (λ (g : Forest). is_in (tops (children g)) k) (find-below r.0 n c kids later (once r.0) low.0) ∙ low.1,
                )
              ]),
            )
        | inr b ↦
            let r = parent_some k up later (λ j. omega (arith, once j)) b in (
              r.0,
              parent_in-behind k n c kids later (once k) b up ∙ r.1,
              elim r.2 [
                | inl top ↦ inl (top.0, or_right (n == k) (is_in (tops later) k) top.1)
                | inr low ↦ inr (
                  omega (arith, low.0),
                  ap (λ (g : Forest). is_in (tops (children g)) k) (find-behind r.0 n c kids later (once r.0) low.0) ∙ low.1,
                )
              ],
            )
      ]
    ]

-- what is at the top is counted, and its parent is that of the top
pub tops_counted : (k : ℕ) (f : Forest) → is_in (tops f) k ≡ true → 0 < count k f
tops_counted k empty h = absurd (both_ways false refl h)
tops_counted k (node n c kids later) h =
    elim (same_cases k n) [
      | inl p ↦ omega arith
      | inr p ↦ omega (arith, tops_counted k later (sym (ap (λ b. b || is_in (tops later) k) (ne_eqb n k (λ e. p.0 (sym e)))) ∙ h))
    ]

pub tops_parent : (k up : ℕ) (f : Forest) → ((j : ℕ) → count j f ≤ 1) → is_in (tops f) k ≡ true → parent_in k up f ≡ Some up
tops_parent k up empty once h = absurd (both_ways false refl h)
tops_parent k up (node n c kids later) once h =
    elim (same_cases k n) [
      | inl p ↦ rw p.2 refl
      | inr p ↦
          let more : is_in (tops later) k ≡ true = sym (ap (λ b. b || is_in (tops later) k) (ne_eqb n k (λ e. p.0 (sym e)))) ∙ h in
          parent_in-behind k n c kids later (once k) (tops_counted k later more) up ∙ tops_parent k up later (λ j. omega (arith, once j)) more
    ]

pub inside : (k top : ℕ) (f : Forest) → ((j : ℕ) → count j f ≤ 1) → 0 < count k (children (find top f)) → Inside k top f
inside k top empty once h = absurd (omega arith)
inside k top (node n c kids later) once h =
    elim (same_cases top n) [
      | inl p ↦
          let e : find top (node n c kids later) ≡ node n c kids later = rw p.2 refl in
          let b : 0 < count k kids = omega (arith, ap (λ (g : Forest). count k (children g)) e) in
          let r = parent_some k n kids (λ j. omega (arith, once j)) b in (
            omega arith,
            find-below k n c kids later (once k) b ∙ ap (λ (g : Forest). find k (children g)) (sym e),
            λ up. parent_in-below k n c kids later (once k) b up r.0 r.1 ∙ sym r.1
                ∙ ap (λ (j : ℕ). parent_in k j kids) (sym p.0) ∙ ap (λ (g : Forest). parent_in k top (children g)) (sym e),
          )
      | inr p ↦ elim (cases_eq (count top kids) 0) [
        | inl z ↦ elim (cases_eq (count top later) 0) [
          | inl y ↦ absurd (omega (arith, ap (λ (g : Forest). count k (children g)) (find-none top (node n c kids later) (omega arith))))
          | inr y ↦
              let e : find top (node n c kids later) ≡ find top later = find-behind top n c kids later (once top) (omega arith) in
              let r = inside k top later (λ j. omega (arith, once j)) (omega (arith, ap (λ (g : Forest). count k (children g)) e)) in (
                omega (arith, r.0),
                find-behind k n c kids later (once k) r.0 ∙ r.1 ∙ ap (λ (g : Forest). find k (children g)) (sym e),
                λ up. parent_in-behind k n c kids later (once k) r.0 up ∙ r.2 up ∙ ap (λ (g : Forest). parent_in k top (children g)) (sym e),
              )
        ]
        | inr z ↦
            let e : find top (node n c kids later) ≡ find top kids = find-below top n c kids later (once top) (omega arith) in
            let r = inside k top kids (λ j. omega (arith, once j)) (omega (arith, ap (λ (g : Forest). count k (children g)) e)) in
            let q = parent_some k n kids (λ j. omega (arith, once j)) r.0 in (
              omega (arith, r.0),
              find-below k n c kids later (once k) r.0 ∙ r.1 ∙ ap (λ (g : Forest). find k (children g)) (sym e),
              λ up. parent_in-below k n c kids later (once k) r.0 up q.0 q.1 ∙ sym q.1 ∙ r.2 n ∙ ap (λ (g : Forest). parent_in k top (children g)) (sym e),
            )
      ]
    ]
