-- What stands above and before an element, node by node.
use Rattle.std.proofs.Common.{◌≡◌, ℕ, ◌<◌, ◌≤◌, ◌==◌, true, false, List, [], ◌∷◌, cond, Option, Some, None, refl, sym, ◌∙◌, ap, inl, inr, ◌⊎◌, arith}
use Rattle.std.specs.Prelude.{option_map, unwrap_or}
use Rattle.std.specs.Option.{option_or}
use Rattle.std.proofs.lemmas.Bool.{cases_eq, eq-eqb, ne_eqb, both_ways}
use Rattle.page_tree.specs.Forest.{Content, document, element, text, comment, Forest, empty, node, Tree, count, find, content, parent_in, previous_in}
use Rattle.page_tree.specs.Standings.{Sibling, Standing, siblings_of, standings, elements, standing, all, above, before}
use Rattle.page_tree.specs.Directions.{is_in}
use Rattle.page_tree.specs.Trees.{IsTree}
use Rattle.page_tree.proofs.Finding.{same_cases, find-none, find-first, find-below, find-behind}
use Rattle.page_tree.proofs.Depths.{or_none}
use Rattle.page_tree.proofs.Elements.{HaveRoom, HasRoom, is_element, stands_as_element, chosen, chosen-none, chosen-append, option_or-none, once-tree, room-tree, is_in-all}

-- a sibling before others, if it is an element
abbrev pub with_sibling : ℕ → Content → List Sibling → List Sibling
with_sibling n document more = more
with_sibling n (element called given) more = record { number = n; name = called } ∷ more
with_sibling n (text bytes) more = more
with_sibling n (comment bytes) more = more

-- the elements among nodes that are siblings
abbrev pub siblings_among : List (ℕ × Content) → List Sibling
siblings_among [] = []
siblings_among (p ∷ more) = with_sibling p.0 p.1 (siblings_among more)

-- the nodes before k among its siblings, nearest first, where those at the top stand behind others
abbrev pub nodes_before : ℕ → List (ℕ × Content) → Forest → Option (List (ℕ × Content))
nodes_before k front empty = None
nodes_before k front (node n c kids later) =
    cond (k == n) (Some front) (option_or (nodes_before k [] kids) (nodes_before k ((n, c) ∷ front) later))

-- ---- numbers that don't stand in a forest

pub parent_in-none : (k up : ℕ) (f : Forest) → count k f ≡ 0 → parent_in k up f ≡ None
parent_in-none k up empty h = refl
parent_in-none k up (node n c kids later) h =
    elim (same_cases k n) [
      | inl p ↦ absurd (omega arith)
      | inr p ↦ rw (p.2, parent_in-none k n kids (omega arith)) (parent_in-none k up later (omega arith))
    ]

pub previous_in-none : (k before : ℕ) (f : Forest) → count k f ≡ 0 → previous_in k before f ≡ None
previous_in-none k before empty h = refl
previous_in-none k before (node n c kids later) h =
    elim (same_cases k n) [
      | inl p ↦ absurd (omega arith)
      | inr p ↦ rw (p.2, previous_in-none k 0 kids (omega arith)) (previous_in-none k n later (omega arith))
    ]

pub nodes_before-none : (k : ℕ) (front : List (ℕ × Content)) (f : Forest) → count k f ≡ 0 → nodes_before k front f ≡ None
nodes_before-none k front empty h = refl
nodes_before-none k front (node n c kids later) h =
    elim (same_cases k n) [
      | inl p ↦ absurd (omega arith)
      | inr p ↦ rw (p.2, nodes_before-none k [] kids (omega arith)) (nodes_before-none k ((n, c) ∷ front) later (omega arith))
    ]

-- ---- numbers below and behind the first node

module _ (k n : ℕ) (c : Content) (kids later : Forest) (once : count k (node n c kids later) ≤ 1) where
  module _ (below : 0 < count k kids) where
    apart : k ≡ n → ⊥
    apart e = elim (same_cases k n) [ inl p ↦ omega arith | inr p ↦ p.0 e ]

    pub parent_in-below : (up : ℕ) (p : ℕ) → parent_in k n kids ≡ Some p → parent_in k up (node n c kids later) ≡ Some p
    parent_in-below up p h = rw (ne_eqb k n apart, h) refl

    pub previous_in-below : (before : ℕ) → previous_in k before (node n c kids later) ≡ previous_in k 0 kids
    previous_in-below before = rw (ne_eqb k n apart, previous_in-none k n later (omega arith)) (or_none (previous_in k 0 kids))

    pub nodes_before-below : (front : List (ℕ × Content)) → nodes_before k front (node n c kids later) ≡ nodes_before k [] kids
    nodes_before-below front = rw (ne_eqb k n apart, nodes_before-none k ((n, c) ∷ front) later (omega arith)) (option_or-none (nodes_before k [] kids))

  module _ (behind : 0 < count k later) where
    apart_behind : k ≡ n → ⊥
    apart_behind e = elim (same_cases k n) [ inl p ↦ omega arith | inr p ↦ p.0 e ]

    pub parent_in-behind : (up : ℕ) → parent_in k up (node n c kids later) ≡ parent_in k up later
    parent_in-behind up = rw (ne_eqb k n apart_behind, parent_in-none k n kids (omega arith)) refl

    pub previous_in-behind : (before : ℕ) → previous_in k before (node n c kids later) ≡ previous_in k n later
    previous_in-behind before = rw (ne_eqb k n apart_behind, previous_in-none k 0 kids (omega arith)) refl

    pub nodes_before-behind : (front : List (ℕ × Content)) → nodes_before k front (node n c kids later) ≡ nodes_before k ((n, c) ∷ front) later
    nodes_before-behind front = rw (ne_eqb k n apart_behind, nodes_before-none k [] kids (omega arith)) refl

    pub chosen-behind : (above : List ℕ) (before : List Sibling) →
        chosen k (standings above before (node n c kids later)) ≡ chosen k (standings above (with_sibling n c before) later)
    chosen-behind above before = by_content c
      where
        by_content : (d : Content) → chosen k (standings above before (node n d kids later)) ≡ chosen k (standings above (with_sibling n d before) later)
        by_content document = refl
        by_content (element called given) =
            rw (
              ne_eqb n k (λ e. apart_behind (sym e)),
              chosen-append k (standings (n ∷ above) [] kids) (standings above (record { number = n; name = called } ∷ before) later),
              chosen-none k kids (n ∷ above) [] (omega arith),
            ) refl
        by_content (text bytes) = refl
        by_content (comment bytes) = refl

-- below what is no element there is nothing
pub chosen-below : (k n : ℕ) (c : Content) (kids later : Forest) → count k (node n c kids later) ≤ 1 → 0 < count k kids → HasRoom c kids
    → (above : List ℕ) (before : List Sibling) → chosen k (standings above before (node n c kids later)) ≡ chosen k (standings (n ∷ above) [] kids)
chosen-below k n document kids later once below room above before = absurd (omega (arith, ap (count k) room))
chosen-below k n (element called given) kids later once below room above before =
    rw (
      ne_eqb n k (λ e. apart k n (element called given) kids later once below (sym e)),
      chosen-append k (standings (n ∷ above) [] kids) (standings above (record { number = n; name = called } ∷ before) later),
      chosen-none k later above (record { number = n; name = called } ∷ before) (omega arith),
    ) (option_or-none (chosen k (standings (n ∷ above) [] kids)))
chosen-below k n (text bytes) kids later once below room above before = absurd (omega (arith, ap (count k) room))
chosen-below k n (comment bytes) kids later once below room above before = absurd (omega (arith, ap (count k) room))

-- the first node, an element
abbrev pub first_standing : ℕ → List ℕ → List (List ℕ × List ℕ) → Forest → Forest → List ℕ → List Sibling → Standing
first_standing n called given kids later above before =
    record { number = n; name = called; attrs = given; above = above; before = before; after = siblings_of later; inner = kids }

pub chosen-first : (n : ℕ) (called : List ℕ) (given : List (List ℕ × List ℕ)) (kids later : Forest) (above : List ℕ) (before : List Sibling) →
    chosen n (standings above before (node n (element called given) kids later)) ≡ Some (first_standing n called given kids later above before)
chosen-first n called given kids later above before = rw (eq-eqb n n refl) refl

abbrev pub above_of : Option Standing → List ℕ
above_of o = unwrap_or (option_map (λ e. e.above) o) []

abbrev pub before_of : Option Standing → List Sibling
before_of o = unwrap_or (option_map (λ e. e.before) o) []

-- a node stands first, below or behind
abbrev pub Where : ℕ → ℕ → Forest → Forest → Type 0
Where k n kids later = (k ≡ n) ⊎ ((0 < count k kids) ⊎ (0 < count k later))

pub where_is : (k n : ℕ) (c : Content) (kids later : Forest) → 0 < count k (node n c kids later) → Where k n kids later
where_is k n c kids later h =
    elim (same_cases k n) [
      | inl p ↦ inl p.0
      | inr p ↦ elim (cases_eq (count k kids) 0) [
        | inl z ↦ inr (inr (omega arith))
        | inr z ↦ inr (inl (omega arith))
      ]
    ]

pub counted_first : (n : ℕ) (c : Content) (kids later : Forest) → 0 < count n (node n c kids later)
counted_first n c kids later = elim (same_cases n n) [ inl p ↦ omega arith | inr p ↦ absurd (p.0 refl) ]

-- ---- the way up

-- the ancestors of a node are its parent and the parent's; at the top they are those of the forest
abbrev Rises : ℕ → ℕ → List ℕ → Forest → List Standing → Type 0
Rises k up above f s =
    (p : ℕ) × (parent_in k up f ≡ Some p)
    × (((p ≡ up) × (above_of (chosen k s) ≡ above))
    ⊎ ((0 < count p f) × (stands_as_element f p ≡ true) × (above_of (chosen k s) ≡ p ∷ above_of (chosen p s))))

pub element_here : (n : ℕ) (c : Content) (kids later : Forest) → stands_as_element (node n c kids later) n ≡ is_element (Some c)
element_here n c kids later = ap (λ (f : Forest). is_element (content f)) (find-first n c kids later)

has_kids : (k : ℕ) (c : Content) (kids : Forest) → HasRoom c kids → 0 < count k kids → is_element (Some c) ≡ true
has_kids k document kids room h = absurd (omega (arith, ap (count k) room))
has_kids k (element called given) kids room h = refl
has_kids k (text bytes) kids room h = absurd (omega (arith, ap (count k) room))
has_kids k (comment bytes) kids room h = absurd (omega (arith, ap (count k) room))

first_above : (n : ℕ) (c : Content) (kids later : Forest) (above : List ℕ) (before : List Sibling) → is_element (Some c) ≡ true →
    above_of (chosen n (standings above before (node n c kids later))) ≡ above
first_above n document kids later above before h = absurd (both_ways false refl h)
first_above n (element called given) kids later above before h = ap above_of (chosen-first n called given kids later above before)
first_above n (text bytes) kids later above before h = absurd (both_ways false refl h)
first_above n (comment bytes) kids later above before h = absurd (both_ways false refl h)

rises : (k up : ℕ) (above : List ℕ) (before : List Sibling) (f : Forest) → HaveRoom f → ((j : ℕ) → count j f ≤ 1) → 0 < count k f →
    stands_as_element f k ≡ true → Rises k up above f (standings above before f)
rises k up above before empty room once h el = absurd (omega arith)
rises k up above before (node n c kids later) room once h el =
    elim (where_is k n c kids later h) [
      | inl e ↦ (
        up,
        rw (eq-eqb k n e) refl,
        inl (refl, rw e (first_above n c kids later above before (sym (element_here n c kids later) ∙ ap (stands_as_element (node n c kids later)) (sym e) ∙ el))),
      )
      | inr more ↦ elim more [
        | inl b ↦
            let here : find k (node n c kids later) ≡ find k kids = find-below k n c kids later (once k) b in
            let r = rises k n (n ∷ above) [] kids room.1 (λ j. omega (arith, once j)) b (ap (λ (g : Forest). is_element (content g)) (sym here) ∙ el) in
            let there = chosen-below k n c kids later (once k) b room.0 above before in (
              r.0,
              parent_in-below k n c kids later (once k) b up r.0 r.1,
              inr (elim r.2 [
                | inl top ↦ (
                  omega (arith, ap (λ (j : ℕ). count j (node n c kids later)) top.0, counted_first n c kids later),
                  ap (stands_as_element (node n c kids later)) top.0 ∙ element_here n c kids later ∙ has_kids k c kids room.0 b,
                  ap above_of there ∙ top.1 ∙ ap (λ (j : ℕ). j ∷ above) (sym top.0)
                      ∙ ap (λ (l : List ℕ). r.0 ∷ l) (sym (ap (λ (j : ℕ). above_of (chosen j (standings above before (node n c kids later)))) top.0 ∙ first_above n c kids later above before (has_kids k c kids room.0 b))),
                )
                | inr low ↦ (
                  omega (arith, low.0),
                  ap (λ (g : Forest). is_element (content g)) (find-below r.0 n c kids later (once r.0) low.0) ∙ low.1,
                  ap above_of there ∙ low.2 ∙ ap (λ (o : Option Standing). r.0 ∷ above_of o) (sym (chosen-below r.0 n c kids later (once r.0) low.0 room.0 above before)),
                )
              ]),
            )
        | inr b ↦
            let here : find k (node n c kids later) ≡ find k later = find-behind k n c kids later (once k) b in
            let r = rises k up above (with_sibling n c before) later room.2 (λ j. omega (arith, once j)) b (ap (λ (g : Forest). is_element (content g)) (sym here) ∙ el) in
            let there = chosen-behind k n c kids later (once k) b above before in (
              r.0,
              parent_in-behind k n c kids later (once k) b up ∙ r.1,
              elim r.2 [
                | inl top ↦ inl (top.0, ap above_of there ∙ top.1)
                | inr low ↦ inr (
                  omega (arith, low.0),
                  ap (λ (g : Forest). is_element (content g)) (find-behind r.0 n c kids later (once r.0) low.0) ∙ low.1,
                  ap above_of there ∙ low.2 ∙ ap (λ (o : Option Standing). r.0 ∷ above_of o) (sym (chosen-behind r.0 n c kids later (once r.0) low.0 above before)),
                )
              ],
            )
      ]
    ]

-- ---- the way back

-- the nodes before a node are its previous sibling and those before that
abbrev Backs : ℕ → ℕ → List (ℕ × Content) → Forest → Type 0
Backs k prior front f =
    (l : List (ℕ × Content)) × (nodes_before k front f ≡ Some l)
    × (((l ≡ front) × (previous_in k prior f ≡ cond (prior == 0) None (Some prior)))
    ⊎ (((l ≡ []) × (previous_in k prior f ≡ None))
    ⊎ ((q : ℕ) × (d : Content) × (more : List (ℕ × Content)) × (previous_in k prior f ≡ Some q) × (0 < count q f)
    × (content (find q f) ≡ Some d) × (nodes_before q front f ≡ Some more) × (l ≡ (q, d) ∷ more))))

nodes_first : (k n : ℕ) (c : Content) (kids later : Forest) (front : List (ℕ × Content)) → k ≡ n → nodes_before k front (node n c kids later) ≡ Some front
nodes_first k n c kids later front e = rw (eq-eqb k n e) refl

backs : (k prior : ℕ) (front : List (ℕ × Content)) (f : Forest) → ((j : ℕ) → count j f ≤ 1) → count 0 f ≡ 0 → 0 < count k f → Backs k prior front f
backs k prior front empty once z h = absurd (omega arith)
backs k prior front (node n c kids later) once z h =
    elim (where_is k n c kids later h) [
      | inl e ↦ (front, nodes_first k n c kids later front e, inl (refl, rw (eq-eqb k n e) refl))
      | inr more ↦ elim more [
        | inl b ↦
            let r = backs k 0 [] kids (λ j. omega (arith, once j)) (omega arith) b in (
              r.0,
              nodes_before-below k n c kids later (once k) b front ∙ r.1,
              inr (elim r.2 [
                | inl top ↦ inl (top.0, previous_in-below k n c kids later (once k) b prior ∙ top.1)
                | inr low ↦ elim low [
                  | inl none ↦ inl (none.0, previous_in-below k n c kids later (once k) b prior ∙ none.1)
                  | inr some ↦ inr (
                    some.0,
                    some.1,
                    some.2,
                    previous_in-below k n c kids later (once k) b prior ∙ some.3,
                    omega (arith, some.4),
                    ap content (find-below some.0 n c kids later (once some.0) some.4) ∙ some.5,
                    nodes_before-below some.0 n c kids later (once some.0) some.4 front ∙ some.6,
                    some.7,
                  )
                ]
              ]),
            )
        | inr b ↦
            let r = backs k n ((n, c) ∷ front) later (λ j. omega (arith, once j)) (omega arith) b in
            let nz : n ≡ 0 → ⊥ = λ e. elim (same_cases 0 n) [ inl p ↦ omega arith | inr p ↦ p.0 (sym e) ] in (
              r.0,
              nodes_before-behind k n c kids later (once k) b front ∙ r.1,
              inr (elim r.2 [
                | inl top ↦ inr (
                  n,
                  c,
                  front,
                  previous_in-behind k n c kids later (once k) b prior ∙ top.1 ∙ rw (ne_eqb n 0 nz) refl,
                  counted_first n c kids later,
                  ap content (find-first n c kids later),
                  nodes_first n n c kids later front refl,
                  top.0,
                )
                | inr low ↦ elim low [
                  | inl none ↦ inl (none.0, previous_in-behind k n c kids later (once k) b prior ∙ none.1)
                  | inr some ↦ inr (
                    some.0,
                    some.1,
                    some.2,
                    previous_in-behind k n c kids later (once k) b prior ∙ some.3,
                    omega (arith, some.4),
                    ap content (find-behind some.0 n c kids later (once some.0) some.4) ∙ some.5,
                    nodes_before-behind some.0 n c kids later (once some.0) some.4 front ∙ some.6,
                    some.7,
                  )
                ]
              ]),
            )
      ]
    ]

-- the elements before an element are those among the nodes before it
first_before : (n : ℕ) (c : Content) (kids later : Forest) (above : List ℕ) (before : List Sibling) → is_element (Some c) ≡ true →
    before_of (chosen n (standings above before (node n c kids later))) ≡ before
first_before n document kids later above before h = absurd (both_ways false refl h)
first_before n (element called given) kids later above before h = ap before_of (chosen-first n called given kids later above before)
first_before n (text bytes) kids later above before h = absurd (both_ways false refl h)
first_before n (comment bytes) kids later above before h = absurd (both_ways false refl h)

before_among : (k : ℕ) (above : List ℕ) (front : List (ℕ × Content)) (f : Forest) → HaveRoom f → ((j : ℕ) → count j f ≤ 1) → 0 < count k f →
    stands_as_element f k ≡ true → before_of (chosen k (standings above (siblings_among front) f)) ≡ siblings_among (unwrap_or (nodes_before k front f) [])
before_among k above front empty room once h el = absurd (omega arith)
before_among k above front (node n c kids later) room once h el =
    elim (where_is k n c kids later h) [
      | inl e ↦
          rw (nodes_first k n c kids later front e, e)
          (first_before n c kids later above (siblings_among front) (sym (element_here n c kids later) ∙ ap (stands_as_element (node n c kids later)) (sym e) ∙ el))
      | inr more ↦ elim more [
        | inl b ↦
            let here : find k (node n c kids later) ≡ find k kids = find-below k n c kids later (once k) b in
            ap before_of (chosen-below k n c kids later (once k) b room.0 above (siblings_among front))
            ∙ before_among k (n ∷ above) [] kids room.1 (λ j. omega (arith, once j)) b (ap (λ (g : Forest). is_element (content g)) (sym here) ∙ el)
            ∙ ap (λ (o : Option (List (ℕ × Content))). siblings_among (unwrap_or o [])) (sym (nodes_before-below k n c kids later (once k) b front))
        | inr b ↦
            let here : find k (node n c kids later) ≡ find k later = find-behind k n c kids later (once k) b in
            ap before_of (chosen-behind k n c kids later (once k) b above (siblings_among front))
            ∙ before_among k above ((n, c) ∷ front) later room.2 (λ j. omega (arith, once j)) b (ap (λ (g : Forest). is_element (content g)) (sym here) ∙ el)
            ∙ ap (λ (o : Option (List (ℕ × Content))). siblings_among (unwrap_or o [])) (sym (nodes_before-behind k n c kids later (once k) b front))
      ]
    ]

-- the nodes before a node of a tree, nearest first
abbrev pub earlier : Tree → ℕ → List (ℕ × Content)
earlier t k = unwrap_or (nodes_before k [] t.nodes) []

pub counted_element : (f : Forest) (k : ℕ) → stands_as_element f k ≡ true → 0 < count k f
counted_element f k h =
    elim (cases_eq (count k f) 0) [
      | inl z ↦ absurd (both_ways false refl (sym (ap (λ (g : Forest). is_element (content g)) (find-none k f z)) ∙ h))
      | inr z ↦ omega arith
    ]

module _ (t : Tree) (tree : IsTree t) where
  -- an element stands in the tree
  pub element_counted : (k : ℕ) → is_in (all t) k ≡ true → 0 < count k t.nodes
  element_counted k h = counted_element t.nodes k (sym (is_in-all t (once-tree t tree) (room-tree t tree) k) ∙ h)

  -- the ancestors of an element: none where its parent is the document, else its parent and the ancestors of that
  pub above-parent : (k : ℕ) → is_in (all t) k ≡ true →
      (p : ℕ) × (parent_in k 0 t.nodes ≡ Some p)
      × (((p ≡ 0) × (above t k ≡ []))
      ⊎ ((p ≡ 0 → ⊥) × (is_in (all t) p ≡ true) × (above t k ≡ p ∷ above t p)))
  unfolding elements standing
  above-parent k h =
      let el : stands_as_element t.nodes k ≡ true = sym (is_in-all t (once-tree t tree) (room-tree t tree) k) ∙ h in
      let r = rises k 0 [] [] t.nodes (room-tree t tree) (once-tree t tree) (element_counted k h) el in (
        r.0,
        r.1,
        elim r.2 [
          | inl top ↦ inl top
          | inr low ↦ inr (
            λ e. omega (arith, low.0, tree.once 0, ap (λ (j : ℕ). count j t.nodes) e),
            is_in-all t (once-tree t tree) (room-tree t tree) r.0 ∙ low.1,
            low.2,
          )
        ],
      )

  -- the elements before an element are those among the nodes before it
  pub before-earlier : (k : ℕ) → is_in (all t) k ≡ true → before t k ≡ siblings_among (earlier t k)
  unfolding elements standing
  before-earlier k h =
      before_among k [] [] t.nodes (room-tree t tree) (once-tree t tree) (element_counted k h)
      (sym (is_in-all t (once-tree t tree) (room-tree t tree) k) ∙ h)

  -- the nodes before a node: none where it has no previous sibling, else that one and those before it
  pub earlier-previous : (k : ℕ) → 0 < count k t.nodes →
      ((previous_in k 0 t.nodes ≡ None) × (earlier t k ≡ []))
      ⊎ ((q : ℕ) × (d : Content) × (previous_in k 0 t.nodes ≡ Some q) × (0 < count q t.nodes) × (content (find q t.nodes) ≡ Some d)
      × (earlier t k ≡ (q, d) ∷ earlier t q))
  earlier-previous k h =
      let r = backs k 0 [] t.nodes (once-tree t tree) (omega (arith, tree.once 0)) h in
      let is : earlier t k ≡ r.0 = ap (λ (o : Option (List (ℕ × Content))). unwrap_or o []) r.1 in
      elim r.2 [
        | inl top ↦ inl (top.1, is ∙ top.0)
        | inr low ↦ elim low [
          | inl none ↦ inl (none.1, is ∙ none.0)
          | inr some ↦ inr (
            some.0,
            some.1,
            some.3,
            some.4,
            some.5,
            is ∙ some.7 ∙ ap (λ (o : Option (List (ℕ × Content))). (some.0, some.1) ∷ unwrap_or o []) (sym some.6),
          )
        ]
      ]
