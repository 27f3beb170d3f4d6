-- Element siblings, each from its neighbour on either side.
use Rattle.std.proofs.Common.{◌≡◌, ℕ, ◌<◌, ◌≤◌, true, false, List, [], ◌∷◌, Option, Some, refl, sym, ◌∙◌, ap, ap₂, inl, inr, ◌⊎◌, arith}
use Rattle.std.specs.Prelude.{option_map, unwrap_or}
use Rattle.std.proofs.lemmas.Bool.{both_ways}
use Rattle.page_tree.specs.Forest.{Content, document, element, text, comment, Forest, empty, node, Tree, count, content}
use Rattle.page_tree.specs.Standings.{Sibling, Standing, siblings_of, standings, elements, standing, all, before, after, name}
use Rattle.page_tree.specs.Directions.{is_in}
use Rattle.page_tree.specs.Trees.{IsTree}
use Rattle.page_tree.proofs.Finding.{find-below, find-behind}
use Rattle.page_tree.proofs.Elements.{HaveRoom, is_element, stands_as_element, chosen, once-tree, room-tree, is_in-all}
use Rattle.page_tree.proofs.Around.{with_sibling, where_is, counted_first, chosen-behind, chosen-below, chosen-first, before_of, element_here, element_counted}

abbrev after_of : Option Standing → List Sibling
after_of o = unwrap_or (option_map (λ e. e.after) o) []

abbrev named : ℕ → Option Standing → Sibling
named k o = record { number = k; name = unwrap_or (option_map (λ e. e.name) o) [] }

-- m is the next element sibling behind k
abbrev Follows : ℕ → ℕ → List Standing → Type 0
Follows k m s =
    (after_of (chosen k s) ≡ named m (chosen m s) ∷ after_of (chosen m s))
    × (before_of (chosen m s) ≡ named k (chosen k s) ∷ before_of (chosen k s))

-- elements of a part of the standings are so in all
lifts : (k m : ℕ) (s r : List Standing) → chosen k s ≡ chosen k r → chosen m s ≡ chosen m r → Follows k m r → Follows k m s
lifts k m s r ek em h = (
  ap after_of ek ∙ h.0 ∙ ap₂ (λ (o p : Option Standing). named m o ∷ after_of p) (sym em) (sym em),
  ap before_of em ∙ h.1 ∙ ap₂ (λ (o p : Option Standing). named k o ∷ before_of p) (sym ek) (sym ek),
)

-- the first element of a forest
abbrev Begins : Forest → List Sibling → List Standing → Type 0
Begins f before s =
    (siblings_of f ≡ [])
    ⊎ ((m : ℕ) × (0 < count m f) × (stands_as_element f m ≡ true) × (siblings_of f ≡ named m (chosen m s) ∷ after_of (chosen m s)) × (before_of (chosen m s) ≡ before))

begins : (f : Forest) (above : List ℕ) (before : List Sibling) → ((j : ℕ) → count j f ≤ 1) → Begins f before (standings above before f)
begins empty above before once = inl refl
begins (node n document kids later) above before once = skip (begins later above before (λ j. omega (arith, once j)))
  where
    skip : Begins later before (standings above before later) → Begins (node n document kids later) before (standings above before (node n document kids later))
    skip (inl e) = inl e
    skip (inr r) = inr (r.0, omega (arith, r.1), ap (λ (g : Forest). is_element (content g)) (find-behind r.0 n document kids later (once r.0) r.1) ∙ r.2, r.3, r.4)
begins (node n (element called given) kids later) above before once =
    let e = chosen-first n called given kids later above before in
    inr (
      n,
      counted_first n (element called given) kids later,
      element_here n (element called given) kids later,
      sym (ap₂ (λ (o p : Option Standing). named n o ∷ after_of p) e e),
      ap before_of e,
    )
begins (node n (text bytes) kids later) above before once = skip (begins later above before (λ j. omega (arith, once j)))
  where
    skip : Begins later before (standings above before later) → Begins (node n (text bytes) kids later) before (standings above before (node n (text bytes) kids later))
    skip (inl e) = inl e
    skip (inr r) = inr (r.0, omega (arith, r.1), ap (λ (g : Forest). is_element (content g)) (find-behind r.0 n (text bytes) kids later (once r.0) r.1) ∙ r.2, r.3, r.4)
begins (node n (comment bytes) kids later) above before once = skip (begins later above before (λ j. omega (arith, once j)))
  where
    skip : Begins later before (standings above before later) → Begins (node n (comment bytes) kids later) before (standings above before (node n (comment bytes) kids later))
    skip (inl e) = inl e
    skip (inr r) = inr (r.0, omega (arith, r.1), ap (λ (g : Forest). is_element (content g)) (find-behind r.0 n (comment bytes) kids later (once r.0) r.1) ∙ r.2, r.3, r.4)

-- what the first node is, where it is an element
first_named : (n : ℕ) (c : Content) (kids later : Forest) (above : List ℕ) (before : List Sibling) → is_element (Some c) ≡ true →
    (with_sibling n c before ≡ named n (chosen n (standings above before (node n c kids later))) ∷ before)
    × (before_of (chosen n (standings above before (node n c kids later))) ≡ before)
    × (after_of (chosen n (standings above before (node n c kids later))) ≡ siblings_of later)
first_named n document kids later above before h = absurd (both_ways false refl h)
first_named n (element called given) kids later above before h =
    let e = chosen-first n called given kids later above before in
    (ap (λ (o : Option Standing). named n o ∷ before) (sym e), ap before_of e, ap after_of e)
first_named n (text bytes) kids later above before h = absurd (both_ways false refl h)
first_named n (comment bytes) kids later above before h = absurd (both_ways false refl h)

-- behind an element stands nothing, or the next one
abbrev NextOf : ℕ → Forest → List Standing → Type 0
NextOf k f s = (after_of (chosen k s) ≡ []) ⊎ ((m : ℕ) × (0 < count m f) × (stands_as_element f m ≡ true) × Follows k m s)

next_of : (k : ℕ) (f : Forest) (above : List ℕ) (before : List Sibling) → HaveRoom f → ((j : ℕ) → count j f ≤ 1) → 0 < count k f → stands_as_element f k ≡ true →
    NextOf k f (standings above before f)
next_of k empty above before room once h el = absurd (omega arith)
next_of k (node n c kids later) above before room once h el =
    elim (where_is k n c kids later h) [
      | inl e ↦
          let first = first_named n c kids later above before (sym (element_here n c kids later) ∙ ap (stands_as_element (node n c kids later)) (sym e) ∙ el) in
          rw e (elim (begins later above (with_sibling n c before) (λ j. omega (arith, once j))) [
            | inl none ↦ inl (first.2 ∙ none)
            | inr r ↦
                let there = chosen-behind r.0 n c kids later (once r.0) r.1 above before in
                inr (
                  r.0,
                  omega (arith, r.1),
                  ap (λ (g : Forest). is_element (content g)) (find-behind r.0 n c kids later (once r.0) r.1) ∙ r.2,
                  (
                    first.2 ∙ r.3 ∙ ap (λ (o : Option Standing). named r.0 o ∷ after_of o) (sym there),
                    ap before_of there ∙ r.4 ∙ first.0
                        ∙ ap (λ (l : List Sibling). named n (chosen n (standings above before (node n c kids later))) ∷ l) (sym first.1),
                  ),
                )
          ])
      | inr more ↦ elim more [
        | inl b ↦ elim (next_of k kids (n ∷ above) [] room.1 (λ j. omega (arith, once j)) b (sym (ap (λ (g : Forest). is_element (content g)) (find-below k n c kids later (once k) b)) ∙ el)) [
          | inl none ↦ inl (ap after_of (chosen-below k n c kids later (once k) b room.0 above before) ∙ none)
          | inr r ↦ inr (
            r.0,
            omega (arith, r.1),
            ap (λ (g : Forest). is_element (content g)) (find-below r.0 n c kids later (once r.0) r.1) ∙ r.2,
            lifts k r.0 (standings above before (node n c kids later)) (standings (n ∷ above) [] kids) (chosen-below k n c kids later (once k) b room.0 above before)
                (chosen-below r.0 n c kids later (once r.0) r.1 room.0 above before) r.3,
          )
        ]
        | inr b ↦ elim (next_of k later above (with_sibling n c before) room.2 (λ j. omega (arith, once j)) b (sym (ap (λ (g : Forest). is_element (content g)) (find-behind k n c kids later (once k) b)) ∙ el)) [
          | inl none ↦ inl (ap after_of (chosen-behind k n c kids later (once k) b above before) ∙ none)
          | inr r ↦ inr (
            r.0,
            omega (arith, r.1),
            ap (λ (g : Forest). is_element (content g)) (find-behind r.0 n c kids later (once r.0) r.1) ∙ r.2,
            lifts k r.0 (standings above before (node n c kids later)) (standings above (with_sibling n c before) later) (chosen-behind k n c kids later (once k) b above before)
                (chosen-behind r.0 n c kids later (once r.0) r.1 above before) r.3,
          )
        ]
      ]
    ]

-- before an element stands what is before the forest where it is the first, or nothing, or the previous one
abbrev PreviousOf : ℕ → Forest → List Sibling → List Standing → Type 0
PreviousOf k f before s =
    ((before_of (chosen k s) ≡ before) × (siblings_of f ≡ named k (chosen k s) ∷ after_of (chosen k s)))
    ⊎ ((before_of (chosen k s) ≡ [])
    ⊎ ((w : ℕ) × (0 < count w f) × (stands_as_element f w ≡ true) × Follows w k s))

siblings_first : (n : ℕ) (c : Content) (kids later : Forest) → siblings_of (node n c kids later) ≡ with_sibling n c (siblings_of later)
siblings_first n document kids later = refl
siblings_first n (element called given) kids later = refl
siblings_first n (text bytes) kids later = refl
siblings_first n (comment bytes) kids later = refl

plain_sibling : (n : ℕ) (c : Content) (l : List Sibling) → is_element (Some c) ≡ false → with_sibling n c l ≡ l
plain_sibling n document l h = refl
plain_sibling n (element called given) l h = absurd (both_ways true h refl)
plain_sibling n (text bytes) l h = refl
plain_sibling n (comment bytes) l h = refl

element_or_not : (c : Content) → (is_element (Some c) ≡ true) ⊎ (is_element (Some c) ≡ false)
element_or_not document = inr refl
element_or_not (element called given) = inl refl
element_or_not (text bytes) = inr refl
element_or_not (comment bytes) = inr refl

previous_of : (k : ℕ) (f : Forest) (above : List ℕ) (before : List Sibling) → HaveRoom f → ((j : ℕ) → count j f ≤ 1) → 0 < count k f → stands_as_element f k ≡ true →
    PreviousOf k f before (standings above before f)
previous_of k empty above before room once h el = absurd (omega arith)
previous_of k (node n c kids later) above before room once h el =
    elim (where_is k n c kids later h) [
      | inl e ↦
          let is : is_element (Some c) ≡ true = sym (element_here n c kids later) ∙ ap (stands_as_element (node n c kids later)) (sym e) ∙ el in
          let first = first_named n c kids later above before is in
          rw e (inl (
            first.1,
            siblings_first n c kids later ∙ named_first n c (siblings_of later) (chosen n (standings above before (node n c kids later))) is (first.0)
                ∙ ap (λ (l : List Sibling). named n (chosen n (standings above before (node n c kids later))) ∷ l) (sym first.2),
          ))
      | inr more ↦ elim more [
        | inl b ↦
            let up = chosen-below k n c kids later (once k) b room.0 above before in
            elim (previous_of k kids (n ∷ above) [] room.1 (λ j. omega (arith, once j)) b (sym (ap (λ (g : Forest). is_element (content g)) (find-below k n c kids later (once k) b)) ∙ el)) [
              | inl top ↦ inr (inl (ap before_of up ∙ top.0))
              | inr low ↦ elim low [
                | inl none ↦ inr (inl (ap before_of up ∙ none))
                | inr r ↦ inr (inr (
                  r.0,
                  omega (arith, r.1),
                  ap (λ (g : Forest). is_element (content g)) (find-below r.0 n c kids later (once r.0) r.1) ∙ r.2,
                  lifts r.0 k (standings above before (node n c kids later)) (standings (n ∷ above) [] kids) (chosen-below r.0 n c kids later (once r.0) r.1 room.0 above before) up r.3,
                ))
              ]
            ]
        | inr b ↦
            let up = chosen-behind k n c kids later (once k) b above before in
            elim (previous_of k later above (with_sibling n c before) room.2 (λ j. omega (arith, once j)) b (sym (ap (λ (g : Forest). is_element (content g)) (find-behind k n c kids later (once k) b)) ∙ el)) [
              | inl top ↦ elim (element_or_not c) [
                | inl is ↦
                    let first = first_named n c kids later above before is in
                    inr (inr (
                      n,
                      counted_first n c kids later,
                      element_here n c kids later ∙ is,
                      (
                        first.2 ∙ top.1 ∙ ap (λ (o : Option Standing). named k o ∷ after_of o) (sym up),
                        ap before_of up ∙ top.0 ∙ first.0
                            ∙ ap (λ (l : List Sibling). named n (chosen n (standings above before (node n c kids later))) ∷ l) (sym first.1),
                      ),
                    ))
                | inr no_element ↦ inl (
                  ap before_of up ∙ top.0 ∙ plain_sibling n c before no_element,
                  siblings_first n c kids later ∙ plain_sibling n c (siblings_of later) no_element ∙ top.1
                      ∙ ap (λ (o : Option Standing). named k o ∷ after_of o) (sym up),
                )
              ]
              | inr low ↦ elim low [
                | inl none ↦ inr (inl (ap before_of up ∙ none))
                | inr r ↦ inr (inr (
                  r.0,
                  omega (arith, r.1),
                  ap (λ (g : Forest). is_element (content g)) (find-behind r.0 n c kids later (once r.0) r.1) ∙ r.2,
                  lifts r.0 k (standings above before (node n c kids later)) (standings above (with_sibling n c before) later) (chosen-behind r.0 n c kids later (once r.0) r.1 above before) up r.3,
                ))
              ]
            ]
      ]
    ]
  where
    named_first : (n : ℕ) (c : Content) (l : List Sibling) (o : Option Standing) → is_element (Some c) ≡ true → with_sibling n c before ≡ named n o ∷ before → with_sibling n c l ≡ named n o ∷ l
    named_first n document l o is e = absurd (both_ways false refl is)
    named_first n (element called given) l o is e =
        let same : named n o ≡ record { number = n; name = called } = (let both : record { number = n; name = called } ∷ before ≡ named n o ∷ before = e in cc) in
        ap (λ (s : Sibling). s ∷ l) (sym same)
    named_first n (text bytes) l o is e = absurd (both_ways false refl is)
    named_first n (comment bytes) l o is e = absurd (both_ways false refl is)

module _ (t : Tree) (tree : IsTree t) (k : ℕ) (here : is_in (all t) k ≡ true) where
  here_element : stands_as_element t.nodes k ≡ true
  here_element = sym (is_in-all t (once-tree t tree) (room-tree t tree) k) ∙ here

  -- behind an element stands nothing, or the next one, before which it stands
  pub next_side : (after t k ≡ [])
      ⊎ ((m : ℕ) × (is_in (all t) m ≡ true) × (after t k ≡ record { number = m; name = name t m } ∷ after t m) × (before t m ≡ record { number = k; name = name t k } ∷ before t k))
  unfolding elements standing
  next_side =
      elim (next_of k t.nodes [] [] (room-tree t tree) (once-tree t tree) (element_counted t tree k here) here_element) [
        | inl none ↦ inl none
        | inr r ↦ inr (r.0, is_in-all t (once-tree t tree) (room-tree t tree) r.0 ∙ r.2, r.3.0, r.3.1)
      ]

  -- before an element stands nothing, or the previous one, behind which it stands
  pub previous_side : (before t k ≡ [])
      ⊎ ((w : ℕ) × (is_in (all t) w ≡ true) × (before t k ≡ record { number = w; name = name t w } ∷ before t w) × (after t w ≡ record { number = k; name = name t k } ∷ after t k))
  unfolding elements standing
  previous_side =
      elim (previous_of k t.nodes [] [] (room-tree t tree) (once-tree t tree) (element_counted t tree k here) here_element) [
        | inl top ↦ inl top.0
        | inr low ↦ elim low [
          | inl none ↦ inl none
          | inr r ↦ inr (r.0, is_in-all t (once-tree t tree) (room-tree t tree) r.0 ∙ r.2, r.3.1, r.3.0)
        ]
      ]
