-- A round that takes something leaves fewer elements.
use Rattle.std.proofs.Common.{◌≡◌, ℕ, suc, ◌+◌, ◌<◌, ◌≤◌, Bool, true, false, cond, ◌||◌, ◌==◌, List, [], ◌∷◌, ◌++◌, length, map, refl, sym, ap, ◌∙◌, inl, inr, ◌⊎◌, arith}
use Rattle.std.proofs.lemmas.Bool.{or_cases, eqb-true}
use Rattle.std.proofs.lemmas.List.{length-append, length-map, map-append}
use Rattle.std.proofs.lemmas.List.Folds.{list_any-append}
use Rattle.page_tree.specs.Forest.{document, element, text, comment, Forest, empty, node, Tree, size}
use Rattle.page_tree.specs.Standings.{Sibling, Standing, siblings_of, standings, elements, all}
use Rattle.page_tree.specs.Directions.{is_in}
use Rattle.page_tree.specs.Edits.{pruned}

-- the numbers of elements
abbrev numbers_at : List Standing → List ℕ
numbers_at = map (λ e. e.number)

-- what is left where the first node goes, or stays
either : (P : Forest → Type 0) (b : Bool) (f g : Forest) → (b ≡ true → P f) → (b ≡ false → P g) → P (cond b f g)
either P true f g goes stays = goes refl
either P false f g goes stays = stays refl

-- no more elements than nodes
elements_few : (f : Forest) (ups : List ℕ) (before : List Sibling) → length (standings ups before f) ≤ size f
elements_few empty ups before = omega arith
elements_few (node n document kids later) ups before = omega (arith, elements_few later ups before)
elements_few (node n (element called given) kids later) ups before =
    let here : Sibling = record { number = n; name = called } in
    omega (arith, elements_few kids (n ∷ ups) [], elements_few later ups (here ∷ before), length-append (standings (n ∷ ups) [] kids) (standings ups (here ∷ before) later))
elements_few (node n (text bytes) kids later) ups before = omega (arith, elements_few later ups before)
elements_few (node n (comment bytes) kids later) ups before = omega (arith, elements_few later ups before)

pub all_few : (t : Tree) → length (all t) ≤ size t.nodes
unfolding elements
all_few t = omega (arith, elements_few t.nodes [] [], length-map (standings [] [] t.nodes) (λ (e : Standing). e.number))

module _ (gone : ℕ → Bool) where
  -- so many elements at most are left, whatever stands around
  abbrev AtMost : List ℕ → List Sibling → ℕ → Forest → Type 0
  AtMost ups before m f = length (standings ups before f) ≤ m

  no_more : (f : Forest) (ups ups' : List ℕ) (before before' : List Sibling) → AtMost ups before (length (standings ups' before' f)) (pruned gone f)
  no_more empty ups ups' before before' = omega arith
  no_more (node n document kids later) ups ups' before before' =
      let rest = no_more later ups ups' before before' in
      either (AtMost ups before (length (standings ups' before' later))) (gone n) (pruned gone later) (node n document (pruned gone kids) (pruned gone later))
      (λ _. rest) (λ _. rest)
  no_more (node n (element called given) kids later) ups ups' before before' =
      let here : Sibling = record { number = n; name = called } in
      either (AtMost ups before (length (standings ups' before' (node n (element called given) kids later)))) (gone n) (pruned gone later)
      (node n (element called given) (pruned gone kids) (pruned gone later))
      (λ _. omega (arith, no_more later ups ups' before (here ∷ before'), length-append (standings (n ∷ ups') [] kids) (standings ups' (here ∷ before') later)))
      (λ _. omega (
        arith,
        no_more kids (n ∷ ups) (n ∷ ups') [] [],
        no_more later ups ups' (here ∷ before) (here ∷ before'),
        length-append (standings (n ∷ ups') [] kids) (standings ups' (here ∷ before') later),
        length-append (standings (n ∷ ups) [] (pruned gone kids)) (standings ups (here ∷ before) (pruned gone later)),
      ))
  no_more (node n (text bytes) kids later) ups ups' before before' =
      let rest = no_more later ups ups' before before' in
      either (AtMost ups before (length (standings ups' before' later))) (gone n) (pruned gone later) (node n (text bytes) (pruned gone kids) (pruned gone later))
      (λ _. rest) (λ _. rest)
  no_more (node n (comment bytes) kids later) ups ups' before before' =
      let rest = no_more later ups ups' before before' in
      either (AtMost ups before (length (standings ups' before' later))) (gone n) (pruned gone later) (node n (comment bytes) (pruned gone kids) (pruned gone later))
      (λ _. rest) (λ _. rest)

  module _ (x : ℕ) (goes : gone x ≡ true) where
    -- fewer elements are left than there were
    abbrev Less : List ℕ → List Sibling → ℕ → Forest → Type 0
    Less ups before m f = length (standings ups before f) < m

    -- a number among those of an element, those below it and those behind it
    place : (n : ℕ) (kids later : List Standing) → ((n == x) || is_in (numbers_at (kids ++ later)) x) ≡ true →
        (n ≡ x) ⊎ ((is_in (numbers_at kids) x ≡ true) ⊎ (is_in (numbers_at later) x ≡ true))
    place n kids later h =
        elim (or_cases (n == x) (is_in (numbers_at (kids ++ later)) x) h) [
          | inl here ↦ inl (eqb-true n x here)
          | inr there ↦
              inr (or_cases (is_in (numbers_at kids) x) (is_in (numbers_at later) x)
              (sym (ap (λ (l : List ℕ). is_in l x) (map-append (λ (e : Standing). e.number) kids later) ∙ list_any-append (λ y. y == x) (numbers_at kids) (numbers_at later)) ∙ there))
        ]

    fewer : (f : Forest) (ups ups' : List ℕ) (before before' : List Sibling) → is_in (numbers_at (standings ups' before' f)) x ≡ true
        → Less ups before (length (standings ups' before' f)) (pruned gone f)
    fewer empty ups ups' before before' there = absurd (let no : false ≡ true = there in cc)
    fewer (node n document kids later) ups ups' before before' there =
        let rest = fewer later ups ups' before before' there in
        either (Less ups before (length (standings ups' before' later))) (gone n) (pruned gone later) (node n document (pruned gone kids) (pruned gone later))
        (λ _. rest) (λ _. rest)
    fewer (node n (element called given) kids later) ups ups' before before' there =
        let here : Sibling = record { number = n; name = called } in
        let inside = standings (n ∷ ups') [] kids in
        let behind = standings ups' (here ∷ before') later in
        let left = standings (n ∷ ups) [] (pruned gone kids) in
        let right = standings ups (here ∷ before) (pruned gone later) in
        either (Less ups before (length (standings ups' before' (node n (element called given) kids later)))) (gone n) (pruned gone later)
        (node n (element called given) (pruned gone kids) (pruned gone later))
        (λ _. omega (arith, no_more later ups ups' before (here ∷ before'), length-append inside behind))
        (
        λ stays. elim (place n inside behind there) [
          | inl same ↦ absurd (let yes_and_no : true ≡ false = sym goes ∙ sym (ap gone same) ∙ stays in cc)
          | inr other ↦ elim other [
            | inl below ↦ omega (arith, fewer kids (n ∷ ups) (n ∷ ups') [] [] below, no_more later ups ups' (here ∷ before) (here ∷ before'), length-append inside behind, length-append left right)
            | inr after ↦ omega (arith, no_more kids (n ∷ ups) (n ∷ ups') [] [], fewer later ups ups' (here ∷ before) (here ∷ before') after, length-append inside behind, length-append left right)
          ]
        ]
        )
    fewer (node n (text bytes) kids later) ups ups' before before' there =
        let rest = fewer later ups ups' before before' there in
        either (Less ups before (length (standings ups' before' later))) (gone n) (pruned gone later) (node n (text bytes) (pruned gone kids) (pruned gone later))
        (λ _. rest) (λ _. rest)
    fewer (node n (comment bytes) kids later) ups ups' before before' there =
        let rest = fewer later ups ups' before before' there in
        either (Less ups before (length (standings ups' before' later))) (gone n) (pruned gone later) (node n (comment bytes) (pruned gone kids) (pruned gone later))
        (λ _. rest) (λ _. rest)

    -- a tree without an element of it has fewer elements
    pub fewer_elements : (t : Tree) → is_in (all t) x ≡ true → length (all (record { nodes = pruned gone t.nodes; next = t.next })) < length (all t)
    unfolding elements
    fewer_elements t there =
        omega (
          arith,
          fewer t.nodes [] [] [] [] there,
          length-map (standings [] [] t.nodes) (λ (e : Standing). e.number),
          length-map (standings [] [] (pruned gone t.nodes)) (λ (e : Standing). e.number),
        )
