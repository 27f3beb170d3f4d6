-- Children of a place, by their numbers alone: with what is below them they are a part of the tree.
use Rattle.std.proofs.Common.{◌≡◌, ℕ, zero, suc, ◌+◌, ◌<◌, ◌≤◌, Bool, true, false, ◌==◌, not, ◌⊎◌, inl, inr, List, [], ◌∷◌, ◌++◌, cond, Some, refl, sym, ap, ap₂, subst, ◌∙◌, arith}
use Rattle.std.proofs.lemmas.Bool.{eqb-true, eq-eqb}
use Rattle.page_tree.specs.Forest.{Content, document, element, text, comment, Forest, empty, node, Tree, same, count, find, children, parent_in, or_some}
use Rattle.page_tree.specs.Edits.{pruned}
use Rattle.page_tree.specs.Standings.{Sibling, Standing, standings, elements, all}
use Rattle.page_tree.specs.Directions.{is_in}
use Rattle.page_tree.specs.Trees.{AreOrdinary}
use Rattle.page_tree.proofs.Finding.{same_cases, find-first, find-below, find-behind}
use Rattle.page_tree.proofs.Around.{counted_first, where_is, parent_in-below, parent_in-behind}
use Rattle.page_tree.proofs.Parts.{parent_some}
use Rattle.sensor_meaning.specs.Changes.{IsWellFormed}
use Rattle.sensor_laws.specs.Frame.{IsDistinct}
use Rattle.sensor_laws.proofs.Any.{never_true, or_parts, no, both}
use Rattle.sensor_laws.proofs.Relations.{cases}
use Rattle.sensor_laws.proofs.Events.{IsNumbered, Hung, IsPart}
use Rattle.sensor_laws.proofs.Sound.{In, in-either, named}
use Rattle.sensor_laws.proofs.Pruned.{cut-gone, cut-kept, named_in}

-- ---- a tree's elements have different numbers, none of them 0
counted : (f : Forest) (up : List ℕ) (seen : List Sibling) (s : Standing) → In s (standings up seen f) → 0 < count s.number f
counted empty up seen s i = absurd i
counted (node n document kids rest) up seen s i = omega (arith, counted rest up seen s i)
counted (node n (element called given) kids rest) up seen s (inl is) =
    elim (same_cases s.number n) [ inl p ↦ omega arith | inr p ↦ absurd (p.0 (ap (λ (r : Standing). r.number) (sym is))) ]
counted (node n (element called given) kids rest) up seen s (inr i) =
    elim (in-either s (standings (n ∷ up) [] kids) (standings up (record { number = n; name = called } ∷ seen) rest) i) [
      | inl j ↦ omega (arith, counted kids (n ∷ up) [] s j)
      | inr j ↦ omega (arith, counted rest up (record { number = n; name = called } ∷ seen) s j)
    ]
counted (node n (text b) kids rest) up seen s i = omega (arith, counted rest up seen s i)
counted (node n (comment b) kids rest) up seen s i = omega (arith, counted rest up seen s i)

counted_at : (f : Forest) (up : List ℕ) (seen : List Sibling) (x : ℕ) → is_in (named (standings up seen f)) x ≡ true → 0 < count x f
counted_at f up seen x h = let s = named_in (standings up seen f) x h in subst (λ (y : ℕ). 0 < count y f) s.2 (counted f up seen s.0 s.1)

distinct-append : (xs ys : List ℕ) → IsDistinct xs → IsDistinct ys → ((x : ℕ) → is_in xs x ≡ true → is_in ys x ≡ true → ⊥) → IsDistinct (xs ++ ys)
distinct-append [] ys a b apart = b
distinct-append (x ∷ xs) ys a b apart = (
  no (is_in (xs ++ ys) x) (λ h. elim (or_parts (is_in xs x) (is_in ys x) (sym (Rattle.sensor_laws.proofs.Any.any-append (λ y. y == x) xs ys) ∙ h)) [
    | inl i ↦ both (is_in xs x) i a.0
    | inr i ↦ apart x (Rattle.sensor_laws.proofs.Any.here x xs) i
  ]),
  distinct-append xs ys a.1 b (λ z i j. apart z (Rattle.sensor_laws.proofs.Any.or-right (x == z) (is_in xs z) i) j),
)

distinct : (f : Forest) (up : List ℕ) (seen : List Sibling) → ((k : ℕ) → count k f ≤ 1) → IsDistinct (named (standings up seen f))
distinct empty up seen once = tt
distinct (node n document kids rest) up seen once = distinct rest up seen (λ k. omega (arith, once k))
distinct (node n (element called given) kids rest) up seen once =
    let K = standings (n ∷ up) [] kids in
    let R = standings up (record { number = n; name = called } ∷ seen) rest in
    let here = counted_first n (element called given) kids rest in
    let split : named (K ++ R) ≡ named K ++ named R = Rattle.std.proofs.lemmas.List.map-append (λ (r : Standing). r.number) K R in (
      no (is_in (named (K ++ R)) n) (λ h. elim (or_parts (is_in (named K) n) (is_in (named R) n)
          (sym (ap (λ l. is_in l n) split ∙ Rattle.sensor_laws.proofs.Any.any-append (λ y. y == n) (named K) (named R)) ∙ h)) [
            | inl i ↦ first_twice n (element called given) kids rest (once n) (inl (counted_at kids (n ∷ up) [] n i))
            | inr i ↦ first_twice n (element called given) kids rest (once n) (inr (counted_at rest up (record { number = n; name = called } ∷ seen) n i))
          ]),
      subst IsDistinct (sym split)
          (distinct-append (named K) (named R) (distinct kids (n ∷ up) [] (λ k. omega (arith, once k)))
          (distinct rest up (record { number = n; name = called } ∷ seen) (λ k. omega (arith, once k)))
          (λ x i j. omega (arith, once x, counted_at kids (n ∷ up) [] x i, counted_at rest up (record { number = n; name = called } ∷ seen) x j))),
    )
  where
    first_twice : (n : ℕ) (c : Content) (kids rest : Forest) → count n (node n c kids rest) ≤ 1 → (0 < count n kids) ⊎ (0 < count n rest) → ⊥
    first_twice n c kids rest once (inl i) = elim (same_cases n n) [ inl p ↦ omega arith | inr p ↦ p.0 refl ]
    first_twice n c kids rest once (inr i) = elim (same_cases n n) [ inl p ↦ omega arith | inr p ↦ p.0 refl ]
distinct (node n (text b) kids rest) up seen once = distinct rest up seen (λ k. omega (arith, once k))
distinct (node n (comment b) kids rest) up seen once = distinct rest up seen (λ k. omega (arith, once k))

module _ (t : Tree) (tree : IsWellFormed t) where
  pub nodes_once : (k : ℕ) → count k t.nodes ≤ 1
  nodes_once k = omega (arith, tree.once k)

  pub no_document : count 0 t.nodes ≡ 0
  no_document = omega (arith, tree.once 0)

  pub numbered : IsNumbered t
  unfolding elements
  numbered = record {
    distinct = distinct t.nodes [] [] nodes_once;
    lone = no (is_in (all t) 0) (λ h. omega (arith, counted_at t.nodes [] [] 0 h, no_document));
  }

-- ---- nodes at the top of what goes, and what is below them
module _ (top : ℕ → Bool) where
  -- how often x stands in what goes
  abbrev pub cut_count : ℕ → Forest → ℕ
  cut_count x empty = 0
  cut_count x (node n c kids rest) = cond (top n) (same x n + count x kids) (cut_count x kids) + cut_count x rest

  -- x goes
  abbrev pub goes_with : Forest → ℕ → Bool
  goes_with f x = not (cut_count x f == 0)

  at_top : (x n : ℕ) (c : Content) (kids rest : Forest) → top n ≡ true → cut_count x (node n c kids rest) ≡ same x n + count x kids + cut_count x rest
  at_top x n c kids rest g = ap (λ b. cond b (same x n + count x kids) (cut_count x kids) + cut_count x rest) g

  not_top : (x n : ℕ) (c : Content) (kids rest : Forest) → top n ≡ false → cut_count x (node n c kids rest) ≡ cut_count x kids + cut_count x rest
  not_top x n c kids rest g = ap (λ b. cond b (same x n + count x kids) (cut_count x kids) + cut_count x rest) g

  no_more : (x : ℕ) (f : Forest) → cut_count x f ≤ count x f
  no_more x empty = omega arith
  no_more x (node n c kids rest) =
      cases (top n)
      (λ g. omega (arith, at_top x n c kids rest g, no_more x rest))
      (λ g. omega (arith, not_top x n c kids rest g, no_more x kids, no_more x rest))

  zero_gone : (m : ℕ) → m ≡ 0 → not (m == 0) ≡ false
  zero_gone m is = ap not (eq-eqb m 0 is)

  some_gone : (m : ℕ) → 0 < m → not (m == 0) ≡ true
  some_gone m h = ap not (no (m == 0) (λ is. let z = eqb-true m 0 is in absurd (omega arith)))

  module _ (gone : ℕ → Bool) where
    -- gone is what goes, in this forest
    abbrev Is : Forest → Type 0
    Is f = (x : ℕ) → 0 < count x f → gone x ≡ goes_with f x

    itself : (n : ℕ) → same n n ≡ 1
    itself n = elim (same_cases n n) [ inl p ↦ p.1 | inr p ↦ absurd (p.0 refl) ]

    module _ (n : ℕ) (c : Content) (kids rest : Forest) (once : (x : ℕ) → count x (node n c kids rest) ≤ 1) (is : Is (node n c kids rest)) where
      is_rest : Is rest
      is_rest x h = is x (omega arith) ∙ ap (λ m. not (m == 0)) (cases (top n)
          (λ g. omega (arith, at_top x n c kids rest g, once x))
          (λ g. omega (arith, not_top x n c kids rest g, no_more x kids, once x)))

      is_kids : top n ≡ false → Is kids
      is_kids g x h = is x (omega arith) ∙ ap (λ m. not (m == 0)) (omega (arith, not_top x n c kids rest g, no_more x rest, once x))

      top_goes : top n ≡ true → gone n ≡ true
      top_goes g = is n (omega (arith, itself n)) ∙ some_gone _ (omega (arith, at_top n n c kids rest g, itself n))

      below_goes : top n ≡ true → (x : ℕ) → 0 < count x kids → gone x ≡ true
      below_goes g x h = is x (omega arith) ∙ some_gone _ (omega (arith, at_top x n c kids rest g))

      other_stays : top n ≡ false → gone n ≡ false
      other_stays g = is n (omega (arith, itself n)) ∙ zero_gone _ (omega (arith, not_top n n c kids rest g, itself n, once n, no_more n kids, no_more n rest))

    -- without the tops is without all that goes
    pub pruned_same : (f : Forest) → ((x : ℕ) → count x f ≤ 1) → Is f → pruned top f ≡ pruned gone f
    pruned_same empty once is = refl
    pruned_same (node n c kids rest) once is =
        cases (top n)
        (λ g. cut-gone top top 0 n c kids rest g ∙ pruned_same rest (λ x. omega (arith, once x)) (is_rest n c kids rest once is)
        ∙ sym (cut-gone top gone 0 n c kids rest (top_goes n c kids rest once is g)))
        (λ g. cut-kept top top 0 n c kids rest g
        ∙ ap₂ (node n c) (pruned_same kids (λ x. omega (arith, once x)) (is_kids n c kids rest once is g)) (pruned_same rest (λ x. omega (arith, once x)) (is_rest n c kids rest once is))
        ∙ sym (cut-kept top gone 0 n c kids rest (other_stays n c kids rest once is g)))

    hung_all : (f : Forest) (p h : ℕ) → AreOrdinary f → gone h ≡ true → ((x : ℕ) → 0 < count x f → gone x ≡ true) → Hung top gone p h f
    hung_all empty p h o g w = tt
    hung_all (node n c kids rest) p h o g w =
        let gn : gone n ≡ true = w n (omega (arith, itself n)) in
        (λ m. inr g, λ m. gn, hung_all kids p n o.1 gn (λ x i. w x (omega arith)), hung_all rest p h o.2 g (λ x i. w x (omega arith)), o.0)

    -- each top is a child of p, where the forest stands below h
    abbrev Under : ℕ → ℕ → Forest → Type 0
    Under p h f = (x : ℕ) → top x ≡ true → 0 < count x f → parent_in x h f ≡ Some p

    module _ (p h n : ℕ) (c : Content) (kids rest : Forest) (once : (x : ℕ) → count x (node n c kids rest) ≤ 1) (under : Under p h (node n c kids rest)) where
      some_number : (a b : ℕ) → Some a ≡ Some b → a ≡ b
      some_number a b is = cc (is)

      under_top : top n ≡ true → h ≡ p
      under_top g = some_number h p
          (sym (ap (λ b. cond b (Some h) (or_some (parent_in n n kids) (parent_in n h rest))) (eq-eqb n n refl)) ∙ under n g (omega (arith, itself n)))

      under_kids : Under p n kids
      under_kids x g i =
          let r = parent_some x n kids (λ j. omega (arith, once j)) i in
          r.1 ∙ sym (parent_in-below x n c kids rest (once x) i h r.0 r.1) ∙ under x g (omega arith)

      under_rest : Under p h rest
      under_rest x g i = sym (parent_in-behind x n c kids rest (once x) i h) ∙ under x g (omega arith)

    pub hung_under : (f : Forest) (p h : ℕ) → ((x : ℕ) → count x f ≤ 1) → AreOrdinary f → Is f → gone h ≡ false → Under p h f → Hung top gone p h f
    hung_under empty p h once o is gh under = tt
    hung_under (node n c kids rest) p h once o is gh under =
        let later = hung_under rest p h (λ x. omega (arith, once x)) o.2 (is_rest n c kids rest once is) gh (under_rest p h n c kids rest once under) in
        cases (top n)
        (λ g. let gn = top_goes n c kids rest once is g in (
          λ m. inl (under_top p h n c kids rest once under g, g),
          λ m. absurd (both (gone h) m gh),
          hung_all kids p n o.1 gn (below_goes n c kids rest once is g),
          later,
          o.0,
        ))
        (λ g. let gn = other_stays n c kids rest once is g in (
          λ m. absurd (both (gone n) m gn),
          λ m. absurd (both (gone h) m gh),
          hung_under kids p n (λ x. omega (arith, once x)) o.1 (is_kids n c kids rest once is g) gn (under_kids p h n c kids rest once under),
          later,
          o.0,
        ))

    -- the place doesn't go
    place_out : (f : Forest) (p h : ℕ) → ((x : ℕ) → count x f ≤ 1) → count h f ≡ 0 → Under p h f → cut_count p f ≡ 0
    place_out empty p h once z under = refl
    place_out (node n c kids rest) p h once z under =
        let later = place_out rest p h (λ x. omega (arith, once x)) (omega arith) (under_rest p h n c kids rest once under) in
        cases (top n)
        (λ g. let is : count p (node n c kids rest) ≡ 0 = ap (λ (j : ℕ). count j (node n c kids rest)) (sym (under_top p h n c kids rest once under g)) ∙ z in
        omega (arith, at_top p n c kids rest g))
        (λ g. omega (
          arith,
          not_top p n c kids rest g,
          place_out kids p n (λ x. omega (arith, once x)) (omega (arith, once n, itself n)) (under_kids p h n c kids rest once under),
        ))

  -- the tops of a tree with what is below them are a part of it
  module _ (t : Tree) (tree : IsWellFormed t) (gone : ℕ → Bool) (is : (x : ℕ) → gone x ≡ goes_with t.nodes x) where
    pub is_part : (p : ℕ) → ((x : ℕ) → top x ≡ true → 0 < count x t.nodes → parent_in x 0 t.nodes ≡ Some p) → IsPart top gone p t
    is_part p under =
        let once = nodes_once t tree in
        let document_stays : gone 0 ≡ false = is 0 ∙ zero_gone _ (omega (arith, no_more 0 t.nodes, no_document t tree)) in record {
          hung = hung_under gone t.nodes p 0 once tree.ordinary (λ x i. is x) document_stays under;
          place_stays = is p ∙ zero_gone _ (place_out gone t.nodes p 0 once (no_document t tree) under);
          document_stays = document_stays;
        }

    pub without_part : pruned top t.nodes ≡ pruned gone t.nodes
    without_part = pruned_same gone t.nodes (nodes_once t tree) (λ x i. is x)

-- one node: what goes is the node, and what is below it
pub cut_one : (k x : ℕ) (f : Forest) → ((j : ℕ) → count j f ≤ 1) → 0 < count k f → cut_count (λ n. n == k) x f ≡ same x k + count x (children (find k f))
cut_one k x empty once h = absurd (omega arith)
cut_one k x (node n c kids rest) once h =
    elim (where_is k n c kids rest h) [
      | inl is ↦
          let g : (n == k) ≡ true = eq-eqb n k (sym is) in
          let z : count k rest ≡ 0 = elim (same_cases k n) [ inl p ↦ omega (arith, once k) | inr p ↦ absurd (p.0 is) ] in
          let found : find k (node n c kids rest) ≡ node n c kids rest = ap (λ (j : ℕ). find j (node n c kids rest)) is ∙ find-first n c kids rest in
          omega (arith, at_top (λ j. j == k) x n c kids rest g, cut_none k x rest z, ap (λ (g : Forest). count x (children g)) found, ap (same x) is)
      | inr more ↦
          let apart : (n == k) ≡ false = no (n == k) (λ e. elim (same_cases k n) [
            | inl p ↦ elim more [ inl i ↦ omega (arith, once k) | inr i ↦ omega (arith, once k) ]
            | inr p ↦ p.0 (sym (eqb-true n k e))
          ]) in
          elim more [
            | inl i ↦ omega (
              arith,
              not_top (λ j. j == k) x n c kids rest apart,
              cut_one k x kids (λ j. omega (arith, once j)) i,
              cut_none k x rest (omega (arith, once k)),
              ap (λ (g : Forest). count x (children g)) (find-below k n c kids rest (once k) i),
            )
            | inr i ↦ omega (
              arith,
              not_top (λ j. j == k) x n c kids rest apart,
              cut_one k x rest (λ j. omega (arith, once j)) i,
              cut_none k x kids (omega (arith, once k)),
              ap (λ (g : Forest). count x (children g)) (find-behind k n c kids rest (once k) i),
            )
          ]
    ]
  where
    cut_none : (k x : ℕ) (f : Forest) → count k f ≡ 0 → cut_count (λ n. n == k) x f ≡ 0
    cut_none k x empty z = refl
    cut_none k x (node n c kids rest) z =
        let apart : (n == k) ≡ false = no (n == k) (λ e. elim (same_cases k n) [ inl p ↦ omega arith | inr p ↦ p.0 (sym (eqb-true n k e)) ]) in
        omega (arith, not_top (λ j. j == k) x n c kids rest apart, cut_none k x kids (omega arith), cut_none k x rest (omega arith))

-- a node with a parent stands in the forest
pub parent_counted : (k p up : ℕ) (f : Forest) → parent_in k up f ≡ Some p → 0 < count k f
parent_counted k p up f h =
    elim (Rattle.std.proofs.lemmas.Bool.cases_eq (count k f) 0) [
      | inl z ↦ absurd (let no : Rattle.std.proofs.Common.None ≡ Some p = sym (Rattle.page_tree.proofs.Around.parent_in-none k up f z) ∙ h in cc)
      | inr z ↦ omega arith
    ]
