-- An element's parent and siblings, as the walks over nodes find them.
use Rattle.std.proofs.Common.{◌≡◌, ℕ, suc, ◌+◌, ◌<◌, ◌≤◌, ◌==◌, Bool, true, false, List, [], ◌∷◌, filter, length, cond, Option, Some, None, refl, sym, ◌∙◌, ap, inl, inr, arith, subst}
use Rattle.std.specs.Prelude.{option_map, unwrap_or}
use Rattle.std.proofs.lemmas.Bool.{cond_both}
use Rattle.dom_arena.specs.Contents.{kind_of}
use Rattle.selector_tree.specs.declared.selector.Place.{Place}
use Rattle.selector_tree.specs.declared.selector.Place.TheVariants.{Child, Descendant, Next, After}
use Rattle.page_tree.specs.Forest.{Content, document, element, text, comment, Forest, empty, node, Tree, rooted, count, size, find, first, or_else, later_of, content, name_of, parent_in, previous_in}
use Rattle.page_tree.specs.Standings.{Sibling, siblings_of, all, above, before, after}
use Rattle.page_tree.specs.Directions.{is_in, head_is}
use Rattle.page_tree.specs.Trees.{IsTree}
use Rattle.page_tree.proofs.Finding.{find-rooted}
use Rattle.page_tree.proofs.Elements.{is_element, once-tree, room-tree, is_in-all, is_in-all-rooted, after-find, name-find, name-rooted}
use Rattle.page_tree.proofs.Around.{with_sibling, siblings_among, nodes_before, earlier, above-parent, before-earlier, earlier-previous, element_counted}
use Rattle.page_tree.proofs.Parts.{siblings_from, from_next}
use Rattle.selector_meaning.specs.Meaning.{is_there, of_same_name}
use Rattle.std.specs.Option.{option_or}
use Rattle.std.specs.Str.{bytes_eq}
use Rattle.selector_match.specs.Asked.{IsElement, is_element_kind, sibling, sources, is_one_step, side}

-- a kind is that of elements where the content is
pub kind_is : (c : Content) → is_element_kind (kind_of c) ≡ is_element (Some c)
kind_is document = refl
kind_is (element called given) = refl
kind_is (text bytes) = refl
kind_is (comment bytes) = refl

pub some_same : (x y : ℕ) → Some x ≡ Some y → x ≡ y
some_same x y h = cc

module _ (t : Tree) where
  -- the element siblings from a node on, going back
  abbrev pub back_from : Option ℕ → List Sibling
  back_from None = []
  back_from (Some k) = cond (is_in (all t) k) (sibling t k ∷ siblings_among (earlier t k)) (siblings_among (earlier t k))

  -- how many nodes are left, going back
  abbrev pub back_left : Option ℕ → ℕ
  back_left None = 0
  back_left (Some k) = suc (length (earlier t k))

  -- the element siblings from a node on
  abbrev pub forth_from : Option ℕ → List Sibling
  forth_from o = siblings_of (siblings_from o (rooted t.nodes))

module _ (t : Tree) (tree : IsTree t) where
  pub element_kind : (n : ℕ) (c : Content) (b : Bool) → Some c ≡ content (find n (rooted t.nodes)) → b ≡ is_element_kind (kind_of c) → b ≡ is_in (all t) n
  element_kind n c b h e = e ∙ kind_is c ∙ ap is_element h ∙ sym (is_in-all-rooted t tree n)

  pub no_element : (n : ℕ) → None ≡ content (find n (rooted t.nodes)) → false ≡ is_in (all t) n
  no_element n h = ap is_element h ∙ sym (is_in-all-rooted t tree n)

  -- ---- the parent

  module _ (x : ℕ) (here : IsElement t x) where
    pub no_parent : None ≡ parent_in x 0 t.nodes → above t x ≡ []
    no_parent h = let r = above-parent t tree x here in absurd (let no : None ≡ Some r.0 = h ∙ r.1 in cc)

    pub top_parent : (p : ℕ) → Some p ≡ parent_in x 0 t.nodes → p ≡ 0 → above t x ≡ []
    top_parent p h z =
        let r = above-parent t tree x here in
        let same : p ≡ r.0 = some_same p r.0 (h ∙ r.1) in
        elim r.2 [
          | inl top ↦ top.1
          | inr low ↦ absurd (low.0 (sym same ∙ z))
        ]

    pub up_parent : (p : ℕ) → Some p ≡ parent_in x 0 t.nodes → (p ≡ 0 → ⊥) → (above t x ≡ p ∷ above t p) × IsElement t p
    up_parent p h nz =
        let r = above-parent t tree x here in
        let same : r.0 ≡ p = some_same r.0 p (sym r.1 ∙ sym h) in
        elim r.2 [
          | inl top ↦ absurd (nz (sym same ∙ top.0))
          | inr low ↦ subst (λ (q : ℕ). (above t x ≡ q ∷ above t q) × IsElement t q) same (low.2, low.1)
        ]

  -- ---- earlier siblings

  with_sibling-found : (q : ℕ) (d : Content) (more : List Sibling) → content (find q t.nodes) ≡ Some d →
      with_sibling q d more ≡ cond (is_in (all t) q) (sibling t q ∷ more) more
  with_sibling-found q d more h =
      by_content d h
      ∙ ap (λ b. cond b (sibling t q ∷ more) more) (sym (is_in-all t (once-tree t tree) (room-tree t tree) q ∙ ap is_element h))
    where
      by_content : (c : Content) → content (find q t.nodes) ≡ Some c → with_sibling q c more ≡ cond (is_element (Some c)) (sibling t q ∷ more) more
      by_content document e = refl
      by_content (element called given) e =
          ap (λ (l : List ℕ). record { number = q; name = l } ∷ more)
          (sym (name-find t (once-tree t tree) (room-tree t tree) q ∙ ap (λ (o : Option Content). unwrap_or (option_map name_of o) []) e))
      by_content (text bytes) e = refl
      by_content (comment bytes) e = refl

  -- one node further back
  pub back_step : (k : ℕ) → 0 < count k t.nodes → (o : Option ℕ) → o ≡ previous_in k 0 t.nodes →
      (siblings_among (earlier t k) ≡ back_from t o) × (back_left t o ≡ length (earlier t k)) × ((q : ℕ) → o ≡ Some q → 0 < count q t.nodes)
  back_step k h o e =
      elim (earlier-previous t tree k h) [
        | inl none ↦
            let z : o ≡ None = e ∙ none.0 in (
              ap siblings_among none.1 ∙ sym (ap (back_from t) z),
              ap (back_left t) z ∙ sym (ap length none.1),
              λ q w. absurd (let no : None ≡ Some q = sym z ∙ w in cc),
            )
        | inr some ↦
            let z : o ≡ Some some.0 = e ∙ some.2 in (
              ap siblings_among some.5 ∙ with_sibling-found some.0 some.1 (siblings_among (earlier t some.0)) some.4 ∙ sym (ap (back_from t) z),
              ap (back_left t) z ∙ omega (arith, ap length some.5),
              λ q w. subst (λ (j : ℕ). 0 < count j t.nodes) (some_same some.0 q (sym z ∙ w)) some.3,
            )
      ]

  -- the walk begins at an element
  pub back_start : (x : ℕ) → IsElement t x → (o : Option ℕ) → o ≡ previous_in x 0 t.nodes →
      (before t x ≡ back_from t o) × ((q : ℕ) → o ≡ Some q → 0 < count q t.nodes)
  back_start x here o e =
      let r = back_step x (element_counted t tree x here) o e in
      (before-earlier t tree x here ∙ r.0, r.2)

  -- it stands at an element, or at another node
  pub back_here : (o : Option ℕ) (k : ℕ) → o ≡ Some k → is_in (all t) k ≡ true → back_from t o ≡ sibling t k ∷ before t k
  back_here o k e here =
      ap (back_from t) e ∙ ap (λ b. cond b (sibling t k ∷ siblings_among (earlier t k)) (siblings_among (earlier t k))) here
      ∙ ap (λ (l : List Sibling). sibling t k ∷ l) (sym (before-earlier t tree k here))

  pub back_other : (o : Option ℕ) (k : ℕ) → o ≡ Some k → is_in (all t) k ≡ false → back_from t o ≡ siblings_among (earlier t k)
  back_other o k e other =
      ap (back_from t) e ∙ ap (λ b. cond b (sibling t k ∷ siblings_among (earlier t k)) (siblings_among (earlier t k))) other

  -- ---- later siblings

  pub not_document : (x : ℕ) → IsElement t x → x ≡ 0 → ⊥
  not_document x here z =
      let h = element_counted t tree x here in
      omega (arith, h, tree.once 0, ap (λ (j : ℕ). count j t.nodes) z)

  pub after-rooted : (x : ℕ) → IsElement t x → after t x ≡ siblings_of (later_of (find x (rooted t.nodes)))
  after-rooted x here =
      after-find t (once-tree t tree) (room-tree t tree) x (sym (is_in-all t (once-tree t tree) (room-tree t tree) x) ∙ here)
      ∙ ap (λ (f : Forest). siblings_of (later_of f)) (sym (find-rooted x t.nodes (not_document x here)))

  -- one node further
  pub forth_step : (k : ℕ) (o : Option ℕ) → o ≡ first (later_of (find k (rooted t.nodes))) →
      (siblings_from o (rooted t.nodes) ≡ later_of (find k (rooted t.nodes))) × (first (siblings_from o (rooted t.nodes)) ≡ o)
  forth_step k o e =
      let r = from_next k (rooted t.nodes) tree.once o e in
      (r, ap first r ∙ sym e)

  pub forth_start : (x : ℕ) → IsElement t x → (o : Option ℕ) → o ≡ first (later_of (find x (rooted t.nodes))) → after t x ≡ forth_from t o
  forth_start x here o e = after-rooted x here ∙ ap siblings_of (sym (forth_step x o e).0)

-- nodes that follow each other, the first of which is k
pub first_is : (f : Forest) (k : ℕ) → first f ≡ Some k → (c : Content) × (kids : Forest) × (later : Forest) × (f ≡ node k c kids later)
first_is empty k h = absurd (let no : None ≡ Some k = h in cc)
first_is (node n c kids later) k h = let e : n ≡ k = some_same n k h in (c, kids, later, ap (λ (j : ℕ). node j c kids later) e)

sibling_first : (n : ℕ) (c : Content) (kids later : Forest) → siblings_of (node n c kids later) ≡ with_sibling n c (siblings_of later)
sibling_first n document kids later = refl
sibling_first n (element called given) kids later = refl
sibling_first n (text bytes) kids later = refl
sibling_first n (comment bytes) kids later = refl

pub later_smaller : (f : Forest) (k : ℕ) → first f ≡ Some k → size (later_of f) < size f
later_smaller empty k h = absurd (let no : None ≡ Some k = h in cc)
later_smaller (node n c kids later) k h = omega arith

module _ (t : Tree) (tree : IsTree t) (o : Option ℕ) (k : ℕ) (at : o ≡ Some k) (there : first (siblings_from o (rooted t.nodes)) ≡ o) where
  found : find k (rooted t.nodes) ≡ siblings_from o (rooted t.nodes)
  found = sym (ap (λ (p : Option ℕ). siblings_from p (rooted t.nodes)) at)

  split : (c : Content) × (kids : Forest) × (later : Forest) × (find k (rooted t.nodes) ≡ node k c kids later)
  split = first_is (find k (rooted t.nodes)) k (ap first found ∙ there ∙ at)

  forth_cases : forth_from t o ≡ cond (is_in (all t) k) (sibling t k ∷ siblings_of (later_of (find k (rooted t.nodes)))) (siblings_of (later_of (find k (rooted t.nodes))))
  forth_cases =
      ap siblings_of (sym found ∙ split.3) ∙ sibling_first k split.0 split.1 split.2
      ∙ by_content split.0 (ap content split.3)
      ∙ ap (λ (l : List Sibling). cond (is_in (all t) k) (sibling t k ∷ l) l) (ap (λ (f : Forest). siblings_of (later_of f)) (sym split.3))
    where
      by_content : (c : Content) → content (find k (rooted t.nodes)) ≡ Some c → with_sibling k c (siblings_of split.2) ≡ cond (is_in (all t) k) (sibling t k ∷ siblings_of split.2) (siblings_of split.2)
      by_content document e = ap (λ b. cond b (sibling t k ∷ siblings_of split.2) (siblings_of split.2)) (sym (is_in-all-rooted t tree k ∙ ap is_element e))
      by_content (element called given) e =
          ap (λ (l : List ℕ). record { number = k; name = l } ∷ siblings_of split.2)
          (sym (name-rooted t tree k ∙ ap (λ (p : Option Content). unwrap_or (option_map name_of p) []) e))
          ∙ ap (λ b. cond b (sibling t k ∷ siblings_of split.2) (siblings_of split.2)) (sym (is_in-all-rooted t tree k ∙ ap is_element e))
      by_content (text bytes) e = ap (λ b. cond b (sibling t k ∷ siblings_of split.2) (siblings_of split.2)) (sym (is_in-all-rooted t tree k ∙ ap is_element e))
      by_content (comment bytes) e = ap (λ b. cond b (sibling t k ∷ siblings_of split.2) (siblings_of split.2)) (sym (is_in-all-rooted t tree k ∙ ap is_element e))

  pub forth_here : is_in (all t) k ≡ true → forth_from t o ≡ sibling t k ∷ after t k
  forth_here here =
      forth_cases ∙ ap (λ b. cond b (sibling t k ∷ siblings_of (later_of (find k (rooted t.nodes)))) (siblings_of (later_of (find k (rooted t.nodes))))) here
      ∙ ap (λ (l : List Sibling). sibling t k ∷ l) (sym (after-rooted t tree k here))

  -- the next node: the others are left
  module _ (next : Option ℕ) (on : next ≡ first (later_of (find k (rooted t.nodes)))) where
    pub forth_other : is_in (all t) k ≡ false → forth_from t next ≡ forth_from t o
    forth_other other =
        ap siblings_of (forth_step t tree k next on).0
        ∙ sym (forth_cases ∙ ap (λ b. cond b (sibling t k ∷ siblings_of (later_of (find k (rooted t.nodes)))) (siblings_of (later_of (find k (rooted t.nodes))))) other)

    pub forth_falls : size (siblings_from next (rooted t.nodes)) < size (siblings_from o (rooted t.nodes))
    forth_falls =
        omega (
          arith,
          ap size (forth_step t tree k next on).0,
          ap (λ (f : Forest). size f) found,
          later_smaller (find k (rooted t.nodes)) k (ap first found ∙ there ∙ at),
        )

-- ---- combinators

-- where a combinator leads from, by its sources
pub is_there-sources : (t : Tree) (place : Place) (y x : ℕ) → is_there t place y x ≡ cond (is_one_step place) (head_is (sources t place x) y) (is_in (sources t place x) y)
is_there-sources t Child y x = refl
is_there-sources t Descendant y x = refl
is_there-sources t Next y x = refl
is_there-sources t After y x = refl

-- ---- how many siblings there are

among_few : (l : List (ℕ × Content)) → length (siblings_among l) ≤ length l
among_few [] = omega arith
among_few (p ∷ l) = by_content p.1 (among_few l)
  where
    by_content : (c : Content) → length (siblings_among l) ≤ length l → length (with_sibling p.0 c (siblings_among l)) ≤ length (p ∷ l)
    by_content document h = omega arith
    by_content (element called given) h = omega arith
    by_content (text bytes) h = omega arith
    by_content (comment bytes) h = omega arith

before_few : (k : ℕ) (front : List (ℕ × Content)) (f : Forest) → length (unwrap_or (nodes_before k front f) []) ≤ length front + size f
before_few k front empty = omega arith
before_few k front (node n c kids later) =
    cond_both (k == n) (Some front) (option_or (nodes_before k [] kids) (nodes_before k ((n, c) ∷ front) later))
    (λ o. length (unwrap_or o []) ≤ length front + size (node n c kids later))
    (λ _. omega arith)
    (λ _. either (nodes_before k [] kids) (nodes_before k ((n, c) ∷ front) later) (before_few k [] kids) (before_few k ((n, c) ∷ front) later))
  where
    either : (a b : Option (List (ℕ × Content))) → length (unwrap_or a []) ≤ 0 + size kids → length (unwrap_or b []) ≤ suc (length front) + size later →
        length (unwrap_or (option_or a b) []) ≤ length front + size (node n c kids later)
    either None b h i = omega arith
    either (Some l) b h i = omega arith

siblings_few : (f : Forest) → length (siblings_of f) ≤ size f
siblings_few empty = omega arith
siblings_few (node n document kids later) = omega (arith, siblings_few later)
siblings_few (node n (element called given) kids later) = omega (arith, siblings_few later)
siblings_few (node n (text bytes) kids later) = omega (arith, siblings_few later)
siblings_few (node n (comment bytes) kids later) = omega (arith, siblings_few later)

later_few : (f : Forest) → size (later_of f) ≤ size f
later_few empty = omega arith
later_few (node n c kids later) = omega arith

found_few : (k : ℕ) (f : Forest) → size (find k f) ≤ size f
found_few k empty = omega arith
found_few k (node n c kids later) =
    cond_both (k == n) (node n c kids later) (or_else (find k kids) (find k later)) (λ f. size f ≤ size (node n c kids later))
    (λ _. omega arith) (λ _. either (find k kids) (find k later) (found_few k kids) (found_few k later))
  where
    either : (a b : Forest) → size a ≤ size kids → size b ≤ size later → size (or_else a b) ≤ size (node n c kids later)
    either empty b h i = omega arith
    either (node m d ks ls) b h i = omega arith

module _ (t : Tree) (tree : IsTree t) (x : ℕ) (here : IsElement t x) where
  pub side_few : (later : Bool) → length (side t later x) ≤ size t.nodes
  side_few true =
      let f = find x t.nodes in
      omega (
        arith,
        ap length (after-find t (once-tree t tree) (room-tree t tree) x (sym (is_in-all t (once-tree t tree) (room-tree t tree) x) ∙ here)),
        siblings_few (later_of f),
        later_few f,
        found_few x t.nodes,
      )
  side_few false = omega (arith, ap length (before-earlier t tree x here), among_few (earlier t x), before_few x [] t.nodes)

filter_few : (p : Sibling → Bool) (l : List Sibling) → length (filter p l) ≤ length l
filter_few p [] = omega arith
filter_few p (s ∷ l) = cond_both (p s) (s ∷ filter p l) (filter p l) (λ k. length k ≤ length (s ∷ l)) (λ _. omega (arith, filter_few p l)) (λ _. omega (arith, filter_few p l))

pub named_few : (b : Bool) (own : List ℕ) (l : List Sibling) → length (of_same_name b own l) ≤ length l
named_few true own l = filter_few (λ s. bytes_eq s.name own) l
named_few false own l = omega arith
