-- Directions and the way back: where a combinator leads from an element, and from where it leads to one.
use Rattle.std.proofs.Common.{◌≡◌, ℕ, ◌<◌, ◌≤◌, ◌==◌, ◌||◌, ◌&&◌, Bool, true, false, List, [], ◌∷◌, take, Some, refl, sym, ◌∙◌, ap, inl, inr, ◌⊎◌, arith, subst}
use Rattle.std.proofs.lemmas.Bool.{eq-eqb, ne_eqb, eqb-true, both_ways, or_cases, or_left, or_right, and_from, and_parts, true_from_ne_false}
use Rattle.selector_tree.specs.declared.selector.Place.{Place}
use Rattle.selector_tree.specs.declared.selector.Place.TheVariants.{Child, Descendant, Next, After}
use Rattle.page_tree.specs.Forest.{Content, document, element, text, comment, Forest, empty, node, Tree, rooted, count, numbers, tops, find, children, content, parent_in}
use Rattle.page_tree.specs.Standings.{siblings_of, all, above, before, after}
use Rattle.page_tree.specs.Directions.{is_in, head_is, numbers_of}
use Rattle.page_tree.specs.Trees.{IsTree}
use Rattle.page_tree.proofs.Members.{is_in-filter}
use Rattle.page_tree.proofs.Finding.{same_cases, find-first, find-behind, find-rooted, numbers-counted, numbers-none}
use Rattle.page_tree.proofs.Elements.{is_element, once-tree, is_in-all-rooted}
use Rattle.page_tree.proofs.Around.{above-parent, element_counted}
use Rattle.page_tree.proofs.Parts.{inside, parent_some, tops_counted, tops_parent}
use Rattle.page_tree.proofs.Below.{once-kids}
use Rattle.page_tree.proofs.Sides.{next_side, previous_side}
use Rattle.selector_meaning.specs.Meaning.{is_there}
use Rattle.selector_match.specs.Asked.{IsElement, below}
use Rattle.selector_match.proofs.SiblingLaws.{not_document, some_same}
use Rattle.selector_match.specs.Walks.{after_in, elements_behind, targets}
use Rattle.procedural_ops.proofs.Any.{same_by_iff, alone}

-- ---- rows that lead on and back, one step at a time

module _ (Is : ℕ → Type 0) (on back : ℕ → List ℕ)
    (go_on : (x : ℕ) → Is x → (on x ≡ []) ⊎ ((m : ℕ) × Is m × (on x ≡ m ∷ on m) × (back m ≡ x ∷ back x)))
    (go_back : (z : ℕ) → Is z → (back z ≡ []) ⊎ ((w : ℕ) × Is w × (back z ≡ w ∷ back w) × (on w ≡ z ∷ on z))) where
  -- further back from what is further back
  further : (l : List ℕ) (z m x : ℕ) → Is z → back z ≡ l → is_in l m ≡ true → is_in (back m) x ≡ true → is_in (back z) x ≡ true
  further [] z m x z_is e h i = absurd (both_ways false refl h)
  further (y ∷ ys) z m x z_is e h i =
      elim (go_back z z_is) [
        | inl none ↦ absurd (let no : [] ≡ y ∷ ys = sym none ∙ e in cc)
        | inr r ↦
            let both : y ∷ ys ≡ r.0 ∷ back r.0 = sym e ∙ r.2 in
            let same : y ≡ r.0 = cc (both) in
            let rest : ys ≡ back r.0 = cc (both) in
            ap (λ (k : List ℕ). is_in k x) r.2
            ∙ or_right (r.0 == x) (is_in (back r.0) x)
            (elim (or_cases (y == m) (is_in ys m) h) [
              | inl q ↦ ap (λ (j : ℕ). is_in (back j) x) (sym same ∙ eqb-true y m q) ∙ i
              | inr q ↦ further ys r.0 m x r.1 (sym rest) q i
            ])
      ]

  -- what is further on has x further back
  pub turned : (l : List ℕ) (x z : ℕ) → Is x → on x ≡ l → is_in l z ≡ true → Is z × (is_in (back z) x ≡ true)
  turned [] x z x_is e h = absurd (both_ways false refl h)
  turned (y ∷ ys) x z x_is e h =
      elim (go_on x x_is) [
        | inl none ↦ absurd (let no : [] ≡ y ∷ ys = sym none ∙ e in cc)
        | inr r ↦
            let both : y ∷ ys ≡ r.0 ∷ on r.0 = sym e ∙ r.2 in
            let same : y ≡ r.0 = cc (both) in
            let rest : ys ≡ on r.0 = cc (both) in
            let here : is_in (back r.0) x ≡ true = ap (λ (k : List ℕ). is_in k x) r.3 ∙ or_left (x == x) (is_in (back x) x) (eq-eqb x x refl) in
            elim (or_cases (y == z) (is_in ys z) h) [
              | inl q ↦ subst (λ (j : ℕ). Is j × (is_in (back j) x ≡ true)) (sym same ∙ eqb-true y z q) (r.1, here)
              | inr q ↦
                  let t = turned ys r.0 z r.1 (sym rest) q in
                  (t.0, further (back z) z r.0 x t.0 refl t.1 here)
            ]
      ]

  -- the next one has x directly before it
  pub turned_head : (x z : ℕ) → Is x → head_is (on x) z ≡ true → Is z × (head_is (back z) x ≡ true)
  turned_head x z x_is h =
      elim (go_on x x_is) [
        | inl none ↦ absurd (both_ways false refl (sym (ap (λ (k : List ℕ). head_is k z) none) ∙ h))
        | inr r ↦
            let same : r.0 ≡ z = eqb-true r.0 z (sym (ap (λ (k : List ℕ). head_is k z) r.2) ∙ h) in
            subst (λ (j : ℕ). Is j × (head_is (back j) x ≡ true)) same (r.1, ap (λ (k : List ℕ). head_is k x) r.3 ∙ eq-eqb x x refl)
      ]

counted_in : (k : ℕ) (f : Forest) → 0 < count k f → is_in (numbers f) k ≡ true
counted_in k f h = true_from_ne_false (is_in (numbers f) k) (λ e. let z = numbers-none k f e in omega arith)

-- the element siblings of a forest are its elements at the top
sibling_top : (f : Forest) (z : ℕ) → ((j : ℕ) → count j f ≤ 1) → is_in (numbers_of (siblings_of f)) z ≡ true → (is_in (tops f) z ≡ true) × (is_element (content (find z f)) ≡ true)
sibling_top empty z once h = absurd (both_ways false refl h)
sibling_top (node n c kids later) z once h = by_content (sibling_top later z (λ j. omega (arith, once j))) c refl
  where
    behind : (is_in (numbers_of (siblings_of later)) z ≡ true → (is_in (tops later) z ≡ true) × (is_element (content (find z later)) ≡ true)) →
        is_in (numbers_of (siblings_of later)) z ≡ true → (is_in (tops (node n c kids later)) z ≡ true) × (is_element (content (find z (node n c kids later))) ≡ true)
    behind more i =
        let r = more i in
        let b = tops_counted z later r.0 in
        (or_right (n == z) (is_in (tops later) z) r.0, ap (λ (g : Forest). is_element (content g)) (find-behind z n c kids later (once z) b) ∙ r.1)

    by_content : (is_in (numbers_of (siblings_of later)) z ≡ true → (is_in (tops later) z ≡ true) × (is_element (content (find z later)) ≡ true)) → (d : Content) → c ≡ d → (is_in (tops (node n c kids later)) z ≡ true) × (is_element (content (find z (node n c kids later))) ≡ true)
    by_content more document e = behind more (sym (ap (λ (x : Content). is_in (numbers_of (siblings_of (node n x kids later))) z) e) ∙ h)
    by_content more (element called given) e =
        elim (or_cases (n == z) (is_in (numbers_of (siblings_of later)) z) (sym (ap (λ (x : Content). is_in (numbers_of (siblings_of (node n x kids later))) z) e) ∙ h)) [
          | inl q ↦ (
            or_left (n == z) (is_in (tops later) z) q,
            ap (λ (j : ℕ). is_element (content (find j (node n c kids later)))) (sym (eqb-true n z q)) ∙ ap (λ (g : Forest). is_element (content g)) (find-first n c kids later)
                ∙ ap (λ (x : Content). is_element (Some x)) e,
          )
          | inr q ↦ behind more q
        ]
    by_content more (text bytes) e = behind more (sym (ap (λ (x : Content). is_in (numbers_of (siblings_of (node n x kids later))) z) e) ∙ h)
    by_content more (comment bytes) e = behind more (sym (ap (λ (x : Content). is_in (numbers_of (siblings_of (node n x kids later))) z) e) ∙ h)

top_sibling : (f : Forest) (z : ℕ) → ((j : ℕ) → count j f ≤ 1) → is_in (tops f) z ≡ true → is_element (content (find z f)) ≡ true → is_in (numbers_of (siblings_of f)) z ≡ true
top_sibling empty z once h el = absurd (both_ways false refl h)
top_sibling (node n c kids later) z once h el =
    elim (same_cases z n) [
      | inl p ↦ first c (sym (ap (λ (g : Forest). is_element (content g)) (ap (λ (j : ℕ). find j (node n c kids later)) p.0 ∙ find-first n c kids later)) ∙ el) (eq-eqb n z (sym p.0))
      | inr p ↦
          let more : is_in (tops later) z ≡ true = sym (ap (λ b. b || is_in (tops later) z) (ne_eqb n z (λ e. p.0 (sym e)))) ∙ h in
          let b = tops_counted z later more in
          behind c (top_sibling later z (λ j. omega (arith, once j)) more (sym (ap (λ (g : Forest). is_element (content g)) (find-behind z n c kids later (once z) b)) ∙ el))
    ]
  where
    first : (d : Content) → is_element (Some d) ≡ true → (n == z) ≡ true → is_in (numbers_of (siblings_of (node n d kids later))) z ≡ true
    first document e q = absurd (both_ways false refl e)
    first (element called given) e q = or_left (n == z) (is_in (numbers_of (siblings_of later)) z) q
    first (text bytes) e q = absurd (both_ways false refl e)
    first (comment bytes) e q = absurd (both_ways false refl e)

    behind : (d : Content) → is_in (numbers_of (siblings_of later)) z ≡ true → is_in (numbers_of (siblings_of (node n d kids later))) z ≡ true
    behind document i = i
    behind (element called given) i = or_right (n == z) (is_in (numbers_of (siblings_of later)) z) i
    behind (text bytes) i = i
    behind (comment bytes) i = i

module _ (t : Tree) (tree : IsTree t) where
  -- ---- siblings

  abbrev later : ℕ → List ℕ
  later x = numbers_of (after t x)

  abbrev earlier : ℕ → List ℕ
  earlier x = numbers_of (before t x)

  go_later : (x : ℕ) → IsElement t x → (later x ≡ []) ⊎ ((m : ℕ) × IsElement t m × (later x ≡ m ∷ later m) × (earlier m ≡ x ∷ earlier x))
  go_later x h = elim (next_side t tree x h) [
    | inl none ↦ inl (ap numbers_of none)
    | inr r ↦ inr (r.0, r.1, ap numbers_of r.2, ap numbers_of r.3)
  ]

  go_earlier : (z : ℕ) → IsElement t z → (earlier z ≡ []) ⊎ ((w : ℕ) × IsElement t w × (earlier z ≡ w ∷ earlier w) × (later w ≡ z ∷ later z))
  go_earlier z h = elim (previous_side t tree z h) [
    | inl none ↦ inl (ap numbers_of none)
    | inr r ↦ inr (r.0, r.1, ap numbers_of r.2, ap numbers_of r.3)
  ]

  pub after_turned : (x z : ℕ) → IsElement t x → is_in (later x) z ≡ (is_in (all t) z && is_in (earlier z) x)
  after_turned x z x_is =
      same_by_iff (is_in (later x) z) (is_in (all t) z && is_in (earlier z) x)
      (λ h. let r = turned (IsElement t) later earlier go_later go_earlier (later x) x z x_is refl h in and_from (is_in (all t) z) (is_in (earlier z) x) r.0 r.1)
      (λ h. let p = and_parts (is_in (all t) z) (is_in (earlier z) x) h in (turned (IsElement t) earlier later go_earlier go_later (earlier z) z x p.0 refl p.1).1)

  -- later than what is later
  pub later_still : (x z w : ℕ) → IsElement t x → IsElement t z → is_in (later x) z ≡ true → is_in (later z) w ≡ true → is_in (later x) w ≡ true
  later_still x z w x_is z_is h i =
      let p = and_parts (is_in (all t) z) (is_in (earlier z) x) (sym (after_turned x z x_is) ∙ h) in
      let q = and_parts (is_in (all t) w) (is_in (earlier w) z) (sym (after_turned z w z_is) ∙ i) in
      after_turned x w x_is
      ∙ and_from (is_in (all t) w) (is_in (earlier w) x) q.0 (further (IsElement t) later earlier go_later go_earlier (earlier w) w z x q.0 refl q.1 p.1)

  -- what is later than a later one is later than the next one
  pub later_next : (x z n w : ℕ) → IsElement t x → IsElement t z → is_in (later x) z ≡ true → is_in (take 1 (later x)) n ≡ true → is_in (later z) w ≡ true → is_in (later n) w ≡ true
  later_next x z n w x_is z_is h i j =
      elim (go_later x x_is) [
        | inl none ↦ absurd (both_ways false refl (sym (ap (λ (l : List ℕ). is_in l z) none) ∙ h))
        | inr r ↦
            let same : r.0 ≡ n = alone r.0 n (sym (ap (λ (l : List ℕ). is_in (take 1 l) n) r.2) ∙ i) in
            subst (λ (k : ℕ). is_in (later k) w ≡ true) same
            (elim (or_cases (r.0 == z) (is_in (later r.0) z) (sym (ap (λ (l : List ℕ). is_in l z) r.2) ∙ h)) [
              | inl q ↦ ap (λ (k : ℕ). is_in (later k) w) (eqb-true r.0 z q) ∙ j
              | inr q ↦ later_still r.0 z w r.1 z_is q j
            ])
      ]

  pub next_turned : (x z : ℕ) → IsElement t x → head_is (later x) z ≡ (is_in (all t) z && head_is (earlier z) x)
  next_turned x z x_is =
      same_by_iff (head_is (later x) z) (is_in (all t) z && head_is (earlier z) x)
      (λ h. let r = turned_head (IsElement t) later earlier go_later go_earlier x z x_is h in and_from (is_in (all t) z) (head_is (earlier z) x) r.0 r.1)
      (λ h. let p = and_parts (is_in (all t) z) (head_is (earlier z) x) h in (turned_head (IsElement t) earlier later go_earlier go_later z x p.0 p.1).1)

  -- ---- what is above and below

  abbrev kids : ℕ → Forest
  kids x = children (find x (rooted t.nodes))

  own_kids : (x : ℕ) → IsElement t x → kids x ≡ children (find x t.nodes)
  own_kids x h = ap children (find-rooted x t.nodes (not_document t tree x h))

  once_kids : (x : ℕ) → IsElement t x → (j : ℕ) → count j (kids x) ≤ 1
  once_kids x x_is j = once-kids (rooted t.nodes) tree.once x (let h = element_counted t tree x x_is in omega (arith, h)) j

  -- the parent of what is below x is x, or is below x too
  parent_below : (x z p : ℕ) → IsElement t x → parent_in z 0 t.nodes ≡ Some p → 0 < count z (kids x) → (p ≡ x) ⊎ (0 < count p (kids x))
  parent_below x z p x_is e h =
      let k = own_kids x x_is in
      let c : 0 < count z (children (find x t.nodes)) = omega (arith, h, ap (count z) k) in
      let i = inside z x t.nodes (once-tree t tree) c in
      let r = parent_some z x (children (find x t.nodes)) (λ j. once_own x x_is j) c in
      let same : r.0 ≡ p = some_same r.0 p (sym (i.2 0 ∙ r.1) ∙ e) in
      elim r.2 [
        | inl top ↦ inl (sym same ∙ top.0)
        | inr low ↦ inr (omega (arith, low.0, ap (λ (j : ℕ). count j (children (find x t.nodes))) same, ap (count p) k))
      ]
    where
      once_own : (x : ℕ) → IsElement t x → (j : ℕ) → count j (children (find x t.nodes)) ≤ 1
      once_own x x_is j = omega (arith, ap (count j) (own_kids x x_is), once-kids (rooted t.nodes) tree.once x (let h = element_counted t tree x x_is in omega (arith, h)) j)

  -- no document below an element
  root_not_below : (x : ℕ) → IsElement t x → (p : ℕ) → 0 < count p (kids x) → p ≡ 0 → ⊥
  root_not_below x x_is p h z =
      let own : count p (kids x) ≡ count p (children (find x t.nodes)) = ap (count p) (own_kids x x_is) in
      let i = inside p x t.nodes (once-tree t tree) (omega (arith, h, own)) in
      omega (arith, i.0, tree.once 0, ap (λ (j : ℕ). count j t.nodes) z)

  -- a child is below its parent
  child_below : (z p : ℕ) → IsElement t z → (p ≡ 0 → ⊥) → IsElement t p → parent_in z 0 t.nodes ≡ Some p → 0 < count z (kids p)
  child_below z p z_is nz p_is e =
      let s = parent_some z 0 t.nodes (once-tree t tree) (element_counted t tree z z_is) in
      let same : s.0 ≡ p = some_same s.0 p (sym s.1 ∙ e) in
      elim s.2 [
        | inl root ↦ absurd (nz (sym same ∙ root.0))
        | inr low ↦
            omega (arith, tops_counted z (children (find s.0 t.nodes)) low.1, ap (λ (j : ℕ). count z (children (find j t.nodes))) same, ap (count z) (own_kids p p_is))
      ]

  -- what is below what is below
  deeper : (x p z : ℕ) → IsElement t x → IsElement t p → 0 < count p (kids x) → 0 < count z (kids p) → 0 < count z (kids x)
  deeper x p z x_is p_is h i =
      let at = inside p x (rooted t.nodes) tree.once h in
      let same : count z (kids p) ≡ count z (children (find p (kids x))) = ap (λ (f : Forest). count z (children f)) at.1 in
      (inside z p (kids x) (λ j. once_kids x x_is j) (omega (arith, i, same))).0

  -- an element below x has x above it
  below_above : (l : List ℕ) (x z : ℕ) → IsElement t x → IsElement t z → above t z ≡ l → 0 < count z (kids x) → is_in l x ≡ true
  below_above [] x z x_is z_is e h =
      let r = above-parent t tree z z_is in
      elim r.2 [
        | inl top ↦ elim (parent_below x z r.0 x_is r.1 h) [
          | inl same ↦ absurd (not_document t tree x x_is (sym same ∙ top.0))
          | inr inner ↦ absurd (root_not_below x x_is r.0 inner top.0)
        ]
        | inr low ↦ absurd (let no : [] ≡ r.0 ∷ above t r.0 = sym e ∙ low.2 in cc)
      ]
  below_above (y ∷ ys) x z x_is z_is e h =
      let r = above-parent t tree z z_is in
      elim r.2 [
        | inl top ↦ absurd (let no : [] ≡ y ∷ ys = sym top.1 ∙ e in cc)
        | inr low ↦
            let both : y ∷ ys ≡ r.0 ∷ above t r.0 = sym e ∙ low.2 in
            let same : y ≡ r.0 = cc (both) in
            let rest : ys ≡ above t r.0 = cc (both) in
            elim (parent_below x z r.0 x_is r.1 h) [
              | inl at ↦ or_left (y == x) (is_in ys x) (eq-eqb y x (same ∙ at))
              | inr inner ↦ or_right (y == x) (is_in ys x) (below_above ys x r.0 x_is low.1 (sym rest) inner)
            ]
      ]

  -- and the other way round
  above_below : (l : List ℕ) (x z : ℕ) → IsElement t x → IsElement t z → above t z ≡ l → is_in l x ≡ true → 0 < count z (kids x)
  above_below [] x z x_is z_is e h = absurd (both_ways false refl h)
  above_below (y ∷ ys) x z x_is z_is e h =
      let r = above-parent t tree z z_is in
      elim r.2 [
        | inl top ↦ absurd (let no : [] ≡ y ∷ ys = sym top.1 ∙ e in cc)
        | inr low ↦
            let both : y ∷ ys ≡ r.0 ∷ above t r.0 = sym e ∙ low.2 in
            let same : y ≡ r.0 = cc (both) in
            let rest : ys ≡ above t r.0 = cc (both) in
            let child : 0 < count z (kids r.0) = child_below z r.0 z_is low.0 low.1 r.1 in
            elim (or_cases (y == x) (is_in ys x) h) [
              | inl q ↦ subst (λ (j : ℕ). 0 < count z (kids j)) (sym same ∙ eqb-true y x q) child
              | inr q ↦ deeper x r.0 z x_is low.1 (above_below ys x r.0 x_is low.1 (sym rest) q) child
            ]
      ]

  pub is_in-below : (x z : ℕ) → IsElement t x → is_in (elements_behind t (below t x) x) z ≡ (is_in (all t) z && is_in (above t z) x)
  is_in-below x z x_is =
      is_in-filter (is_in (all t)) (after_in x (below t x)) z
      ∙ ap (λ (ns : List ℕ). is_in ns z && is_in (all t) z) (rw (eq-eqb x x refl) refl)
      ∙ same_by_iff (is_in (numbers (kids x)) z && is_in (all t) z) (is_in (all t) z && is_in (above t z) x)
      (λ h.
      let p = and_parts (is_in (numbers (kids x)) z) (is_in (all t) z) h in
      and_from (is_in (all t) z) (is_in (above t z) x) p.1 (below_above (above t z) x z x_is p.1 refl (numbers-counted z (kids x) p.0)))
      (λ h.
      let p = and_parts (is_in (all t) z) (is_in (above t z) x) h in
      and_from (is_in (numbers (kids x)) z) (is_in (all t) z) (counted_in z (kids x) (above_below (above t z) x z x_is p.0 refl p.1)) p.0)

  -- the children of an element
  pub is_in-children : (x z : ℕ) → IsElement t x → is_in (numbers_of (siblings_of (kids x))) z ≡ (is_in (all t) z && head_is (above t z) x)
  is_in-children x z x_is =
      same_by_iff (is_in (numbers_of (siblings_of (kids x))) z) (is_in (all t) z && head_is (above t z) x)
      (λ h.
      let top = sibling_top (kids x) z (λ j. once_kids x x_is j) h in
      let z_is : IsElement t z = is_in-all-rooted t tree z ∙ ap (λ (f : Forest). is_element (content f)) (inside z x (rooted t.nodes) tree.once (tops_counted z (kids x) top.0)).1 ∙ top.1 in
      let r = above-parent t tree z z_is in
      let own : count z (kids x) ≡ count z (children (find x t.nodes)) = ap (count z) (own_kids x x_is) in
      let i = inside z x t.nodes (once-tree t tree) (omega (arith, own, tops_counted z (kids x) top.0)) in
      let p : parent_in z 0 t.nodes ≡ Some x = i.2 0 ∙ ap (parent_in z x) (sym (own_kids x x_is)) ∙ tops_parent z x (kids x) (λ j. once_kids x x_is j) top.0 in
      let same : r.0 ≡ x = some_same r.0 x (sym r.1 ∙ p) in
      elim r.2 [
        | inl root ↦ absurd (not_document t tree x x_is (sym same ∙ root.0))
        | inr low ↦ and_from (is_in (all t) z) (head_is (above t z) x) z_is (ap (λ (k : List ℕ). head_is k x) low.2 ∙ eq-eqb r.0 x same)
      ])
      (λ h.
      let q = and_parts (is_in (all t) z) (head_is (above t z) x) h in
      let r = above-parent t tree z q.0 in
      elim r.2 [
        | inl root ↦ absurd (both_ways false refl (sym (ap (λ (k : List ℕ). head_is k x) root.1) ∙ q.1))
        | inr low ↦
            let same : r.0 ≡ x = eqb-true r.0 x (sym (ap (λ (k : List ℕ). head_is k x) low.2) ∙ q.1) in
            let s = parent_some z 0 t.nodes (once-tree t tree) (element_counted t tree z q.0) in
            let at : s.0 ≡ x = some_same s.0 r.0 (sym s.1 ∙ r.1) ∙ same in
            elim s.2 [
              | inl root ↦ absurd (not_document t tree x x_is (sym at ∙ root.0))
              | inr in_kids ↦
                  let top : is_in (tops (kids x)) z ≡ true = ap (λ (f : Forest). is_in (tops f) z) (own_kids x x_is ∙ ap (λ (j : ℕ). children (find j t.nodes)) (sym at)) ∙ in_kids.1 in
                  top_sibling (kids x) z (λ j. once_kids x x_is j) top
                  (sym (ap (λ (f : Forest). is_element (content f)) (inside z x (rooted t.nodes) tree.once (tops_counted z (kids x) top)).1) ∙ sym (is_in-all-rooted t tree z) ∙ q.0)
            ]
      ])

-- the combinator leads from x to its targets
pub is_in-targets : (t : Tree) → IsTree t → (place : Place) (x z : ℕ) → IsElement t x → is_in (targets t place x) z ≡ (is_in (all t) z && is_there t place x z)
is_in-targets t tree Child x z h = is_in-children t tree x z h
is_in-targets t tree Descendant x z h = is_in-below t tree x z h
is_in-targets t tree Next x z h = first_only (numbers_of (after t x)) z ∙ next_turned t tree x z h
  where
    first_only : (l : List ℕ) (y : ℕ) → is_in (take 1 l) y ≡ head_is l y
    first_only [] y = refl
    first_only (m ∷ l) y = off (m == y)
      where
        off : (a : Bool) → (a || false) ≡ a
        off true = refl
        off false = refl
is_in-targets t tree After x z h = after_turned t tree x z h
