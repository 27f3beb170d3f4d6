-- What stands below an element: the walk over it, and its texts.
use Rattle.std.proofs.Common.{◌≡◌, ℕ, ◌+◌, ◌-◌, ◌<◌, ◌≤◌, ◌==◌, ◌||◌, ◌&&◌, nat_le, Bool, true, false, not, List, [], ◌∷◌, ◌++◌, length, Option, Some, None, refl, sym, ◌∙◌, ap, ap₂, inl, inr, arith, append_assoc, subst}
use Rattle.std.specs.Prelude.{unwrap_or}
use Rattle.std.specs.Str.{chars, IsUtf8}
use Rattle.std.proofs.lemmas.Bool.{cases_eq, eq-eqb, ne_eqb, le-leb, lt-leb}
use Rattle.std.proofs.lemmas.List.{append-nil}
use Rattle.std.proofs.lemmas.Str.{chars-append, chars-nil}
use Rattle.page_tree.specs.Forest.{Content, document, element, text, comment, Forest, empty, node, Tree, rooted, count, size, numbers, find, first, children, later_of, content, or_some, behind, parent_in, depth_in}
use Rattle.page_tree.specs.Standings.{inner}
use Rattle.page_tree.specs.Directions.{is_in}
use Rattle.page_tree.specs.Facts.{texts, is_blank, text_content, text_length}
use Rattle.page_tree.specs.Words.{units, utf16_length}
use Rattle.page_tree.specs.Trees.{IsTree}
use Rattle.page_tree.proofs.Finding.{same_cases, find-first, find-below, find-behind, find-rooted, numbers-counted}
use Rattle.page_tree.proofs.Elements.{HaveRoom, HasRoom, once-tree, room-tree, room-find, inner-rooted}
use Rattle.page_tree.proofs.Around.{element_counted, counted_first}
use Rattle.page_tree.proofs.Parts.{siblings_from, inside, from_first_child, from_next}
use Rattle.page_tree.proofs.Below.{branch, beyond, behind-branch, beyond-top, beyond-branch-next, beyond-branch-up, once-branch, once-kids}
use Rattle.page_tree.proofs.Walk.{times, tail, left_at, rest_of, times-numbers, left_at-behind, behind-times, left_was, left_is}
use Rattle.selector_match.specs.Asked.{IsElement, below, own_text, text_in, fills}
use Rattle.selector_match.proofs.SiblingLaws.{not_document, first_is, some_same}

-- the nodes below a node of a tree
abbrev pub kids : Tree → ℕ → Forest
kids t top = children (find top (rooted t.nodes))

abbrev pub part : Tree → ℕ → Forest
part t top = branch top (kids t top)

module _ (t : Tree) (tree : IsTree t) (top : ℕ) (here : IsElement t top) where
  top_counted : 0 < count top (rooted t.nodes)
  top_counted = let h = element_counted t tree top here in omega (arith, h)

  order_is : numbers (part t top) ≡ below t top
  order_is = ap (λ (ns : List ℕ). top ∷ ns) (append-nil (numbers (kids t top)))

  pub in_part : (k : ℕ) → is_in (below t top) k ≡ true → 0 < count k (part t top)
  in_part k h = numbers-counted k (part t top) (ap (λ (ns : List ℕ). is_in ns k) order_is ∙ h)

  -- ---- the walk

  pub first_below : (from child : ℕ) → is_in (below t top) from ≡ true → Some child ≡ first (children (find from (rooted t.nodes))) → Some child ≡ behind from (below t top)
  first_below from child h e =
      sym (behind-branch (rooted t.nodes) tree.once top top_counted from (in_part from h)
      ∙ ap (λ (o : Option ℕ). or_some o (beyond from (part t top) None)) (sym e))

  pub leaf_below : (from : ℕ) → is_in (below t top) from ≡ true → first (children (find from (rooted t.nodes))) ≡ None → behind from (below t top) ≡ beyond from (part t top) None
  leaf_below from h e =
      behind-branch (rooted t.nodes) tree.once top top_counted from (in_part from h)
      ∙ ap (λ (o : Option ℕ). or_some o (beyond from (part t top) None)) e

  pub end_below : (at : ℕ) → at ≡ top → beyond at (part t top) None ≡ None
  end_below at e = beyond-top (rooted t.nodes) tree.once top top_counted at e

  module _ (at : ℕ) (low : at ≡ top → ⊥) (h : 0 < count at (part t top)) where
    pub next_is : (m : ℕ) → Some m ≡ first (later_of (find at (rooted t.nodes))) → beyond at (part t top) None ≡ Some m
    next_is m e = beyond-branch-next (rooted t.nodes) tree.once top top_counted at low h m (sym e)

    in_kids : 0 < count at (kids t top)
    in_kids = elim (same_cases at top) [ inl p ↦ absurd (low p.0) | inr p ↦ omega (arith, h) ]

    not0 : at ≡ 0 → ⊥
    not0 z =
        let same : count at (kids t top) ≡ count at (children (find top t.nodes)) = ap (λ (f : Forest). count at (children f)) (find-rooted top t.nodes (not_document t tree top here)) in
        let i = inside at top t.nodes (once-tree t tree) (omega (arith, in_kids, same)) in
        omega (arith, i.0, tree.once 0, ap (λ (j : ℕ). count j t.nodes) z)

    own_parent : parent_in at 0 (rooted t.nodes) ≡ parent_in at 0 t.nodes
    own_parent = rw (ne_eqb at 0 not0) (or_none (parent_in at 0 t.nodes))
      where
        or_none : (o : Option ℕ) → or_some o None ≡ o
        or_none None = refl
        or_none (Some n) = refl

    -- up to the parent
    pub up_is : first (later_of (find at (rooted t.nodes))) ≡ None → (p : ℕ) → Some p ≡ parent_in at 0 t.nodes →
        (0 < count p (part t top)) × (beyond at (part t top) None ≡ beyond p (part t top) None)
        × (unwrap_or (depth_in p 0 (part t top)) 0 < unwrap_or (depth_in at 0 (part t top)) 0)
    up_is e p q =
        let r = beyond-branch-up (rooted t.nodes) tree.once top top_counted at low h e 0 in
        subst (λ (j : ℕ). (0 < count j (part t top)) × (beyond at (part t top) None ≡ beyond j (part t top) None) × (unwrap_or (depth_in j 0 (part t top)) 0 < unwrap_or (depth_in at 0 (part t top)) 0))
        (some_same r.0 p (sym r.1 ∙ own_parent ∙ sym q))
        (r.2, r.3, omega (arith, ap (λ (o : Option ℕ). unwrap_or o 0) r.5, ap (λ (o : Option ℕ). unwrap_or o 0) r.6))

    pub no_up : first (later_of (find at (rooted t.nodes))) ≡ None → None ≡ parent_in at 0 t.nodes → ⊥
    no_up e q =
        let r = beyond-branch-up (rooted t.nodes) tree.once top top_counted at low h e 0 in
        let no : None ≡ Some r.0 = q ∙ sym own_parent ∙ r.1 in cc

-- ---- no element, and no text that isn't empty

twice : (b : Bool) → b ≡ not (not b)
twice true = refl
twice false = refl

pub blank_first : (f : Forest) (k : ℕ) → first f ≡ Some k → is_blank f ≡ (not (fills (content f)) && is_blank (later_of f))
blank_first empty k h = absurd (let no : None ≡ Some k = h in cc)
blank_first (node n document ks later) k h = refl
blank_first (node n (element called given) ks later) k h = refl
blank_first (node n (text bytes) ks later) k h = ap (λ b. b && is_blank later) (twice (length bytes == 0))
blank_first (node n (comment bytes) ks later) k h = refl

module _ (t : Tree) (tree : IsTree t) where
  -- the walk over the children
  pub blank_start : (x : ℕ) → IsElement t x → (o : Option ℕ) → o ≡ first (children (find x (rooted t.nodes))) →
      (is_blank (inner t x) ≡ is_blank (siblings_from o (rooted t.nodes))) × (first (siblings_from o (rooted t.nodes)) ≡ o)
  blank_start x here o e =
      let r = from_first_child x (rooted t.nodes) tree.once o e in (
        ap is_blank (inner-rooted t tree x (not_document t tree x here) ∙ sym r),
        ap first r ∙ sym e,
      )

  module _ (o : Option ℕ) (k : ℕ) (at : o ≡ Some k) (there : first (siblings_from o (rooted t.nodes)) ≡ o) where
    same_here : siblings_from o (rooted t.nodes) ≡ find k (rooted t.nodes)
    same_here = ap (λ (p : Option ℕ). siblings_from p (rooted t.nodes)) at

    pub blank_here : is_blank (siblings_from o (rooted t.nodes)) ≡ (not (fills (content (find k (rooted t.nodes)))) && is_blank (later_of (find k (rooted t.nodes))))
    blank_here = blank_first (siblings_from o (rooted t.nodes)) k (there ∙ at) ∙ ap (λ (f : Forest). not (fills (content f)) && is_blank (later_of f)) same_here

    pub blank_on : (b : Bool) → b ≡ fills (content (find k (rooted t.nodes))) → b ≡ false → (next : Option ℕ) → next ≡ first (later_of (find k (rooted t.nodes))) →
        (is_blank (siblings_from o (rooted t.nodes)) ≡ is_blank (siblings_from next (rooted t.nodes))) × (first (siblings_from next (rooted t.nodes)) ≡ next)
        × (size (siblings_from next (rooted t.nodes)) < size (siblings_from o (rooted t.nodes)))
    blank_on b e f next on =
        let r = from_next k (rooted t.nodes) tree.once next on in
        let s = first_is (find k (rooted t.nodes)) k (ap first (sym same_here) ∙ there ∙ at) in (
          blank_here ∙ ap (λ c. not c && is_blank (later_of (find k (rooted t.nodes)))) (sym e ∙ f) ∙ ap is_blank (sym r),
          ap first r ∙ sym on,
          omega (arith, ap size r, ap size same_here, ap size s.3, ap (λ (g : Forest). size (later_of g)) s.3),
        )

    pub blank_off : (b : Bool) → b ≡ fills (content (find k (rooted t.nodes))) → b ≡ true → is_blank (siblings_from o (rooted t.nodes)) ≡ false
    blank_off b e f = blank_here ∙ ap (λ c. not c && is_blank (later_of (find k (rooted t.nodes)))) (sym e ∙ f)

-- ---- texts

-- the texts of some nodes, one behind the other
abbrev pub joined : (ℕ → List ℕ) → List ℕ → List ℕ
joined own [] = []
joined own (n ∷ ns) = own n ++ joined own ns

joined-append : (own : ℕ → List ℕ) (ms ns : List ℕ) → joined own (ms ++ ns) ≡ joined own ms ++ joined own ns
joined-append own [] ns = refl
joined-append own (m ∷ ms) ns = ap (λ (l : List ℕ). own m ++ l) (joined-append own ms ns) ∙ sym (append_assoc (own m) (joined own ms) (joined own ns))

texts_first : (n : ℕ) (c : Content) (ks later : Forest) → HasRoom c ks → texts (node n c ks later) ≡ text_in (Some c) ++ (texts ks ++ texts later)
texts_first n document ks later room = refl
texts_first n (element called given) ks later room = refl
texts_first n (text bytes) ks later room = rw room refl
texts_first n (comment bytes) ks later room = rw room refl

texts-joined : (g : Forest) → ((j : ℕ) → count j g ≤ 1) → HaveRoom g → (own : ℕ → List ℕ) → ((k : ℕ) → 0 < count k g → own k ≡ text_in (content (find k g))) →
    texts g ≡ joined own (numbers g)
texts-joined empty once room own same = refl
texts-joined (node n c ks later) once room own same =
    texts_first n c ks later room.0
    ∙ ap₂ ◌++◌
    (sym (same n (counted_first n c ks later) ∙ ap (λ (f : Forest). text_in (content f)) (find-first n c ks later)))
    (ap₂ ◌++◌
    (texts-joined ks (λ j. omega (arith, once j)) room.1 own (λ k h. same k (omega arith) ∙ ap (λ (f : Forest). text_in (content f)) (find-below k n c ks later (once k) h)))
    (texts-joined later (λ j. omega (arith, once j)) room.2 own (λ k h. same k (omega arith) ∙ ap (λ (f : Forest). text_in (content f)) (find-behind k n c ks later (once k) h)))
    ∙ sym (joined-append own (numbers ks) (numbers later)))

room_kids : (g : Forest) → HaveRoom g → HaveRoom (children g)
room_kids empty room = tt
room_kids (node n c ks later) room = room.1

is_in-times : (k : ℕ) (ns : List ℕ) → 0 < times k ns → is_in ns k ≡ true
is_in-times k [] h = absurd (omega arith)
is_in-times k (n ∷ ns) h =
    elim (same_cases k n) [
      | inl p ↦ ap (λ b. b || is_in ns k) (eq-eqb n k (sym p.0))
      | inr p ↦ ap (λ b. b || is_in ns k) (ne_eqb n k (λ e. p.0 (sym e))) ∙ is_in-times k ns (omega arith)
    ]

module _ (t : Tree) (tree : IsTree t) (x : ℕ) (here : IsElement t x) where
  pub once_below : (m : ℕ) → times m (below t x) ≤ 1
  once_below m =
      let h = top_counted t tree x here in
      omega (arith, ap (times m) (order_is t tree x here), times-numbers m (part t x), once-branch (rooted t.nodes) tree.once x h m)

  -- the text content is that of the nodes below, in order
  text_content-joined : text_content t x ≡ joined (own_text t) (numbers (kids t x))
  text_content-joined =
      let nz = not_document t tree x here in
      let h = top_counted t tree x here in
      ap texts (inner-rooted t tree x nz)
      ∙ texts-joined (kids t x) (once-kids (rooted t.nodes) tree.once x h)
      (rw (find-rooted x t.nodes nz) (room_kids (find x t.nodes) (room-find x t.nodes (room-tree t tree))))
      (own_text t)
      (λ k c. ap (λ (f : Forest). text_in (content f)) (inside k x (rooted t.nodes) tree.once c).1)

  top_there : 0 < times x (below t x)
  top_there = elim (same_cases x x) [ inl p ↦ omega (arith, p.1) | inr p ↦ absurd (p.0 refl) ]

  pub top_in : is_in (below t x) x ≡ true
  top_in = is_in-times x (below t x) top_there

  pub step_in : (o : Option ℕ) (k : ℕ) → o ≡ Some k → ((m : ℕ) → o ≡ Some m → 0 < times m (below t x)) → is_in (below t x) k ≡ true
  step_in o k e there = is_in-times k (below t x) (there k e)

  -- the walk begins behind the element
  pub walk_start : (o : Option ℕ) → o ≡ behind x (below t x) → (left_at o (below t x) ≡ numbers (kids t x)) × ((m : ℕ) → o ≡ Some m → 0 < times m (below t x))
  walk_start o e = (
    ap (λ (p : Option ℕ). left_at p (below t x)) e ∙ left_at-behind x (below t x) once_below ∙ ap rest_of tail_top,
    λ m q. behind-times x m (below t x) (sym e ∙ q),
  )
    where
      tail_top : tail x (below t x) ≡ below t x
      tail_top = rw (eq-eqb x x refl) refl

  pub text_start : (o : Option ℕ) → o ≡ behind x (below t x) → joined (own_text t) (left_at o (below t x)) ≡ text_content t x
  text_start o e = ap (joined (own_text t)) (walk_start o e).0 ∙ sym text_content-joined

  module _ (o next : Option ℕ) (k : ℕ) (at : o ≡ Some k) (there : (m : ℕ) → o ≡ Some m → 0 < times m (below t x)) (on : next ≡ behind k (below t x)) where
    -- the text of one more node
    pub text_step : joined (own_text t) (left_at o (below t x)) ≡ own_text t k ++ joined (own_text t) (left_at next (below t x))
    text_step =
        ap (joined (own_text t)) (left_was (below t x) once_below o next k at there on)
        ∙ ap (λ (ns : List ℕ). own_text t k ++ joined (own_text t) ns) (sym (left_is (below t x) once_below o next k at there on))

    pub text_goes_on : (before new : List ℕ) → before ++ joined (own_text t) (left_at o (below t x)) ≡ text_content t x → new ≡ before ++ own_text t k →
        new ++ joined (own_text t) (left_at next (below t x)) ≡ text_content t x
    text_goes_on before new h e =
        ap (λ (l : List ℕ). l ++ joined (own_text t) (left_at next (below t x))) e
        ∙ append_assoc before (own_text t k) (joined (own_text t) (left_at next (below t x)))
        ∙ ap (λ (l : List ℕ). before ++ l) (sym text_step) ∙ h

    pub units_go_on : (wanted left new : ℕ) → wanted - text_length t x ≡ left - utf16_length (joined (own_text t) (left_at o (below t x))) → IsUtf8 (own_text t k) →
        new ≡ left - utf16_length (own_text t k) → wanted - text_length t x ≡ new - utf16_length (joined (own_text t) (left_at next (below t x)))
    units_go_on wanted left new h valid e =
        let a : utf16_length (joined (own_text t) (left_at o (below t x))) ≡ utf16_length (own_text t k) + utf16_length (joined (own_text t) (left_at next (below t x))) =
        ap utf16_length text_step ∙ ap units (chars-append (own_text t k) (joined (own_text t) (left_at next (below t x))) valid)
        ∙ units-append (chars (own_text t k)) (chars (joined (own_text t) (left_at next (below t x)))) in
        omega (arith, h, e, a)
      where
        units-append : (xs ys : List ℕ) → units (xs ++ ys) ≡ units xs + units ys
        units-append [] ys = omega arith
        units-append (c ∷ xs) ys = omega (arith, units-append xs ys)

  pub units_start : (o : Option ℕ) → o ≡ behind x (below t x) → (wanted : ℕ) → wanted - text_length t x ≡ wanted - utf16_length (joined (own_text t) (left_at o (below t x)))
  units_start o e wanted = ap (λ (l : List ℕ). wanted - utf16_length l) (sym (text_start o e))

-- all are there where none is left
pub enough : (wanted length left more : ℕ) → wanted - length ≡ left - more → left ≡ 0 → true ≡ nat_le wanted length
enough wanted length left more h z = sym (le-leb wanted length (omega arith))

pub by_left : (wanted length left : ℕ) (r : Bool) → wanted - length ≡ left → r ≡ (left == 0) → r ≡ nat_le wanted length
by_left wanted length left r h e =
    elim (cases_eq left 0) [
      | inl z ↦ e ∙ eq-eqb left 0 z ∙ enough wanted length left 0 (omega arith) z
      | inr z ↦ e ∙ ne_eqb left 0 z ∙ sym (lt-leb wanted length (omega arith))
    ]

pub end_text : (own : ℕ → List ℕ) (o : Option ℕ) (order before whole : List ℕ) → o ≡ None → before ++ joined own (left_at o order) ≡ whole → before ≡ whole
end_text own o order before whole e h =
    sym (ap (λ (p : Option ℕ). before ++ joined own (left_at p order)) e ∙ append-nil before) ∙ h

pub end_units : (own : ℕ → List ℕ) (o : Option ℕ) (order : List ℕ) (wanted length left : ℕ) → o ≡ None → wanted - length ≡ left - utf16_length (joined own (left_at o order)) → wanted - length ≡ left
end_units own o order wanted length left e h =
    h ∙ ap (λ (p : Option ℕ). left - utf16_length (joined own (left_at p order))) e ∙ ap (λ (cs : List ℕ). left - units cs) chars-nil ∙ omega arith
