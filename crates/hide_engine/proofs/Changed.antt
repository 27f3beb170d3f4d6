-- What a change leaves in the tree: the nodes that it names, and each element but those that went.
use Rattle.std.proofs.Common.{◌≡◌, ℕ, ◌<◌, ◌+◌, Bool, true, false, ◌==◌, not, List, [], Some, None, refl, sym, ap, subst, ◌∙◌, inl, inr, arith}
use Rattle.std.specs.Prelude.{unwrap_or}
use Rattle.std.proofs.lemmas.Bool.{cases_eq}
use Rattle.page_tree.specs.Forest.{document, element, text, comment, Forest, empty, node, Tree, same, count, find, children, content}
use Rattle.page_tree.specs.Edits.{alone}
use Rattle.page_tree.specs.Standings.{all}
use Rattle.page_tree.specs.Directions.{is_in}
use Rattle.page_tree.specs.Refusals.{parent_among, parent_refused}
use Rattle.page_tree.specs.Trees.{AreOrdinary, IsTree}
use Rattle.page_tree.proofs.Elements.{is_element, is_in-all, once-tree, room-tree}
use Rattle.page_tree.proofs.Finding.{same_cases, find-none, find-rooted}
use Rattle.page_tree.proofs.Keeps.{Every-find}
use Rattle.page_tree.proofs.Parts.{inside}
use Rattle.page_tree.proofs.Totals.{count-with_content}
use Rattle.page_tree.specs.Trees.{IsOrdinary}
use Rattle.selector_meaning.specs.Texts.{Bytes}
use Rattle.sensor_meaning.specs.declared.change.Change.{Change}
use Rattle.sensor_meaning.specs.declared.change.Change.TheVariants.{Attr as AttrOf, Chars, Came, Went, Moved, Path as PathOf}
use Rattle.sensor_meaning.specs.Changes.{IsChild, SetsAttr, SetsText, Becomes}
use Rattle.sensor_laws.proofs.Any.{here, and_parts, and-true}
use Rattle.sensor_laws.proofs.Relations.{cases}
use Rattle.sensor_laws.proofs.Events.{cut, IsPart, event_of}
use Rattle.sensor_laws.proofs.PartFrames.{in_left}
use Rattle.sensor_laws.proofs.MovedFrame.{moved_frame}
use Rattle.sensor_laws.proofs.Completeness.{attr_frame, chars_frame}
use Rattle.sensor_laws.proofs.Tops.{numbered, nodes_once, goes_with, is_part, without_part, cut_one, parent_counted}
use Rattle.sensor_laws.specs.Frame.{Frame}
use Rattle.change_laws.proofs.Came.{only, one_child}
use Rattle.change_laws.proofs.Made.{well_formed}
use Rattle.dependency_sets.specs.Reaching.{IsPlace}
use Rattle.dependency_sets.specs.Named.{IsNamed}
use Rattle.dependency_sets.proofs.Nearby.{place_cases, place_element}
use Rattle.dependency_sets.proofs.Touched.{parent_place}

-- ---- places

-- the parent of a node
child_place : (t : Tree) → IsTree t → (n p : ℕ) → IsChild n p t → IsPlace t p
child_place t tree n p held =
    subst (IsPlace t) (ap (λ o. unwrap_or o 0) held) (parent_place t tree n (parent_counted n p 0 t.nodes held))

-- what may have children
parent_fits : (t : Tree) → IsTree t → (p : ℕ) → parent_refused p t ≡ None → IsPlace t p
parent_fits t tree p h =
    elim (cases_eq p 0) [
      | inl z ↦ subst (IsPlace t) (sym z) (here 0 (all t))
      | inr other ↦ place_element t tree p
          (is_in-all t (once-tree t tree) (room-tree t tree) p
          ∙ fits (find p t.nodes) (Every-find (λ c kids. IsOrdinary c) p t.nodes tree.ordinary) (ap (parent_among p) (sym (find-rooted p t.nodes other)) ∙ h))
    ]
  where
    fits : (f : Forest) → AreOrdinary f → parent_among p f ≡ None → is_element (content f) ≡ true
    fits empty o e = absurd (let no : parent_among p empty ≡ None = e in cc)
    fits (node n document kids later) o e = absurd (o.0)
    fits (node n (element called given) kids later) o e = refl
    fits (node n (text b) kids later) o e = absurd (let no : parent_among p (node n (text b) kids later) ≡ None = e in cc)
    fits (node n (comment b) kids later) o e = absurd (let no : parent_among p (node n (comment b) kids later) ≡ None = e in cc)

-- something went
abbrev pub IsWent : Change → Type 0
IsWent (Went p) = Unit {0}
IsWent _ = ⊥

module _ (t u : Tree) (old : IsTree t) (new : IsTree u) where
  -- a place stays one
  stays_place : (p : ℕ) → (is_in (all t) p ≡ true → is_in (all u) p ≡ true) → IsPlace t p → IsPlace u p
  stays_place p keeps h = elim (place_cases t old p h) [
    | inl z ↦ subst (IsPlace u) (sym z) (here 0 (all u))
    | inr e ↦ place_element u new p (keeps e)
  ]

  -- ---- an attribute or a text

  attr_named : (n : ℕ) (name : Bytes) → SetsAttr n name t u → IsPlace u n
  attr_named n name sets =
      place_element u new n
      (sym ((attr_frame n name t u [] (well_formed t old) sets).stays n refl)
      ∙ is_in-all t (once-tree t old) (room-tree t old) n ∙ ap is_element sets.was)

  text_named : (n : ℕ) → SetsText n t u → 0 < count n u.nodes
  text_named n sets =
      elim (cases_eq (count n t.nodes) 0) [
        | inl z ↦ absurd (let no : None ≡ Some (text sets.before) = sym (ap content (find-none n t.nodes z)) ∙ sets.was in cc)
        | inr there ↦ omega (arith, count-with_content n n (text sets.after) t.nodes, ap (count n) sets.becomes)
      ]

  -- ---- children that came

  module _ (p : ℕ) (tops : List ℕ) (path route : Bytes) (c : Becomes (Came p tops) t path u route) where
    came_keeps : (x : ℕ) → is_in (all t) x ≡ true → is_in (all u) x ≡ true
    came_keeps x h =
        let b = well_formed u new in
        let gone = goes_with (is_in tops) u.nodes in
        let part = is_part (is_in tops) u b gone (λ x. refl) p (λ x h i. c.1 x h) in
        let is : cut t.next gone u ≡ t = ap (λ (f : Forest). record { nodes = f; next = t.next }) (sym (c.2 ∙ without_part (is_in tops) u b gone (λ x. refl))) in
        (and_parts (not (gone x)) (is_in (all u) x)
        (sym (in_left t.next (is_in tops) gone p u (numbered u b) part x) ∙ ap (λ (w : Tree). is_in (all w) x) is ∙ h)).1

  -- ---- a child that went

  module _ (p : ℕ) (path route : Bytes) (c : Becomes (Went p) t path u route) where
    went_named : IsPlace u p
    went_named =
        let a = well_formed t old in
        let n = c.1.0 in
        let gone = goes_with (only n) t.nodes in
        let part = is_part (only n) t a gone (λ x. refl) p (one_child n p t c.1.1) in
        let is : cut u.next gone t ≡ u = ap (λ (f : Forest). record { nodes = f; next = u.next }) (sym (c.1.2 ∙ without_part (only n) t a gone (λ x. refl))) in
        stays_place p
        (λ h. sym (ap (λ (w : Tree). is_in (all w) p) is) ∙ in_left u.next (only n) gone p t (numbered t a) part p
        ∙ and-true (not (gone p)) (is_in (all t) p) (ap not part.place_stays) h)
        (child_place t old n p c.1.1)

  -- ---- a node that moved

  alone_children : (f : Forest) → children (alone f) ≡ children f
  alone_children empty = refl
  alone_children (node n c kids later) = refl

  alone_content : (f : Forest) → content (alone f) ≡ content f
  alone_content empty = refl
  alone_content (node n c kids later) = refl

  module _ (n p q : ℕ) (path route : Bytes) (c : Becomes (Moved n p q) t path u route) where
    gone : ℕ → Bool
    gone = goes_with (only n) t.nodes

    below : children (find n t.nodes) ≡ children (find n u.nodes)
    below = sym (alone_children (find n t.nodes)) ∙ ap children c.3 ∙ alone_children (find n u.nodes)

    same_gone : (x : ℕ) → gone x ≡ goes_with (only n) u.nodes x
    unfolding gone
    same_gone x = ap (λ m. not (m == 0))
        (cut_one n x t.nodes (nodes_once t (well_formed t old)) (parent_counted n p 0 t.nodes c.1) ∙ ap (λ (f : Forest). same x n + count x f) below
        ∙ sym (cut_one n x u.nodes (nodes_once u (well_formed u new)) (parent_counted n q 0 u.nodes c.2)))

    part_before : IsPart (only n) gone p t
    unfolding gone
    part_before = is_part (only n) t (well_formed t old) gone (λ x. refl) p (one_child n p t c.1)

    part_after : IsPart (only n) gone q u
    part_after = is_part (only n) u (well_formed u new) gone same_gone q (one_child n q u c.2)

    frame : Frame (event_of (Moved n p q) gone t path u path)
    unfolding gone
    frame =
        moved_frame n (only n) gone p q t u path (numbered t (well_formed t old)) (numbered u (well_formed u new)) part_before part_after
        (sym (without_part (only n) t (well_formed t old) gone (λ x. refl)) ∙ c.4 ∙ without_part (only n) u (well_formed u new) gone same_gone)

    -- what moved is the same
    same_content : (x : ℕ) → gone x ≡ true → content (find x t.nodes) ≡ content (find x u.nodes)
    unfolding gone
    same_content x g = elim (same_cases x n) [
      | inl at ↦ ap (λ k. content (find k t.nodes)) at.0
          ∙ sym (alone_content (find n t.nodes)) ∙ ap content c.3 ∙ alone_content (find n u.nodes)
          ∙ ap (λ k. content (find k u.nodes)) (sym at.0)
      | inr apart ↦
          let there : 0 < count x (children (find n t.nodes)) = counted (cut_one n x t.nodes (nodes_once t (well_formed t old)) (parent_counted n p 0 t.nodes c.1)) apart.1 g in
          let a = inside x n t.nodes (nodes_once t (well_formed t old)) there in
          let b = inside x n u.nodes (nodes_once u (well_formed u new)) (subst (λ (f : Forest). 0 < count x f) below there) in
          ap content (a.1 ∙ ap (find x) below ∙ sym b.1)
    ]
      where
        counted : {k m : ℕ} → k ≡ same x n + m → same x n ≡ 0 → not (k == 0) ≡ true → 0 < m
        counted {k} {m} e z h = elim (cases_eq k 0) [
          | inl none ↦ absurd (let no : false ≡ true = sym (ap (λ b. not b) (Rattle.std.proofs.lemmas.Bool.eq-eqb k 0 none)) ∙ h in cc)
          | inr some ↦ omega arith
        ]

    moved_keeps : (x : ℕ) → is_in (all t) x ≡ true → is_in (all u) x ≡ true
    moved_keeps x h = cases (gone x)
        (λ g. is_in-all u (once-tree u new) (room-tree u new) x ∙ ap is_element (sym (same_content x g)) ∙ sym (is_in-all t (once-tree t old) (room-tree t old) x) ∙ h)
        (λ g. sym (frame.stays x g) ∙ h)

  -- ---- each change

  -- the numbers that a change names are nodes of the tree after it; where nodes came, by the parent before
  pub named : (change : Change) (path route : Bytes) → Becomes change t path u route → ((p : ℕ) (tops : List ℕ) → change ≡ Came p tops → parent_refused p t ≡ None) → IsNamed change u
  named (AttrOf n name) path route c fits = attr_named n name c.1
  named (Chars n) path route c fits = text_named n c.1
  named (Came p tops) path route c fits = stays_place p (came_keeps p tops path route c p) (parent_fits t old p (fits p tops refl))
  named (Went p) path route c fits = went_named p path route c
  named (Moved n p q) path route c fits =
      (stays_place p (moved_keeps n p q path route c p) (child_place t old n p c.1), child_place u new n q c.2)
  named PathOf path route c fits = tt

  -- only what went is in the tree no more
  pub keeps : (change : Change) (path route : Bytes) → Becomes change t path u route → (IsWent change → ⊥) → (x : ℕ) → is_in (all t) x ≡ true → is_in (all u) x ≡ true
  keeps (AttrOf n name) path route c other x h = sym ((attr_frame n name t u [] (well_formed t old) c.1).stays x refl) ∙ h
  keeps (Chars n) path route c other x h = sym ((chars_frame n t u [] (well_formed t old) c.1).stays x refl) ∙ h
  keeps (Came p tops) path route c other x h = came_keeps p tops path route c x h
  keeps (Went p) path route c other x h = absurd (other tt)
  keeps (Moved n p q) path route c other x h = moved_keeps n p q path route c x h
  keeps PathOf path route c other x h = ap (λ (w : Tree). is_in (all w) x) (sym c) ∙ h
