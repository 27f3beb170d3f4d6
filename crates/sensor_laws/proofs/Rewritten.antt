-- The facts of a change that gives elements other attributes, or Text nodes below a place other texts.
use Rattle.std.proofs.Common.{◌≡◌, ℕ, ◌+◌, ◌<◌, ◌≤◌, Bool, true, false, ◌&&◌, ◌||◌, ◌==◌, ◌⊎◌, inl, inr, List, [], ◌∷◌, ◌++◌, length, cond, Some, refl, sym, ap, ap₂, subst, ◌∙◌, arith}
use Rattle.std.proofs.lemmas.Bool.{eqb-true, eq-eqb}
use Rattle.std.proofs.lemmas.List.{map-append}
use Rattle.page_tree.specs.Forest.{Content, document, element, text, comment, Forest, empty, node, Tree, count, find, content, parent_in, value_at}
use Rattle.page_tree.specs.Edits.{with_content}
use Rattle.page_tree.specs.Standings.{Sibling, Standing, siblings_of, standings, elements, all}
use Rattle.page_tree.specs.Facts.{texts, is_blank}
use Rattle.page_tree.specs.Directions.{is_in}
use Rattle.page_tree.specs.Trees.{AreOrdinary}
use Rattle.page_tree.proofs.Finding.{same_cases, find-first, find-below, find-behind}
use Rattle.page_tree.proofs.Around.{where_is, parent_in-below, parent_in-behind}
use Rattle.page_tree.proofs.Parts.{parent_some}
use Rattle.selector_meaning.specs.Texts.{Bytes}
use Rattle.sensor_meaning.specs.declared.sensor.Observes.TheVariants.{Attr, AnyAttr, Text}
use Rattle.sensor_laws.specs.Frame.{Event, Frame, IsDistinct, IsNear, at_place, above_place, touched}
use Rattle.sensor_laws.proofs.Any.{never_true, or_parts, or_none, or-right, no, both, here}
use Rattle.sensor_laws.proofs.Relations.{cases}
use Rattle.sensor_laws.proofs.Events.{IsNumbered}
use Rattle.sensor_laws.proofs.Sound.{In, in-left, in-right, in-either, named, in_named, above_is}
use Rattle.sensor_laws.proofs.Facts.{Kept, frame_of}

-- a content with other attributes, or another text
abbrev pub redo : (ℕ → List (Bytes × Bytes) → List (Bytes × Bytes)) → (ℕ → Bytes → Bytes) → ℕ → Content → Content
redo fa ft n document = document
redo fa ft n (element called given) = element called (fa n given)
redo fa ft n (text b) = text (ft n b)
redo fa ft n (comment b) = comment b

abbrev pub redone : (ℕ → List (Bytes × Bytes) → List (Bytes × Bytes)) → (ℕ → Bytes → Bytes) → Forest → Forest
redone fa ft empty = empty
redone fa ft (node n c kids rest) = node n (redo fa ft n c) (redone fa ft kids) (redone fa ft rest)

module _ (e : Event) (fa : ℕ → List (Bytes × Bytes) → List (Bytes × Bytes)) (ft : ℕ → Bytes → Bytes) (p : ℕ) where
  -- under h: where a content becomes another one, its attribute is touched, or its text stands directly under p
  abbrev pub Fits : ℕ → ℕ → Content → Type 0
  Fits h n document = ⊥
  Fits h n (element called given) =
      ((key : Bytes) → touched e (Attr key) n ≡ false → value_at key given ≡ value_at key (fa n given))
      × (touched e AnyAttr n ≡ false → given ≡ fa n given)
  Fits h n (text b) = (ft n b ≡ b) ⊎ (h ≡ p)
  Fits h n (comment b) = Unit {0}

  abbrev pub AllFit : ℕ → Forest → Type 0
  AllFit h empty = Unit {0}
  AllFit h (node n c kids rest) = Fits h n c × AllFit n kids × AllFit h rest

  same_siblings : (f : Forest) → siblings_of f ≡ siblings_of (redone fa ft f)
  same_siblings empty = refl
  same_siblings (node n document kids rest) = same_siblings rest
  same_siblings (node n (element called given) kids rest) = ap (λ l. record { number = n; name = called } ∷ l) (same_siblings rest)
  same_siblings (node n (text b) kids rest) = same_siblings rest
  same_siblings (node n (comment b) kids rest) = same_siblings rest

  -- the text is of another parent
  elsewhere : (n h : ℕ) (b : Bytes) → (ft n b ≡ b) ⊎ (h ≡ p) → (h == p) ≡ false → b ≡ ft n b
  elsewhere n h b (inl is) a = sym is
  elsewhere n h b (inr is) a = absurd (both (h == p) (eq-eqb h p is) a)

  same_blank : (f : Forest) (h : ℕ) → AllFit h f → (h == p) ≡ false → is_blank f ≡ is_blank (redone fa ft f)
  same_blank empty h s a = refl
  same_blank (node n document kids rest) h s a = absurd s.0
  same_blank (node n (element called given) kids rest) h s a = refl
  same_blank (node n (text b) kids rest) h s a = ap₂ (λ x y. length x == 0 && y) (elsewhere n h b s.0 a) (same_blank rest h s.2 a)
  same_blank (node n (comment b) kids rest) h s a = same_blank rest h s.2 a

  -- the place is an element of the forest
  abbrev has : Forest → Bool
  has empty = false
  has (node n document kids rest) = has rest
  has (node n (element called given) kids rest) = (n == p) || (has kids || has rest)
  has (node n (text b) kids rest) = has rest
  has (node n (comment b) kids rest) = has rest

  same_texts : (f : Forest) (h : ℕ) → AllFit h f → (h == p) ≡ false → has f ≡ false → texts f ≡ texts (redone fa ft f)
  same_texts empty h s a none = refl
  same_texts (node n document kids rest) h s a none = absurd s.0
  same_texts (node n (element called given) kids rest) h s a none =
      let k = or_none (n == p) (has kids || has rest) none in
      let j = or_none (has kids) (has rest) k.1 in
      ap₂ ◌++◌ (same_texts kids n s.1 k.0 j.0) (same_texts rest h s.2 a j.1)
  same_texts (node n (text b) kids rest) h s a none = ap₂ ◌++◌ (elsewhere n h b s.0 a) (same_texts rest h s.2 a none)
  same_texts (node n (comment b) kids rest) h s a none = same_texts rest h s.2 a none

  abbrev Placed : List ℕ → List Standing → Type 0
  Placed up xs = (q : Standing) × In q xs × (q.number ≡ p) × ((z : ℕ) → is_in up z ≡ true → is_in q.above z ≡ true)

  found_place : (f : Forest) (up : List ℕ) (seen : List Sibling) → has f ≡ true → Placed up (standings up seen (redone fa ft f))
  found_place empty up seen m = never_true m
  found_place (node n document kids rest) up seen m = found_place rest up seen m
  found_place (node n (element called given) kids rest) up seen m =
      let b : Sibling = record { number = n; name = called } in
      let K = standings (n ∷ up) [] (redone fa ft kids) in
      let R = standings up (b ∷ seen) (redone fa ft rest) in
      elim (or_parts (n == p) (has kids || has rest) m) [
        | inl is ↦ (
          record { number = n; name = called; attrs = fa n given; above = up; before = seen; after = siblings_of (redone fa ft rest); inner = redone fa ft kids },
          inl refl,
          eqb-true n p is,
          λ z i. i,
        )
        | inr j ↦ elim (or_parts (has kids) (has rest) j) [
          | inl i ↦ (let q = found_place kids (n ∷ up) [] i in (q.0, inr (in-left q.0 K R q.1), q.2, λ z w. q.3 z (or-right (n == z) (is_in up z) w)))
          | inr i ↦ (let q = found_place rest up (b ∷ seen) i in (q.0, inr (in-right q.0 K R q.1), q.2, q.3))
        ]
      ]
  found_place (node n (text b) kids rest) up seen m = found_place rest up seen m
  found_place (node n (comment b) kids rest) up seen m = found_place rest up seen m

  same_numbers : (f : Forest) (up vp : List ℕ) (seen sean : List Sibling) → named (standings up seen f) ≡ named (standings vp sean (redone fa ft f))
  same_numbers empty up vp seen sean = refl
  same_numbers (node n document kids rest) up vp seen sean = same_numbers rest up vp seen sean
  same_numbers (node n (element called given) kids rest) up vp seen sean =
      let b : Sibling = record { number = n; name = called } in
      ap (λ l. n ∷ l)
      (map-append (λ r. r.number) (standings (n ∷ up) [] kids) (standings up (b ∷ seen) rest)
      ∙ ap₂ ◌++◌ (same_numbers kids (n ∷ up) (n ∷ vp) [] []) (same_numbers rest up vp (b ∷ seen) (b ∷ sean))
      ∙ sym (map-append (λ r. r.number) (standings (n ∷ vp) [] (redone fa ft kids)) (standings vp (b ∷ sean) (redone fa ft rest))))
  same_numbers (node n (text b) kids rest) up vp seen sean = same_numbers rest up vp seen sean
  same_numbers (node n (comment b) kids rest) up vp seen sean = same_numbers rest up vp seen sean

  -- the two trees of the event; p is a place of a text, or no element
  module _ (old_tree : IsNumbered e.old) (is_redone : e.new.nodes ≡ redone fa ft e.old.nodes) (fit : AllFit 0 e.old.nodes)
      (placed : (touched e Text p ≡ true) ⊎ (p ≡ 0)) (still : (x : ℕ) → e.moved x ≡ false) (same_path : e.old_path ≡ e.new_path) where
    same_all : all e.old ≡ all e.new
    unfolding elements
    same_all = same_numbers e.old.nodes [] [] [] [] ∙ ap (λ (f : Forest). named (standings [] [] f)) (sym is_redone)

    new_tree : IsNumbered e.new
    new_tree = record {
      distinct = subst IsDistinct same_all old_tree.distinct;
      lone = subst (λ (l : List ℕ). is_in l 0 ≡ false) same_all old_tree.lone;
    }

    at_p : (n : ℕ) → is_in (all e.new) n ≡ true → n ≡ p → touched e Text n ≡ true
    at_p n i is = elim placed [
      | inl h ↦ ap (touched e Text) is ∙ h
      | inr z ↦ absurd (both (is_in (all e.new) 0) (ap (is_in (all e.new)) (sym (is ∙ z)) ∙ i) new_tree.lone)
    ]

    near_by : (x : ℕ) (q : Standing) → In q (elements e.new) → q.number ≡ p → is_in q.above x ≡ true → IsNear e Text x
    near_by x q i num a =
        above_place q.number (at_p q.number (in_named q (elements e.new) i) num) (in_named q (elements e.new) i)
        (ap (λ l. is_in l x) (above_is e.new new_tree.distinct new_tree.lone q.number q i refl) ∙ a)

    kept_in : (f : Forest) (h : ℕ) → AllFit h f → (up : List ℕ) (seen : List Sibling) →
        ((q : Standing) → In q (standings up seen (redone fa ft f)) → In q (elements e.new)) →
        (x : Standing) → In x (standings up seen f) → (r : Standing) × In r (standings up seen (redone fa ft f)) × Kept e x r
    kept_in empty h s up seen lift x i = absurd i
    kept_in (node n document kids rest) h s up seen lift x i = absurd s.0
    kept_in (node n (element called given) kids rest) h s up seen lift x (inl is) =
        let b : Sibling = record { number = n; name = called } in
        let K = standings (n ∷ up) [] (redone fa ft kids) in
        let R = standings up (b ∷ seen) (redone fa ft rest) in
        let r : Standing = record { number = n; name = called; attrs = fa n given; above = up; before = seen; after = siblings_of (redone fa ft rest); inner = redone fa ft kids } in
        let there : is_in (all e.new) n ≡ true = in_named r (elements e.new) (lift r (inl refl)) in (
          r,
          inl refl,
          subst (λ (y : Standing). Kept e y r) is (record {
            number = refl;
            name = refl;
            above = refl;
            beside = inl (refl, same_siblings rest);
            attr = s.0.0;
            attrs = s.0.1;
            blank = λ q. same_blank kids n s.1 (no (n == p) (λ k. both (touched e Text n) (at_p n there (eqb-true n p k)) q));
            said = cases (n == p)
                (λ k. inr (at_place (at_p n there (eqb-true n p k))))
                (λ k. cases (has kids)
                (λ w. let q = found_place kids (n ∷ up) [] w in inr (near_by n q.0 (lift q.0 (inr (in-left q.0 K R q.1))) q.2 (q.3 n (here n up))))
                (λ w. inl (same_texts kids n s.1 k w)));
          }),
        )
    kept_in (node n (element called given) kids rest) h s up seen lift x (inr i) =
        let b : Sibling = record { number = n; name = called } in
        let K = standings (n ∷ up) [] (redone fa ft kids) in
        let R = standings up (b ∷ seen) (redone fa ft rest) in
        elim (in-either x (standings (n ∷ up) [] kids) (standings up (b ∷ seen) rest) i) [
          | inl j ↦ (let r = kept_in kids n s.1 (n ∷ up) [] (λ q w. lift q (inr (in-left q K R w))) x j in (r.0, inr (in-left r.0 K R r.1), r.2))
          | inr j ↦ (let r = kept_in rest h s.2 up (b ∷ seen) (λ q w. lift q (inr (in-right q K R w))) x j in (r.0, inr (in-right r.0 K R r.1), r.2))
        ]
    kept_in (node n (text b) kids rest) h s up seen lift x i = kept_in rest h s.2 up seen lift x i
    kept_in (node n (comment b) kids rest) h s up seen lift x i = kept_in rest h s.2 up seen lift x i

    stays : {X : Type 0} (x : ℕ) → e.moved x ≡ true → X
    stays x m = never_true (sym (still x) ∙ m)

    made : elements e.new ≡ standings [] [] (redone fa ft e.old.nodes)
    unfolding elements
    made = ap (λ (f : Forest). standings [] [] f) is_redone

    kept : (s : Standing) → In s (elements e.old) → (r : Standing) × In r (elements e.new) × Kept e s r
    unfolding elements
    kept s i =
        let r = kept_in e.old.nodes 0 fit [] [] (λ q w. subst (λ (l : List Standing). In q l) (sym made) w) s i in
        (r.0, subst (λ (l : List Standing). In r.0 l) (sym made) r.1, r.2)

    pub rewritten_frame : Frame e
    rewritten_frame = frame_of e (record {
      distinct_before = old_tree.distinct;
      distinct_after = new_tree.distinct;
      lone_before = old_tree.lone;
      lone_after = new_tree.lone;
      kept = λ s i m. kept s i;
      known_before = λ r i m. ap (λ l. is_in l r.number) same_all ∙ in_named r (elements e.new) i;
      hangs_before = λ s i m. stays s.number m;
      hangs_after = λ s i m. stays s.number m;
      all_below = λ s i m z a. still z;
      some_place = λ z m. stays z m;
      same_path = λ h. same_path;
    })

  -- one node k has another content
  module _ (k : ℕ) (old new : Content) (q : ℕ) (becomes : new ≡ redo fa ft k old) (fits : (h : ℕ) → h ≡ q → Fits h k old)
      (others : (n h : ℕ) (c : Content) → (k ≡ n → ⊥) → (redo fa ft n c ≡ c) × ((c ≡ document → ⊥) → Fits h n c)) where
    ordinary : (c : Content) → Rattle.page_tree.specs.Trees.IsOrdinary c → c ≡ document → ⊥
    ordinary c o is = subst (λ (d : Content). Rattle.page_tree.specs.Trees.IsOrdinary d) is o

    abbrev Done : ℕ → Forest → Type 0
    Done h f = (with_content k new f ≡ redone fa ft f) × AllFit h f

    absent : (f : Forest) (h : ℕ) → AreOrdinary f → count k f ≡ 0 → Done h f
    absent empty h o z = (refl, tt)
    absent (node n c kids rest) h o z =
        elim (same_cases k n) [
          | inl is ↦ absurd (omega arith)
          | inr is ↦
              let a = absent kids n o.1 (omega arith) in
              let b = absent rest h o.2 (omega arith) in
              let w = others n h c is.0 in (
                rw is.2 (ap (λ (d : Content). node n d (with_content k new kids) (with_content k new rest)) (sym w.0) ∙ ap₂ (node n (redo fa ft n c)) a.0 b.0),
                (w.1 (ordinary c o.0), a.1, b.1),
              )
        ]

    pub placed_in : (f : Forest) (h : ℕ) → AreOrdinary f → ((j : ℕ) → count j f ≤ 1) → 0 < count k f → content (find k f) ≡ Some old →
        parent_in k h f ≡ Some q → Done h f
    placed_in empty h o once z was held = absurd (omega arith)
    placed_in (node n c kids rest) h o once z was held =
        elim (where_is k n c kids rest z) [
          | inl is ↦
              let counted : count k kids + count k rest ≡ 0 = elim (same_cases k n) [ inl s ↦ omega (arith, once k) | inr s ↦ absurd (s.0 is) ] in
              let a = absent kids n o.1 (omega arith) in
              let b = absent rest h o.2 (omega arith) in
              let c_is : c ≡ old = some_content c old (sym (ap content (ap (λ j. find j (node n c kids rest)) is ∙ find-first n c kids rest)) ∙ was) in
              let h_is : h ≡ q = some_number h q (sym (ap (λ b. cond b (Some h) (Rattle.page_tree.specs.Forest.or_some (parent_in k n kids) (parent_in k h rest))) (eq-eqb k n is)) ∙ held) in (
                rw (eq-eqb k n is) (ap₂ (λ x y. node n new x y) a.0 b.0
                    ∙ ap (λ (d : Content). node n d (redone fa ft kids) (redone fa ft rest))
                    (becomes ∙ ap₂ (redo fa ft) is (sym c_is))),
                (subst (λ (j : ℕ). Fits h j c) is (subst (λ (d : Content). Fits h k d) (sym c_is) (fits h h_is)), a.1, b.1),
              )
          | inr more ↦
              let apart : k ≡ n → ⊥ = λ is. elim (same_cases k n) [ inl s ↦ elim more [ inl i ↦ omega (arith, once k) | inr i ↦ omega (arith, once k) ] | inr s ↦ s.0 is ] in
              let w = others n h c apart in
              let neq : (k == n) ≡ false = no (k == n) (λ e. apart (eqb-true k n e)) in
              elim more [
                | inl i ↦
                    let r = parent_some k n kids (λ j. omega (arith, once j)) i in
                    let r_is : r.0 ≡ q = some_number r.0 q (sym (parent_in-below k n c kids rest (once k) i h r.0 r.1) ∙ held) in
                    let a = placed_in kids n o.1 (λ j. omega (arith, once j)) i (ap content (sym (find-below k n c kids rest (once k) i)) ∙ was) (r.1 ∙ ap Some r_is) in
                    let b = absent rest h o.2 (omega (arith, once k)) in (
                      rw neq (ap (λ (d : Content). node n d (with_content k new kids) (with_content k new rest)) (sym w.0) ∙ ap₂ (node n (redo fa ft n c)) a.0 b.0),
                      (w.1 (ordinary c o.0), a.1, b.1),
                    )
                | inr i ↦
                    let a = absent kids n o.1 (omega (arith, once k)) in
                    let b = placed_in rest h o.2 (λ j. omega (arith, once j)) i (ap content (sym (find-behind k n c kids rest (once k) i)) ∙ was)
                    (sym (parent_in-behind k n c kids rest (once k) i h) ∙ held) in (
                      rw neq (ap (λ (d : Content). node n d (with_content k new kids) (with_content k new rest)) (sym w.0) ∙ ap₂ (node n (redo fa ft n c)) a.0 b.0),
                      (w.1 (ordinary c o.0), a.1, b.1),
                    )
              ]
        ]
      where
        some_content : (a b : Content) → Some a ≡ Some b → a ≡ b
        some_content a b is = cc (is)

        some_number : (a b : ℕ) → Some a ≡ Some b → a ≡ b
        some_number a b is = cc (is)
