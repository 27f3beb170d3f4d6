-- A forest with some children of a place, and all below them, taken out.
use Rattle.std.proofs.Common.{◌≡◌, ℕ, Bool, true, false, ◌&&◌, ◌||◌, ◌==◌, not, ◌⊎◌, inl, inr, List, [], ◌∷◌, ◌++◌, filter, length, cond, refl, sym, ap, ap₂, subst, ◌∙◌}
use Rattle.std.proofs.lemmas.Bool.{eqb-true, eq-eqb}
use Rattle.std.proofs.lemmas.List.{map-append}
use Rattle.page_tree.specs.Directions.{head_is, is_in}
use Rattle.page_tree.specs.Edits.{pruned}
use Rattle.page_tree.specs.Facts.{is_blank, texts}
use Rattle.page_tree.specs.Forest.{Content, Forest, comment, document, element, empty, node, text}
use Rattle.page_tree.specs.Standings.{Sibling, Standing, siblings_of, standings}
use Rattle.sensor_laws.proofs.Events.{Hung}
use Rattle.sensor_laws.specs.Frame.{IsDistinct}
use Rattle.sensor_laws.proofs.Any.{never_true, or_parts, or_none, or-right, no, both, here, and_parts, is_in-filter}
use Rattle.sensor_laws.proofs.Relations.{cases}
use Rattle.sensor_laws.proofs.Sound.{In, in-left, in-right, in-either, named}

filter-append : (f : ℕ → Bool) (xs ys : List ℕ) → filter f (xs ++ ys) ≡ filter f xs ++ filter f ys
filter-append f [] ys = refl
filter-append f (x ∷ xs) ys = case (f x) (filter-append f xs ys)
  where
    case : (b : Bool) → filter f (xs ++ ys) ≡ filter f xs ++ filter f ys →
        cond b (x ∷ filter f (xs ++ ys)) (filter f (xs ++ ys)) ≡ cond b (x ∷ filter f xs) (filter f xs) ++ filter f ys
    case true e = ap (λ l. x ∷ l) e
    case false e = e

filter-none : (f : ℕ → Bool) (xs : List ℕ) → ((x : ℕ) → is_in xs x ≡ true → f x ≡ false) → filter f xs ≡ []
filter-none f [] h = refl
filter-none f (x ∷ xs) h =
    ap (λ b. cond b (x ∷ filter f xs) (filter f xs)) (h x (here x xs)) ∙ filter-none f xs (λ z i. h z (or-right (x == z) (is_in xs z) i))

pub distinct-filter : (f : ℕ → Bool) (xs : List ℕ) → IsDistinct xs → IsDistinct (filter f xs)
distinct-filter f [] d = d
distinct-filter f (x ∷ xs) d = case (f x) (distinct-filter f xs d.1)
  where
    case : (b : Bool) → IsDistinct (filter f xs) → IsDistinct (cond b (x ∷ filter f xs) (filter f xs))
    case true k = (no (is_in (filter f xs) x) (λ h. both (is_in xs x) (and_parts (f x) (is_in xs x) (sym (is_in-filter f x xs) ∙ h)).1 d.0), k)
    case false k = k

pub named_in : (xs : List Standing) (x : ℕ) → is_in (named xs) x ≡ true → (s : Standing) × In s xs × (s.number ≡ x)
named_in [] x h = never_true h
named_in (y ∷ xs) x h = elim (or_parts (y.number == x) (is_in (named xs) x) h) [
  | inl e ↦ (y, inl refl, eqb-true y.number x e)
  | inr i ↦ (let r = named_in xs x i in (r.0, inr r.1, r.2))
]

module _ (top gone : ℕ → Bool) (p : ℕ) where
  abbrev stays : ℕ → Bool
  stays x = not (gone x)

  pub cut-gone : (n : ℕ) (c : Content) (kids rest : Forest) → gone n ≡ true → pruned gone (node n c kids rest) ≡ pruned gone rest
  cut-gone n c kids rest h = ap (λ b. cond b (pruned gone rest) (node n c (pruned gone kids) (pruned gone rest))) h

  pub cut-kept : (n : ℕ) (c : Content) (kids rest : Forest) → gone n ≡ false → pruned gone (node n c kids rest) ≡ node n c (pruned gone kids) (pruned gone rest)
  cut-kept n c kids rest h = ap (λ b. cond b (pruned gone rest) (node n c (pruned gone kids) (pruned gone rest))) h

  -- what stands below one that is gone is gone
  pub all_gone : (f : Forest) (h : ℕ) (up : List ℕ) (seen : List Sibling) (s : Standing) → Hung top gone p h f → gone h ≡ true → In s (standings up seen f) → gone s.number ≡ true
  all_gone empty h up seen s w g i = absurd i
  all_gone (node n (text b) kids rest) h up seen s w g i = all_gone rest h up seen s w.3 g i
  all_gone (node n document kids rest) h up seen s w g i = all_gone rest h up seen s w.3 g i
  all_gone (node n (comment b) kids rest) h up seen s w g i = all_gone rest h up seen s w.3 g i
  all_gone (node n (element name attrs) kids rest) h up seen s w g (inl is) = ap (λ (r : Standing). gone r.number) (sym is) ∙ w.1 g
  all_gone (node n (element name attrs) kids rest) h up seen s w g (inr i) =
      elim (in-either s (standings (n ∷ up) [] kids) (standings up (record { number = n; name = name } ∷ seen) rest) i) [
        | inl j ↦ all_gone kids n (n ∷ up) [] s w.2 (w.1 g) j
        | inr j ↦ all_gone rest h up (record { number = n; name = name } ∷ seen) s w.3 g j
      ]

  top_stays : (h n : ℕ) → (gone n ≡ true → ((h ≡ p) × (top n ≡ true)) ⊎ (gone h ≡ true)) → (h == p) ≡ false → gone h ≡ false → gone n ≡ false
  top_stays h n w a b = no (gone n) (λ g. elim (w g) [ inl e ↦ both (h == p) (eq-eqb h p e.0) a | inr k ↦ both (gone h) k b ])

  siblings_kept : (f : Forest) (h : ℕ) → Hung top gone p h f → (h == p) ≡ false → gone h ≡ false → siblings_of (pruned gone f) ≡ siblings_of f
  siblings_kept empty h w a b = refl
  siblings_kept (node n (text t) kids rest) h w a b = ap siblings_of (cut-kept n (text t) kids rest (top_stays h n w.0 a b)) ∙ siblings_kept rest h w.3 a b
  siblings_kept (node n document kids rest) h w a b = ap siblings_of (cut-kept n document kids rest (top_stays h n w.0 a b)) ∙ siblings_kept rest h w.3 a b
  siblings_kept (node n (comment t) kids rest) h w a b = ap siblings_of (cut-kept n (comment t) kids rest (top_stays h n w.0 a b)) ∙ siblings_kept rest h w.3 a b
  siblings_kept (node n (element name attrs) kids rest) h w a b =
      ap siblings_of (cut-kept n (element name attrs) kids rest (top_stays h n w.0 a b))
      ∙ ap (λ l. record { number = n; name = name } ∷ l) (siblings_kept rest h w.3 a b)

  blank_kept : (f : Forest) (h : ℕ) → Hung top gone p h f → (h == p) ≡ false → gone h ≡ false → is_blank (pruned gone f) ≡ is_blank f
  blank_kept empty h w a b = refl
  blank_kept (node n (text t) kids rest) h w a b =
      ap is_blank (cut-kept n (text t) kids rest (top_stays h n w.0 a b)) ∙ ap (λ k. length t == 0 && k) (blank_kept rest h w.3 a b)
  blank_kept (node n document kids rest) h w a b = ap is_blank (cut-kept n document kids rest (top_stays h n w.0 a b)) ∙ blank_kept rest h w.3 a b
  blank_kept (node n (comment t) kids rest) h w a b = ap is_blank (cut-kept n (comment t) kids rest (top_stays h n w.0 a b)) ∙ blank_kept rest h w.3 a b
  blank_kept (node n (element name attrs) kids rest) h w a b = ap is_blank (cut-kept n (element name attrs) kids rest (top_stays h n w.0 a b))

  -- the place is an element of the forest
  abbrev has : Forest → Bool
  has empty = false
  has (node n (element name attrs) kids rest) = (n == p) || (has kids || has rest)
  has (node n (text b) kids rest) = has rest
  has (node n document kids rest) = has rest
  has (node n (comment b) kids rest) = has rest

  texts_kept : (f : Forest) (h : ℕ) → Hung top gone p h f → (h == p) ≡ false → gone h ≡ false → has f ≡ false → texts (pruned gone f) ≡ texts f
  texts_kept empty h w a b none = refl
  texts_kept (node n (text t) kids rest) h w a b none =
      ap texts (cut-kept n (text t) kids rest (top_stays h n w.0 a b)) ∙ ap (λ k. t ++ k) (texts_kept rest h w.3 a b none)
  texts_kept (node n document kids rest) h w a b none = absurd w.4
  texts_kept (node n (comment t) kids rest) h w a b none = ap texts (cut-kept n (comment t) kids rest (top_stays h n w.0 a b)) ∙ texts_kept rest h w.3 a b none
  texts_kept (node n (element name attrs) kids rest) h w a b none =
      let k = or_none (n == p) (has kids || has rest) none in
      let j = or_none (has kids) (has rest) k.1 in
      let g = top_stays h n w.0 a b in
      ap texts (cut-kept n (element name attrs) kids rest g) ∙ ap₂ ◌++◌ (texts_kept kids n w.2 k.0 g j.0) (texts_kept rest h w.3 a b j.1)

  gone_has : (f : Forest) (h : ℕ) → Hung top gone p h f → gone h ≡ true → has f ≡ true → gone p ≡ true
  gone_has empty h w g m = never_true m
  gone_has (node n (text b) kids rest) h w g m = gone_has rest h w.3 g m
  gone_has (node n document kids rest) h w g m = gone_has rest h w.3 g m
  gone_has (node n (comment b) kids rest) h w g m = gone_has rest h w.3 g m
  gone_has (node n (element name attrs) kids rest) h w g m = elim (or_parts (n == p) (has kids || has rest) m) [
    | inl e ↦ ap gone (sym (eqb-true n p e)) ∙ w.1 g
    | inr k ↦ elim (or_parts (has kids) (has rest) k) [
      | inl j ↦ gone_has kids n w.2 (w.1 g) j
      | inr j ↦ gone_has rest h w.3 g j
    ]
  ]

  module _ (p_stays : gone p ≡ false) where
    abbrev Placed : List ℕ → List Standing → Type 0
    Placed up xs = (q : Standing) × In q xs × (q.number ≡ p) × ((z : ℕ) → is_in up z ≡ true → is_in q.above z ≡ true)

    found_place : (f : Forest) (h : ℕ) (up : List ℕ) (seen : List Sibling) → Hung top gone p h f → has f ≡ true → Placed up (standings up seen (pruned gone f))
    found_place empty h up seen w m = never_true m
    found_place (node n (text b) kids rest) h up seen w m =
        cases (gone n)
        (λ g. subst (λ (x : Forest). Placed up (standings up seen x)) (sym (cut-gone n (text b) kids rest g)) (found_place rest h up seen w.3 m))
        (λ g. subst (λ (x : Forest). Placed up (standings up seen x)) (sym (cut-kept n (text b) kids rest g)) (found_place rest h up seen w.3 m))
    found_place (node n document kids rest) h up seen w m =
        cases (gone n)
        (λ g. subst (λ (x : Forest). Placed up (standings up seen x)) (sym (cut-gone n document kids rest g)) (found_place rest h up seen w.3 m))
        (λ g. subst (λ (x : Forest). Placed up (standings up seen x)) (sym (cut-kept n document kids rest g)) (found_place rest h up seen w.3 m))
    found_place (node n (comment b) kids rest) h up seen w m =
        cases (gone n)
        (λ g. subst (λ (x : Forest). Placed up (standings up seen x)) (sym (cut-gone n (comment b) kids rest g)) (found_place rest h up seen w.3 m))
        (λ g. subst (λ (x : Forest). Placed up (standings up seen x)) (sym (cut-kept n (comment b) kids rest g)) (found_place rest h up seen w.3 m))
    found_place (node n (element name attrs) kids rest) h up seen w m =
        cases (gone n)
        (λ g. subst (λ (x : Forest). Placed up (standings up seen x)) (sym (cut-gone n (element name attrs) kids rest g))
        (elim (or_parts (n == p) (has kids || has rest) m) [
          | inl e ↦ absurd (both (gone p) (ap gone (sym (eqb-true n p e)) ∙ g) p_stays)
          | inr k ↦ elim (or_parts (has kids) (has rest) k) [
            | inl j ↦ absurd (both (gone p) (gone_has kids n w.2 g j) p_stays)
            | inr j ↦ found_place rest h up seen w.3 j
          ]
        ]))
        (λ g. subst (λ (x : Forest). Placed up (standings up seen x)) (sym (cut-kept n (element name attrs) kids rest g))
        (elim (or_parts (n == p) (has kids || has rest) m) [
          | inl e ↦ (
            record { number = n; name = name; attrs = attrs; above = up; before = seen; after = siblings_of (pruned gone rest); inner = pruned gone kids },
            inl refl,
            eqb-true n p e,
            λ z i. i,
          )
          | inr k ↦ elim (or_parts (has kids) (has rest) k) [
            | inl j ↦ (let q = found_place kids n (n ∷ up) [] w.2 j in
                (q.0, inr (in-left q.0 (standings (n ∷ up) [] (pruned gone kids)) _ q.1), q.2, λ z i. q.3 z (or-right (n == z) (is_in up z) i)))
            | inr j ↦ (let q = found_place rest h up (record { number = n; name = name } ∷ seen) w.3 j in
                (q.0, inr (in-right q.0 (standings (n ∷ up) [] (pruned gone kids)) _ q.1), q.2, q.3))
          ]
        ]))

    -- an element that stays, with and without what is gone
    pub record Twin (whole : List Standing) (s r : Standing) : Type 0 where
      pub number : s.number ≡ r.number
      pub name : s.name ≡ r.name
      pub above : s.above ≡ r.above
      pub attrs : s.attrs ≡ r.attrs
      pub beside : ((s.before ≡ r.before) × (s.after ≡ r.after)) ⊎ (head_is (r.above ++ 0 ∷ []) p ≡ true)
      pub blank : (s.number == p) ≡ false → is_blank s.inner ≡ is_blank r.inner
      pub said : (texts s.inner ≡ texts r.inner)
          ⊎ ((s.number ≡ p) ⊎ ((q : Standing) × In q whole × (q.number ≡ p) × (is_in q.above s.number ≡ true)))

    abbrev Twinned : List Standing → Standing → List Standing → Type 0
    Twinned whole s xs = (r : Standing) × In r xs × Twin whole s r

    module _ (whole : List Standing) where
      pub twin_in : (f : Forest) (h : ℕ) (up : List ℕ) (seen sean : List Sibling) → Hung top gone p h f → gone h ≡ false → head_is (up ++ 0 ∷ []) h ≡ true →
          ((seen ≡ sean) ⊎ (h ≡ p)) → ((q : Standing) → In q (standings up sean (pruned gone f)) → In q whole) →
          (s : Standing) → In s (standings up seen f) → gone s.number ≡ false → Twinned whole s (standings up sean (pruned gone f))
      twin_in empty h up seen sean w hs head rel lift s i k = absurd i
      twin_in (node n (text b) kids rest) h up seen sean w hs head rel lift s i k =
          let T : Forest → Type 0 = λ x. ((q : Standing) → In q (standings up sean x) → In q whole) → Twinned whole s (standings up sean x) in
          cases (gone n)
          (λ g. subst T (sym (cut-gone n (text b) kids rest g)) (λ l. twin_in rest h up seen sean w.3 hs head rel l s i k) lift)
          (λ g. subst T (sym (cut-kept n (text b) kids rest g)) (λ l. twin_in rest h up seen sean w.3 hs head rel l s i k) lift)
      twin_in (node n document kids rest) h up seen sean w hs head rel lift s i k =
          let T : Forest → Type 0 = λ x. ((q : Standing) → In q (standings up sean x) → In q whole) → Twinned whole s (standings up sean x) in
          cases (gone n)
          (λ g. subst T (sym (cut-gone n document kids rest g)) (λ l. twin_in rest h up seen sean w.3 hs head rel l s i k) lift)
          (λ g. subst T (sym (cut-kept n document kids rest g)) (λ l. twin_in rest h up seen sean w.3 hs head rel l s i k) lift)
      twin_in (node n (comment b) kids rest) h up seen sean w hs head rel lift s i k =
          let T : Forest → Type 0 = λ x. ((q : Standing) → In q (standings up sean x) → In q whole) → Twinned whole s (standings up sean x) in
          cases (gone n)
          (λ g. subst T (sym (cut-gone n (comment b) kids rest g)) (λ l. twin_in rest h up seen sean w.3 hs head rel l s i k) lift)
          (λ g. subst T (sym (cut-kept n (comment b) kids rest g)) (λ l. twin_in rest h up seen sean w.3 hs head rel l s i k) lift)
      twin_in (node n (element name attrs) kids rest) h up seen sean w hs head rel lift s (inl is) k =
          let T : Forest → Type 0 = λ x. ((q : Standing) → In q (standings up sean x) → In q whole) → Twinned whole s (standings up sean x) in
          let g : gone n ≡ false = ap (λ (r : Standing). gone r.number) is ∙ k in
          let r : Standing = record { number = n; name = name; attrs = attrs; above = up; before = sean; after = siblings_of (pruned gone rest); inner = pruned gone kids } in
          subst T (sym (cut-kept n (element name attrs) kids rest g))
          (λ l. (
            r,
            inl refl,
            subst (λ (z : Standing). Twin whole z r) is (record {
              number = refl;
              name = refl;
              above = refl;
              attrs = refl;
              beside = cases (h == p)
                  (λ e. inr (ap (head_is (up ++ 0 ∷ [])) (sym (eqb-true h p e)) ∙ head))
                  (λ e. elim rel [ inl same ↦ inl (same, sym (siblings_kept rest h w.3 e hs)) | inr hp ↦ absurd (both (h == p) (eq-eqb h p hp) e) ]);
              blank = λ e. sym (blank_kept kids n w.2 e g);
              said = cases (n == p)
                  (λ e. inr (inl (eqb-true n p e)))
                  (λ e. cases (has kids)
                  (λ m. let q = found_place kids n (n ∷ up) [] w.2 m in
                  inr (inr (q.0, l q.0 (inr (in-left q.0 (standings (n ∷ up) [] (pruned gone kids)) _ q.1)), q.2, q.3 n (here n up))))
                  (λ m. inl (sym (texts_kept kids n w.2 e g m))));
            }),
          )) lift
      twin_in (node n (element name attrs) kids rest) h up seen sean w hs head rel lift s (inr i) k =
          let T : Forest → Type 0 = λ x. ((q : Standing) → In q (standings up sean x) → In q whole) → Twinned whole s (standings up sean x) in
          let b : Sibling = record { number = n; name = name } in
          cases (gone n)
          (λ g. subst T (sym (cut-gone n (element name attrs) kids rest g))
          (λ l. elim (in-either s (standings (n ∷ up) [] kids) (standings up (b ∷ seen) rest) i) [
            | inl j ↦ absurd (both (gone s.number) (all_gone kids n (n ∷ up) [] s w.2 g j) k)
            | inr j ↦ twin_in rest h up (b ∷ seen) sean w.3 hs head
                (inr (elim (w.0 g) [ inl e ↦ e.0 | inr e ↦ absurd (both (gone h) e hs) ])) l s j k
          ]) lift)
          (λ g. subst T (sym (cut-kept n (element name attrs) kids rest g))
          (λ l. elim (in-either s (standings (n ∷ up) [] kids) (standings up (b ∷ seen) rest) i) [
            | inl j ↦ (
                let r = twin_in kids n (n ∷ up) [] [] w.2 g (eq-eqb n n refl) (inl refl)
                (λ q m. l q (inr (in-left q (standings (n ∷ up) [] (pruned gone kids)) (standings up (b ∷ sean) (pruned gone rest)) m))) s j k in
                (r.0, inr (in-left r.0 (standings (n ∷ up) [] (pruned gone kids)) (standings up (b ∷ sean) (pruned gone rest)) r.1), r.2))
            | inr j ↦ (
                let r = twin_in rest h up (b ∷ seen) (b ∷ sean) w.3 hs head
                (elim rel [ inl same ↦ inl (ap (λ x. b ∷ x) same) | inr e ↦ inr e ])
                (λ q m. l q (inr (in-right q (standings (n ∷ up) [] (pruned gone kids)) (standings up (b ∷ sean) (pruned gone rest)) m))) s j k in
                (r.0, inr (in-right r.0 (standings (n ∷ up) [] (pruned gone kids)) (standings up (b ∷ sean) (pruned gone rest)) r.1), r.2))
          ]) lift)

  -- the numbers_of that are left
  names_gone : (f : Forest) (h : ℕ) (up : List ℕ) (seen : List Sibling) → Hung top gone p h f → gone h ≡ true → filter stays (named (standings up seen f)) ≡ []
  names_gone f h up seen w g = filter-none stays (named (standings up seen f))
      (λ x m. let s = named_in (standings up seen f) x m in ap not (ap gone (sym s.2) ∙ all_gone f h up seen s.0 w g s.1))

  pub names_cut : (f : Forest) (h : ℕ) (up vp : List ℕ) (seen sean : List Sibling) → Hung top gone p h f →
      named (standings up seen (pruned gone f)) ≡ filter stays (named (standings vp sean f))
  names_cut empty h up vp seen sean w = refl
  names_cut (node n (text b) kids rest) h up vp seen sean w =
      cases (gone n)
      (λ g. ap (λ x. named (standings up seen x)) (cut-gone n (text b) kids rest g) ∙ names_cut rest h up vp seen sean w.3)
      (λ g. ap (λ x. named (standings up seen x)) (cut-kept n (text b) kids rest g) ∙ names_cut rest h up vp seen sean w.3)
  names_cut (node n document kids rest) h up vp seen sean w =
      cases (gone n)
      (λ g. ap (λ x. named (standings up seen x)) (cut-gone n document kids rest g) ∙ names_cut rest h up vp seen sean w.3)
      (λ g. ap (λ x. named (standings up seen x)) (cut-kept n document kids rest g) ∙ names_cut rest h up vp seen sean w.3)
  names_cut (node n (comment b) kids rest) h up vp seen sean w =
      cases (gone n)
      (λ g. ap (λ x. named (standings up seen x)) (cut-gone n (comment b) kids rest g) ∙ names_cut rest h up vp seen sean w.3)
      (λ g. ap (λ x. named (standings up seen x)) (cut-kept n (comment b) kids rest g) ∙ names_cut rest h up vp seen sean w.3)
  names_cut (node n (element name attrs) kids rest) h up vp seen sean w =
      let b : Sibling = record { number = n; name = name } in
      let K = standings (n ∷ vp) [] kids in
      let R = standings vp (b ∷ sean) rest in
      let split : filter stays (named (K ++ R)) ≡ filter stays (named K) ++ filter stays (named R) =
      ap (filter stays) (map-append (λ r. r.number) K R) ∙ filter-append stays (named K) (named R) in
      cases (gone n)
      (λ g. ap (λ x. named (standings up seen x)) (cut-gone n (element name attrs) kids rest g)
      ∙ names_cut rest h up vp seen (b ∷ sean) w.3
      ∙ sym (ap (λ c. cond c (n ∷ filter stays (named (K ++ R))) (filter stays (named (K ++ R)))) (ap not g)
      ∙ split ∙ ap (λ l. l ++ filter stays (named R)) (names_gone kids n (n ∷ vp) [] w.2 g)))
      (λ g. ap (λ x. named (standings up seen x)) (cut-kept n (element name attrs) kids rest g)
      ∙ ap (λ l. n ∷ l) (map-append (λ r. r.number) (standings (n ∷ up) [] (pruned gone kids)) (standings up (b ∷ seen) (pruned gone rest))
      ∙ ap₂ ◌++◌ (names_cut kids n (n ∷ up) (n ∷ vp) [] [] w.2) (names_cut rest h up vp (b ∷ seen) (b ∷ sean) w.3))
      ∙ sym (ap (λ c. cond c (n ∷ filter stays (named (K ++ R))) (filter stays (named (K ++ R)))) (ap not g)
      ∙ ap (λ l. n ∷ l) split))
