-- The elements that sensors lead to, and those that came or moved.
use Rattle.std.proofs.Common.{◌≡◌, ℕ, ◌+◌, ◌<◌, Bool, true, false, not, ◌&&◌, ◌||◌, ◌==◌, inl, inr, List, [], ◌∷◌, ◌++◌, take, length, get_or, refl, sym, ap, ap₂, ◌∙◌, subst, unwrap_or}
use Rattle.std.proofs.lemmas.Bool.{or_cases, or_left, or_right, and_from, and_parts, eqb-true, eq-eqb}
use Rattle.std.specs.List.{list_any}
use Rattle.page_tree.specs.Forest.{document, element, text, comment, Forest, empty, node, Tree, count, tops, find, children, content}
use Rattle.page_tree.specs.Standings.{all, above}
use Rattle.page_tree.specs.Directions.{is_in, holders, to_below}
use Rattle.page_tree.specs.Trees.{IsTree}
use Rattle.page_tree.proofs.Members.{is_in-filter}
use Rattle.page_tree.proofs.Elements.{HaveRoom, room-tree, room-find, once-tree, is_in-all, is_element}
use Rattle.page_tree.proofs.Around.{above-parent}
use Rattle.page_tree.proofs.Parts.{parent_some}
use Rattle.selector_match.proofs.SiblingLaws.{not_document}
use Rattle.sensor_meaning.specs.declared.sensor.Sensor.{Sensor}
use Rattle.sensor_meaning.specs.declared.change.Change.{Change}
use Rattle.sensor_meaning.specs.Sensors.{Sensors}
use Rattle.sensor_meaning.specs.Changes.{observes, places_of, parent_of}
use Rattle.sensor_meaning.specs.Dirty.{spread, hit, is_reached, is_under, brought, dirty}
use Rattle.dependency_sets.specs.declared.near.Near.TheVariants.{Child}
use Rattle.dependency_sets.specs.Named.{is_led}
use Rattle.dependency_sets.specs.Reaching.{is_place, IsPlace, ArePlaces, HasSame, Gains, leads_to, leads_from, with_number, Closes}
use Rattle.dependency_sets.proofs.Members.{never, same_by_iff, any-append, any-made, any-found, or_none, is_in-with_number, is_in-append, alone}
use Rattle.dependency_sets.proofs.Nearby.{place_cases, place_element, off_zero}
use Rattle.dependency_sets.proofs.Closing.{with_all}
use Rattle.dependency_sets.proofs.Leading.{take-next, spread-alike}

or_join : (i h s : Bool) → ((i || h) || s) ≡ (i || (h || s))
or_join true h s = refl
or_join false h s = refl

-- ---- lists that are gathered one by one

pub gains_none : (p : ℕ → Bool) (old : List ℕ) → ((x : ℕ) → p x ≡ false) → Gains p old old
gains_none p old h x = sym (ap (λ b. is_in old x || b) (h x) ∙ or_none (is_in old x))

gained : (i a h s : Bool) → ((i || (a && h)) || (a && s)) ≡ (i || (a && (h || s)))
gained true a h s = refl
gained false true h s = refl
gained false false h s = refl

-- the next number of a list, where it passes and where not
pub push_next : (q : ℕ → Bool) (xs : List ℕ) (i : ℕ) (old now : List ℕ) → i < length xs → q (get_or xs i 0) ≡ true →
    Gains (λ x. q x && is_in (take i xs) x) old now → Gains (λ x. q x && is_in (take (i + 1) xs) x) old (now ++ get_or xs i 0 ∷ [])
push_next q xs i old now lt passes g x =
    is_in-append now (get_or xs i 0 ∷ []) x ∙ ap₂ ◌||◌ (g x) (or_none (get_or xs i 0 == x) ∙ only x)
    ∙ gained (is_in old x) (q x) (is_in (take i xs) x) (get_or xs i 0 == x)
    ∙ ap (λ b. is_in old x || (q x && b))
    (sym (ap (λ l. is_in l x) (take-next xs i 0 lt) ∙ is_in-append (take i xs) (get_or xs i 0 ∷ []) x ∙ ap (λ b. is_in (take i xs) x || b) (or_none (get_or xs i 0 == x))))
  where
    only : (x : ℕ) → (get_or xs i 0 == x) ≡ (q x && (get_or xs i 0 == x))
    only x =
        same_by_iff (get_or xs i 0 == x) (q x && (get_or xs i 0 == x))
        (λ h. and_from (q x) (get_or xs i 0 == x) (ap q (sym (eqb-true (get_or xs i 0) x h)) ∙ passes) h)
        (λ h. (and_parts (q x) (get_or xs i 0 == x) h).1)

pub skip_next : (q : ℕ → Bool) (xs : List ℕ) (i : ℕ) → i < length xs → q (get_or xs i 0) ≡ false → (x : ℕ) → (q x && is_in (take (i + 1) xs) x) ≡ (q x && is_in (take i xs) x)
skip_next q xs i lt fails x =
    ap (λ b. q x && b) (ap (λ l. is_in l x) (take-next xs i 0 lt) ∙ is_in-append (take i xs) (get_or xs i 0 ∷ []) x ∙ ap (λ b. is_in (take i xs) x || b) (or_none (get_or xs i 0 == x)))
    ∙ same_by_iff (q x && (is_in (take i xs) x || (get_or xs i 0 == x))) (q x && is_in (take i xs) x)
    (λ h.
    let p = and_parts (q x) (is_in (take i xs) x || (get_or xs i 0 == x)) h in
    elim (or_cases (is_in (take i xs) x) (get_or xs i 0 == x) p.1) [
      | inl before ↦ and_from (q x) (is_in (take i xs) x) p.0 before
      | inr here ↦ never (sym fails ∙ ap q (eqb-true (get_or xs i 0) x here) ∙ p.0)
    ])
    (λ h. let p = and_parts (q x) (is_in (take i xs) x) h in and_from (q x) (is_in (take i xs) x || (get_or xs i 0 == x)) p.0 (or_left (is_in (take i xs) x) (get_or xs i 0 == x) p.1))

-- the same, where each number stands once
pub with_next : (q : ℕ → Bool) (xs : List ℕ) (i : ℕ) (now : List ℕ) → i < length xs → q (get_or xs i 0) ≡ true →
    ((x : ℕ) → is_in now x ≡ (q x && is_in (take i xs) x)) → (x : ℕ) → is_in (with_number now (get_or xs i 0)) x ≡ (q x && is_in (take (i + 1) xs) x)
with_next q xs i now lt passes g x =
    is_in-with_number now (get_or xs i 0) x ∙ ap (λ b. is_in now x || b) (sym (or_none (get_or xs i 0 == x))) ∙ sym (is_in-append now (get_or xs i 0 ∷ []) x)
    ∙ push_next q xs i [] now lt passes g x

-- ---- what sensors lead to

module _ (t : Tree) (tree : IsTree t) (change : Change) where
  -- a place that isn't the document is an element
  pub elements_alone : (xs : List ℕ) → ArePlaces t xs → (x : ℕ) → (not (x == 0) && is_in xs x) ≡ (is_in (all t) x && is_in xs x)
  elements_alone xs places x =
      same_by_iff (not (x == 0) && is_in xs x) (is_in (all t) x && is_in xs x)
      (λ h.
      let p = and_parts (not (x == 0)) (is_in xs x) h in
      and_from (is_in (all t) x) (is_in xs x)
      (elim (place_cases t tree x (places x p.1)) [ inl z ↦ never (sym (ap not (eq-eqb x 0 z)) ∙ p.0) | inr e ↦ e ]) p.1)
      (λ h. let p = and_parts (is_in (all t) x) (is_in xs x) h in and_from (not (x == 0)) (is_in xs x) (off_zero t tree x p.0) p.1)

  hit-next : (sensors : Sensors) (i : ℕ) (s : Sensor) → i < length sensors → s ≡ get_or sensors i s → (x : ℕ) →
      is_reached change t (take (i + 1) sensors) x ≡ (is_reached change t (take i sensors) x || (observes s.observes change && is_in (spread t s.route (places_of change t)) x))
  unfolding hit
  hit-next sensors i s lt at x =
      ap (λ l. list_any (λ (r : Sensor). observes r.observes change && is_in (spread t r.route (places_of change t)) x) l) (take-next sensors i s lt)
      ∙ any-append (λ (r : Sensor). observes r.observes change && is_in (spread t r.route (places_of change t)) x) (take i sensors) (get_or sensors i s ∷ [])
      ∙ ap (λ b. is_reached change t (take i sensors) x || b)
      (or_none (observes (get_or sensors i s).observes change && is_in (spread t (get_or sensors i s).route (places_of change t)) x)
      ∙ ap (λ (r : Sensor). observes r.observes change && is_in (spread t r.route (places_of change t)) x) (sym at))

  reached_none : (x : ℕ) → is_reached change t [] x ≡ false
  unfolding hit
  reached_none x = refl

  pub spread_start : (old : List ℕ) → Gains (λ x. is_in (all t) x && is_reached change t [] x) old old
  spread_start old = gains_none (λ x. is_in (all t) x && is_reached change t [] x) old (λ x. ap (λ b. is_in (all t) x && b) (reached_none x) ∙ none (is_in (all t) x))
    where
      none : (a : Bool) → (a && false) ≡ false
      none true = refl
      none false = refl

  module _ (sensors : Sensors) (i : ℕ) (s : Sensor) (lt : i < length sensors) (at : s ≡ get_or sensors i s) (old now : List ℕ)
      (g : Gains (λ x. is_in (all t) x && is_reached change t (take i sensors) x) old now) where
    pub spread_more : (new : List ℕ) → Gains (λ x. is_in (all t) x && is_led s change t x) now new →
        Gains (λ x. is_in (all t) x && is_reached change t (take (i + 1) sensors) x) old new
    spread_more new more x =
        more x ∙ ap (λ b. b || (is_in (all t) x && is_led s change t x)) (g x)
        ∙ gained (is_in old x) (is_in (all t) x) (is_reached change t (take i sensors) x) (is_led s change t x)
        ∙ ap (λ b. is_in old x || (is_in (all t) x && b)) (sym (hit-next sensors i s lt at x))

  none_and : (a : Bool) → (a && false) ≡ false
  none_and true = refl
  none_and false = refl

  -- one sensor that doesn't observe the change, and one that does
  pub by_none : (s : Sensor) (old : List ℕ) → observes s.observes change ≡ false → Gains (λ x. is_in (all t) x && is_led s change t x) old old
  by_none s old h =
      gains_none (λ x. is_in (all t) x && is_led s change t x) old
      (λ x. ap (λ b. is_in (all t) x && (b && is_in (spread t s.route (places_of change t)) x)) h ∙ none_and (is_in (all t) x))

  pub by_one : (s : Sensor) (old new places reached : List ℕ) → observes s.observes change ≡ true → HasSame places (places_of change t) → HasSame reached (spread t s.route places) →
      ArePlaces t reached → Gains (λ x. not (x == 0) && is_in reached x) old new → Gains (λ x. is_in (all t) x && is_led s change t x) old new
  by_one s old new places reached seen same led good more x =
      more x ∙ ap (λ b. is_in old x || b)
      (elements_alone reached good x
      ∙ ap₂ (λ a b. is_in (all t) x && (a && b)) (sym seen) (led x ∙ spread-alike t s.route places (places_of change t) same x))

  pub dirty_is : (r : Sensors) (first second set : List ℕ) → Gains (λ x. is_in (all t) x && is_reached change t r x) [] first →
      Gains (λ x. is_in (all t) x && brought change t x) first second → HasSame set second → HasSame set (dirty change t r)
  dirty_is r first second set f s h x =
      h x ∙ s x ∙ ap (λ b. b || (is_in (all t) x && brought change t x)) (f x)
      ∙ gained false (is_in (all t) x) (is_reached change t r x) (brought change t x)
      ∙ sym (is_in-filter (λ x. is_reached change t r x || brought change t x) (all t) x)

-- ---- what came or moved

module _ (t : Tree) (tree : IsTree t) where
  -- what is above an element is an element
  above_element : (l : List ℕ) (x y : ℕ) → is_in (all t) x ≡ true → above t x ≡ l → is_in l y ≡ true → is_in (all t) y ≡ true
  above_element [] x y here e h = never h
  above_element (w ∷ ws) x y here e h =
      let r = above-parent t tree x here in
      elim r.2 [
        | inl top ↦ absurd (let no : [] ≡ w ∷ ws = sym top.1 ∙ e in cc)
        | inr low ↦
            let both : w ∷ ws ≡ r.0 ∷ above t r.0 = sym e ∙ low.2 in
            let same : w ≡ r.0 = cc (both) in
            let rest : ws ≡ above t r.0 = cc (both) in
            elim (or_cases (w == y) (is_in ws y) h) [
              | inl q ↦ subst (λ k. is_in (all t) k ≡ true) (sym same ∙ eqb-true w y q) low.1
              | inr q ↦ above_element ws r.0 y low.1 (sym rest) q
            ]
      ]

  pub tops_places : (given elements : List ℕ) → ((x : ℕ) → is_in elements x ≡ (is_in (all t) x && is_in given x)) → ArePlaces t elements
  tops_places given elements h x i = place_element t tree x (and_parts (is_in (all t) x) (is_in given x) (sym (h x) ∙ i)).0

  -- elements with all below them
  pub under_is : (given elements reached : List ℕ) → ((x : ℕ) → is_in elements x ≡ (is_in (all t) x && is_in given x)) → Closes t Child elements reached →
      (x : ℕ) → (not (x == 0) && is_in reached x) ≡ (is_in (all t) x && is_under given t x)
  under_is given elements reached own c x =
      same_by_iff (not (x == 0) && is_in reached x) (is_in (all t) x && is_under given t x)
      (λ h.
      let p = and_parts (not (x == 0)) (is_in reached x) h in
      let here : is_in (all t) x ≡ true = elim (place_cases t tree x (c.places x p.1)) [ inl z ↦ never (sym (ap not (eq-eqb x 0 z)) ∙ p.0) | inr e ↦ e ] in
      and_from (is_in (all t) x) (is_under given t x) here
      (elim (or_cases (is_in elements x) (leads_from t to_below elements x) (c.led x p.1)) [
        | inl top ↦ or_left (is_in given x) (list_any (is_in given) (above t x)) (and_parts (is_in (all t) x) (is_in given x) (sym (own x) ∙ top)).1
        | inr low ↦
            let z = any-found (λ y. leads_to t to_below y x) elements low in
            let zs = and_parts (is_in (all t) z.0) (is_in given z.0) (sym (own z.0) ∙ z.1) in
            let inside = and_parts (not (x == 0)) (is_in (holders t x) z.0) (and_parts (is_place t x) (not (x == 0) && is_in (holders t x) z.0) z.2).1 in
            or_right (is_in given x) (list_any (is_in given) (above t x))
            (elim (or_cases (is_in (above t x) z.0) (is_in (0 ∷ []) z.0) (sym (is_in-append (above t x) (0 ∷ []) z.0) ∙ inside.1)) [
              | inl over ↦ any-made (is_in given) (above t x) z.0 over zs.1
              | inr doc ↦ absurd (not_document t tree z.0 zs.0 (sym (alone 0 z.0 doc)))
            ])
      ]))
      (λ h.
      let p = and_parts (is_in (all t) x) (is_under given t x) h in
      and_from (not (x == 0)) (is_in reached x) (off_zero t tree x p.0)
      (with_all t tree Child elements reached (tops_places given elements own) c x
      ∙ elim (or_cases (is_in given x) (list_any (is_in given) (above t x)) p.1) [
        | inl top ↦ or_left (is_in elements x) (leads_from t to_below elements x) (own x ∙ and_from (is_in (all t) x) (is_in given x) p.0 top)
        | inr low ↦
            let y = any-found (is_in given) (above t x) low in
            let y_is = above_element (above t x) x y.0 p.0 refl y.1 in
            or_right (is_in elements x) (leads_from t to_below elements x)
            (any-made (λ z. leads_to t to_below z x) elements y.0 (own y.0 ∙ and_from (is_in (all t) y.0) (is_in given y.0) y_is y.2)
            (and_from (is_place t x) (not (x == 0) && is_in (holders t x) y.0) (place_element t tree x p.0)
            (and_from (not (x == 0)) (is_in (holders t x) y.0) (off_zero t tree x p.0)
            (is_in-append (above t x) (0 ∷ []) y.0 ∙ or_left (is_in (above t x) y.0) (is_in (0 ∷ []) y.0) y.1))))
      ]))

  -- ---- the parent of a node

  filled_element : (f : Forest) → HaveRoom f → (k : ℕ) → is_in (tops (children f)) k ≡ true → is_element (content f) ≡ true
  filled_element empty room k h = never h
  filled_element (node n document kids later) room k h = never (ap (λ g. is_in (tops g) k) (sym room.0) ∙ h)
  filled_element (node n (element called given) kids later) room k h = refl
  filled_element (node n (text bytes) kids later) room k h = never (ap (λ g. is_in (tops g) k) (sym room.0) ∙ h)
  filled_element (node n (comment bytes) kids later) room k h = never (ap (λ g. is_in (tops g) k) (sym room.0) ∙ h)

  pub parent_place : (k : ℕ) → 0 < count k t.nodes → IsPlace t (parent_of t k)
  parent_place k h =
      let s = parent_some k 0 t.nodes (once-tree t tree) h in
      let is : parent_of t k ≡ s.0 = ap (λ o. unwrap_or o 0) s.1 in
      ap (is_place t) is
      ∙ elim s.2 [
        | inl root ↦ ap (is_place t) root.0
        | inr low ↦
            place_element t tree s.0
            (is_in-all t (once-tree t tree) (room-tree t tree) s.0
            ∙ filled_element (find s.0 t.nodes) (room-find s.0 t.nodes (room-tree t tree)) k low.1)
      ]

  pub element_parts : (x : ℕ) → is_in (all t) x ≡ true → ArePlaces t (x ∷ [])
  element_parts x h y i = subst (λ k. IsPlace t k) (alone x y i) (place_element t tree x h)

-- two places
pub two_same : (p q : ℕ) → HasSame (with_number (p ∷ []) q) (p ∷ q ∷ [])
two_same p q x = is_in-with_number (p ∷ []) q x ∙ ap₂ ◌||◌ (or_none (p == x)) (sym (or_none (q == x)))

pub one_place : (t : Tree) (p : ℕ) → IsPlace t p → ArePlaces t (p ∷ [])
one_place t p h x i = subst (λ k. IsPlace t k) (alone p x i) h

pub two_places : (t : Tree) (p q : ℕ) → IsPlace t p → IsPlace t q → ArePlaces t (with_number (p ∷ []) q)
two_places t p q hp hq x i =
    elim (or_cases (is_in (p ∷ []) x) (q == x) (sym (is_in-with_number (p ∷ []) q x) ∙ i)) [
      | inl first ↦ one_place t p hp x first
      | inr second ↦ subst (λ k. IsPlace t k) (eqb-true q x second) hq
    ]
