-- Where routes lead from places, by the walks of each direction.
use Rattle.std.proofs.Common.{◌≡◌, ℕ, suc, ◌+◌, ◌<◌, ◌≤◌, Bool, true, false, not, ◌&&◌, ◌||◌, ◌==◌, List, [], ◌∷◌, ◌++◌, take, drop, length, get_or, refl, sym, ap, ap₂, ◌∙◌, drop_of_length-le, arith}
use Rattle.std.proofs.lemmas.Bool.{or_right, eqb-true, and_parts}
use Rattle.std.proofs.lemmas.Option.{slice_get-get_or}
use Rattle.std.proofs.Math.Seq.{take-suc, drop-cons}
use Rattle.std.specs.List.{list_any}
use Rattle.page_tree.specs.Forest.{Tree}
use Rattle.page_tree.specs.Standings.{all, above}
use Rattle.page_tree.specs.Directions.{is_in, holders, goes, Direction, to_child, to_below, to_parent, to_above, to_next, to_previous, to_after, to_before}
use Rattle.page_tree.proofs.Members.{is_in-filter}
use Rattle.sensor_meaning.specs.declared.sensor.Way.{Way}
use Rattle.sensor_meaning.specs.declared.sensor.Way.TheVariants.{ToChild, ToBelow, ToParent, ToAbove, ToNext, ToPrevious, ToAfter, ToBefore, Whole}
use Rattle.sensor_meaning.specs.Dirty.{comes, led, spread}
use Rattle.dependency_sets.specs.Reaching.{is_place, IsPlace, ArePlaces, HasSame, leads_to, leads_from, Adds}
use Rattle.dependency_sets.proofs.Members.{never, any-append, any-and, any-same, any-found, or_none, is_in-get}

-- the number at a place within a list, and the list up to behind it
pub place_at : (t : Tree) (from : List ℕ) → ArePlaces t from → (i : ℕ) → i < length from → IsPlace t (get_or from i 0)
place_at t from h i lt = h (get_or from i 0) (is_in-get from i (get_or from i 0) (slice_get-get_or from i 0 lt))

pub take-next : {X : Type 0} (xs : List X) (i : ℕ) (d : X) → i < length xs → take (i + 1) xs ≡ take i xs ++ get_or xs i d ∷ []
take-next xs i d lt = let next : i + 1 ≡ suc i = omega arith in ap (λ k. take k xs) next ∙ take-suc xs i d lt

pub near_next : (t : Tree) (d : Direction) (from to more : List ℕ) (i : ℕ) → i < length from → ((x : ℕ) → is_in to x ≡ leads_from t d (take i from) x) →
    Adds (leads_to t d (get_or from i 0)) to more → (x : ℕ) → is_in more x ≡ leads_from t d (take (i + 1) from) x
near_next t d from to more i lt so_far a x =
    a.members x ∙ ap (λ b. b || leads_to t d (get_or from i 0) x) (so_far x)
    ∙ sym (ap (λ l. leads_from t d l x) (take-next from i 0 lt) ∙ any-append (λ y. leads_to t d y x) (take i from) (get_or from i 0 ∷ [])
    ∙ ap (λ b. leads_from t d (take i from) x || b) (or_none (leads_to t d (get_or from i 0) x)))

pub led_places : (t : Tree) (d : Direction) (from to : List ℕ) → ((x : ℕ) → is_in to x ≡ leads_from t d from x) → ArePlaces t to
led_places t d from to h x i =
    let r = any-found (λ y. leads_to t d y x) from (sym (h x) ∙ i) in
    (and_parts (is_place t x) (goes t d r.0 x) r.2).0

or_both : (a b : Bool) → b ≡ a → (a || b) ≡ a
or_both true b e = refl
or_both false b e = e

one_any : (b : Bool) (y : ℕ) (ys : List ℕ) → list_any (λ _. b) (y ∷ ys) ≡ b
one_any b y [] = or_none b
one_any b y (z ∷ ys) = or_both b (list_any (λ _. b) (z ∷ ys)) (one_any b z ys)

some_any : (b : Bool) (ys : List ℕ) → (length ys == 0) ≡ false → list_any (λ _. b) ys ≡ b
some_any b [] e = never (sym e)
some_any b (y ∷ ys) e = one_any b y ys

module _ (t : Tree) where
  is_in-led : (way : Way) (from : List ℕ) (x : ℕ) → is_in (led t way from) x ≡ (is_place t x && list_any (λ y. comes t way y x) from)
  unfolding led
  is_in-led way from x = is_in-filter (λ x. list_any (λ y. comes t way y x) from) (0 ∷ all t) x

  along : (way : Way) (d : Direction) → ((y x : ℕ) → comes t way y x ≡ goes t d y x) → (from to : List ℕ) →
      ((x : ℕ) → is_in to x ≡ leads_from t d from x) → HasSame to (led t way from)
  along way d same from to h x =
      h x ∙ any-and (is_place t x) (λ y. goes t d y x) from ∙ ap (λ b. is_place t x && b) (alike from) ∙ sym (is_in-led way from x)
    where
      alike : (ys : List ℕ) → list_any (λ y. goes t d y x) ys ≡ list_any (λ y. comes t way y x) ys
      alike [] = refl
      alike (y ∷ ys) = ap₂ ◌||◌ (sym (same y x)) (alike ys)

  pub to_children : (from to : List ℕ) → ((x : ℕ) → is_in to x ≡ leads_from t to_child from x) → HasSame to (led t ToChild from)
  unfolding comes
  to_children = along ToChild to_child (λ y x. refl)

  pub to_all_below : (from to : List ℕ) → ((x : ℕ) → is_in to x ≡ leads_from t to_below from x) → HasSame to (led t ToBelow from)
  unfolding comes
  to_all_below = along ToBelow to_below (λ y x. refl)

  pub to_parents : (from to : List ℕ) → ((x : ℕ) → is_in to x ≡ leads_from t to_parent from x) → HasSame to (led t ToParent from)
  unfolding comes
  to_parents = along ToParent to_parent (λ y x. refl)

  pub to_all_above : (from to : List ℕ) → ((x : ℕ) → is_in to x ≡ leads_from t to_above from x) → HasSame to (led t ToAbove from)
  unfolding comes
  to_all_above = along ToAbove to_above (λ y x. refl)

  pub to_nexts : (from to : List ℕ) → ((x : ℕ) → is_in to x ≡ leads_from t to_next from x) → HasSame to (led t ToNext from)
  unfolding comes
  to_nexts = along ToNext to_next (λ y x. refl)

  pub to_all_after : (from to : List ℕ) → ((x : ℕ) → is_in to x ≡ leads_from t to_after from x) → HasSame to (led t ToAfter from)
  unfolding comes
  to_all_after = along ToAfter to_after (λ y x. refl)

  pub to_previouses : (from to : List ℕ) → ((x : ℕ) → is_in to x ≡ leads_from t to_previous from x) → HasSame to (led t ToPrevious from)
  unfolding comes
  to_previouses = along ToPrevious to_previous (λ y x. refl)

  pub to_all_before : (from to : List ℕ) → ((x : ℕ) → is_in to x ≡ leads_from t to_before from x) → HasSame to (led t ToBefore from)
  unfolding comes
  to_all_before = along ToBefore to_before (λ y x. refl)

  -- the whole page is what is below the document
  pub to_nothing : HasSame [] (led t Whole [])
  to_nothing x = sym (is_in-led Whole [] x ∙ and_none (is_place t x))
    where
      and_none : (a : Bool) → (a && false) ≡ false
      and_none true = refl
      and_none false = refl

  pub to_none : (from : List ℕ) → (length from == 0) ≡ true → HasSame [] (led t Whole from)
  to_none [] e = to_nothing
  to_none (y ∷ ys) e = absurd (let z : suc (length ys) ≡ 0 = eqb-true (suc (length ys)) 0 e in omega arith)

  pub to_whole : (from to : List ℕ) → (length from == 0) ≡ false → ((x : ℕ) → is_in to x ≡ leads_from t to_below (0 ∷ []) x) → HasSame to (led t Whole from)
  unfolding comes
  to_whole from to some h x =
      h x ∙ or_none (leads_to t to_below 0 x) ∙ ap (λ b. is_place t x && (not (x == 0) && b)) below_it ∙ ap (λ b. is_place t x && b) (and_true (not (x == 0)) ∙ sym (some_any (not (x == 0)) from some))
      ∙ sym (is_in-led Whole from x)
    where
      below_it : is_in (holders t x) 0 ≡ true
      below_it = any-append (λ y. y == 0) (above t x) (0 ∷ []) ∙ or_right (is_in (above t x) 0) (is_in (0 ∷ []) 0) refl

      and_true : (a : Bool) → (a && true) ≡ a
      and_true true = refl
      and_true false = refl

  led-alike : (way : Way) (xs ys : List ℕ) → HasSame xs ys → HasSame (led t way xs) (led t way ys)
  led-alike way xs ys h x =
      is_in-led way xs x ∙ ap (λ b. is_place t x && b) (any-same (λ y. comes t way y x) xs ys h) ∙ sym (is_in-led way ys x)

  -- a route leads from the same to the same
  pub spread-alike : (route : List Way) (xs ys : List ℕ) → HasSame xs ys → HasSame (spread t route xs) (spread t route ys)
  unfolding spread
  spread-alike [] xs ys h = h
  spread-alike (way ∷ route) xs ys h = spread-alike route (led t way xs) (led t way ys) (led-alike way xs ys h)

  pub spread-next : (route more : List Way) (way : Way) (xs ys : List ℕ) → route ≡ way ∷ more → HasSame ys (led t way xs) → HasSame (spread t more ys) (spread t route xs)
  unfolding spread
  spread-next route more way xs ys e h x = spread-alike more ys (led t way xs) h x ∙ ap (λ r. is_in (spread t r xs) x) (sym e)

  pub led-places : (way : Way) (from to : List ℕ) → HasSame to (led t way from) → ArePlaces t to
  led-places way from to h x i = (and_parts (is_place t x) (list_any (λ y. comes t way y x) from) (sym (is_in-led way from x) ∙ sym (h x) ∙ i)).0

  pub spread-none : (xs : List ℕ) → HasSame xs (spread t [] xs)
  unfolding spread
  spread-none xs x = refl

  -- one direction further along a route
  pub follow_next : (route : List Way) (i : ℕ) (d : Way) (xs from ys : List ℕ) → i < length route → from ≡ xs → HasSame ys (led t (get_or route i d) from) →
      HasSame (spread t (drop (i + 1) route) ys) (spread t (drop i route) xs)
  follow_next route i d xs from ys lt e h =
      let next : i + 1 ≡ suc i = omega arith in
      spread-next (drop i route) (drop (i + 1) route) (get_or route i d) xs ys
      (drop-cons route i d lt ∙ ap (λ k. get_or route i d ∷ drop k route) (sym next))
      (λ x. h x ∙ ap (λ l. is_in (led t (get_or route i d) l) x) e)

  pub follow_end : (route : List Way) (i : ℕ) (xs : List ℕ) → length route ≤ i → HasSame xs (spread t (drop i route) xs)
  follow_end route i xs h x = spread-none xs x ∙ ap (λ r. is_in (spread t r xs) x) (sym (drop_of_length-le route h))
