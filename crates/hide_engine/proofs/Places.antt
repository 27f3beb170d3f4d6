-- The marks of an element, by action, are the places of the filters of that action that select it.
use Rattle.std.proofs.Common.{◌≡◌, ℕ, suc, zero, ◌<◌, ◌≤◌, ◌+◌, Bool, true, false, ◌&&◌, ◌||◌, ◌==◌, cond, List, [], ◌∷◌, Option, Some, None, refl, sym, ap, ap₂, ◌∙◌, inl, inr, ◌⊎◌, arith}
use Rattle.std.specs.Prelude.{slice_get, option_map, unwrap_or}
use Rattle.std.specs.Option.{option_map_or}
use Rattle.std.proofs.Math.Bool as bool
use Rattle.std.proofs.lemmas.Bool.{cases_Bool, eqb-true, eq-eqb, ne_eqb, or_from, cases_order}
use Rattle.cos_patterns.specs.Found.{pattern_found}
use Rattle.page_tree.specs.Standings.{all}
use Rattle.page_tree.specs.Directions.{is_in}
use Rattle.page_tree.proofs.Members.{is_in-filter}
use Rattle.kept_marks.specs.Kept.{row}
use Rattle.kept_marks.specs.Rising.{IsAbove, IsRising}
use Rattle.kept_marks.proofs.Rising.{filtered}
use Rattle.selector_tree.specs.declared.filter.Action.{Action}
use Rattle.selector_tree.specs.declared.filter.Filter.{Filter}
use Rattle.selector_meaning.specs.Hidden.{places_from}
use Rattle.selector_meaning.specs.Meaning.{selects}
use Rattle.engine_meaning.specs.Filters.{has_action}
use Rattle.engine_meaning.specs.Hidden.{acts_on}
use Rattle.engine_meaning.specs.States.{State}
use Rattle.hide_engine.specs.Exact.{is_selected, AreExact}
use Rattle.hide_engine.specs.Chosen.{acts_at, chosen}

-- ---- rising lists

-- a number below all of a list is not in it
below_all : (x y : ℕ) (ys : List ℕ) → IsAbove y ys → x ≤ y → is_in ys x ≡ false
below_all x y [] h le = refl
below_all x y (z ∷ zs) h le = or_from (z == x) (is_in zs x) (ne_eqb z x (λ e. omega (arith, h.0))) (below_all x y zs h.1 le)

here : (x : ℕ) (xs : List ℕ) → is_in (x ∷ xs) x ≡ true
here x xs = ap (λ b. b || is_in xs x) (eq-eqb x x refl)

-- a number below the first of a rising list is not in it
not_in : (x y : ℕ) (ys : List ℕ) → IsAbove y ys → x < y → is_in (y ∷ ys) x ≡ false
not_in x y ys h l = or_from (y == x) (is_in ys x) (ne_eqb y x (λ e. omega arith)) (below_all x y ys h (omega arith))

-- rising lists with the same members are equal
rising_same : (xs ys : List ℕ) → IsRising xs → IsRising ys → ((f : ℕ) → is_in xs f ≡ is_in ys f) → xs ≡ ys
rising_same [] [] r q h = refl
rising_same [] (y ∷ ys) r q h = absurd (let no : false ≡ true = h y ∙ here y ys in cc)
rising_same (x ∷ xs) [] r q h = absurd (let no : true ≡ false = sym (here x xs) ∙ h x in cc)
rising_same (x ∷ xs) (y ∷ ys) r q h =
    elim (cases_order x y) [
      | inl e ↦ ap₂ (λ (a : ℕ) (l : List ℕ). a ∷ l) e (rising_same xs ys r.1 q.1 (λ f. rest f e (cases_Bool (x == f))))
      | inr other ↦ elim other [
        | inl l ↦ absurd (let no : true ≡ false = sym (here x xs) ∙ h x ∙ not_in x y ys q.0 l in cc)
        | inr l ↦ absurd (let no : true ≡ false = sym (here y ys) ∙ sym (h y) ∙ not_in y x xs r.0 l in cc)
      ]
    ]
  where
    rest : (f : ℕ) → x ≡ y → ((x == f) ≡ true) ⊎ ((x == f) ≡ false) → is_in xs f ≡ is_in ys f
    rest f e (inl same) =
        let at : x ≡ f = eqb-true x f same in
        below_all f x xs r.0 (omega arith) ∙ sym (below_all f y ys q.0 (omega arith))
    rest f e (inr apart) =
        sym (ap (λ b. b || is_in xs f) apart) ∙ h f ∙ ap (λ (a : ℕ). (a == f) || is_in ys f) (sym e) ∙ ap (λ b. b || is_in ys f) apart

-- ---- places

module _ {F : Type 0} (test : F → Bool) where
  above_places : (n m : ℕ) (items : List F) → m < n → IsAbove m (places_from n test items)
  above_places n m [] l = tt
  above_places n m (g ∷ gs) l = pick (test g) (above_places (suc n) m gs (omega arith))
    where
      pick : (b : Bool) → IsAbove m (places_from (suc n) test gs) → IsAbove m (cond b (n ∷ places_from (suc n) test gs) (places_from (suc n) test gs))
      pick true h = (l, h)
      pick false h = h

  rising_places : (n : ℕ) (items : List F) → IsRising (places_from n test items)
  rising_places n [] = tt
  rising_places n (g ∷ gs) = pick (test g) (rising_places (suc n) gs)
    where
      pick : (b : Bool) → IsRising (places_from (suc n) test gs) → IsRising (cond b (n ∷ places_from (suc n) test gs) (places_from (suc n) test gs))
      pick true h = (above_places (suc n) n gs (omega arith), h)
      pick false h = h

  -- a place is there where its item passes
  place_of : (n k : ℕ) (items : List F) → is_in (places_from n test items) (n + k) ≡ option_map_or test (slice_get items k) false
  place_of n k [] = refl
  place_of n zero (g ∷ gs) = pick (test g)
    where
      pick : (b : Bool) → is_in (cond b (n ∷ places_from (suc n) test gs) (places_from (suc n) test gs)) (n + 0) ≡ b
      pick true = ap (λ b. b || is_in (places_from (suc n) test gs) (n + 0)) (eq-eqb n (n + 0) (omega arith))
      pick false = below_all (n + 0) n (places_from (suc n) test gs) (above_places (suc n) n gs (omega arith)) (omega arith)
  place_of n (suc k) (g ∷ gs) = pick (test g) (ap (is_in (places_from (suc n) test gs)) (shifted n k) ∙ place_of (suc n) k gs)
    where
      shifted : (a b : ℕ) → a + suc b ≡ suc a + b
      shifted a b = omega arith

      pick : (b : Bool) → is_in (places_from (suc n) test gs) (n + suc k) ≡ option_map_or test (slice_get gs k) false →
          is_in (cond b (n ∷ places_from (suc n) test gs) (places_from (suc n) test gs)) (n + suc k) ≡ option_map_or test (slice_get gs k) false
      pick true h = ap (λ b. b || is_in (places_from (suc n) test gs) (n + suc k)) (ne_eqb n (n + suc k) (λ e. omega arith)) ∙ h
      pick false h = h

  place_at : (items : List F) (k : ℕ) → is_in (places_from 0 test items) k ≡ option_map_or test (slice_get items k) false
  place_at items k = ap (is_in (places_from 0 test items)) (same k) ∙ place_of 0 k items
    where
      same : (n : ℕ) → n ≡ 0 + n
      same n = omega arith

-- ---- the filters of an action that select an element

module _ (s : State) (action : Action) (x : ℕ) where
  -- the filter has the action and selects x
  acts : Filter → Bool
  acts g = acts_on pattern_found s.filters s.page.path s.page.tree action g x

  by_option : (o : Option Filter) →
      (selects pattern_found s.page.tree s.page.path (unwrap_or (option_map (λ (g : Filter). g.selector) o) []) x && option_map_or (has_action action) o false)
      ≡ option_map_or (λ g. acts_on pattern_found s.filters s.page.path s.page.tree action g x) o false
  by_option None = bool.and-false (selects pattern_found s.page.tree s.page.path [] x)
  by_option (Some g) = bool.and_comm (selects pattern_found s.page.tree s.page.path g.selector x) (has_action action g)

  module _ (rows : List (ℕ × List ℕ)) (exact : AreExact s rows) (there : is_in (all s.page.tree) x ≡ true) where
    pub members : (f : ℕ) → is_in (chosen s.filters action (row rows x)) f ≡ is_in (places_from 0 (λ g. acts_on pattern_found s.filters s.page.path s.page.tree action g x) s.filters) f
    members f =
        is_in-filter (acts_at s.filters action) (row rows x) f
        ∙ ap (λ b. b && acts_at s.filters action f) (exact f x ∙ ap (λ b. b && is_selected s f x) there)
        ∙ by_option (slice_get s.filters f)
        ∙ sym (place_at (λ g. acts_on pattern_found s.filters s.page.path s.page.tree action g x) s.filters f)

    pub chosen_places : IsRising (row rows x) → chosen s.filters action (row rows x) ≡ places_from 0 (λ g. acts_on pattern_found s.filters s.page.path s.page.tree action g x) s.filters
    chosen_places rising =
        rising_same (chosen s.filters action (row rows x)) (places_from 0 (λ g. acts_on pattern_found s.filters s.page.path s.page.tree action g x) s.filters)
        (filtered (acts_at s.filters action) (row rows x) rising)
        (rising_places (λ g. acts_on pattern_found s.filters s.page.path s.page.tree action g x) 0 s.filters)
        members

-- ---- the same by equal answers

-- the filters that select an element in two pages are the same where the answers are
module _ (s u : State) (action : Action) (x : ℕ) (same : s.filters ≡ u.filters) (alike : (f : ℕ) → is_selected s f x ≡ is_selected u f x) where
  acts_alike : (f : ℕ) → is_in (places_from 0 (λ g. acts_on pattern_found s.filters s.page.path s.page.tree action g x) s.filters) f
      ≡ is_in (places_from 0 (λ g. acts_on pattern_found u.filters u.page.path u.page.tree action g x) u.filters) f
  acts_alike f =
      place_at (λ g. acts_on pattern_found s.filters s.page.path s.page.tree action g x) s.filters f
      ∙ sym (by_option s action x (slice_get s.filters f))
      ∙ ap₂ (λ a b. a && b) (alike f) (ap (λ (l : List Filter). acts_at l action f) same)
      ∙ by_option u action x (slice_get u.filters f)
      ∙ sym (place_at (λ g. acts_on pattern_found u.filters u.page.path u.page.tree action g x) u.filters f)

  pub places_alike : places_from 0 (λ g. acts_on pattern_found s.filters s.page.path s.page.tree action g x) s.filters
      ≡ places_from 0 (λ g. acts_on pattern_found u.filters u.page.path u.page.tree action g x) u.filters
  places_alike =
      rising_same _ _ (rising_places (λ g. acts_on pattern_found s.filters s.page.path s.page.tree action g x) 0 s.filters)
      (rising_places (λ g. acts_on pattern_found u.filters u.page.path u.page.tree action g x) 0 u.filters) acts_alike
