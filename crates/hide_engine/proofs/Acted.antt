-- Which elements the filters of an action select, and how many, by exact marks.
use Rattle.std.proofs.Common.{◌≡◌, ℕ, zero, suc, ◌<◌, ◌+◌, Bool, true, false, ◌&&◌, ◌||◌, ◌==◌, cond, List, [], ◌∷◌, filter, length, nat_eq, take, Option, Some, None, refl, sym, ap, ◌∙◌, inl, inr, ◌⊎◌, arith}
use Rattle.std.specs.Prelude.{unwrap_or, is_some}
use Rattle.std.specs.List.{list_any, IsDistinct, AllByRecursion}
use Rattle.std.specs.Map.{keys_of, lookup}
use Rattle.std.proofs.Math.Bool as bool
use Rattle.std.proofs.lemmas.Bool.{cases_Bool, eq-eqb, eqb-true, false≢true}
use Rattle.std.proofs.lemmas.Cmp.{nat_eq_equiv}
use Rattle.std.proofs.lemmas.Map.Entries.{length-keys_of, lookup-filter-values, option_filter}
use Rattle.std.proofs.lemmas.Map.Made.{is_some-lookup, IsDistinct-keys_filter, length-from_same_keys}
use Rattle.page_tree.specs.Standings.{all}
use Rattle.page_tree.specs.Directions.{is_in}
use Rattle.page_tree.specs.Trees.{IsTree}
use Rattle.cos_patterns.specs.Found.{pattern_found}
use Rattle.kept_marks.specs.Kept.{row, row_in}
use Rattle.generic_tables.proofs.Written.{contains-in, eq-turned}
use Rattle.selector_tree.specs.declared.filter.Action.{Action}
use Rattle.selector_tree.specs.declared.filter.Filter.{Filter}
use Rattle.selector_meaning.specs.Hidden.{places_from, with_row, rows_of}
use Rattle.sensor_laws.specs.Frame.{IsDistinct as AreApart}
use Rattle.sensor_laws.proofs.Tops.{numbered}
use Rattle.change_laws.proofs.Made.{well_formed}
use Rattle.engine_meaning.specs.Hidden.{acts_on, acted_on}
use Rattle.engine_meaning.specs.States.{State}
use Rattle.hide_engine.specs.Exact.{is_selected, AreExact}
use Rattle.hide_engine.specs.Chosen.{acts_at, chosen, acting_rows}
use Rattle.hide_engine.proofs.Places.{members}

-- ---- some number is there
some_number : List ℕ → Bool
some_number [] = false
some_number (n ∷ ns) = true

any_chosen : (p : ℕ → Bool) (xs : List ℕ) → list_any p xs ≡ some_number (filter p xs)
unfolding some_number
any_chosen p [] = refl
any_chosen p (x ∷ xs) = pick (p x) (any_chosen p xs)
  where
    pick : (b : Bool) → list_any p xs ≡ some_number (filter p xs) → (b || list_any p xs) ≡ some_number (cond b (x ∷ filter p xs) (filter p xs))
    pick true h = refl
    pick false h = h

here : (x : ℕ) (xs : List ℕ) → is_in (x ∷ xs) x ≡ true
here x xs = ap (λ b. b || is_in xs x) (eq-eqb x x refl)

-- it is so by the members alone
some_alike : (a b : List ℕ) → ((f : ℕ) → is_in a f ≡ is_in b f) → some_number a ≡ some_number b
unfolding some_number
some_alike [] [] h = refl
some_alike [] (y ∷ ys) h = absurd (false≢true (h y ∙ here y ys))
some_alike (x ∷ xs) [] h = absurd (false≢true (sym (h x) ∙ here x xs))
some_alike (x ∷ xs) (y ∷ ys) h = refl

none_there : (xs : List ℕ) → ((f : ℕ) → is_in xs f ≡ false) → xs ≡ []
none_there [] h = refl
none_there (x ∷ xs) h = absurd (false≢true (sym (h x) ∙ here x xs))

-- ---- rows of elements

module _ {F : Type 0} (chooses : F → ℕ → Bool) (items : List F) where
  -- an element has a row where it is asked and has places
  has_row : (xs : List ℕ) (x : ℕ) →
      is_in (keys_of (rows_of chooses items xs)) x ≡ (is_in xs x && some_number (places_from 0 (λ item. chooses item x) items))
  unfolding some_number
  has_row [] x = refl
  has_row (y ∷ ys) x =
      pick (cases_Bool (y == x)) (places_from 0 (λ item. chooses item y) items) refl (has_row ys x)
    where
      own : ℕ → Bool
      own z = some_number (places_from 0 (λ item. chooses item z) items)

      pick : ((y == x) ≡ true) ⊎ ((y == x) ≡ false) → (places : List ℕ) → places_from 0 (λ item. chooses item y) items ≡ places
          → is_in (keys_of (rows_of chooses items ys)) x ≡ (is_in ys x && own x)
          → is_in (keys_of (with_row y places (rows_of chooses items ys))) x ≡ (((y == x) || is_in ys x) && own x)
      pick (inl same) [] e h =
          let nothing : own x ≡ false = ap own (sym (eqb-true y x same)) ∙ ap some_number e in
          h ∙ ap (λ b. is_in ys x && b) nothing ∙ bool.and-false (is_in ys x) ∙ sym (ap (λ b. ((y == x) || is_in ys x) && b) nothing ∙ bool.and-false ((y == x) || is_in ys x))
      pick (inl same) (place ∷ places) e h =
          let something : own x ≡ true = ap own (sym (eqb-true y x same)) ∙ ap some_number e in
          ap (λ b. b || is_in (keys_of (rows_of chooses items ys)) x) same
          ∙ sym (ap (λ b. (b || is_in ys x) && own x) same ∙ something)
      pick (inr apart) [] e h = h ∙ sym (ap (λ b. (b || is_in ys x) && own x) apart)
      pick (inr apart) (place ∷ places) e h =
          ap (λ b. b || is_in (keys_of (rows_of chooses items ys)) x) apart ∙ h ∙ sym (ap (λ b. (b || is_in ys x) && own x) apart)

  -- what differs from all elements differs from those of the rows
  rows_differ : (x : ℕ) (xs : List ℕ) → AllByRecursion (λ y. nat_eq x y ≡ false) xs → AllByRecursion (λ y. nat_eq x y ≡ false) (keys_of (rows_of chooses items xs))
  rows_differ x [] h = tt
  rows_differ x (y ∷ ys) h = pick (places_from 0 (λ item. chooses item y) items) (rows_differ x ys h.1)
    where
      pick : (places : List ℕ) → AllByRecursion (λ y. nat_eq x y ≡ false) (keys_of (rows_of chooses items ys)) →
          AllByRecursion (λ y. nat_eq x y ≡ false) (keys_of (with_row y places (rows_of chooses items ys)))
      pick [] rest = rest
      pick (place ∷ places) rest = (h.0, rest)

  rows_distinct : (xs : List ℕ) → IsDistinct nat_eq xs → IsDistinct nat_eq (keys_of (rows_of chooses items xs))
  unfolding IsDistinct
  rows_distinct [] h = tt
  rows_distinct (x ∷ xs) h = pick (places_from 0 (λ item. chooses item x) items) (rows_distinct xs h.1)
    where
      pick : (places : List ℕ) → IsDistinct nat_eq (keys_of (rows_of chooses items xs)) → IsDistinct nat_eq (keys_of (with_row x places (rows_of chooses items xs)))
      pick [] rest = rest
      pick (place ∷ places) rest = (rows_differ x xs h.0, rest)

-- the elements of a page are distinct
differs : (x : ℕ) (xs : List ℕ) → is_in xs x ≡ false → AllByRecursion (λ y. nat_eq x y ≡ false) xs
differs x [] h = tt
differs x (y ∷ ys) h = elim (cases_Bool (y == x)) [
  | inl e ↦ absurd (false≢true (sym h ∙ ap (λ b. b || is_in ys x) e))
  | inr e ↦ (eq-turned x y ∙ e, differs x ys (sym (ap (λ b. b || is_in ys x) e) ∙ h))
]

distinct : (xs : List ℕ) → AreApart xs → IsDistinct nat_eq xs
unfolding IsDistinct
distinct [] h = tt
distinct (x ∷ xs) h = (differs x xs h.0, distinct xs h.1)

-- ---- the rows of marks

module _ (s : State) (action : Action) (rows : List (ℕ × List ℕ)) (exact : AreExact s rows) where
  -- a filter of the action selects x
  pub is_acted : (x : ℕ) → is_in (keys_of (acted_on pattern_found s.filters s.page.path s.page.tree action)) x ≡ list_any (acts_at s.filters action) (row rows x)
  is_acted x =
      let acts = acts_on pattern_found s.filters s.page.path s.page.tree action in
      let some = some_number (places_from 0 (λ item. acts item x) s.filters) in
      has_row acts s.filters (all s.page.tree) x
      ∙ elim (cases_Bool (is_in (all s.page.tree) x)) [
        | inl there ↦ ap (λ b. b && some) there
            ∙ some_alike (places_from 0 (λ item. acts item x) s.filters) (chosen s.filters action (row rows x)) (λ f. sym (members s action x rows exact there f))
            ∙ sym (any_chosen (acts_at s.filters action) (row rows x))
        | inr away ↦ ap (λ b. b && some) away
            ∙ sym (ap (list_any (acts_at s.filters action)) (none_there (row rows x) (λ f. exact f x ∙ ap (λ b. b && is_selected s f x) away)))
      ]

  module _ (tree : IsTree s.page.tree) (once : IsDistinct nat_eq (keys_of rows)) where
    found_row : (o : Option (List ℕ)) → is_some (option_filter (list_any (acts_at s.filters action)) o) ≡ list_any (acts_at s.filters action) (unwrap_or o [])
    found_row None = refl
    found_row (Some places) = pick (list_any (acts_at s.filters action) places)
      where
        pick : (b : Bool) → is_some (cond b (Some places) None) ≡ b
        pick true = refl
        pick false = refl

    same_keys : (x : ℕ) → list_any (nat_eq x) (keys_of (acting_rows s.filters action rows)) ≡ list_any (nat_eq x) (keys_of (acted_on pattern_found s.filters s.page.path s.page.tree action))
    same_keys x =
        sym (is_some-lookup (nat_eq x) (acting_rows s.filters action rows))
        ∙ ap is_some (lookup-filter-values nat_eq_equiv (list_any (acts_at s.filters action)) x rows once)
        ∙ found_row (lookup (nat_eq x) rows)
        ∙ sym (is_acted x)
        ∙ sym (contains-in (keys_of (acted_on pattern_found s.filters s.page.path s.page.tree action)) x)

    -- so many rows as elements
    pub acted_length : length (acting_rows s.filters action rows) ≡ length (acted_on pattern_found s.filters s.page.path s.page.tree action)
    acted_length =
        let acted = acted_on pattern_found s.filters s.page.path s.page.tree action in
        sym (length-keys_of (acting_rows s.filters action rows))
        ∙ length-from_same_keys nat_eq_equiv (keys_of (acting_rows s.filters action rows)) (keys_of acted)
        (IsDistinct-keys_filter nat_eq (λ entry. list_any (acts_at s.filters action) entry.1) rows once)
        (rows_distinct (acts_on pattern_found s.filters s.page.path s.page.tree action) s.filters (all s.page.tree) (distinct (all s.page.tree) (numbered s.page.tree (well_formed s.page.tree tree)).distinct))
        same_keys
        ∙ length-keys_of acted

-- one more row
pub one_row : (filters : List Filter) (action : Action) (rows : List (ℕ × List ℕ)) (i : ℕ) → i < length rows →
    length (acting_rows filters action (take (suc i) rows)) ≡ length (acting_rows filters action (take i rows)) + cond (list_any (acts_at filters action) (row_in rows i)) 1 0
one_row filters action [] i lt = absurd (omega (arith, lt))
one_row filters action (entry ∷ rows) zero lt = pick (list_any (acts_at filters action) entry.1)
  where
    pick : (b : Bool) → length (cond b (entry ∷ []) []) ≡ 0 + cond b 1 0
    pick true = refl
    pick false = refl
one_row filters action (entry ∷ rows) (suc i) lt = pick (list_any (acts_at filters action) entry.1) (one_row filters action rows i (omega (arith, lt)))
  where
    n : ℕ
    n = cond (list_any (acts_at filters action) (row_in rows i)) 1 0

    pick : (b : Bool) → length (acting_rows filters action (take (suc i) rows)) ≡ length (acting_rows filters action (take i rows)) + n →
        length (cond b (entry ∷ acting_rows filters action (take (suc i) rows)) (acting_rows filters action (take (suc i) rows)))
        ≡ length (cond b (entry ∷ acting_rows filters action (take i rows)) (acting_rows filters action (take i rows))) + n
    pick true h = omega (arith, h)
    pick false h = h
