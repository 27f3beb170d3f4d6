-- Rounds end, and as many as a tree has elements are enough.
use Rattle.std.proofs.Common.{◌≡◌, ℕ, zero, suc, ◌+◌, ◌<◌, ◌≤◌, Bool, true, false, cond, ◌||◌, ◌==◌, List, [], ◌∷◌, ◌++◌, length, map, filter, refl, subst, sym, ap, ap₂, ◌∙◌, inl, inr, ◌⊎◌, arith}
use Rattle.std.proofs.lemmas.Bool.{or_cases, eq-eqb}
use Rattle.std.specs.List.{list_any}
use Rattle.selector_tree.specs.declared.filter.Action.TheVariants.{Remove}
use Rattle.selector_tree.specs.declared.filter.Filter.{Filter}
use Rattle.selector_tree.specs.declared.filter.Taken.{Taken}
use Rattle.selector_meaning.specs.Texts.{Bytes}
use Rattle.selector_meaning.specs.Hidden.{places_from, with_row, rows_of}
use Rattle.page_tree.specs.Forest.{Forest, Tree}
use Rattle.page_tree.specs.Trees.{IsTree}
use Rattle.page_tree.specs.Standings.{all}
use Rattle.page_tree.specs.Directions.{is_in}
use Rattle.page_tree.specs.Edits.{pruned}
use Rattle.engine_meaning.specs.Hidden.{acts_on}
use Rattle.engine_meaning.specs.Rounds.{without_each, removed_rows, removed, is_outermost, taken_row, taken_in, round, after_rounds, taken_from, settled, taken}
use Rattle.engine_meaning.proofs.Cuts.{pruned-nothing}
use Rattle.engine_meaning.proofs.Outermost.{each-round}
use Rattle.engine_meaning.proofs.Fewer.{fewer_elements}

or_right : (a b : Bool) → b ≡ true → (a || b) ≡ true
or_right true b e = refl
or_right false b e = e

-- an element of the rows is one of those asked
row_of : {F : Type 0} (chooses : F → ℕ → Bool) (items : List F) (xs : List ℕ) (x : ℕ) → is_in (map (λ row. row.0) (rows_of chooses items xs)) x ≡ true → is_in xs x ≡ true
row_of chooses items [] x h = h
row_of chooses items (y ∷ ys) x h = pick (places_from 0 (λ item. chooses item y) items) (row_of chooses items ys x) h
  where
    keep : (a : Bool) → (is_in (map (λ row. row.0) (rows_of chooses items ys)) x ≡ true → is_in ys x ≡ true)
        → (a || is_in (map (λ row. row.0) (rows_of chooses items ys)) x) ≡ true → (a || is_in ys x) ≡ true
    keep true more h = refl
    keep false more h = more h

    pick : (places : List ℕ) → (is_in (map (λ row. row.0) (rows_of chooses items ys)) x ≡ true → is_in ys x ≡ true)
        → is_in (map (λ row. row.0) (with_row y places (rows_of chooses items ys))) x ≡ true → ((y == x) || is_in ys x) ≡ true
    pick [] more h = or_right (y == x) (is_in ys x) (more h)
    pick (place ∷ places) more h = keep (y == x) more h

-- a list is empty or has a first item
first_of : (xs : List ℕ) → (xs ≡ []) ⊎ ((x : ℕ) × (is_in xs x ≡ true))
first_of [] = inl refl
first_of (x ∷ xs) = inr (x, ap (λ b. b || is_in xs x) (same x))
  where
    same : (n : ℕ) → (n == n) ≡ true
    same n = eq-eqb n n refl

module _ (found : Bytes → ℕ → Bytes → Bool) (filters : List Filter) (path : Bytes) where
  -- what removes something leaves fewer elements
  pub round_fewer : (t : Tree) → (x : ℕ) → is_in (removed found filters path t) x ≡ true → length (all (round found filters path t)) < length (all t)
  round_fewer t x there =
      fewer_elements (is_in (removed found filters path t)) x there t (row_of (acts_on found filters path t Remove) filters (all t) x there)

  -- a round that takes nothing leaves the tree as it is
  pub round_same : (t : Tree) → removed found filters path t ≡ [] → round found filters path t ≡ t
  round_same t none = ap (λ (f : Forest). record { nodes = f; next = t.next }) (ap (λ (l : List ℕ). pruned (is_in l) t.nodes) none ∙ pruned-nothing t.nodes)

  rows_none : (rows : List (ℕ × List ℕ)) → map (λ row. row.0) rows ≡ [] → rows ≡ []
  rows_none [] h = refl
  rows_none (row ∷ rows) h = absurd (let no : row.0 ∷ map (λ r. r.0) rows ≡ [] = h in cc)

  -- where no element is removed, no row is taken
  none_taken : (t : Tree) (number : ℕ) → removed found filters path t ≡ [] → taken_in found filters path t number ≡ []
  none_taken t number none =
      ap (λ (rows : List (ℕ × List ℕ)). map (taken_row found filters path t number) (filter (λ row. is_outermost found filters path t row.0) rows))
      (rows_none (removed_rows found filters path t) none)

  -- a round that takes a row removes some element
  pub some_removed : (t : Tree) (number : ℕ) → (taken_in found filters path t number ≡ [] → ⊥) → (x : ℕ) × (is_in (removed found filters path t) x ≡ true)
  some_removed t number some =
      elim (first_of (removed found filters path t)) [
        | inl none ↦ absurd (some (none_taken t number none))
        | inr there ↦ there
      ]

  -- a round that takes no row removes nothing: else the outermost of what is removed would be a row
  pub none_removed : (t : Tree) (number : ℕ) → IsTree t → taken_in found filters path t number ≡ [] → removed found filters path t ≡ []
  none_removed t number tree none =
      elim (first_of (removed found filters path t)) [
        | inl nothing ↦ nothing
        | inr some ↦ absurd (falls (length (all t)) (subst (λ (u : Tree). length (all u) < length (all t)) (sym same) (round_fewer t some.0 some.1)))
      ]
    where
      same : t ≡ round found filters path t
      same = ap (λ (rows : List Taken). without_each t (map (λ row. row.node) rows)) (sym none) ∙ each-round found filters path t number tree

      falls : (n : ℕ) → n < n → ⊥
      falls n h = omega arith

  -- rounds that take nothing leave the tree as it is
  stays : (n : ℕ) (t : Tree) → removed found filters path t ≡ [] → after_rounds found filters path n t ≡ t
  stays zero t none = refl
  stays (suc n) t none = ap (after_rounds found filters path n) (round_same t none) ∙ stays n t none

  take_none : (number n : ℕ) (t : Tree) → removed found filters path t ≡ [] → taken_from found filters path number n t ≡ []
  take_none number zero t none = refl
  take_none number (suc n) t none =
      ap₂ (λ (a b : List Taken). a ++ b) (none_taken t number none)
      (ap (taken_from found filters path (suc number) n) (round_same t none) ∙ take_none (suc number) n t none)

  -- no element, nothing removed
  emptied : (t : Tree) → length (all t) ≤ 0 → removed found filters path t ≡ []
  emptied t few = by_list (all t) few
    where
      by_list : (xs : List ℕ) → length xs ≤ 0 → map (λ row. row.0) (rows_of (acts_on found filters path t Remove) filters xs) ≡ []
      by_list [] h = refl
      by_list (x ∷ xs) h = absurd (omega arith)

  -- rounds enough, and more of them
  pub enough : (n m : ℕ) (t : Tree) → length (all t) ≤ n → length (all t) ≤ m → after_rounds found filters path n t ≡ after_rounds found filters path m t
  enough zero m t h k = sym (stays m t (emptied t h))
  enough (suc n) zero t h k = stays (suc n) t (emptied t k)
  enough (suc n) (suc m) t h k =
      elim (first_of (removed found filters path t)) [
        | inl none ↦ stays (suc n) t none ∙ sym (stays (suc m) t none)
        | inr some ↦
            enough n m (round found filters path t) (omega (arith, round_fewer t some.0 some.1)) (omega (arith, round_fewer t some.0 some.1))
      ]

  pub enough_taken : (number n m : ℕ) (t : Tree) → length (all t) ≤ n → length (all t) ≤ m →
      taken_from found filters path number n t ≡ taken_from found filters path number m t
  enough_taken number zero m t h k = sym (take_none number m t (emptied t h))
  enough_taken number (suc n) zero t h k = take_none number (suc n) t (emptied t k)
  enough_taken number (suc n) (suc m) t h k =
      elim (first_of (removed found filters path t)) [
        | inl none ↦ take_none number (suc n) t none ∙ sym (take_none number (suc m) t none)
        | inr some ↦
            ap (λ (rows : List Taken). taken_in found filters path t number ++ rows)
            (enough_taken (suc number) n m (round found filters path t) (omega (arith, round_fewer t some.0 some.1)) (omega (arith, round_fewer t some.0 some.1)))
      ]

  -- the settled tree has nothing that is removed
  pub settled-quiet : (t : Tree) → removed found filters path (settled found filters path t) ≡ []
  settled-quiet t = within (length (all t)) t (omega arith)
    where
      within : (n : ℕ) (s : Tree) → length (all s) ≤ n → removed found filters path (after_rounds found filters path n s) ≡ []
      within zero s h = emptied s h
      within (suc n) s h =
          elim (first_of (removed found filters path s)) [
            | inl none ↦ ap (removed found filters path) (stays (suc n) s none) ∙ none
            | inr some ↦ within n (round found filters path s) (omega (arith, round_fewer s some.0 some.1))
          ]

  -- ---- one round, then the others

  pub settled_here : (t : Tree) → removed found filters path t ≡ [] → settled found filters path t ≡ t
  settled_here t none = stays (length (all t)) t none

  pub taken_here : (number : ℕ) (t : Tree) → removed found filters path t ≡ [] → taken_from found filters path number (length (all t)) t ≡ []
  taken_here number t none = take_none number (length (all t)) t none

  ahead : (t : Tree) (n : ℕ) → length (all (round found filters path t)) < n → settled found filters path (round found filters path t) ≡ after_rounds found filters path n t
  ahead t zero h = absurd (omega arith)
  ahead t (suc n) h = enough (length (all (round found filters path t))) n (round found filters path t) (omega arith) (omega arith)

  ahead_taken : (number : ℕ) (t : Tree) (n : ℕ) → length (all (round found filters path t)) < n → taken_in found filters path t number
      ++ taken_from found filters path (suc number) (length (all (round found filters path t))) (round found filters path t)
      ≡ taken_from found filters path number n t
  ahead_taken number t zero h = absurd (omega arith)
  ahead_taken number t (suc n) h =
      ap (λ (rows : List Taken). taken_in found filters path t number ++ rows)
      (enough_taken (suc number) (length (all (round found filters path t))) n (round found filters path t) (omega arith) (omega arith))

  module _ (t : Tree) (x : ℕ) (there : is_in (removed found filters path t) x ≡ true) where
    pub settled_on : settled found filters path (round found filters path t) ≡ settled found filters path t
    settled_on = ahead t (length (all t)) (round_fewer t x there)

    pub taken_on : (number : ℕ) → taken_in found filters path t number
        ++ taken_from found filters path (suc number) (length (all (round found filters path t))) (round found filters path t)
        ≡ taken_from found filters path number (length (all t)) t
    taken_on number = ahead_taken number t (length (all t)) (round_fewer t x there)
