-- One more round of several.
use Rattle.std.proofs.Common.{◌≡◌, ℕ, suc, ◌+◌, ◌<◌, ◌≤◌, ◌++◌, true, List, [], ◌∷◌, map, length, refl, sym, ap, ◌∙◌, arith, append_assoc, length-append}
use Rattle.std.proofs.lemmas.List.{append-nil, length-map}
use Rattle.page_tree.specs.Forest.{Tree}
use Rattle.page_tree.specs.Trees.{IsTree}
use Rattle.page_tree.specs.Standings.{all}
use Rattle.page_tree.specs.Directions.{is_in}
use Rattle.cos_patterns.specs.Found.{pattern_found}
use Rattle.selector_tree.specs.declared.filter.Taken.{Taken}
use Rattle.engine_meaning.specs.Rounds.{removed, taken_row, taken_in, taken_from, round}
use Rattle.engine_meaning.specs.States.{State, rounded, round_of, settled_state}
use Rattle.engine_meaning.proofs.Fewer.{all_few}
use Rattle.engine_meaning.proofs.Settling.{none_removed, some_removed, round_same, round_fewer, settled_here, taken_here, settled_on, taken_on}
use Rattle.remove_rounds.specs.Numbered.{in_round}

-- so many rounds can be numbered
pub few_elements : (t : Tree) → IsTree t → length (all t) ≤ 1000000
few_elements t tree = omega (arith, tree.few, all_few t)

-- a round without rows, and one with some
pub no_rows : (rows : List Taken) {made : List Taken} → length rows ≡ 0 → rows ≡ made → made ≡ []
no_rows [] none is = sym is
no_rows (row ∷ rows) none is = absurd (omega arith)

pub some_rows : (rows : List Taken) {made : List Taken} (n : ℕ) → n ≡ length rows → (n ≡ 0 → ⊥) → rows ≡ made → made ≡ [] → ⊥
some_rows rows n counted some is none = some (counted ∙ ap length (is ∙ none))

-- what was taken grows by a round with rows
pub some_taken : (number : ℕ) (so_far new rows : List Taken) (n : ℕ) → n ≡ length rows → (n ≡ 0 → ⊥) → new ≡ so_far ++ map (in_round number) rows → new ≡ [] → ⊥
some_taken number so_far new rows n counted some added none =
    let all_rows : length so_far + length rows ≡ 0 = sym (length-append so_far (map (in_round number) rows) ∙ ap (λ n. length so_far + n) (length-map rows (in_round number))) ∙ ap length (sym added ∙ none) in
    some (omega arith)

module _ (s : State) where
  -- the rows of a round under its number
  numbered : (number : ℕ) (rows : List (ℕ × List ℕ)) →
      map (in_round number) (map (taken_row pattern_found s.filters s.page.path s.page.tree 1) rows) ≡ map (taken_row pattern_found s.filters s.page.path s.page.tree number) rows
  numbered number [] = refl
  numbered number (row ∷ rows) = ap (λ (l : List Taken). taken_row pattern_found s.filters s.page.path s.page.tree number row ∷ l) (numbered number rows)

  -- the last round
  module _ (tree : IsTree s.page.tree) (none : round_of pattern_found s ≡ []) where
    quiet : removed pattern_found s.filters s.page.path s.page.tree ≡ []
    quiet = none_removed pattern_found s.filters s.page.path s.page.tree 1 tree none

    pub ended : rounded pattern_found s ≡ settled_state pattern_found s
    ended =
        ap (λ (t : Tree). record s { page = record s.page { tree = t } })
        (round_same pattern_found s.filters s.page.path s.page.tree quiet ∙ sym (settled_here pattern_found s.filters s.page.path s.page.tree quiet))

    -- it leaves the page as it is
    pub rested : rounded pattern_found s ≡ s
    rested = ap (λ (t : Tree). record s { page = record s.page { tree = t } }) (round_same pattern_found s.filters s.page.path s.page.tree quiet)

    pub ended_taken : (number : ℕ) (so_far more : List Taken)
        → so_far ++ taken_from pattern_found s.filters s.page.path number (length (all s.page.tree)) s.page.tree ≡ more → so_far ≡ more
    ended_taken number so_far more h =
        sym (ap (λ (l : List Taken). so_far ++ l) (taken_here pattern_found s.filters s.page.path number s.page.tree quiet) ∙ append-nil so_far) ∙ h

  -- a round that takes something
  module _ (some : round_of pattern_found s ≡ [] → ⊥) where
    there : (x : ℕ) × (is_in (removed pattern_found s.filters s.page.path s.page.tree) x ≡ true)
    there = some_removed pattern_found s.filters s.page.path s.page.tree 1 some

    pub fewer : length (all (round pattern_found s.filters s.page.path s.page.tree)) < length (all s.page.tree)
    fewer = round_fewer pattern_found s.filters s.page.path s.page.tree there.0 there.1

    pub settled_later : settled_state pattern_found (rounded pattern_found s) ≡ settled_state pattern_found s
    settled_later =
        ap (λ (t : Tree). record s { page = record s.page { tree = t } }) (settled_on pattern_found s.filters s.page.path s.page.tree there.0 there.1)

    pub taken_later : (number : ℕ) (so_far new more rows : List Taken) → rows ≡ round_of pattern_found s → new ≡ so_far ++ map (in_round number) rows
        → so_far ++ taken_from pattern_found s.filters s.page.path number (length (all s.page.tree)) s.page.tree ≡ more
        → new ++ taken_from pattern_found s.filters s.page.path (number + 1) (length (all (round pattern_found s.filters s.page.path s.page.tree))) (round pattern_found s.filters s.page.path s.page.tree) ≡ more
    taken_later number so_far new more rows is added h =
        let later : ℕ → List Taken =
        λ (n : ℕ). taken_from pattern_found s.filters s.page.path n (length (all (round pattern_found s.filters s.page.path s.page.tree))) (round pattern_found s.filters s.page.path s.page.tree) in
        let next : number + 1 ≡ suc number = omega arith in
        ap (λ (l : List Taken). l ++ later (number + 1)) (added ∙ ap (λ (l : List Taken). so_far ++ map (in_round number) l) is ∙ ap (λ (l : List Taken). so_far ++ l) (numbered number _))
        ∙ append_assoc so_far (taken_in pattern_found s.filters s.page.path s.page.tree number) (later (number + 1))
        ∙ ap (λ (n : ℕ). so_far ++ (taken_in pattern_found s.filters s.page.path s.page.tree number ++ later n)) next
        ∙ ap (λ (l : List Taken). so_far ++ l) (taken_on pattern_found s.filters s.page.path s.page.tree there.0 there.1 number)
        ∙ h
