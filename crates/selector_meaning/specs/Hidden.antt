-- Which elements are hidden, and by which selectors. Selectors go by their places in their list, from 0.
use Rattle.std.specs.Prelude.{ℕ, suc, Bool, cond, List, [], ◌∷◌}
use Rattle.selector_tree.specs.declared.selector.Step.{Step}
use Rattle.page_tree.specs.Forest.{Tree}
use Rattle.page_tree.specs.Standings.{all}
use Rattle.selector_meaning.specs.Texts.{Bytes}
use Rattle.selector_meaning.specs.Meaning.{selects}

-- the places of the items that pass, where the first item has place n
abbrev pub places_from : {F : Type 0} → ℕ → (F → Bool) → List F → List ℕ
places_from n test [] = []
places_from n test (f ∷ fs) = cond (test f) (n ∷ places_from (suc n) test fs) (places_from (suc n) test fs)

-- the rows, and before them the row of x, if it has places
abbrev pub with_row : ℕ → List ℕ → List (ℕ × List ℕ) → List (ℕ × List ℕ)
with_row x [] rows = rows
with_row x (place ∷ places) rows = (x, place ∷ places) ∷ rows

-- each of some elements, with the places of the items that choose it; those that no item chooses are left out
abbrev pub rows_of : {F : Type 0} → (F → ℕ → Bool) → List F → List ℕ → List (ℕ × List ℕ)
rows_of chooses items [] = []
rows_of chooses items (x ∷ xs) = with_row x (places_from 0 (λ item. chooses item x) items) (rows_of chooses items xs)

module _ (found : Bytes → ℕ → Bytes → Bool) (t : Tree) (path : Bytes) where
  -- the places of the selectors that select x
  abbrev pub selected_places : List (List (List Step)) → ℕ → List ℕ
  selected_places selectors x = places_from 0 (λ selector. selects found t path selector x) selectors

  -- each element that some selector selects, in document order, with the places of all that select it
  abbrev pub hidden : List (List (List Step)) → List (ℕ × List ℕ)
  hidden selectors = rows_of (selects found t path) selectors (all t)
