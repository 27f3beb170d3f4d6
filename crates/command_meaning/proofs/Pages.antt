-- Pages settle alike, and the same is hidden and taken, without the numbers of patterns.
use Rattle.std.proofs.Common.{◌≡◌, ℕ, zero, suc, ◌&&◌, ◌++◌, Bool, not, cond, List, [], ◌∷◌, length, map, filter, refl, ap, ap₂, ◌∙◌}
use Rattle.std.specs.List.{list_any}
use Rattle.cos_patterns.specs.Found.{pattern_found}
use Rattle.page_tree.specs.Forest.{Tree}
use Rattle.page_tree.specs.Standings.{above, all}
use Rattle.page_tree.specs.Directions.{is_in}
use Rattle.page_tree.specs.Edits.{pruned}
use Rattle.selector_meaning.specs.Hidden.{places_from, with_row, rows_of}
use Rattle.selector_meaning.specs.Meaning.{selects}
use Rattle.selector_meaning.proofs.Unnumbered.{unnumbered_selects}
use Rattle.selector_tree.specs.declared.filter.Action.{Action}
use Rattle.selector_tree.specs.declared.filter.Action.TheVariants.{Hide, Remove}
use Rattle.selector_tree.specs.declared.filter.Filter.{Filter}
use Rattle.engine_meaning.specs.Filters.{has_action}
use Rattle.engine_meaning.specs.Hidden.{acted_on}
use Rattle.engine_meaning.specs.Rounds.{after_rounds, round, taken_from, taken_in, taken_row}
use Rattle.engine_meaning.specs.States.{State, hidden_of, settled_state, taken_of}
use Rattle.command_meaning.specs.Numbers.{unnumbered_filter, unnumbered_state}

-- items that choose alike before and after a change of each
places_alike : {F : Type 0} (g : F → F) (p : F → Bool) → ((f : F) → p (g f) ≡ p f) → (n : ℕ) (items : List F) → places_from n p (map g items) ≡ places_from n p items
places_alike g p h n [] = refl
places_alike g p h n (f ∷ items) = ap₂ (λ (b : Bool) (ns : List ℕ). cond b (n ∷ ns) ns) (h f) (places_alike g p h (suc n) items)

rows_alike : {F : Type 0} (g : F → F) (chooses : F → ℕ → Bool) → ((f : F) (x : ℕ) → chooses (g f) x ≡ chooses f x) → (items : List F) (xs : List ℕ) →
    rows_of chooses (map g items) xs ≡ rows_of chooses items xs
rows_alike g chooses h items [] = refl
rows_alike g chooses h items (x ∷ xs) =
    ap₂ (with_row x) (places_alike g (λ f. chooses f x) (λ f. h f x) 0 items) (rows_alike g chooses h items xs)

-- a tree without the elements of some rows
abbrev without : Tree → List (ℕ × List ℕ) → Tree
without t rows = record { nodes = pruned (is_in (map (λ row. row.0) rows)) t.nodes; next = t.next }

module _ (filters : List Filter) (path : List ℕ) where
  same_acted : (action : Action) (t : Tree) → acted_on pattern_found (map unnumbered_filter filters) path t action ≡ acted_on pattern_found filters path t action
  same_acted action t =
      rows_alike unnumbered_filter (λ f x. has_action action f && selects pattern_found t path f.selector x)
      (λ f x. ap (λ (b : Bool). has_action action f && b) (unnumbered_selects pattern_found t path f.selector x)) filters (all t)

  same_round : (t : Tree) → round pattern_found (map unnumbered_filter filters) path t ≡ round pattern_found filters path t
  same_round t = ap (without t) (same_acted Remove t)

  same_taken_in : (number : ℕ) (t : Tree) → taken_in pattern_found (map unnumbered_filter filters) path t number ≡ taken_in pattern_found filters path t number
  same_taken_in number t =
      ap (λ (rows : List (ℕ × List ℕ)).
      map (taken_row pattern_found filters path t number) (filter (λ row. not (list_any (is_in (map (λ row. row.0) rows)) (above t row.0))) rows)) (same_acted Remove t)

  same_after : (n : ℕ) (t : Tree) → after_rounds pattern_found (map unnumbered_filter filters) path n t ≡ after_rounds pattern_found filters path n t
  same_after zero t = refl
  same_after (suc n) t =
      ap (after_rounds pattern_found (map unnumbered_filter filters) path n) (same_round t) ∙ same_after n (round pattern_found filters path t)

  same_taken : (number n : ℕ) (t : Tree) → taken_from pattern_found (map unnumbered_filter filters) path number n t ≡ taken_from pattern_found filters path number n t
  same_taken number zero t = refl
  same_taken number (suc n) t =
      ap₂ ◌++◌ (same_taken_in number t)
      (ap (taken_from pattern_found (map unnumbered_filter filters) path (suc number) n) (same_round t) ∙ same_taken (suc number) n (round pattern_found filters path t))

-- the same elements are hidden
pub same_hidden : (s : State) → hidden_of pattern_found (unnumbered_state s) ≡ hidden_of pattern_found s
same_hidden s = same_acted s.filters s.page.path Hide s.page.tree

abbrev unnumbered_at : State → Tree → State
unnumbered_at s t = record s { page = record s.page { tree = t }; filters = map unnumbered_filter s.filters }

-- rounds lead to the same tree
pub same_settled : (s : State) → settled_state pattern_found (unnumbered_state s) ≡ unnumbered_state (settled_state pattern_found s)
same_settled s =
    ap (unnumbered_at s)
    (same_after s.filters s.page.path (length (all s.page.tree)) s.page.tree)

-- and take the same
pub same_taken_of : (s : State) → taken_of pattern_found (unnumbered_state s) ≡ taken_of pattern_found s
same_taken_of s = same_taken s.filters s.page.path 1 (length (all s.page.tree)) s.page.tree
