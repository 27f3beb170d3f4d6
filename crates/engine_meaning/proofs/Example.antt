-- Hidden elements and rounds, computed on small pages.
use Rattle.std.proofs.Common.{◌≡◌, ℕ, List, [], ◌∷◌, codes}
use Rattle.selector_tree.specs.declared.filter.Action.{Action}
use Rattle.selector_tree.specs.declared.filter.Action.TheVariants.{Hide, Remove}
use Rattle.selector_tree.specs.declared.filter.Filter.{Filter}
use Rattle.selector_tree.specs.declared.filter.Taken.{Taken}
use Rattle.selector_tree.specs.declared.selector.Place.TheVariants.{Next}
use Rattle.selector_tree.specs.declared.selector.Step.{Step}
use Rattle.selector_tree.specs.declared.selector.Step.TheVariants.{Keep, Move}
use Rattle.selector_tree.specs.declared.selector.Test.TheVariants.{Tag, Empty, Has}
use Rattle.page_tree.specs.Forest.{Forest, element, empty, node, Tree}
use Rattle.page_tree.specs.Standings.{elements, standing}
use Rattle.selector_meaning.specs.Meaning.{never}
use Rattle.selector_meaning.proofs.Laws.{step_of-Keep, step_of-Move, holds-Tag, holds-Has, holds-Empty}
use Rattle.engine_meaning.specs.Hidden.{hidden}
use Rattle.engine_meaning.specs.Rounds.{removed, round, settled, taken}

abbrev filter_of : ℕ → Action → List (List Step) → Filter
filter_of line action selector = record { list = 1; line = line; selector = selector; action = action; canonical = [] }

abbrev tree_of : Forest → Tree
tree_of nodes = record { nodes = nodes; next = 9 }

abbrev taken_row : ℕ → ℕ → List ℕ → List ℕ → Taken
taken_row number n called places = record { round = number; node = n; name = called; filters = places }

-- <a></a><b></b>, where `a:has(+ b)` and `a + b` are removed
abbrev pair : Tree
pair = tree_of (node 1 (element (codes "a") []) empty (node 2 (element (codes "b") []) empty empty))

abbrev pair_filters : List Filter
pair_filters =
    filter_of 1 Remove ((Keep (Tag (codes "a")) ∷ Keep (Has ((Move Next ∷ Keep (Tag (codes "b")) ∷ []) ∷ [])) ∷ []) ∷ []) ∷
    filter_of 2 Remove ((Keep (Tag (codes "a")) ∷ Move Next ∷ Keep (Tag (codes "b")) ∷ []) ∷ []) ∷ []

-- both go at once: neither is gone when the other is judged
both_taken : taken never pair_filters (codes "/") pair ≡ taken_row 1 1 (codes "a") (0 ∷ []) ∷ taken_row 1 2 (codes "b") (1 ∷ []) ∷ []
unfolding elements standing
both_taken = rw (step_of-Keep, holds-Tag, step_of-Keep, holds-Has, step_of-Move, step_of-Keep, holds-Tag)

nothing_left : settled never pair_filters (codes "/") pair ≡ tree_of empty
unfolding elements standing
nothing_left = rw (step_of-Keep, holds-Tag, step_of-Keep, holds-Has, step_of-Move, step_of-Keep, holds-Tag)

-- <div><div></div></div>, where `div:empty` is removed and `div` hidden
abbrev nested : Tree
nested =
    tree_of (node 1 (element (codes "div") []) (node 2 (element (codes "div") []) empty empty) empty)

abbrev empty_filters : List Filter
empty_filters = filter_of 1 Remove ((Keep (Tag (codes "div")) ∷ Keep Empty ∷ []) ∷ []) ∷ filter_of 2 Hide ((Keep (Tag (codes "div")) ∷ []) ∷ []) ∷ []

-- a round judges the tree before it alone, so the innermost goes first
innermost_removed : removed never empty_filters (codes "/") nested ≡ 2 ∷ []
unfolding elements standing
innermost_removed = rw (step_of-Keep, holds-Tag, step_of-Keep, holds-Empty)

two_rounds : taken never empty_filters (codes "/") nested
    ≡ taken_row 1 2 (codes "div") (0 ∷ []) ∷ taken_row 2 1 (codes "div") (0 ∷ []) ∷ []
unfolding elements standing
two_rounds = rw (step_of-Keep, holds-Tag, step_of-Keep, holds-Empty, step_of-Keep, holds-Tag, step_of-Keep, holds-Empty)

-- a filter that removes hides nothing
hidden_before : hidden never empty_filters (codes "/") nested ≡ (1, 1 ∷ []) ∷ (2, 1 ∷ []) ∷ []
unfolding elements standing
hidden_before = rw (step_of-Keep, holds-Tag)

-- <p><p></p></p>, all of which is removed: what is below a removed element is no row of its own
abbrev within : Tree
within = tree_of (node 1 (element (codes "p") []) (node 2 (element (codes "p") []) empty empty) empty)

abbrev within_filters : List Filter
within_filters = filter_of 1 Remove ((Keep (Tag (codes "p")) ∷ []) ∷ []) ∷ []

both_removed : removed never within_filters (codes "/") within ≡ 1 ∷ 2 ∷ []
unfolding elements standing
both_removed = rw (step_of-Keep, holds-Tag)

outermost_taken : taken never within_filters (codes "/") within ≡ taken_row 1 1 (codes "p") (0 ∷ []) ∷ []
unfolding elements standing
outermost_taken = rw (step_of-Keep, holds-Tag)

gone_at_once : round never within_filters (codes "/") within ≡ tree_of empty
unfolding elements standing
gone_at_once = rw (step_of-Keep, holds-Tag)
