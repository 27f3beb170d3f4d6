-- The filters of an action among places in a list of filters.
use Rattle.std.specs.Prelude.{◌≡◌, ℕ, Bool, false, List, filter, slice_get}
use Rattle.std.specs.List.{list_any}
use Rattle.std.specs.Option.{option_map_or}
use Rattle.selector_tree.specs.declared.filter.Action.{Action}
use Rattle.selector_tree.specs.declared.filter.Filter.{Filter}
use Rattle.cos_patterns.specs.Found.{pattern_found}
use Rattle.engine_meaning.specs.Filters.{has_action}
use Rattle.engine_meaning.specs.States.{State, hidden_of}

-- the filter at a place has this action; none past the last has one
abbrev pub acts_at : List Filter → Action → ℕ → Bool
acts_at filters action f = option_map_or (has_action action) (slice_get filters f) false

-- the places of the filters that have this action
abbrev pub chosen : List Filter → Action → List ℕ → List ℕ
chosen filters action places = filter (acts_at filters action) places

-- the rows that have a filter of this action
abbrev pub acting_rows : List Filter → Action → List (ℕ × List ℕ) → List (ℕ × List ℕ)
acting_rows filters action rows = filter (λ entry. list_any (acts_at filters action) entry.1) rows

-- the hidden elements of a page are those of another one before, in the same order, each with the same filters
abbrev pub HidesSame : State → State → Type 0
HidesSame before after = hidden_of pattern_found after ≡ hidden_of pattern_found before
