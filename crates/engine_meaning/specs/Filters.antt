-- What is done with the elements that a filter selects, and when filters may be asked.
use Rattle.std.specs.Prelude.{◌≡◌, ◌<◌, ◌^◌, Bool, true, false, List, length, All}
use Rattle.cos_patterns.specs.declared.written.Written.{Written}
use Rattle.proper_filters.specs.Degrees.{have_degrees}
use Rattle.proper_filters.specs.Proper.{is_proper}
use Rattle.selector_tree.specs.declared.filter.Action.{Action}
use Rattle.selector_tree.specs.declared.filter.Action.TheVariants.{Hide, Remove}
use Rattle.selector_tree.specs.declared.filter.Filter.{Filter}

abbrev pub is_action : Action → Action → Bool
is_action Hide Hide = true
is_action Hide Remove = false
is_action Remove Hide = false
is_action Remove Remove = true

-- the filter has this action
abbrev pub has_action : Action → Filter → Bool
has_action action f = is_action action f.action

-- what the filter selects is hidden
abbrev pub is_hide : Filter → Bool
is_hide = has_action Hide

-- what the filter selects is taken out of the page
abbrev pub is_remove : Filter → Bool
is_remove = has_action Remove

-- the filter may be asked, over a table of these patterns, and each `:upward(n)` in it has a number of at least 1
abbrev pub MayBeAsked : List Written → Filter → Type 0
MayBeAsked patterns f = (is_proper patterns f.selector ≡ true) × (have_degrees f.selector ≡ true)

-- each of the filters may be asked, and their places are numbers of 32 bits
pub record AreAskable (patterns : List Written) (filters : List Filter) : Type 0 where
  pub proper : All (MayBeAsked patterns) filters
  pub few : length filters < 2 ^ 32
