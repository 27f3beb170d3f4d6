-- What is asked again, of a page and its filters.
use Rattle.std.specs.Prelude.{◌≡◌, ℕ, ◌<◌, Bool, true, List, length, slice_get, unwrap_or}
use Rattle.cos_patterns.specs.Found.{pattern_found}
use Rattle.selector_meaning.specs.Meaning.{selects}
use Rattle.proper_filters.specs.Proper.{is_proper}
use Rattle.remembered.specs.declared.members.Front.{Front}
use Rattle.procedural_ops.specs.Told.{selector_at}
use Rattle.procedural_ops.specs.Others.{AreRight}
use Rattle.generic_tables.specs.Keys.{is_keyed}
use Rattle.generic_tables.specs.FilterTables.{IsTableOf}
use Rattle.retest.specs.declared.asking.Asking.{Asking}
use Rattle.retest.specs.Noted.{Noted, is_pending}

-- whether a filter selects an element; none past the last does
abbrev pub answers : Asking → ℕ → ℕ → Bool
answers asking f x = selects pattern_found asking.context.dom.now asking.context.path.now (selector_at asking.active.now f) x

-- whether an element carries a key of a filter
abbrev pub carried : Asking → ℕ → ℕ → Bool
carried asking f x = is_keyed asking.context.dom.now (selector_at asking.active.now f) x

-- the group of a filter; 0 past the last
abbrev pub group_in : List ℕ → ℕ → ℕ
group_in groups f = unwrap_or (slice_get groups f) 0

-- whether a filter's group is pending at an element
abbrev pub pends : Asking → Noted → ℕ → ℕ → Bool
pends asking pending f x = is_pending pending (group_in asking.groups.now f) x

-- each filter may be asked, and is found by the keys of its chains
pub record IsReady (asking : Asking) : Type 0 where
  pub proper : (f : ℕ) → f < length asking.active.now → is_proper asking.context.table.now.patterns (selector_at asking.active.now f) ≡ true
  pub filed : IsTableOf asking.active.now asking.keyed.now

-- what is remembered of `:others()` is right for the page as it stands and the filters
abbrev pub AreRightFor : Asking → List (Front × Bool) → Type 0
AreRightFor asking members = AreRight asking.context.dom.now asking.context.path.now asking.active.now members
