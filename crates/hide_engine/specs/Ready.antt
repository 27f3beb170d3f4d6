-- What an engine keeps, between two events and within one.
use Rattle.std.specs.Prelude.{◌≡◌, ℕ, ◌<◌, Bool, false, not, ◌&&◌, List, [], ◌∷◌, length}
use Rattle.page_tree.specs.Forest.{Tree}
use Rattle.page_tree.specs.Edits.{children_of}
use Rattle.page_tree.specs.Standings.{all}
use Rattle.page_tree.specs.Directions.{is_in}
use Rattle.page_tree.specs.Trees.{IsTree}
use Rattle.mutation_script.specs.declared.mutation.Mutation.{Mutation}
use Rattle.mutation_script.specs.declared.mutation.Mutation.TheVariants.{Insert, Delete}
use Rattle.mutation_script.specs.declared.page.PageState.{PageState}
use Rattle.sensor_meaning.specs.declared.change.Change.{Change}
use Rattle.sensor_meaning.specs.Changes.{Becomes}
use Rattle.sensor_meaning.specs.Dirty.{is_under}
use Rattle.generic_tables.specs.FilterTables.{IsTableOf}
use Rattle.kept_marks.specs.Kept.{is_marked}
use Rattle.retest.specs.Asked.{group_in}
use Rattle.retest.specs.Noted.{Noted, is_pending}
use Rattle.retest_laws.specs.Pending.{Pairs, IsRightBut}
use Rattle.std.specs.List.{list_any}
use Rattle.engine_meaning.specs.Filters.{is_remove, AreAskable}
use Rattle.engine_meaning.specs.States.{State}
use Rattle.hide_engine.specs.declared.filter_set.FilterSet.{FilterSet}
use Rattle.hide_engine.specs.declared.planned.Planned.{Planned}
use Rattle.hide_engine.specs.declared.planned.Planned.TheVariants.{Known, Comes}
use Rattle.hide_engine.specs.Changes.{change_of}
use Rattle.hide_engine.specs.Exact.{is_selected, AreExact}
use Rattle.hide_engine.specs.Groups.{AreGrouped}

abbrev pub state_of : PageState → FilterSet → State
state_of page filters = record { page = page; filters = filters.active }

-- the filters may be asked, they are found by their keys, each is in the group of its sensors, and it is known whether one removes
pub record AreReady (filters : FilterSet) : Type 0 where
  pub askable : AreAskable filters.table.patterns filters.active
  pub filed : IsTableOf filters.active filters.keyed
  pub grouped : AreGrouped filters.active filters.groups.sets.items filters.groups.numbers
  pub removing : filters.removes ≡ list_any is_remove filters.active

-- what an engine keeps: its filters are ready, and its marks are exact
pub record IsKept (page : PageState) (filters : FilterSet) (rows : List (ℕ × List ℕ)) : Type 0 where
  pub ready : AreReady filters
  pub exact : AreExact (state_of page filters) rows

-- ---- within an event

-- what is pending for a filter is what is pending for its group
abbrev pub pended : FilterSet → Noted → Pairs
pended filters pending f x = is_pending pending (group_in filters.groups.numbers f) x

-- the marks are exact but for what is pending
abbrev pub IsRight : PageState → FilterSet → List (ℕ × List ℕ) → Noted → Type 0
IsRight page filters rows pending =
    IsRightBut (all page.tree) (is_selected (state_of page filters)) (is_marked rows) (pended filters pending)

-- just these pairs are pending
abbrev pub IsGiven : FilterSet → Noted → Pairs → Type 0
IsGiven filters pending given = (f x : ℕ) → f < length filters.active → pended filters pending f x ≡ given f x

-- a change leads from a page to another one, which has these elements no more
pub record IsStep (old new : PageState) (change : Change) (gone : List ℕ) : Type 0 where
  pub before : IsTree old.tree
  pub after : IsTree new.tree
  pub becomes : Becomes change old.tree old.path new.tree new.path
  pub leaves : (x : ℕ) → is_in gone x ≡ (is_in (all old.tree) x && not (is_in (all new.tree) x))

-- whether x goes with a mutation
abbrev pub goes_by : Mutation → Tree → ℕ → Bool
goes_by (Delete n) t x = is_under (n ∷ []) t x
goes_by _ t x = false

-- the change of a mutation is known, or but for what comes
abbrev pub IsPlanned : Planned → Mutation → Tree → Type 0
IsPlanned (Known change) mutation t = change ≡ change_of mutation t
IsPlanned (Comes parent place children) mutation t =
    (html : List ℕ) × (mutation ≡ Insert parent place html) × (children ≡ children_of parent t)
