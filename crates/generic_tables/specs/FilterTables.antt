-- Filters by the numbers of their keys.
use Rattle.std.specs.Prelude.{◌≡◌, ℕ, ◌+◌, ◌*◌, ◌/◌, ◌%◌, ◌^◌, ◌==◌, ◌&&◌, Bool, true, List, [], map, fold, filter, slice_get, option_map, unwrap_or}
use Rattle.std.specs.List.{list_any}
use Rattle.std.specs.List.Sorted.{IsNonDecreasingBy}
use Rattle.selector_tree.specs.declared.filter.Filter.{Filter}
use Rattle.selector_tree.specs.declared.selector.Step.{Step}
use Rattle.selector_meaning.specs.Texts.{Bytes}
use Rattle.generic_tables.specs.declared.keys.Key.{Key}
use Rattle.generic_tables.specs.declared.keys.Key.TheVariants as key
use Rattle.generic_tables.specs.declared.filters.Entry.{Entry}
use Rattle.generic_tables.specs.declared.filters.FilterTable.{FilterTable}
use Rattle.generic_tables.specs.declared.filters.FiltersFor.{FiltersFor}
use Rattle.generic_tables.specs.Keys.{key_of_chain}
use Rattle.generic_tables.specs.Carried.{key_in, same_key}

-- a number with one byte more
abbrev pub with_byte : ℕ → ℕ → ℕ
with_byte number byte = ((number * 16777619) % 2 ^ 32 + byte) % 2 ^ 32

-- the number of a text among those of a kind; never 0
abbrev pub text_number : ℕ → Bytes → ℕ
text_number kind text = fold with_byte kind text / 2 + 1

-- the number of a key
abbrev pub number_of : Key → ℕ
number_of (key.Class v) = text_number 1 v
number_of (key.Id v) = text_number 2 v
number_of (key.Name v) = text_number 3 v
number_of key.None = 0

-- the chains of the filter at a place; none past the last
abbrev pub chains_at : List Filter → ℕ → List (List Step)
chains_at filters f = unwrap_or (option_map (λ filter. filter.selector) (slice_get filters f)) []

-- whether a filter has a chain of this key
abbrev pub has_key : List Filter → Key → ℕ → Bool
has_key filters k f = list_any (same_key k) (map key_of_chain (chains_at filters f))

-- whether the key of some chain has this number
abbrev pub has_number : List (List Step) → ℕ → Bool
has_number selector n = list_any (λ k. number_of k == n) (map key_of_chain selector)

-- whether a filter stands at a number
abbrev pub stands_at : List Entry → ℕ → ℕ → Bool
stands_at entries n f = list_any (λ e. e.number == n && e.filter == f) entries

-- each filter stands at the numbers of its keys and at no other, nothing else stands there, and the numbers rise
pub record IsTableOf (filters : List Filter) (table : FilterTable) : Type 0 where
  pub stands : (n f : ℕ) → stands_at table.entries.items n f ≡ has_number (chains_at filters f) n
  pub rise : IsNonDecreasingBy (λ (e : Entry). e.number) table.entries.items

-- whether a filter that stands at the number of a key has a chain of the key
abbrev pub fits : List Filter → Key → ℕ → Bool
fits filters key.None f = true
fits filters k f = has_key filters k f

-- the filters that are still to come
abbrev pub filters_left : FiltersFor → List ℕ
filters_left found = filter (fits found.active.now (key_in found.key)) (map (λ (e : Entry). e.filter) found.entries.now)
