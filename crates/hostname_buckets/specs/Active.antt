-- Which filters of lists are active on a page (uBlock Origin wiki, "Static filter syntax").
use Rattle.std.specs.Prelude.{ℕ, ◌&&◌, ◌||◌, Bool, true, false, not, List, [], ◌∷◌, ◌++◌, Option, Some, None, option_to_list, if◌then◌else◌}
use Rattle.std.specs.List.{flat_map, list_any}
use Rattle.std.specs.Str.{bytes_eq}
use Rattle.address_patterns.specs.declared.options.HideOptions.{HideOptions}
use Rattle.address_patterns.specs.declared.page.Page.{Page}
use Rattle.address_patterns.specs.Patterns.{matches}
use Rattle.filter_scope.specs.declared.scope.Scope.{Scope}
use Rattle.filter_scope.specs.Scopes.{applies, is_generic}
use Rattle.host_names.specs.Suffixes.{Rule, rest}
use Rattle.list_entries.specs.declared.entry.Entry.{Entry}
use Rattle.list_entries.specs.declared.entry.Entry.TheVariants as entry
use Rattle.list_entries.specs.declared.entry.ListRead.{ListRead}
use Rattle.selector_tree.specs.declared.filter.Filter.{Filter}
use Rattle.hostname_buckets.specs.declared.store.SwitchedOff.{SwitchedOff}

-- ---- page options

-- a page option without a domain applies to every host
abbrev pub is_in_domain : List ℕ → Option (List ℕ) → Option Scope → Bool
is_in_domain host rest None = true
is_in_domain host rest (Some scope) = applies scope host rest

-- `elemhide` turns all filters off, `generichide` those with a generic scope, and `specifichide` the others
abbrev pub turns_off : HideOptions → Bool → Bool
turns_off options generic = options.elem || (if generic then options.generic else options.specific)

-- the entry is a page option that applies to a page, whose host has that rest, and turns generic filters off, or specific ones
abbrev pub switches_off : Page → Option (List ℕ) → Bool → Entry → Bool
switches_off page rest generic (entry.Filter filter scope) = false
switches_off page rest generic (entry.Exception canonical scope) = false
switches_off page rest generic (entry.Page pattern domain options) =
    turns_off options generic && (is_in_domain page.host rest domain && matches pattern page)

-- what the page options of lists switch off
abbrev pub switched_off : List Entry → Page → Option (List ℕ) → SwitchedOff
switched_off entries page rest = record {
  generic = list_any (switches_off page rest true) entries;
  specific = list_any (switches_off page rest false) entries;
}

abbrev pub is_off : SwitchedOff → Scope → Bool
is_off off scope = if is_generic scope then off.generic else off.specific

-- ---- exceptions

-- the entry is an exception that applies to a host with that rest, and has this canonical text
abbrev pub excepts : List ℕ → Option (List ℕ) → List ℕ → Entry → Bool
excepts host rest canonical (entry.Filter filter scope) = false
excepts host rest canonical (entry.Exception text scope) = bytes_eq text canonical && applies scope host rest
excepts host rest canonical (entry.Page pattern domain options) = false

-- ---- filters

-- a filter is active where its scope applies, its sort isn't switched off, and no exception has its canonical text
abbrev pub is_active : SwitchedOff → List Entry → List ℕ → Option (List ℕ) → Filter → Scope → Bool
is_active off entries host rest filter scope =
    applies scope host rest && not (is_off off scope) && not (list_any (excepts host rest filter.canonical) entries)

-- the filter of an entry, if it is one and is active
abbrev pub active_by : SwitchedOff → List Entry → List ℕ → Option (List ℕ) → Entry → Option Filter
active_by off entries host rest (entry.Filter filter scope) = if is_active off entries host rest filter scope then Some filter else None
active_by off entries host rest (entry.Exception canonical scope) = None
active_by off entries host rest (entry.Page pattern domain options) = None

-- the active filters of a page whose host has that rest, in order
abbrev pub active_with : List Entry → Page → Option (List ℕ) → List Filter
active_with entries page rest =
    flat_map (λ e. option_to_list (active_by (switched_off entries page rest) entries page.host rest e)) entries

-- the active filters of a page under rules of public suffixes, in order
abbrev pub active_among : List Entry → Page → List Rule → List Filter
active_among entries page rules = active_with entries page (rest rules page.host)

-- the entries of lists, in the order of lists and lines
abbrev pub entries_of : List ListRead → List Entry
entries_of [] = []
entries_of (list ∷ lists) = list.entries ++ entries_of lists

-- the filters of lists that are active on a page
abbrev pub active_of : List ListRead → Page → List Rule → List Filter
active_of lists page rules = active_among (entries_of lists) page rules

-- all filters of entries, in order
abbrev pub filters_of : List Entry → List Filter
filters_of [] = []
filters_of (entry.Filter filter scope ∷ entries) = filter ∷ filters_of entries
filters_of (entry.Exception canonical scope ∷ entries) = filters_of entries
filters_of (entry.Page pattern domain options ∷ entries) = filters_of entries
