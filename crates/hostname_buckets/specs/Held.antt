-- Where the numbers of entries stand by which they are found. More may stand there than is found.
use Rattle.std.specs.Prelude.{◌≡◌, ℕ, ◌==◌, ◌&&◌, ◌||◌, Bool, true, false, not, List, [], ◌++◌, Option, Some, None, unwrap_or, slice_get}
use Rattle.std.specs.List.{flat_map, list_all, list_any}
use Rattle.indexmap.specs.IndexMap.{get_by_text}
use Rattle.filter_scope.specs.declared.scope.Item.{Item}
use Rattle.filter_scope.specs.declared.scope.Scope.{Scope}
use Rattle.filter_scope.specs.declared.scope.Target.{Target}
use Rattle.filter_scope.specs.declared.scope.Target.TheVariants.{All, Host, Entity}
use Rattle.filter_scope.specs.Scopes.{is_generic}
use Rattle.host_names.specs.Hosts.{ends_of}
use Rattle.list_entries.specs.declared.entry.Entry.{Entry}
use Rattle.list_entries.specs.declared.entry.Entry.TheVariants as entry
use Rattle.hostname_buckets.specs.declared.by_name.ByName.{ByName}
use Rattle.hostname_buckets.specs.declared.tables.Tables.{Tables}

-- the number is in the list
abbrev pub has : List ℕ → ℕ → Bool
has numbers n = list_any (λ m. m == n) numbers

-- the numbers that stand at a name
abbrev pub numbers_at : ByName → List ℕ → List ℕ
numbers_at index name = unwrap_or (get_by_text index.by_name name) []

-- ---- where an entry stands

-- what is named leads to the number
abbrev pub target_stands : Tables → ℕ → Target → Bool
target_stands tables n All = has tables.rest n
target_stands tables n (Host name) = has (numbers_at tables.hosts name) n
target_stands tables n (Entity name) = has (numbers_at tables.entities name) n

abbrev pub item_stands : Tables → ℕ → Item → Bool
item_stands tables n item = item.negated || target_stands tables n item.target

-- each item of a scope that isn't negated leads to the number; where there is none, every host does
abbrev pub scope_stands : Tables → ℕ → Scope → Bool
scope_stands tables n scope = list_all (item_stands tables n) scope.items && (not (is_generic scope) || has tables.rest n)

-- an entry stands with its number where it is looked for
abbrev pub stands : Tables → ℕ → Entry → Bool
stands tables n (entry.Filter filter scope) = scope_stands tables n scope
stands tables n (entry.Exception canonical scope) = has (numbers_at tables.exceptions canonical) n
stands tables n (entry.Page pattern domain options) = has tables.options n

-- each entry stands with its number
abbrev pub AreEntered : Tables → List Entry → Type 0
AreEntered tables entries = (n : ℕ) (e : Entry) → slice_get entries n ≡ Some e → stands tables n e ≡ true

-- each number of an old list is in the new one
abbrev pub Keeps : List ℕ → List ℕ → Type 0
Keeps old new = (n : ℕ) → has old n ≡ true → has new n ≡ true

-- tables keep what stands in them
pub record Grows (old new : Tables) : Type 0 where
  pub hosts : (name : List ℕ) → Keeps (numbers_at old.hosts name) (numbers_at new.hosts name)
  pub entities : (name : List ℕ) → Keeps (numbers_at old.entities name) (numbers_at new.entities name)
  pub rest : Keeps old.rest new.rest
  pub exceptions : (name : List ℕ) → Keeps (numbers_at old.exceptions name) (numbers_at new.exceptions name)
  pub options : Keeps old.options new.options

-- ---- what is looked up

-- the numbers at a name and at the names that it stands under
abbrev pub under : ByName → List ℕ → List ℕ
under index name = flat_map (numbers_at index) (ends_of name)

abbrev pub under_rest : ByName → Option (List ℕ) → List ℕ
under_rest index None = []
under_rest index (Some name) = under index name

-- the numbers of the filters that may apply to a host with that rest
abbrev pub gathered : Tables → List ℕ → Option (List ℕ) → List ℕ
gathered tables host rest = (tables.rest ++ under tables.hosts host) ++ under_rest tables.entities rest

-- whether the entry with a number passes a test
abbrev pub passes : (Entry → Bool) → Option Entry → Bool
passes test None = false
passes test (Some e) = test e

abbrev pub passes_at : (Entry → Bool) → List Entry → ℕ → Bool
passes_at test entries n = passes test (slice_get entries n)
