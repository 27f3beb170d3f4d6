-- Scopes: the items of a text of hosts, and the pages to which it applies (uBlock Origin wiki, "Static filter syntax").
use Rattle.std.specs.Prelude.{ℕ, ◌==◌, ◌+◌, ◌-◌, ◌&&◌, ◌||◌, Bool, true, false, not, List, [], ◌∷◌, codes, length, take, drop, slice_index, Option, Some, None, option_map, if◌then◌else◌}
use Rattle.std.specs.List.{list_all, list_any}
use Rattle.std.specs.Str.{bytes_eq}
use Rattle.cos_source.specs.Parts.{parts, placed}
use Rattle.cos_source.specs.Spaces.{space_count, trimmed}
use Rattle.host_names.specs.Hosts.{host_of, is_under}
use Rattle.filter_scope.specs.declared.scope.Item.{Item}
use Rattle.filter_scope.specs.declared.scope.Scope.{Scope}
use Rattle.filter_scope.specs.declared.scope.ScopeRead.{ScopeRead}
use Rattle.filter_scope.specs.declared.scope.ScopeRead.TheVariants as read
use Rattle.filter_scope.specs.declared.scope.Target.{Target}
use Rattle.filter_scope.specs.declared.scope.Target.TheVariants.{All, Host, Entity}

-- ---- the items of a text

abbrev pub item : Bool → Target → Item
item negated target = record { negated = negated; target = target }

-- the text ends with `.*`
abbrev pub ends_with_star : List ℕ → Bool
ends_with_star text = bytes_eq (drop (length text - 2) text) (codes ".*")

-- what a text names that isn't `*`: an entity, or a host
abbrev pub target_of : List ℕ → Option Target
target_of text =
    if ends_with_star text then option_map Entity (host_of (take (length text - 2) text)) else option_map Host (host_of text)

-- the item of a trimmed text; `~` may stand before a host or an entity
abbrev pub item_of : List ℕ → Option Item
item_of text =
    if bytes_eq text (codes "*") then Some (item false All)
    else if slice_index text 0 == 126 then option_map (item true) (target_of (drop 1 text))
    else option_map (item false) (target_of text)

-- an item before those that were read
abbrev pub with_item : Item → ScopeRead → ScopeRead
with_item i (read.Scope scope) = read.Scope (record { items = i ∷ scope.items })
with_item i (read.BadHost at) = read.BadHost at

-- one text between separators, with its place, before what was read of those behind it
abbrev pub by_item : ℕ × List ℕ → Option Item → ScopeRead → ScopeRead
by_item part None more = read.BadHost (part.0 + space_count part.1)
by_item part (Some i) more = with_item i more

-- the texts between separators, with their places; the first bad item decides
abbrev pub read_parts : List (ℕ × List ℕ) → ScopeRead
read_parts [] = read.Scope (record { items = [] })
read_parts (part ∷ more) = by_item part (item_of (trimmed part.1)) (read_parts more)

-- a text of hosts, which are separated by that byte; an empty text has no items
abbrev pub scope_of : ℕ → List ℕ → ScopeRead
scope_of separator [] = read.Scope (record { items = [] })
scope_of separator (b ∷ text) = read_parts (placed 0 (parts separator (b ∷ text)))

-- ---- where it applies

-- the host has a rest, and the rest is that name or stands under it
abbrev pub is_entity : List ℕ → Option (List ℕ) → Bool
is_entity name None = false
is_entity name (Some rest) = is_under name rest

-- the item names a host with this rest, `~` aside
abbrev pub names : List ℕ → Option (List ℕ) → Target → Bool
names host rest All = true
names host rest (Host name) = is_under name host
names host rest (Entity name) = is_entity name rest

abbrev pub item_matches : List ℕ → Option (List ℕ) → Item → Bool
item_matches host rest i = names host rest i.target

-- no item is other than negated
abbrev pub is_generic : Scope → Bool
is_generic scope = list_all (λ i. i.negated) scope.items

-- no negated item matches, and some other item does or there is none
abbrev pub applies : Scope → List ℕ → Option (List ℕ) → Bool
applies scope host rest =
    not (list_any (λ i. i.negated && item_matches host rest i) scope.items)
    && (is_generic scope || list_any (λ i. not i.negated && item_matches host rest i) scope.items)
