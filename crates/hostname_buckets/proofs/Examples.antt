-- Active filters, computed.
use Rattle.std.proofs.Common.{◌≡◌, refl, true, false, Bool, List, [], ◌∷◌, Some, None, codes, ℕ}
use Rattle.address_patterns.specs.declared.options.HideOptions.{HideOptions}
use Rattle.address_patterns.specs.declared.page.Page.{Page}
use Rattle.address_patterns.specs.Patterns.{pattern_of}
use Rattle.filter_scope.specs.declared.scope.Item.{Item}
use Rattle.filter_scope.specs.declared.scope.Scope.{Scope}
use Rattle.filter_scope.specs.declared.scope.Target.TheVariants.{Host, Entity}
use Rattle.host_names.specs.Suffixes.{Rule}
use Rattle.list_entries.specs.declared.entry.Entry.{Entry}
use Rattle.list_entries.specs.declared.entry.Entry.TheVariants as entry
use Rattle.selector_tree.specs.declared.filter.Action.TheVariants.{Hide}
use Rattle.selector_tree.specs.declared.filter.Filter.{Filter}
use Rattle.hostname_buckets.specs.Active.{active_among}

abbrev filter_at : ℕ → List ℕ → Filter
filter_at line canonical = record { list = 1; line = line; selector = []; action = Hide; canonical = canonical }

abbrev scope : List Item → Scope
scope items = record { items = items }

abbrev on_host : List ℕ → Item
on_host name = record { negated = false; target = Host name }

abbrev off_host : List ℕ → Item
off_host name = record { negated = true; target = Host name }

abbrev options : Bool → Bool → Bool → HideOptions
options elem generic specific = record { elem = elem; generic = generic; specific = specific }

abbrev no_rules : List Rule
no_rules = []

-- `https://example.com/a`, and the same page of `shop.example.com`
abbrev page : Page
page = record { address = codes "https://example.com/a"; host = codes "example.com"; host_from = 8; host_to = 19; path = codes "/a" }

abbrev shop : Page
shop = record { address = codes "https://shop.example.com/a"; host = codes "shop.example.com"; host_from = 8; host_to = 24; path = codes "/a" }

-- `##.x`, `~shop.example.com##.y` and `example.*##.z`
abbrev filters : List Entry
filters =
    entry.Filter (filter_at 1 (codes ".x")) (scope [])
    ∷ entry.Filter (filter_at 2 (codes ".y")) (scope (off_host (codes "shop.example.com") ∷ []))
    ∷ entry.Filter (filter_at 3 (codes ".z")) (scope (record { negated = false; target = Entity (codes "example") } ∷ []))
    ∷ []

all : active_among filters page no_rules ≡ filter_at 1 (codes ".x") ∷ filter_at 2 (codes ".y") ∷ filter_at 3 (codes ".z") ∷ []
all = refl

negated : active_among filters shop no_rules ≡ filter_at 1 (codes ".x") ∷ filter_at 3 (codes ".z") ∷ []
negated = refl

-- an exception takes filters away by their canonical text, where its scope applies
excepted : active_among (entry.Exception (codes ".x") (scope (on_host (codes "shop.example.com") ∷ [])) ∷ filters) shop no_rules ≡ filter_at 3 (codes ".z") ∷ []
excepted = refl

not_excepted : active_among (entry.Exception (codes ".x") (scope (on_host (codes "shop.example.com") ∷ [])) ∷ filters) page no_rules
    ≡ filter_at 1 (codes ".x") ∷ filter_at 2 (codes ".y") ∷ filter_at 3 (codes ".z") ∷ []
not_excepted = refl

-- `@@||example.com^$ghide` switches off what has a generic scope
generic_off : active_among (entry.Page (pattern_of (codes "||example.com^")) None (options false true false) ∷ filters) page no_rules ≡ filter_at 3 (codes ".z") ∷ []
generic_off = refl

-- `@@/a$shide,domain=shop.example.com` switches the others off, there alone
in_domain : active_among (entry.Page (pattern_of (codes "/a")) (Some (scope (on_host (codes "shop.example.com") ∷ []))) (options false false true) ∷ filters) shop no_rules
    ≡ filter_at 1 (codes ".x") ∷ []
in_domain = refl

outside_domain : active_among (entry.Page (pattern_of (codes "/a")) (Some (scope (on_host (codes "shop.example.com") ∷ []))) (options false false true) ∷ filters) page no_rules
    ≡ filter_at 1 (codes ".x") ∷ filter_at 2 (codes ".y") ∷ filter_at 3 (codes ".z") ∷ []
outside_domain = refl

all_off : active_among (entry.Page (pattern_of (codes "/a|")) None (options true false false) ∷ filters) page no_rules ≡ []
all_off = refl
