-- The keys that an element carries, as a list.
use Rattle.std.specs.Prelude.{◌≡◌, ℕ, Bool, true, false, List, [], ◌∷◌, ◌++◌, map, Option, None, Some}
use Rattle.std.specs.List.{list_any}
use Rattle.std.specs.Str.{bytes_eq}
use Rattle.selector_tree.specs.declared.selector.Step.{Step}
use Rattle.page_tree.specs.Forest.{Tree}
use Rattle.page_tree.specs.Standings.{name}
use Rattle.page_tree.specs.Facts.{id, class_list}
use Rattle.selector_meaning.specs.Texts.{Bytes}
use Rattle.generic_tables.specs.declared.keys.Key.{Key}
use Rattle.generic_tables.specs.declared.keys.Key.TheVariants as key
use Rattle.generic_tables.specs.Keys.{carries, key_of_chain, is_keyed}
use Rattle.generic_tables.specs.declared.carried.KeyRef.{KeyRef}
use Rattle.generic_tables.specs.declared.carried.KeyRef.TheVariants as lent

-- whether two keys are one
abbrev pub same_key : Key → Key → Bool
same_key (key.Class v) (key.Class w) = bytes_eq v w
same_key (key.Id v) (key.Id w) = bytes_eq v w
same_key (key.Name v) (key.Name w) = bytes_eq v w
same_key key.None key.None = true
same_key _ _ = false

-- the key that is lent
abbrev pub key_in : KeyRef → Key
key_in (lent.Class v) = key.Class v.now
key_in (lent.Id v) = key.Id v.now
key_in (lent.Name v) = key.Name v.now
key_in lent.None = key.None

-- the key of a value, where there is one
abbrev pub key_if_any : (Bytes → Key) → Option Bytes → List Key
key_if_any kind None = []
key_if_any kind (Some v) = kind v ∷ []

-- the keys of an element: that of nothing, its name, its id if it has one, and each member of its class list
abbrev pub keys_at : Tree → ℕ → List Key
keys_at t x = key.None ∷ key.Name (name t x) ∷ (key_if_any key.Id (id t x) ++ map key.Class (class_list t x))

-- A key is among the keys of an element where the element carries it, in every tree.
abbrev pub CarriedLaw : Type 0
CarriedLaw = (t : Tree) (x : ℕ) (k : Key) → list_any (same_key k) (keys_at t x) ≡ carries t k x

-- An element carries the key of some chain of a selector where some key of it is that of a chain.
abbrev pub FoundLaw : Type 0
FoundLaw =
    (t : Tree) (selector : List (List Step)) (x : ℕ) →
    list_any (λ k. list_any (same_key k) (map key_of_chain selector)) (keys_at t x) ≡ is_keyed t selector x
