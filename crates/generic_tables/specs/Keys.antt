-- The keys of chains, and what carries a key.
use Rattle.std.specs.Prelude.{◌≡◌, ℕ, Bool, true, List, [], ◌∷◌, ◌++◌, fold, Option, None, Some}
use Rattle.std.specs.List.{list_any}
use Rattle.std.specs.Str.{bytes_eq}
use Rattle.selector_tree.specs.declared.selector.Step.{Step, out-Step}
use Rattle.selector_tree.specs.declared.selector.Step.TheOpen.{Step-F, Test-F}
use Rattle.selector_tree.specs.declared.selector.Test.{Test, out-Test}
use Rattle.page_tree.specs.Forest.{Tree}
use Rattle.page_tree.specs.Standings.{name}
use Rattle.page_tree.specs.Facts.{id, class_list}
use Rattle.selector_meaning.specs.Texts.{Bytes, some_fits}
use Rattle.selector_meaning.specs.Meaning.{selects}
use Rattle.generic_tables.specs.declared.keys.Kind.{Kind}
use Rattle.generic_tables.specs.declared.keys.Kind.TheVariants as kind
use Rattle.generic_tables.specs.declared.keys.Key.{Key}
use Rattle.generic_tables.specs.declared.keys.Key.TheVariants as key

-- an element carries a key where the test holds for it; every element carries the key of nothing
abbrev pub carries : Tree → Key → ℕ → Bool
carries t (key.Class v) x = list_any (bytes_eq v) (class_list t x)
carries t (key.Id v) x = some_fits (id t x) (bytes_eq v)
carries t (key.Name v) x = bytes_eq (name t x) v
carries t key.None x = true

abbrev pub test_at : Step-F Step Test → Option Test
test_at (Step-F.Keep q) = Some q
test_at _ = None

-- the test of a step that keeps what passes it
abbrev pub kept_test : Step → Option Test
kept_test s = test_at (out-Step s)

-- one test more behind a step that is a test, none behind another step
abbrev pub one_more : List Test → Option Test → List Test
one_more tests None = []
one_more tests (Some q) = tests ++ q ∷ []

-- the tests behind a chain's last step that is no test
abbrev pub last_tests : List Step → List Test
last_tests chain = fold (λ tests s. one_more tests (kept_test s)) [] chain

abbrev pub value_at : Kind → Test-F Step Test → Option Bytes
value_at kind.Class (Test-F.Class v) = Some v
value_at kind.Id (Test-F.Id v) = Some v
value_at kind.Name (Test-F.Tag v) = Some v
value_at _ _ = None

-- the value that a test of this kind asks for
abbrev pub value_of : Kind → Test → Option Bytes
value_of k q = value_at k (out-Test q)

-- the first value, or the second
abbrev pub value_in : Option Bytes → Option Bytes → Option Bytes
value_in None second = second
value_in (Some v) second = Some v

-- the first value among some tests
abbrev pub first_value : (Test → Option Bytes) → List Test → Option Bytes
first_value value [] = None
first_value value (q ∷ tests) = value_in (value q) (first_value value tests)

-- an id before a class, and a class before a name
abbrev pub key_from : Option Bytes → Option Bytes → Option Bytes → Key
key_from (Some v) class called = key.Id v
key_from None (Some v) called = key.Class v
key_from None None (Some v) = key.Name v
key_from None None None = key.None

abbrev pub key_of_chain : List Step → Key
key_of_chain chain =
    key_from (first_value (value_of kind.Id) (last_tests chain)) (first_value (value_of kind.Class) (last_tests chain))
    (first_value (value_of kind.Name) (last_tests chain))

-- x carries the key of some chain of the selector
abbrev pub is_keyed : Tree → List (List Step) → ℕ → Bool
is_keyed t selector x = list_any (λ chain. carries t (key_of_chain chain) x) selector

-- What a selector selects carries the key of one of its chains, in every tree. `found` says whether a pattern is found in a
-- text.
abbrev pub KeyLaw : Type 0
KeyLaw =
    (found : Bytes → ℕ → Bytes → Bool) (t : Tree) (path : Bytes) (selector : List (List Step)) (x : ℕ) →
    selects found t path selector x ≡ true → is_keyed t selector x ≡ true
