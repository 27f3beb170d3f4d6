-- The numbers of patterns have no part in which keys a selector has.
use Rattle.std.proofs.Common.{◌≡◌, ◌∙◌, ℕ, ◌||◌, Option, Some, None, List, [], ◌∷◌, map, refl, sym, ap, ap₂}
use Rattle.std.specs.Prelude.{fold, option_map}
use Rattle.std.proofs.lemmas.List.{map-append}
use Rattle.selector_tree.specs.declared.selector.Step.{Step, out-Step}
use Rattle.selector_tree.specs.declared.selector.Step.TheOpen.{Step-F, Test-F}
use Rattle.selector_tree.specs.declared.selector.Step.TheFolds.{fold_out-Step, fold_out-Test, map-Step, map-Test}
use Rattle.selector_tree.specs.declared.selector.Step.TheViews.{roll-Step, roll-Test, out-roll-Step, out-roll-Test}
use Rattle.selector_tree.specs.declared.selector.Test.{Test, out-Test}
use Rattle.selector_tree.specs.Unnumbered.{unnumbered_layer, unnumbered_step, unnumbered_test, unnumbered}
use Rattle.selector_meaning.specs.Texts.{Bytes}
use Rattle.page_tree.specs.Forest.{Tree}
use Rattle.generic_tables.specs.declared.keys.Kind.{Kind}
use Rattle.generic_tables.specs.declared.keys.Kind.TheVariants as kind
use Rattle.generic_tables.specs.declared.keys.Key.{Key}
use Rattle.generic_tables.specs.Keys.{carries, test_at, kept_test, one_more, last_tests, value_at, value_of, value_in, first_value, key_from, key_of_chain, is_keyed}

abbrev bare_step : Step-F Step Test → Step-F Step Test
bare_step = map-Step Step Test Step Test unnumbered_step unnumbered_test

abbrev bare_test : Test-F Step Test → Test-F Step Test
bare_test = map-Test Step Test Step Test unnumbered_step unnumbered_test

test_bare : (s : Step) → kept_test (unnumbered_step s) ≡ option_map unnumbered_test (kept_test s)
test_bare s =
    ap kept_test (fold_out-Step Step Test roll-Step (λ test. roll-Test (unnumbered_layer test)) s) ∙ ap test_at (out-roll-Step (bare_step (out-Step s))) ∙ by (out-Step s)
  where
    by : (y : Step-F Step Test) → test_at (bare_step y) ≡ option_map unnumbered_test (test_at y)
    by (Step-F.Keep q) = refl
    by (Step-F.Move place) = refl
    by (Step-F.Upward n) = refl
    by (Step-F.UpwardTo l) = refl
    by Step-F.Others = refl

value_bare : (k : Kind) (q : Test) → value_of k (unnumbered_test q) ≡ value_of k q
value_bare k q =
    ap (value_of k) (fold_out-Test Step Test roll-Step (λ test. roll-Test (unnumbered_layer test)) q) ∙ ap (value_at k) (out-roll-Test (unnumbered_layer (bare_test (out-Test q)))) ∙ by k (out-Test q)
  where
    by : (k : Kind) (y : Test-F Step Test) → value_at k (unnumbered_layer (bare_test y)) ≡ value_at k y
    by kind.Class (Test-F.Class v) = refl
    by kind.Class y = refl
    by kind.Id (Test-F.Id v) = refl
    by kind.Id y = refl
    by kind.Name (Test-F.Tag v) = refl
    by kind.Name y = refl

first_bare : (k : Kind) (tests : List Test) → first_value (value_of k) (map unnumbered_test tests) ≡ first_value (value_of k) tests
first_bare k [] = refl
first_bare k (q ∷ tests) = ap₂ value_in (value_bare k q) (first_bare k tests)

abbrev behind : List Test → List Step → List Test
behind = fold (λ tests s. one_more tests (kept_test s))

last_bare : (tests : List Test) (chain : List Step) → behind (map unnumbered_test tests) (map unnumbered_step chain) ≡ map unnumbered_test (behind tests chain)
last_bare tests [] = refl
last_bare tests (s ∷ chain) =
    ap (λ (o : List Test). behind o (map unnumbered_step chain)) (ap (one_more (map unnumbered_test tests)) (test_bare s) ∙ by (kept_test s))
    ∙ last_bare (one_more tests (kept_test s)) chain
  where
    by : (o : Option Test) → one_more (map unnumbered_test tests) (option_map unnumbered_test o) ≡ map unnumbered_test (one_more tests o)
    by None = refl
    by (Some q) = sym (map-append unnumbered_test tests (q ∷ []))

key_bare : (chain : List Step) → key_of_chain (map unnumbered_step chain) ≡ key_of_chain chain
key_bare chain =
    ap₂ (λ (i c : Option Bytes). key_from i c (first_value (value_of kind.Name) (last_tests (map unnumbered_step chain)))) (same kind.Id) (same kind.Class)
    ∙ ap (λ (n : Option Bytes). key_from (first_value (value_of kind.Id) (last_tests chain)) (first_value (value_of kind.Class) (last_tests chain)) n) (same kind.Name)
  where
    same : (k : Kind) → first_value (value_of k) (last_tests (map unnumbered_step chain)) ≡ first_value (value_of k) (last_tests chain)
    same k = ap (first_value (value_of k)) (last_bare [] chain) ∙ first_bare k (last_tests chain)

-- the same elements carry its keys
pub unnumbered_keyed : (t : Tree) (l : List (List Step)) (x : ℕ) → is_keyed t (unnumbered l) x ≡ is_keyed t l x
unnumbered_keyed t [] x = refl
unnumbered_keyed t (chain ∷ l) x = ap₂ ◌||◌ (ap (λ (k : Key). carries t k x) (key_bare chain)) (unnumbered_keyed t l x)
