-- The numbers of patterns have no part in what a selector selects.
use Rattle.std.proofs.Common.{◌≡◌, ℕ, Bool, ◌&&◌, ◌||◌, Option, Some, None, List, [], ◌∷◌, map, refl, sym, ap, ap₂, subst, ◌∙◌}
use mathlib.Core.Path.{fun_ext}
use Rattle.std.specs.List.{list_any}
use Rattle.std.specs.Prelude.{option_map}
use Rattle.selector_tree.specs.declared.selector.Arg.{Arg}
use Rattle.selector_tree.specs.declared.selector.Arg.TheVariants.{Literal, Pattern}
use Rattle.selector_tree.specs.declared.selector.Step.{Step}
use Rattle.selector_tree.specs.declared.selector.Step.TheOpen.{Step-F, Test-F}
use Rattle.selector_tree.specs.declared.selector.Step.TheFolds.{fold-roll-Step, fold-roll-Test, map-Step, map-Test, ind-Step, ind-Test}
use Rattle.selector_tree.specs.declared.selector.Step.TheViews.{roll-Step, roll-Test}
use Rattle.selector_tree.specs.declared.selector.Test.{Test}
use Rattle.selector_tree.specs.Unnumbered.{unnumbered_arg, unnumbered_layer, unnumbered_step, unnumbered_test, unnumbered}
use Rattle.selector_meaning.specs.Texts.{Bytes}
use Rattle.page_tree.specs.Forest.{Tree}
use Rattle.page_tree.specs.Standings.{attrs}
use Rattle.page_tree.specs.Facts.{text_content}
use Rattle.selector_meaning.specs.Meaning.{StepMeaning, TestMeaning, step_meaning, test_meaning, step_of, holds, is_found, is_named, is_named_by, selected_by, selects}

module _ (f : Bytes → ℕ → Bytes → Bool) (t : Tree) (path : Bytes) where
  abbrev SameStep : Step → Type 0
  SameStep s = step_of f t path (unnumbered_step s) ≡ step_of f t path s

  abbrev SameTest : Test → Type 0
  SameTest q = holds f t path (unnumbered_test q) ≡ holds f t path q

  -- a step or a test with the claim for it
  abbrev SomeStep : Type 0
  SomeStep = (s : Step) × SameStep s

  abbrev SomeTest : Type 0
  SomeTest = (q : Test) × SameTest q

  same_chain : (chain : List SomeStep) → map (step_of f t path) (map unnumbered_step (map (λ e. e.0) chain)) ≡ map (step_of f t path) (map (λ e. e.0) chain)
  same_chain [] = refl
  same_chain (e ∷ chain) = ap₂ ◌∷◌ e.1 (same_chain chain)

  same_selector : (l : List (List SomeStep)) →
      map (map (step_of f t path)) (map (map unnumbered_step) (map (map (λ e. e.0)) l)) ≡ map (map (step_of f t path)) (map (map (λ e. e.0)) l)
  same_selector [] = refl
  same_selector (chain ∷ l) = ap₂ ◌∷◌ (same_chain chain) (same_selector l)

  same_arg : (arg : Arg) (s : Bytes) → is_found f (unnumbered_arg arg) s ≡ is_found f arg s
  same_arg (Literal l) s = refl
  same_arg (Pattern body flags number) s = refl

  same_named : (arg : Arg) (s : Bytes) → is_named f (unnumbered_arg arg) s ≡ is_named f arg s
  same_named (Literal l) s = refl
  same_named (Pattern body flags number) s = refl

  same_named_by : (o : Option Arg) (s : Bytes) → is_named_by f (option_map unnumbered_arg o) s ≡ is_named_by f o s
  same_named_by None s = refl
  same_named_by (Some arg) s = same_named arg s

  any_same : (all_attrs : List (Bytes × Bytes)) (key : Arg) (v : Option Arg) →
      list_any (λ a. is_named f (unnumbered_arg key) a.0 && is_named_by f (option_map unnumbered_arg v) a.1) all_attrs
      ≡ list_any (λ a. is_named f key a.0 && is_named_by f v a.1) all_attrs
  any_same [] key v = refl
  any_same (a ∷ more) key v = ap₂ ◌||◌ (ap₂ ◌&&◌ (same_named key a.0) (same_named_by v a.1)) (any_same more key v)

  abbrev under_step : Step-F SomeStep SomeTest → Step-F Step Test
  under_step = map-Step SomeStep SomeTest Step Test (λ e. e.0) (λ e. e.0)

  abbrev under_test : Test-F SomeStep SomeTest → Test-F Step Test
  under_test = map-Test SomeStep SomeTest Step Test (λ e. e.0) (λ e. e.0)

  abbrev bare_step : Step-F Step Test → Step-F Step Test
  bare_step = map-Step Step Test Step Test unnumbered_step unnumbered_test

  abbrev bare_test : Test-F Step Test → Test-F Step Test
  bare_test = map-Test Step Test Step Test unnumbered_step unnumbered_test

  abbrev with_step : Step-F Step Test → Step-F StepMeaning TestMeaning
  with_step = map-Step Step Test StepMeaning TestMeaning (step_of f t path) (holds f t path)

  abbrev with_test : Test-F Step Test → Test-F StepMeaning TestMeaning
  with_test = map-Test Step Test StepMeaning TestMeaning (step_of f t path) (holds f t path)

  step_layer : (y : Step-F SomeStep SomeTest) → step_meaning f t path (with_step (bare_step (under_step y))) ≡ step_meaning f t path (with_step (under_step y))
  step_layer (Step-F.Keep e) = ap (λ (q : TestMeaning). step_meaning f t path (Step-F.Keep q)) e.1
  step_layer (Step-F.Move place) = refl
  step_layer (Step-F.Upward n) = refl
  step_layer (Step-F.UpwardTo l) = ap (λ (m : List (List StepMeaning)). step_meaning f t path (Step-F.UpwardTo m)) (same_selector l)
  step_layer Step-F.Others = refl

  test_layer : (y : Test-F SomeStep SomeTest) → test_meaning f t path (with_test (unnumbered_layer (bare_test (under_test y)))) ≡ test_meaning f t path (with_test (under_test y))
  test_layer (Test-F.Is l) = ap (λ (m : List (List StepMeaning)). test_meaning f t path (Test-F.Is m)) (same_selector l)
  test_layer (Test-F.Not l) = ap (λ (m : List (List StepMeaning)). test_meaning f t path (Test-F.Not m)) (same_selector l)
  test_layer (Test-F.Has l) = ap (λ (m : List (List StepMeaning)). test_meaning f t path (Test-F.Has m)) (same_selector l)
  test_layer (Test-F.HasText arg) = fun_ext (λ x. same_arg arg (text_content t x))
  test_layer (Test-F.MatchesPath arg) = fun_ext (λ x. same_arg arg path)
  test_layer Test-F.Any = refl
  test_layer (Test-F.Tag n) = refl
  test_layer (Test-F.Id n) = refl
  test_layer (Test-F.Class n) = refl
  test_layer (Test-F.Attr key op v i) = refl
  test_layer Test-F.Root = refl
  test_layer Test-F.Empty = refl
  test_layer (Test-F.Nth a b e o) = refl
  test_layer (Test-F.Only o) = refl
  test_layer (Test-F.MinText n) = refl
  test_layer (Test-F.MatchesAttr key v) = fun_ext (λ x. any_same (attrs t x) key v)
  test_layer (Test-F.WatchAttr names) = refl

  step_case : (x : Step-F Step Test) (y : Step-F SomeStep SomeTest) → under_step y ≡ x → SameStep (roll-Step x)
  step_case x y is =
      ap (step_of f t path) (fold-roll-Step Step Test roll-Step (λ test. roll-Test (unnumbered_layer test)) x)
      ∙ fold-roll-Step StepMeaning TestMeaning (step_meaning f t path) (test_meaning f t path) (bare_step x)
      ∙ subst (λ (z : Step-F Step Test). step_meaning f t path (with_step (bare_step z)) ≡ step_meaning f t path (with_step z)) is (step_layer y)
      ∙ sym (fold-roll-Step StepMeaning TestMeaning (step_meaning f t path) (test_meaning f t path) x)

  test_case : (x : Test-F Step Test) (y : Test-F SomeStep SomeTest) → under_test y ≡ x → SameTest (roll-Test x)
  test_case x y is =
      ap (holds f t path) (fold-roll-Test Step Test roll-Step (λ test. roll-Test (unnumbered_layer test)) x)
      ∙ fold-roll-Test StepMeaning TestMeaning (step_meaning f t path) (test_meaning f t path) (unnumbered_layer (bare_test x))
      ∙ subst (λ (z : Test-F Step Test). test_meaning f t path (with_test (unnumbered_layer (bare_test z))) ≡ test_meaning f t path (with_test z)) is (test_layer y)
      ∙ sym (fold-roll-Test StepMeaning TestMeaning (step_meaning f t path) (test_meaning f t path) x)

  same_step : (s : Step) → SameStep s
  same_step = ind-Step SameStep SameTest step_case test_case

  same_steps : (chain : List Step) → map (step_of f t path) (map unnumbered_step chain) ≡ map (step_of f t path) chain
  same_steps [] = refl
  same_steps (s ∷ chain) = ap₂ ◌∷◌ (same_step s) (same_steps chain)

  same_chains : (l : List (List Step)) → map (map (step_of f t path)) (unnumbered l) ≡ map (map (step_of f t path)) l
  same_chains [] = refl
  same_chains (chain ∷ l) = ap₂ ◌∷◌ (same_steps chain) (same_chains l)

  -- a selector selects the same without the numbers of its patterns
  pub unnumbered_selects : (l : List (List Step)) (x : ℕ) → selects f t path (unnumbered l) x ≡ selects f t path l x
  unnumbered_selects l x = ap (λ (m : List (List StepMeaning)). selected_by t m x) (same_chains l)
