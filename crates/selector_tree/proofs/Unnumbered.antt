-- The numbers of patterns have no part in the canonical text of a selector.
use Rattle.std.proofs.Common.{◌≡◌, ℕ, false, Option, Some, None, List, [], ◌∷◌, ◌++◌, map, refl, sym, ap, ap₂, subst, ◌∙◌}
use Rattle.std.specs.Prelude.{option_map, codes}
use Rattle.selector_tree.specs.declared.selector.Arg.{Arg}
use Rattle.selector_tree.specs.declared.selector.Arg.TheVariants.{Literal, Pattern}
use Rattle.selector_tree.specs.declared.filter.Action.{Action}
use Rattle.selector_tree.specs.declared.selector.Step.{Step}
use Rattle.selector_tree.specs.declared.selector.Step.TheOpen.{Step-F, Test-F}
use Rattle.selector_tree.specs.declared.selector.Step.TheFolds.{fold-roll-Step, fold-roll-Test, map-Step, map-Test, ind-Step, ind-Test}
use Rattle.selector_tree.specs.declared.selector.Step.TheViews.{roll-Step, roll-Test}
use Rattle.selector_tree.specs.declared.selector.Test.{Test}
use Rattle.selector_tree.specs.Unnumbered.{unnumbered_arg, unnumbered_layer, unnumbered_step, unnumbered_test, unnumbered}
use Rattle.selector_tree.specs.Canonical.{StepText, step_layer, test_layer, text_of_step, text_of_test, arg_text, given_text, selector_text, action_text, canonical_text}

abbrev SameStep : Step → Type 0
SameStep s = text_of_step (unnumbered_step s) ≡ text_of_step s

abbrev SameTest : Test → Type 0
SameTest q = text_of_test (unnumbered_test q) ≡ text_of_test q

-- a step or a test with the claim for it
abbrev SomeStep : Type 0
SomeStep = (s : Step) × SameStep s

abbrev SomeTest : Type 0
SomeTest = (q : Test) × SameTest q

same_chain : (chain : List SomeStep) → map text_of_step (map unnumbered_step (map (λ e. e.0) chain)) ≡ map text_of_step (map (λ e. e.0) chain)
same_chain [] = refl
same_chain (e ∷ chain) = ap₂ ◌∷◌ e.1 (same_chain chain)

same_selector : (l : List (List SomeStep)) →
    map (map text_of_step) (map (map unnumbered_step) (map (map (λ e. e.0)) l)) ≡ map (map text_of_step) (map (map (λ e. e.0)) l)
same_selector [] = refl
same_selector (chain ∷ l) = ap₂ ◌∷◌ (same_chain chain) (same_selector l)

same_arg : (arg : Arg) → arg_text (unnumbered_arg arg) ≡ arg_text arg
same_arg (Literal l) = refl
same_arg (Pattern body flags number) = refl

same_given : (o : Option Arg) → given_text (option_map unnumbered_arg o) ≡ given_text o
same_given None = refl
same_given (Some arg) = ap (λ text. codes "=" ++ text) (same_arg arg)

abbrev under_step : Step-F SomeStep SomeTest → Step-F Step Test
under_step = map-Step SomeStep SomeTest Step Test (λ e. e.0) (λ e. e.0)

abbrev under_test : Test-F SomeStep SomeTest → Test-F Step Test
under_test = map-Test SomeStep SomeTest Step Test (λ e. e.0) (λ e. e.0)

abbrev bare_step : Step-F Step Test → Step-F Step Test
bare_step = map-Step Step Test Step Test unnumbered_step unnumbered_test

abbrev bare_test : Test-F Step Test → Test-F Step Test
bare_test = map-Test Step Test Step Test unnumbered_step unnumbered_test

abbrev with_step : Step-F Step Test → Step-F StepText (List ℕ)
with_step = map-Step Step Test StepText (List ℕ) text_of_step text_of_test

abbrev with_test : Test-F Step Test → Test-F StepText (List ℕ)
with_test = map-Test Step Test StepText (List ℕ) text_of_step text_of_test

same_step_layer : (y : Step-F SomeStep SomeTest) → step_layer (with_step (bare_step (under_step y))) ≡ step_layer (with_step (under_step y))
same_step_layer (Step-F.Keep e) = ap (λ (q : List ℕ). step_layer (Step-F.Keep q)) e.1
same_step_layer (Step-F.Move place) = refl
same_step_layer (Step-F.Upward n) = refl
same_step_layer (Step-F.UpwardTo l) = ap (λ (m : List (List StepText)). step_layer (Step-F.UpwardTo m)) (same_selector l)
same_step_layer Step-F.Others = refl

same_test_layer : (y : Test-F SomeStep SomeTest) → test_layer (with_test (unnumbered_layer (bare_test (under_test y)))) ≡ test_layer (with_test (under_test y))
same_test_layer (Test-F.Is l) = ap (λ (m : List (List StepText)). test_layer (Test-F.Is m)) (same_selector l)
same_test_layer (Test-F.Not l) = ap (λ (m : List (List StepText)). test_layer (Test-F.Not m)) (same_selector l)
same_test_layer (Test-F.Has l) = ap (λ (m : List (List StepText)). test_layer (Test-F.Has m)) (same_selector l)
same_test_layer (Test-F.HasText arg) = ap (λ text. codes ":has-text(" ++ text ++ codes ")") (same_arg arg)
same_test_layer (Test-F.MatchesPath arg) = ap (λ text. codes ":matches-path(" ++ text ++ codes ")") (same_arg arg)
same_test_layer Test-F.Any = refl
same_test_layer (Test-F.Tag n) = refl
same_test_layer (Test-F.Id n) = refl
same_test_layer (Test-F.Class n) = refl
same_test_layer (Test-F.Attr key op v i) = refl
same_test_layer Test-F.Root = refl
same_test_layer Test-F.Empty = refl
same_test_layer (Test-F.Nth a b e o) = refl
same_test_layer (Test-F.Only o) = refl
same_test_layer (Test-F.MinText n) = refl
same_test_layer (Test-F.MatchesAttr key v) = ap₂ (λ one other. codes ":matches-attr(" ++ one ++ other ++ codes ")") (same_arg key) (same_given v)
same_test_layer (Test-F.WatchAttr names) = refl

step_case : (x : Step-F Step Test) (y : Step-F SomeStep SomeTest) → under_step y ≡ x → SameStep (roll-Step x)
step_case x y is =
    ap text_of_step (fold-roll-Step Step Test roll-Step (λ test. roll-Test (unnumbered_layer test)) x)
    ∙ fold-roll-Step StepText (List ℕ) step_layer test_layer (bare_step x)
    ∙ subst (λ (z : Step-F Step Test). step_layer (with_step (bare_step z)) ≡ step_layer (with_step z)) is (same_step_layer y)
    ∙ sym (fold-roll-Step StepText (List ℕ) step_layer test_layer x)

test_case : (x : Test-F Step Test) (y : Test-F SomeStep SomeTest) → under_test y ≡ x → SameTest (roll-Test x)
test_case x y is =
    ap text_of_test (fold-roll-Test Step Test roll-Step (λ test. roll-Test (unnumbered_layer test)) x)
    ∙ fold-roll-Test StepText (List ℕ) step_layer test_layer (unnumbered_layer (bare_test x))
    ∙ subst (λ (z : Test-F Step Test). test_layer (with_test (unnumbered_layer (bare_test z))) ≡ test_layer (with_test z)) is (same_test_layer y)
    ∙ sym (fold-roll-Test StepText (List ℕ) step_layer test_layer x)

same_step : (s : Step) → SameStep s
same_step = ind-Step SameStep SameTest step_case test_case

same_steps : (chain : List Step) → map text_of_step (map unnumbered_step chain) ≡ map text_of_step chain
same_steps [] = refl
same_steps (s ∷ chain) = ap₂ ◌∷◌ (same_step s) (same_steps chain)

same_chains : (l : List (List Step)) → map (map text_of_step) (unnumbered l) ≡ map (map text_of_step) l
same_chains [] = refl
same_chains (chain ∷ l) = ap₂ ◌∷◌ (same_steps chain) (same_chains l)

-- the canonical text is the same without the numbers of patterns
pub unnumbered_text : (l : List (List Step)) (action : Action) → canonical_text (unnumbered l) action ≡ canonical_text l action
unnumbered_text l action = ap (λ (m : List (List StepText)). selector_text false m ++ action_text action) (same_chains l)
