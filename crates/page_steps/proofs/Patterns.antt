-- The numbers of patterns have no part in what a selector observes, and in how many single tests it has.
use Rattle.std.proofs.Common.{◌≡◌, ◌∙◌, ◌+◌, List, [], ◌∷◌, map, length, length-append, refl, sym, ap, ap₂, subst}
use Rattle.selector_tree.specs.declared.selector.Step.{Step}
use Rattle.selector_tree.specs.declared.selector.Step.TheOpen.{Step-F, Test-F}
use Rattle.selector_tree.specs.declared.selector.Step.TheFolds.{fold-roll-Step, fold-roll-Test, map-Step, map-Test, ind-Step}
use Rattle.selector_tree.specs.declared.selector.Step.TheViews.{roll-Step, roll-Test}
use Rattle.selector_tree.specs.declared.selector.Test.{Test}
use Rattle.selector_tree.specs.Unnumbered.{unnumbered_layer, unnumbered_step, unnumbered_test, unnumbered}
use Rattle.sensor_meaning.specs.Sensors.{Sensors, StepSensors, step_sensors, test_sensors, sensors_of_step, sensors_of_test, of_selector, sensors}
use Rattle.procedural_ops.specs.Noted.{joined, tests_in_step, tests_in_test, step_tests, test_tests, selector_tests, simple_tests}

-- ---- sensors, and how many tests

record SameStep (s : Step) : Type 0 where
  sensors : sensors_of_step (unnumbered_step s) ≡ sensors_of_step s
  tests : length (step_tests (unnumbered_step s)) ≡ length (step_tests s)

record SameTest (q : Test) : Type 0 where
  sensors : sensors_of_test (unnumbered_test q) ≡ sensors_of_test q
  tests : length (test_tests (unnumbered_test q)) ≡ length (test_tests q)

-- a step or a test with the claim for it
abbrev SomeStep : Type 0
SomeStep = (s : Step) × SameStep s

abbrev SomeTest : Type 0
SomeTest = (q : Test) × SameTest q

chain_sensors : (chain : List SomeStep) → map sensors_of_step (map unnumbered_step (map (λ e. e.0) chain)) ≡ map sensors_of_step (map (λ e. e.0) chain)
chain_sensors [] = refl
chain_sensors (e ∷ chain) = ap₂ ◌∷◌ e.1.sensors (chain_sensors chain)

all_sensors : (l : List (List SomeStep)) →
    map (map sensors_of_step) (map (map unnumbered_step) (map (map (λ e. e.0)) l)) ≡ map (map sensors_of_step) (map (map (λ e. e.0)) l)
all_sensors [] = refl
all_sensors (chain ∷ l) = ap₂ ◌∷◌ (chain_sensors chain) (all_sensors l)

chain_tests : (chain : List SomeStep) → length (joined (map step_tests (map unnumbered_step (map (λ e. e.0) chain)))) ≡ length (joined (map step_tests (map (λ e. e.0) chain)))
chain_tests [] = refl
chain_tests (e ∷ chain) =
    length-append (step_tests (unnumbered_step e.0)) (joined (map step_tests (map unnumbered_step (map (λ e. e.0) chain))))
    ∙ ap₂ ◌+◌ e.1.tests (chain_tests chain)
    ∙ sym (length-append (step_tests e.0) (joined (map step_tests (map (λ e. e.0) chain))))

all_tests : (l : List (List SomeStep)) →
    length (joined (map joined (map (map step_tests) (map (map unnumbered_step) (map (map (λ e. e.0)) l))))) ≡ length (joined (map joined (map (map step_tests) (map (map (λ e. e.0)) l))))
all_tests [] = refl
all_tests (chain ∷ l) =
    length-append (joined (map step_tests (map unnumbered_step (map (λ e. e.0) chain)))) (joined (map joined (map (map step_tests) (map (map unnumbered_step) (map (map (λ e. e.0)) l)))))
    ∙ ap₂ ◌+◌ (chain_tests chain) (all_tests l)
    ∙ sym (length-append (joined (map step_tests (map (λ e. e.0) chain))) (joined (map joined (map (map step_tests) (map (map (λ e. e.0)) l)))))

abbrev under_step : Step-F SomeStep SomeTest → Step-F Step Test
under_step = map-Step SomeStep SomeTest Step Test (λ e. e.0) (λ e. e.0)

abbrev under_test : Test-F SomeStep SomeTest → Test-F Step Test
under_test = map-Test SomeStep SomeTest Step Test (λ e. e.0) (λ e. e.0)

abbrev bare_step : Step-F Step Test → Step-F Step Test
bare_step = map-Step Step Test Step Test unnumbered_step unnumbered_test

abbrev bare_test : Test-F Step Test → Test-F Step Test
bare_test = map-Test Step Test Step Test unnumbered_step unnumbered_test

abbrev observed_step : Step-F Step Test → Step-F StepSensors Sensors
observed_step = map-Step Step Test StepSensors Sensors sensors_of_step sensors_of_test

abbrev observed_test : Test-F Step Test → Test-F StepSensors Sensors
observed_test = map-Test Step Test StepSensors Sensors sensors_of_step sensors_of_test

abbrev Tests : Type 0
Tests = List Test

abbrev asked_step : Step-F Step Test → Step-F Tests Tests
asked_step = map-Step Step Test Tests Tests step_tests test_tests

abbrev asked_test : Test-F Step Test → Test-F Tests Tests
asked_test = map-Test Step Test Tests Tests step_tests test_tests

step_observes : (y : Step-F SomeStep SomeTest) → step_sensors (observed_step (bare_step (under_step y))) ≡ step_sensors (observed_step (under_step y))
step_observes (Step-F.Keep e) = ap (λ (q : Sensors). step_sensors (Step-F.Keep q)) e.1.sensors
step_observes (Step-F.Move place) = refl
step_observes (Step-F.Upward n) = refl
step_observes (Step-F.UpwardTo l) = ap (λ (m : List (List StepSensors)). step_sensors (Step-F.UpwardTo m)) (all_sensors l)
step_observes Step-F.Others = refl

test_observes : (y : Test-F SomeStep SomeTest) → test_sensors (observed_test (unnumbered_layer (bare_test (under_test y)))) ≡ test_sensors (observed_test (under_test y))
test_observes (Test-F.Is l) = ap (λ (m : List (List StepSensors)). test_sensors (Test-F.Is m)) (all_sensors l)
test_observes (Test-F.Not l) = ap (λ (m : List (List StepSensors)). test_sensors (Test-F.Not m)) (all_sensors l)
test_observes (Test-F.Has l) = ap (λ (m : List (List StepSensors)). test_sensors (Test-F.Has m)) (all_sensors l)
test_observes y = refl

step_asks : (y : Step-F SomeStep SomeTest) → length (tests_in_step (asked_step (bare_step (under_step y)))) ≡ length (tests_in_step (asked_step (under_step y)))
step_asks (Step-F.Keep e) = e.1.tests
step_asks (Step-F.Move place) = refl
step_asks (Step-F.Upward n) = refl
step_asks (Step-F.UpwardTo l) = all_tests l
step_asks Step-F.Others = refl

test_asks : (y : Test-F SomeStep SomeTest) → length (tests_in_test (asked_test (unnumbered_layer (bare_test (under_test y))))) ≡ length (tests_in_test (asked_test (under_test y)))
test_asks (Test-F.Is l) = all_tests l
test_asks (Test-F.Not l) = all_tests l
test_asks (Test-F.Has l) = all_tests l
test_asks y = refl

step_case : (x : Step-F Step Test) (y : Step-F SomeStep SomeTest) → under_step y ≡ x → SameStep (roll-Step x)
step_case x y is =
    let bare = fold-roll-Step Step Test roll-Step (λ test. roll-Test (unnumbered_layer test)) x in
    record {
      sensors = ap sensors_of_step bare ∙ fold-roll-Step StepSensors Sensors step_sensors test_sensors (bare_step x)
          ∙ subst (λ (z : Step-F Step Test). step_sensors (observed_step (bare_step z)) ≡ step_sensors (observed_step z)) is (step_observes y)
          ∙ sym (fold-roll-Step StepSensors Sensors step_sensors test_sensors x);
      tests = ap (λ (s : Step). length (step_tests s)) bare ∙ ap (λ (l : Tests). length l) (fold-roll-Step Tests Tests tests_in_step tests_in_test (bare_step x))
          ∙ subst (λ (z : Step-F Step Test). length (tests_in_step (asked_step (bare_step z))) ≡ length (tests_in_step (asked_step z))) is (step_asks y)
          ∙ sym (ap (λ (l : Tests). length l) (fold-roll-Step Tests Tests tests_in_step tests_in_test x));
    }

test_case : (x : Test-F Step Test) (y : Test-F SomeStep SomeTest) → under_test y ≡ x → SameTest (roll-Test x)
test_case x y is =
    let bare = fold-roll-Test Step Test roll-Step (λ test. roll-Test (unnumbered_layer test)) x in
    record {
      sensors = ap sensors_of_test bare ∙ fold-roll-Test StepSensors Sensors step_sensors test_sensors (unnumbered_layer (bare_test x))
          ∙ subst (λ (z : Test-F Step Test). test_sensors (observed_test (unnumbered_layer (bare_test z))) ≡ test_sensors (observed_test z)) is (test_observes y)
          ∙ sym (fold-roll-Test StepSensors Sensors step_sensors test_sensors x);
      tests = ap (λ (q : Test). length (test_tests q)) bare ∙ ap (λ (l : Tests). length l) (fold-roll-Test Tests Tests tests_in_step tests_in_test (unnumbered_layer (bare_test x)))
          ∙ subst (λ (z : Test-F Step Test). length (tests_in_test (asked_test (unnumbered_layer (bare_test z)))) ≡ length (tests_in_test (asked_test z))) is (test_asks y)
          ∙ sym (ap (λ (l : Tests). length l) (fold-roll-Test Tests Tests tests_in_step tests_in_test x));
    }

same_step : (s : Step) → SameStep s
same_step = ind-Step SameStep SameTest step_case test_case

abbrev claimed : List Step → List SomeStep
claimed = map (λ (s : Step). let e : SomeStep = (s, same_step s) in e)

claims : (chain : List Step) → map (λ (e : SomeStep). e.0) (claimed chain) ≡ chain
claims [] = refl
claims (s ∷ chain) = ap (λ (l : List Step). s ∷ l) (claims chain)

all_claims : (l : List (List Step)) → map (map (λ (e : SomeStep). e.0)) (map claimed l) ≡ l
all_claims [] = refl
all_claims (chain ∷ l) = ap₂ ◌∷◌ (claims chain) (all_claims l)

-- a selector observes the same
pub unnumbered_sensors : (l : List (List Step)) → sensors (unnumbered l) ≡ sensors l
unnumbered_sensors l =
    subst (λ (m : List (List Step)). of_selector (map (map sensors_of_step) (map (map unnumbered_step) m)) ≡ of_selector (map (map sensors_of_step) m)) (all_claims l)
    (ap (λ (m : List (List StepSensors)). of_selector m) (all_sensors (map claimed l)))

-- it has as many single tests
pub unnumbered_tests : (l : List (List Step)) → simple_tests (unnumbered l) ≡ simple_tests l
unfolding selector_tests
unnumbered_tests l =
    subst (λ (m : List (List Step)). simple_tests (unnumbered m) ≡ simple_tests m) (all_claims l) (all_tests (map claimed l))
