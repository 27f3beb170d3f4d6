-- The sensors of each step and test, one equation for each.
use Rattle.std.proofs.Common.{◌≡◌, ℕ, ℤ, Bool, List, map, Option, sym, ap, ◌∙◌}
use Rattle.selector_tree.specs.declared.selector.Place.{Place}
use Rattle.selector_tree.specs.declared.selector.AttrOp.{AttrOp}
use Rattle.selector_tree.specs.declared.selector.Arg.{Arg}
use Rattle.selector_tree.specs.declared.selector.Step.{Step}
use Rattle.selector_tree.specs.declared.selector.Step.TheVariants as step
use Rattle.selector_tree.specs.declared.selector.Step.TheOpen.{Step-F, Test-F}
use Rattle.selector_tree.specs.declared.selector.Step.TheFolds.{fold-roll-Step, fold-roll-Test, map-Step, map-Test}
use Rattle.selector_tree.specs.declared.selector.Step.TheViews.{roll-Step, roll-Test}
use Rattle.selector_tree.specs.declared.selector.Test.{Test}
use Rattle.selector_tree.specs.declared.selector.Test.TheVariants as test
use Rattle.selector_meaning.specs.Texts.{Bytes}
use Rattle.sensor_meaning.specs.Sensors.{Sensors, StepSensors, step_sensors, test_sensors, sensors_of_step, sensors_of_test}

rolled_step : (x : Step-F Step Test) → sensors_of_step (roll-Step x) ≡ step_sensors (map-Step Step Test StepSensors Sensors sensors_of_step sensors_of_test x)
rolled_step = fold-roll-Step StepSensors Sensors step_sensors test_sensors

rolled_test : (x : Test-F Step Test) → sensors_of_test (roll-Test x) ≡ test_sensors (map-Test Step Test StepSensors Sensors sensors_of_step sensors_of_test x)
rolled_test = fold-roll-Test StepSensors Sensors step_sensors test_sensors

pub step-Keep : (q : Test) → sensors_of_step (step.Keep q) ≡ step_sensors (Step-F.Keep (sensors_of_test q))
step-Keep q = ap sensors_of_step (sym (step.rolls-Keep q)) ∙ rolled_step (Step-F.Keep q)

pub step-Move : (place : Place) → sensors_of_step (step.Move place) ≡ step_sensors (Step-F.Move place)
step-Move place = ap sensors_of_step (sym (step.rolls-Move place)) ∙ rolled_step (Step-F.Move place)

pub step-Upward : (n : ℕ) → sensors_of_step (step.Upward n) ≡ step_sensors (Step-F.Upward n)
step-Upward n = ap sensors_of_step (sym (step.rolls-Upward n)) ∙ rolled_step (Step-F.Upward n)

pub step-UpwardTo : (l : List (List Step)) → sensors_of_step (step.UpwardTo l) ≡ step_sensors (Step-F.UpwardTo (map (map sensors_of_step) l))
step-UpwardTo l = ap sensors_of_step (sym (step.rolls-UpwardTo l)) ∙ rolled_step (Step-F.UpwardTo l)

pub step-Others : sensors_of_step step.Others ≡ step_sensors Step-F.Others
step-Others = ap sensors_of_step (sym step.rolls-Others) ∙ rolled_step Step-F.Others

pub test-Any : sensors_of_test test.Any ≡ test_sensors Test-F.Any
test-Any = ap sensors_of_test (sym test.rolls-Any) ∙ rolled_test Test-F.Any

pub test-Tag : (v : Bytes) → sensors_of_test (test.Tag v) ≡ test_sensors (Test-F.Tag v)
test-Tag v = ap sensors_of_test (sym (test.rolls-Tag v)) ∙ rolled_test (Test-F.Tag v)

pub test-Id : (v : Bytes) → sensors_of_test (test.Id v) ≡ test_sensors (Test-F.Id v)
test-Id v = ap sensors_of_test (sym (test.rolls-Id v)) ∙ rolled_test (Test-F.Id v)

pub test-Class : (v : Bytes) → sensors_of_test (test.Class v) ≡ test_sensors (Test-F.Class v)
test-Class v = ap sensors_of_test (sym (test.rolls-Class v)) ∙ rolled_test (Test-F.Class v)

pub test-Attr : (key : Bytes) (op : AttrOp) (v : Bytes) (i : Bool) → sensors_of_test (test.Attr key op v i) ≡ test_sensors (Test-F.Attr key op v i)
test-Attr key op v i = ap sensors_of_test (sym (test.rolls-Attr key op v i)) ∙ rolled_test (Test-F.Attr key op v i)

pub test-Root : sensors_of_test test.Root ≡ test_sensors Test-F.Root
test-Root = ap sensors_of_test (sym test.rolls-Root) ∙ rolled_test Test-F.Root

pub test-Empty : sensors_of_test test.Empty ≡ test_sensors Test-F.Empty
test-Empty = ap sensors_of_test (sym test.rolls-Empty) ∙ rolled_test Test-F.Empty

pub test-Nth : (a : ℤ) (b : ℤ) (e : Bool) (o : Bool) → sensors_of_test (test.Nth a b e o) ≡ test_sensors (Test-F.Nth a b e o)
test-Nth a b e o = ap sensors_of_test (sym (test.rolls-Nth a b e o)) ∙ rolled_test (Test-F.Nth a b e o)

pub test-Only : (o : Bool) → sensors_of_test (test.Only o) ≡ test_sensors (Test-F.Only o)
test-Only o = ap sensors_of_test (sym (test.rolls-Only o)) ∙ rolled_test (Test-F.Only o)

pub test-Is : (l : List (List Step)) → sensors_of_test (test.Is l) ≡ test_sensors (Test-F.Is (map (map sensors_of_step) l))
test-Is l = ap sensors_of_test (sym (test.rolls-Is l)) ∙ rolled_test (Test-F.Is l)

pub test-Not : (l : List (List Step)) → sensors_of_test (test.Not l) ≡ test_sensors (Test-F.Not (map (map sensors_of_step) l))
test-Not l = ap sensors_of_test (sym (test.rolls-Not l)) ∙ rolled_test (Test-F.Not l)

pub test-Has : (l : List (List Step)) → sensors_of_test (test.Has l) ≡ test_sensors (Test-F.Has (map (map sensors_of_step) l))
test-Has l = ap sensors_of_test (sym (test.rolls-Has l)) ∙ rolled_test (Test-F.Has l)

pub test-HasText : (arg : Arg) → sensors_of_test (test.HasText arg) ≡ test_sensors (Test-F.HasText arg)
test-HasText arg = ap sensors_of_test (sym (test.rolls-HasText arg)) ∙ rolled_test (Test-F.HasText arg)

pub test-MinText : (n : ℕ) → sensors_of_test (test.MinText n) ≡ test_sensors (Test-F.MinText n)
test-MinText n = ap sensors_of_test (sym (test.rolls-MinText n)) ∙ rolled_test (Test-F.MinText n)

pub test-MatchesPath : (arg : Arg) → sensors_of_test (test.MatchesPath arg) ≡ test_sensors (Test-F.MatchesPath arg)
test-MatchesPath arg = ap sensors_of_test (sym (test.rolls-MatchesPath arg)) ∙ rolled_test (Test-F.MatchesPath arg)

pub test-MatchesAttr : (k : Arg) (v : Option Arg) → sensors_of_test (test.MatchesAttr k v) ≡ test_sensors (Test-F.MatchesAttr k v)
test-MatchesAttr k v = ap sensors_of_test (sym (test.rolls-MatchesAttr k v)) ∙ rolled_test (Test-F.MatchesAttr k v)

pub test-WatchAttr : (names : List Bytes) → sensors_of_test (test.WatchAttr names) ≡ test_sensors (Test-F.WatchAttr names)
test-WatchAttr names = ap sensors_of_test (sym (test.rolls-WatchAttr names)) ∙ rolled_test (Test-F.WatchAttr names)
