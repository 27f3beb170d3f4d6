-- The text of each step and test, one equation for each.
use Rattle.std.proofs.Common.{◌≡◌, ℕ, ℤ, Bool, List, map, Option, sym, ap, ◌∙◌}
use Rattle.selector_tree.specs.declared.selector.Place.{Place}
use Rattle.selector_tree.specs.declared.selector.AttrOp.{AttrOp}
use Rattle.selector_tree.specs.declared.selector.Arg.{Arg}
use Rattle.selector_tree.specs.declared.selector.Step.{Step}
use Rattle.selector_tree.specs.declared.selector.Step.TheVariants as step
use Rattle.selector_tree.specs.declared.selector.Step.TheOpen.{Step-F, Test-F}
use Rattle.selector_tree.specs.declared.selector.Step.TheFolds.{fold-roll-Step, fold-roll-Test, map-Step, map-Test}
use Rattle.selector_tree.specs.declared.selector.Step.TheViews.{roll-Step, roll-Test}
use Rattle.selector_tree.specs.declared.selector.Test.{Test}
use Rattle.selector_tree.specs.declared.selector.Test.TheVariants as test
use Rattle.selector_tree.specs.Canonical.{StepText, step_layer, test_layer, text_of_step, text_of_test}

rolled_step : (x : Step-F Step Test) → text_of_step (roll-Step x) ≡ step_layer (map-Step Step Test StepText (List ℕ) text_of_step text_of_test x)
rolled_step = fold-roll-Step StepText (List ℕ) step_layer test_layer

rolled_test : (x : Test-F Step Test) → text_of_test (roll-Test x) ≡ test_layer (map-Test Step Test StepText (List ℕ) text_of_step text_of_test x)
rolled_test = fold-roll-Test StepText (List ℕ) step_layer test_layer

pub text_of_step-Keep : (q : Test) → text_of_step (step.Keep q) ≡ step_layer (Step-F.Keep (text_of_test q))
text_of_step-Keep q = ap text_of_step (sym (step.rolls-Keep q)) ∙ rolled_step (Step-F.Keep q)

pub text_of_step-Move : (place : Place) → text_of_step (step.Move place) ≡ step_layer (Step-F.Move place)
text_of_step-Move place = ap text_of_step (sym (step.rolls-Move place)) ∙ rolled_step (Step-F.Move place)

pub text_of_step-Upward : (n : ℕ) → text_of_step (step.Upward n) ≡ step_layer (Step-F.Upward n)
text_of_step-Upward n = ap text_of_step (sym (step.rolls-Upward n)) ∙ rolled_step (Step-F.Upward n)

pub text_of_step-UpwardTo : (l : List (List Step)) → text_of_step (step.UpwardTo l) ≡ step_layer (Step-F.UpwardTo (map (map text_of_step) l))
text_of_step-UpwardTo l = ap text_of_step (sym (step.rolls-UpwardTo l)) ∙ rolled_step (Step-F.UpwardTo l)

pub text_of_step-Others : text_of_step step.Others ≡ step_layer Step-F.Others
text_of_step-Others = ap text_of_step (sym step.rolls-Others) ∙ rolled_step Step-F.Others

pub text_of_test-Any : text_of_test test.Any ≡ test_layer Test-F.Any
text_of_test-Any = ap text_of_test (sym test.rolls-Any) ∙ rolled_test Test-F.Any

pub text_of_test-Tag : (v : List ℕ) → text_of_test (test.Tag v) ≡ test_layer (Test-F.Tag v)
text_of_test-Tag v = ap text_of_test (sym (test.rolls-Tag v)) ∙ rolled_test (Test-F.Tag v)

pub text_of_test-Id : (v : List ℕ) → text_of_test (test.Id v) ≡ test_layer (Test-F.Id v)
text_of_test-Id v = ap text_of_test (sym (test.rolls-Id v)) ∙ rolled_test (Test-F.Id v)

pub text_of_test-Class : (v : List ℕ) → text_of_test (test.Class v) ≡ test_layer (Test-F.Class v)
text_of_test-Class v = ap text_of_test (sym (test.rolls-Class v)) ∙ rolled_test (Test-F.Class v)

pub text_of_test-Attr : (key : List ℕ) (op : AttrOp) (v : List ℕ) (i : Bool) → text_of_test (test.Attr key op v i) ≡ test_layer (Test-F.Attr key op v i)
text_of_test-Attr key op v i = ap text_of_test (sym (test.rolls-Attr key op v i)) ∙ rolled_test (Test-F.Attr key op v i)

pub text_of_test-Root : text_of_test test.Root ≡ test_layer Test-F.Root
text_of_test-Root = ap text_of_test (sym test.rolls-Root) ∙ rolled_test Test-F.Root

pub text_of_test-Empty : text_of_test test.Empty ≡ test_layer Test-F.Empty
text_of_test-Empty = ap text_of_test (sym test.rolls-Empty) ∙ rolled_test Test-F.Empty

pub text_of_test-Nth : (a : ℤ) (b : ℤ) (e : Bool) (o : Bool) → text_of_test (test.Nth a b e o) ≡ test_layer (Test-F.Nth a b e o)
text_of_test-Nth a b e o = ap text_of_test (sym (test.rolls-Nth a b e o)) ∙ rolled_test (Test-F.Nth a b e o)

pub text_of_test-Only : (o : Bool) → text_of_test (test.Only o) ≡ test_layer (Test-F.Only o)
text_of_test-Only o = ap text_of_test (sym (test.rolls-Only o)) ∙ rolled_test (Test-F.Only o)

pub text_of_test-Is : (l : List (List Step)) → text_of_test (test.Is l) ≡ test_layer (Test-F.Is (map (map text_of_step) l))
text_of_test-Is l = ap text_of_test (sym (test.rolls-Is l)) ∙ rolled_test (Test-F.Is l)

pub text_of_test-Not : (l : List (List Step)) → text_of_test (test.Not l) ≡ test_layer (Test-F.Not (map (map text_of_step) l))
text_of_test-Not l = ap text_of_test (sym (test.rolls-Not l)) ∙ rolled_test (Test-F.Not l)

pub text_of_test-Has : (l : List (List Step)) → text_of_test (test.Has l) ≡ test_layer (Test-F.Has (map (map text_of_step) l))
text_of_test-Has l = ap text_of_test (sym (test.rolls-Has l)) ∙ rolled_test (Test-F.Has l)

pub text_of_test-HasText : (arg : Arg) → text_of_test (test.HasText arg) ≡ test_layer (Test-F.HasText arg)
text_of_test-HasText arg = ap text_of_test (sym (test.rolls-HasText arg)) ∙ rolled_test (Test-F.HasText arg)

pub text_of_test-MinText : (n : ℕ) → text_of_test (test.MinText n) ≡ test_layer (Test-F.MinText n)
text_of_test-MinText n = ap text_of_test (sym (test.rolls-MinText n)) ∙ rolled_test (Test-F.MinText n)

pub text_of_test-MatchesPath : (arg : Arg) → text_of_test (test.MatchesPath arg) ≡ test_layer (Test-F.MatchesPath arg)
text_of_test-MatchesPath arg = ap text_of_test (sym (test.rolls-MatchesPath arg)) ∙ rolled_test (Test-F.MatchesPath arg)

pub text_of_test-MatchesAttr : (k : Arg) (v : Option Arg) → text_of_test (test.MatchesAttr k v) ≡ test_layer (Test-F.MatchesAttr k v)
text_of_test-MatchesAttr k v = ap text_of_test (sym (test.rolls-MatchesAttr k v)) ∙ rolled_test (Test-F.MatchesAttr k v)

pub text_of_test-WatchAttr : (names : List (List ℕ)) → text_of_test (test.WatchAttr names) ≡ test_layer (Test-F.WatchAttr names)
text_of_test-WatchAttr names = ap text_of_test (sym (test.rolls-WatchAttr names)) ∙ rolled_test (Test-F.WatchAttr names)
