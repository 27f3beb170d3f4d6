-- The meaning of each step and test, one equation for each.
use Rattle.std.proofs.Common.{◌≡◌, ℕ, ℤ, Bool, List, map, Option, sym, ap, ◌∙◌}
use Rattle.selector_tree.specs.declared.selector.Place.{Place}
use Rattle.selector_tree.specs.declared.selector.AttrOp.{AttrOp}
use Rattle.selector_tree.specs.declared.selector.Arg.{Arg}
use Rattle.selector_tree.specs.declared.selector.Step.{Step}
use Rattle.selector_tree.specs.declared.selector.Step.TheVariants as step
use Rattle.selector_tree.specs.declared.selector.Step.TheOpen.{Step-F, Test-F}
use Rattle.selector_tree.specs.declared.selector.Step.TheFolds.{fold-roll-Step, fold-roll-Test, map-Step, map-Test}
use Rattle.selector_tree.specs.declared.selector.Step.TheViews.{roll-Step, roll-Test}
use Rattle.selector_tree.specs.declared.selector.Test.{Test}
use Rattle.selector_tree.specs.declared.selector.Test.TheVariants as test
use Rattle.selector_meaning.specs.Texts.{Bytes}
use Rattle.page_tree.specs.Forest.{Tree}
use Rattle.selector_meaning.specs.Meaning.{StepMeaning, TestMeaning, step_meaning, test_meaning, step_of, holds}

module _ (found : Bytes → ℕ → Bytes → Bool) (t : Tree) (path : Bytes) where
  abbrev of_step : Step → StepMeaning
  of_step = step_of found t path

  abbrev of_test : Test → TestMeaning
  of_test = holds found t path

  abbrev as_step : Step-F StepMeaning TestMeaning → StepMeaning
  as_step = step_meaning found t path

  abbrev as_test : Test-F StepMeaning TestMeaning → TestMeaning
  as_test = test_meaning found t path

  rolled_step : (x : Step-F Step Test) → of_step (roll-Step x) ≡ as_step (map-Step Step Test StepMeaning TestMeaning of_step of_test x)
  rolled_step = fold-roll-Step StepMeaning TestMeaning as_step as_test

  rolled_test : (x : Test-F Step Test) → of_test (roll-Test x) ≡ as_test (map-Test Step Test StepMeaning TestMeaning of_step of_test x)
  rolled_test = fold-roll-Test StepMeaning TestMeaning as_step as_test

  pub step_of-Keep : (q : Test) → of_step (step.Keep q) ≡ as_step (Step-F.Keep (of_test q))
  step_of-Keep q = ap of_step (sym (step.rolls-Keep q)) ∙ rolled_step (Step-F.Keep q)

  pub step_of-Move : (place : Place) → of_step (step.Move place) ≡ as_step (Step-F.Move place)
  step_of-Move place = ap of_step (sym (step.rolls-Move place)) ∙ rolled_step (Step-F.Move place)

  pub step_of-Upward : (n : ℕ) → of_step (step.Upward n) ≡ as_step (Step-F.Upward n)
  step_of-Upward n = ap of_step (sym (step.rolls-Upward n)) ∙ rolled_step (Step-F.Upward n)

  pub step_of-UpwardTo : (l : List (List Step)) → of_step (step.UpwardTo l) ≡ as_step (Step-F.UpwardTo (map (map of_step) l))
  step_of-UpwardTo l = ap of_step (sym (step.rolls-UpwardTo l)) ∙ rolled_step (Step-F.UpwardTo l)

  pub step_of-Others : of_step step.Others ≡ as_step Step-F.Others
  step_of-Others = ap of_step (sym step.rolls-Others) ∙ rolled_step Step-F.Others

  pub holds-Any : of_test test.Any ≡ as_test Test-F.Any
  holds-Any = ap of_test (sym test.rolls-Any) ∙ rolled_test Test-F.Any

  pub holds-Tag : (v : Bytes) → of_test (test.Tag v) ≡ as_test (Test-F.Tag v)
  holds-Tag v = ap of_test (sym (test.rolls-Tag v)) ∙ rolled_test (Test-F.Tag v)

  pub holds-Id : (v : Bytes) → of_test (test.Id v) ≡ as_test (Test-F.Id v)
  holds-Id v = ap of_test (sym (test.rolls-Id v)) ∙ rolled_test (Test-F.Id v)

  pub holds-Class : (v : Bytes) → of_test (test.Class v) ≡ as_test (Test-F.Class v)
  holds-Class v = ap of_test (sym (test.rolls-Class v)) ∙ rolled_test (Test-F.Class v)

  pub holds-Attr : (key : Bytes) (op : AttrOp) (v : Bytes) (i : Bool) → of_test (test.Attr key op v i) ≡ as_test (Test-F.Attr key op v i)
  holds-Attr key op v i = ap of_test (sym (test.rolls-Attr key op v i)) ∙ rolled_test (Test-F.Attr key op v i)

  pub holds-Root : of_test test.Root ≡ as_test Test-F.Root
  holds-Root = ap of_test (sym test.rolls-Root) ∙ rolled_test Test-F.Root

  pub holds-Empty : of_test test.Empty ≡ as_test Test-F.Empty
  holds-Empty = ap of_test (sym test.rolls-Empty) ∙ rolled_test Test-F.Empty

  pub holds-Nth : (a : ℤ) (b : ℤ) (e : Bool) (o : Bool) → of_test (test.Nth a b e o) ≡ as_test (Test-F.Nth a b e o)
  holds-Nth a b e o = ap of_test (sym (test.rolls-Nth a b e o)) ∙ rolled_test (Test-F.Nth a b e o)

  pub holds-Only : (o : Bool) → of_test (test.Only o) ≡ as_test (Test-F.Only o)
  holds-Only o = ap of_test (sym (test.rolls-Only o)) ∙ rolled_test (Test-F.Only o)

  pub holds-Is : (l : List (List Step)) → of_test (test.Is l) ≡ as_test (Test-F.Is (map (map of_step) l))
  holds-Is l = ap of_test (sym (test.rolls-Is l)) ∙ rolled_test (Test-F.Is l)

  pub holds-Not : (l : List (List Step)) → of_test (test.Not l) ≡ as_test (Test-F.Not (map (map of_step) l))
  holds-Not l = ap of_test (sym (test.rolls-Not l)) ∙ rolled_test (Test-F.Not l)

  pub holds-Has : (l : List (List Step)) → of_test (test.Has l) ≡ as_test (Test-F.Has (map (map of_step) l))
  holds-Has l = ap of_test (sym (test.rolls-Has l)) ∙ rolled_test (Test-F.Has l)

  pub holds-HasText : (arg : Arg) → of_test (test.HasText arg) ≡ as_test (Test-F.HasText arg)
  holds-HasText arg = ap of_test (sym (test.rolls-HasText arg)) ∙ rolled_test (Test-F.HasText arg)

  pub holds-MinText : (n : ℕ) → of_test (test.MinText n) ≡ as_test (Test-F.MinText n)
  holds-MinText n = ap of_test (sym (test.rolls-MinText n)) ∙ rolled_test (Test-F.MinText n)

  pub holds-MatchesPath : (arg : Arg) → of_test (test.MatchesPath arg) ≡ as_test (Test-F.MatchesPath arg)
  holds-MatchesPath arg = ap of_test (sym (test.rolls-MatchesPath arg)) ∙ rolled_test (Test-F.MatchesPath arg)

  pub holds-MatchesAttr : (k : Arg) (v : Option Arg) → of_test (test.MatchesAttr k v) ≡ as_test (Test-F.MatchesAttr k v)
  holds-MatchesAttr k v = ap of_test (sym (test.rolls-MatchesAttr k v)) ∙ rolled_test (Test-F.MatchesAttr k v)

  pub holds-WatchAttr : (names : List Bytes) → of_test (test.WatchAttr names) ≡ as_test (Test-F.WatchAttr names)
  holds-WatchAttr names = ap of_test (sym (test.rolls-WatchAttr names)) ∙ rolled_test (Test-F.WatchAttr names)
