-- The balance of each step and test, one equation for each that has something to say.
use Rattle.std.proofs.Common.{◌≡◌, Bool, ◌&&◌, List, [], ◌∷◌, map, Option, refl, sym, ap, ap₂, ◌∙◌}
use Rattle.std.specs.List.{list_all}
use Rattle.selector_tree.specs.declared.selector.Arg.{Arg}
use Rattle.selector_tree.specs.declared.selector.Step.{Step}
use Rattle.selector_tree.specs.declared.selector.Step.TheVariants as step
use Rattle.selector_tree.specs.declared.selector.Step.TheOpen.{Step-F, Test-F}
use Rattle.selector_tree.specs.declared.selector.Step.TheFolds.{fold-roll-Step, fold-roll-Test, map-Step, map-Test}
use Rattle.selector_tree.specs.declared.selector.Step.TheViews.{roll-Step, roll-Test}
use Rattle.selector_tree.specs.declared.selector.Test.{Test}
use Rattle.selector_tree.specs.declared.selector.Test.TheVariants as test
use Rattle.selector_round_trip.specs.Balanced.{pair_balance, each, test_balance, step_balance, step_is_balanced, test_is_balanced, are_balanced}

rolled_step : (x : Step-F Step Test) → step_is_balanced (roll-Step x) ≡ step_balance (map-Step Step Test Bool Bool step_is_balanced test_is_balanced x)
rolled_step = fold-roll-Step Bool Bool step_balance test_balance

rolled_test : (x : Test-F Step Test) → test_is_balanced (roll-Test x) ≡ test_balance (map-Test Step Test Bool Bool step_is_balanced test_is_balanced x)
rolled_test = fold-roll-Test Bool Bool step_balance test_balance

all_map : (chain : List Step) → list_all (λ holds. holds) (map step_is_balanced chain) ≡ list_all step_is_balanced chain
all_map [] = refl
all_map (s ∷ chain) = ap (λ (x : Bool). step_is_balanced s && x) (all_map chain)

each_map : (l : List (List Step)) → each (map (map step_is_balanced) l) ≡ are_balanced l
each_map [] = refl
each_map (chain ∷ l) = ap₂ ◌&&◌ (all_map chain) (each_map l)

pub balance-Keep : (q : Test) → step_is_balanced (step.Keep q) ≡ test_is_balanced q
balance-Keep q = ap step_is_balanced (sym (step.rolls-Keep q)) ∙ rolled_step (Step-F.Keep q)

pub balance-UpwardTo : (l : List (List Step)) → step_is_balanced (step.UpwardTo l) ≡ are_balanced l
balance-UpwardTo l = ap step_is_balanced (sym (step.rolls-UpwardTo l)) ∙ rolled_step (Step-F.UpwardTo l) ∙ each_map l

pub balance-Is : (l : List (List Step)) → test_is_balanced (test.Is l) ≡ are_balanced l
balance-Is l = ap test_is_balanced (sym (test.rolls-Is l)) ∙ rolled_test (Test-F.Is l) ∙ each_map l

pub balance-Not : (l : List (List Step)) → test_is_balanced (test.Not l) ≡ are_balanced l
balance-Not l = ap test_is_balanced (sym (test.rolls-Not l)) ∙ rolled_test (Test-F.Not l) ∙ each_map l

pub balance-Has : (l : List (List Step)) → test_is_balanced (test.Has l) ≡ are_balanced l
balance-Has l = ap test_is_balanced (sym (test.rolls-Has l)) ∙ rolled_test (Test-F.Has l) ∙ each_map l

pub balance-MatchesAttr : (name : Arg) (v : Option Arg) → test_is_balanced (test.MatchesAttr name v) ≡ pair_balance name v
balance-MatchesAttr name v = ap test_is_balanced (sym (test.rolls-MatchesAttr name v)) ∙ rolled_test (Test-F.MatchesAttr name v)
