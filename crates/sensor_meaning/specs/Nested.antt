-- Whether `:others()` stands in a filter's own chains alone.
use Rattle.std.specs.Prelude.{Bool, true, false, not, List}
use Rattle.std.specs.List.{list_any}
use Rattle.selector_tree.specs.declared.selector.Step.{Step, fold-Step}
use Rattle.selector_tree.specs.declared.selector.Test.{Test, fold-Test}
use Rattle.selector_tree.specs.declared.selector.Step.TheOpen.{Step-F, Test-F}

-- where a step has it: anywhere, the step itself included, or within an argument
pub record Depth : Type 0 where
  pub any : Bool
  pub within : Bool

abbrev pub some_any : List (List Depth) → Bool
some_any l = list_any (λ chain. list_any (λ (d : Depth). d.any) chain) l

-- one layer
abbrev pub others_in_step : Step-F Depth Bool → Depth
others_in_step (Step-F.Keep q) = record { any = q; within = q }
others_in_step (Step-F.Move place) = record { any = false; within = false }
others_in_step (Step-F.Upward n) = record { any = false; within = false }
others_in_step (Step-F.UpwardTo l) = record { any = some_any l; within = some_any l }
others_in_step Step-F.Others = record { any = true; within = false }

abbrev pub others_in_test : Test-F Depth Bool → Bool
others_in_test (Test-F.Is l) = some_any l
others_in_test (Test-F.Not l) = some_any l
others_in_test (Test-F.Has l) = some_any l
others_in_test _ = false

abbrev pub step_others : Step → Depth
step_others = fold-Step Depth Bool others_in_step others_in_test

abbrev pub test_others : Test → Bool
test_others = fold-Test Depth Bool others_in_step others_in_test

-- no argument of the selector has it
abbrev pub is_outer : List (List Step) → Bool
is_outer l = not (list_any (λ chain. list_any (λ step. (step_others step).within) chain) l)
