-- Selectors in whose `:matches-attr` the brackets of a literal and of a pattern aren't each other's partners.
use Rattle.std.specs.Prelude.{ℕ, suc, ◌-◌, nat_lt, Bool, true, false, not, ◌==◌, ◌&&◌, List, [], ◌∷◌, if◌then◌else◌, Option, Some, None}
use Rattle.std.specs.List.{list_all}
use Rattle.selector_tree.specs.declared.selector.Arg.{Arg}
use Rattle.selector_tree.specs.declared.selector.Arg.TheVariants.{Literal, Pattern}
use Rattle.selector_tree.specs.declared.selector.Step.{Step, fold-Step}
use Rattle.selector_tree.specs.declared.selector.Test.{Test, fold-Test}
use Rattle.selector_tree.specs.declared.selector.Step.TheOpen.{Step-F, Test-F}
use Rattle.selector_spelling.specs.Bytes.{Bytes, round_open, round_close, backslash}

-- each round bracket closes or is closed, where `\` and the byte after it count for nothing; `depth` brackets are open before
-- the text, and `paired` says that a `\` stands there
abbrev pub closes : ℕ → Bool → Bytes → Bool
closes depth paired [] = not paired && depth == 0
closes depth true (b ∷ text) = closes depth false text
closes depth false (b ∷ text) =
    if b == round_open then closes (suc depth) false text
    else if b == round_close then nat_lt 0 depth && closes (depth - 1) false text
    else closes depth (b == backslash) text

abbrev pub is_balanced : Bytes → Bool
is_balanced text = closes 0 false text

-- where a pattern stands beside a literal, the brackets of its body close each other
abbrev pub pair_balance : Arg → Option Arg → Bool
pair_balance (Literal name) None = true
pair_balance (Literal name) (Some (Literal value)) = true
pair_balance (Literal name) (Some (Pattern body flags number)) = is_balanced body
pair_balance (Pattern body flags number) None = true
pair_balance (Pattern body flags number) (Some (Literal value)) = is_balanced body
pair_balance (Pattern body flags number) (Some (Pattern other more place)) = true

abbrev pub each : List (List Bool) → Bool
each l = list_all (list_all (λ holds. holds)) l

-- one test, with what is said of each step and test in its place
abbrev pub test_balance : Test-F Bool Bool → Bool
test_balance Test-F.Any = true
test_balance (Test-F.Tag name) = true
test_balance (Test-F.Id name) = true
test_balance (Test-F.Class name) = true
test_balance (Test-F.Attr name op value ignore_case) = true
test_balance Test-F.Root = true
test_balance Test-F.Empty = true
test_balance (Test-F.Nth a b from_end of_name) = true
test_balance (Test-F.Only of_name) = true
test_balance (Test-F.Is l) = each l
test_balance (Test-F.Not l) = each l
test_balance (Test-F.Has l) = each l
test_balance (Test-F.HasText arg) = true
test_balance (Test-F.MinText n) = true
test_balance (Test-F.MatchesPath arg) = true
test_balance (Test-F.MatchesAttr name value) = pair_balance name value
test_balance (Test-F.WatchAttr names) = true

abbrev pub step_balance : Step-F Bool Bool → Bool
step_balance (Step-F.Keep test) = test
step_balance (Step-F.Move place) = true
step_balance (Step-F.Upward n) = true
step_balance (Step-F.UpwardTo l) = each l
step_balance Step-F.Others = true

abbrev pub step_is_balanced : Step → Bool
step_is_balanced = fold-Step Bool Bool step_balance test_balance

abbrev pub test_is_balanced : Test → Bool
test_is_balanced = fold-Test Bool Bool step_balance test_balance

abbrev pub are_balanced : List (List Step) → Bool
are_balanced selector = list_all (list_all step_is_balanced) selector
