-- Which tests look at the page alone, and which hold selectors.
use Rattle.std.specs.Prelude.{Bool, true, false, ◌&&◌, Option, None, Some}
use Rattle.selector_tree.specs.declared.selector.Arg.{Arg}
use Rattle.selector_tree.specs.declared.selector.Arg.TheVariants.{Literal, Pattern}
use Rattle.selector_tree.specs.declared.selector.Step.{Step}
use Rattle.selector_tree.specs.declared.selector.Step.TheOpen.{Test-F}
use Rattle.selector_tree.specs.declared.selector.Test.{Test, out-Test}

-- a text as it stands
abbrev pub is_literal : Arg → Bool
is_literal (Literal l) = true
is_literal (Pattern body flags number) = false

abbrev pub is_literal_or_none : Option Arg → Bool
is_literal_or_none None = true
is_literal_or_none (Some arg) = is_literal arg

-- no selector stands in the test
abbrev pub is_single_at : Test-F Step Test → Bool
is_single_at (Test-F.Is l) = false
is_single_at (Test-F.Not l) = false
is_single_at (Test-F.Has l) = false
is_single_at _ = true

abbrev pub is_single : Test → Bool
is_single q = is_single_at (out-Test q)

-- nor does it ask for a text or hold a pattern
abbrev pub is_plain_at : Test-F Step Test → Bool
is_plain_at (Test-F.Is l) = false
is_plain_at (Test-F.Not l) = false
is_plain_at (Test-F.Has l) = false
is_plain_at (Test-F.HasText arg) = false
is_plain_at (Test-F.MatchesPath arg) = is_literal arg
is_plain_at (Test-F.MatchesAttr key value) = is_literal key && is_literal_or_none value
is_plain_at _ = true

abbrev pub is_plain : Test → Bool
is_plain q = is_plain_at (out-Test q)
