-- Whether the pattern of a text under flags is found in a text, by the grammar and the meaning of `regex`.
use Rattle.std.specs.Prelude.{◌≡◌, ℕ, ◌/◌, ◌%◌, ◌<◌, ◌==◌, ◌⊎◌, Bool, false, List, Option, Some, None, is_some, IfSome}
use Rattle.std.specs.Str.{chars}
use Rattle.regex_hir.specs.Re.{Re}
use Rattle.regex_hir.specs.Find.{find_str}
use Rattle.regex_syntax.specs.Brackets.{Nested}
use Rattle.regex_syntax.specs.Grammar.{Names, read}
use Rattle.regex_syntax.specs.declared.Config.{Config}
use Rattle.regex_syntax.specs.declared.flags.Flags.{Flags}
use Rattle.regex_syntax.specs.Verdict.{default_config, default_flags}
use Rattle.regex.specs.Strings.{regex_source, regex_config, regex_pattern, matcher_pattern, IsReadFromSource}
use Rattle.regex.specs.declared.string.matcher.Matcher.{Matcher}
use Rattle.regex.specs.declared.string.regex.Regex.{Regex}

-- flags are a sum of 1 for i, 2 for m and 4 for s; the other flags are those that `Regex::new` has
abbrev pub flags_of : ℕ → Flags
flags_of flags = record default_flags {
  case_insensitive = flags % 2 == 1;
  multi_line = flags / 2 % 2 == 1;
  dot_matches_new_line = flags / 4 % 2 == 1;
}

-- the options under which a pattern is read: nothing is set but the flags
abbrev pub config_of : ℕ → Config
config_of flags = record default_config { flags = flags_of flags }

-- the pattern that the grammar reads in a text under flags, with how deep it nests and the names of its groups
unfoldable pub read_as : List ℕ → ℕ → Option (Nested Re × Names)
read_as body flags = read (config_of flags) (chars body)

-- the grammar reads a pattern in the text
abbrev pub is_read : List ℕ → ℕ → Bool
is_read body flags = is_some (read_as body flags)

-- what was read stands somewhere in the text; where nothing was read, nothing is found
abbrev pub found_by : Option (Nested Re × Names) → List ℕ → Bool
found_by None text = false
found_by (Some pattern) text = is_some (find_str pattern.0.value text 0)

-- the pattern of this body and these flags stands somewhere in the text
abbrev pub pattern_found : List ℕ → ℕ → List ℕ → Bool
pattern_found body flags text = found_by (read_as body flags) text

-- the grammar reads nothing, or what nests deeper than the 250 levels that `regex` allows
abbrev pub IsUnreadable : List ℕ → ℕ → Type 0
IsUnreadable body flags = (read_as body flags ≡ None) ⊎ IfSome (read_as body flags) (λ pattern. 250 < pattern.0.depth)

-- the compiled pattern is what the grammar reads in this body under these flags
pub record IsPatternOf (body : List ℕ) (flags : ℕ) (regex : Regex) : Type 0 where
  pub source : regex_source regex ≡ body
  pub config : regex_config regex ≡ config_of flags
  pub read : IsReadFromSource regex

-- the matcher looks for a compiled pattern that is what the grammar reads in this body under these flags
pub record IsMatcherOf (body : List ℕ) (flags : ℕ) (matcher : Matcher) : Type 0 where
  pub regex : Regex
  pub is : IsPatternOf body flags regex
  pub pattern : matcher_pattern matcher ≡ regex_pattern regex
