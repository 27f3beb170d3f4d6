-- Which rules a map holds by their names.
use Rattle.std.specs.Prelude.{ℕ, ◌==◌, ◌&&◌, Bool, true, false, List, [], ◌∷◌, ◌++◌, length, Option, Some, None, String, string_bytes, if◌then◌else◌}
use Rattle.indexmap.specs.IndexMap.{IndexMap, get_by_text}
use Rattle.host_names.specs.declared.line.RuleSort.{RuleSort}
use Rattle.host_names.specs.declared.line.RuleSort.TheVariants.{Plain, Star, Exception}
use Rattle.host_names.specs.declared.line.SpelledLine.{SpelledLine}
use Rattle.host_names.specs.declared.line.SpelledLine.TheVariants as spelled
use Rattle.host_names.specs.declared.suffixes.RuleKinds.{RuleKinds}
use Rattle.host_names.specs.Hosts.{end_with, labels_of}
use Rattle.host_names.specs.Suffixes.{Rule, is_exception, rule_length}
use Rattle.host_names.specs.SuffixLines.{SuffixLine, nothing, rule, bad, any_label, exception_of, named_rule, star_rule}

abbrev pub only_if : Bool → Rule → List Rule
only_if held r = if held then r ∷ [] else []

-- the rules of a name: of it, of `*` before it, and its exception
abbrev pub rules_at : List ℕ → RuleKinds → List Rule
rules_at name kinds =
    only_if kinds.plain (named_rule name) ++ only_if kinds.star (star_rule name)
    ++ only_if kinds.exception (exception_of name)

-- the rules that a map holds
abbrev pub rules_in : {A : Type 0} → List (String A × RuleKinds) → List Rule
rules_in [] = []
rules_in (entry ∷ entries) = rules_at (string_bytes entry.0) entry.1 ++ rules_in entries

-- the kinds of rules that a name has in a map
abbrev pub no_kinds : RuleKinds
no_kinds = record { plain = false; star = false; exception = false }

abbrev pub kinds_or_none : Option RuleKinds → RuleKinds
kinds_or_none None = no_kinds
kinds_or_none (Some kinds) = kinds

abbrev pub kinds_at : {A S : Type 0} → IndexMap (String A) RuleKinds S → List ℕ → RuleKinds
kinds_at map name = kinds_or_none (get_by_text map name)

-- one more kind
abbrev pub with_kind : RuleSort → RuleKinds → RuleKinds
with_kind Plain kinds = record kinds { plain = true }
with_kind Star kinds = record kinds { star = true }
with_kind Exception kinds = record kinds { exception = true }

-- the rule of that sort with this name
abbrev pub rule_by : RuleSort → List ℕ → Rule
rule_by Plain name = named_rule name
rule_by Star name = star_rule name
rule_by Exception name = exception_of name

-- the rule matches a host of just these labels with all of them
abbrev pub is_whole : Bool → List (List ℕ) → Rule → Bool
is_whole exceptions labels r =
    is_exception exceptions r && (rule_length r == length labels && end_with labels r.labels)

-- what a line says, by the rule and name that were read
abbrev pub line_meaning : SpelledLine → SuffixLine
line_meaning spelled.Nothing = nothing
line_meaning spelled.Any = rule any_label
line_meaning (spelled.Named sort name) = rule (rule_by sort name)
line_meaning spelled.Bad = bad
