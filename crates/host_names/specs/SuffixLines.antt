-- The lines of a file of public suffix rules.
use Rattle.std.specs.Prelude.{ℕ, ◌==◌, ◌||◌, Bool, true, false, not, nat_lt, List, [], ◌∷◌, codes, length, take, drop, slice_index, Option, Some, None, option_map, option_and_then, if◌then◌else◌}
use Rattle.std.specs.Str.{bytes_eq, is_utf8}
use Rattle.cos_source.specs.Spaces.{trimmed, until_space}
use Rattle.host_names.specs.Hosts.{host_of, labels_of}
use Rattle.host_names.specs.Suffixes.{Rule}

-- a rule with the labels of a name
abbrev pub named_rule : List ℕ → Rule
named_rule name = record { exception = false; star = false; labels = labels_of name }

-- a rule with `*` before the labels of a name
abbrev pub star_rule : List ℕ → Rule
star_rule name = record { exception = false; star = true; labels = labels_of name }

-- `*` alone
abbrev pub any_label : Rule
any_label = record { exception = false; star = true; labels = [] }

abbrev pub exception_of : List ℕ → Rule
exception_of name = record { exception = true; star = false; labels = labels_of name }

-- the exception of a name, which has at least two labels
abbrev pub exception_rule : List ℕ → Option Rule
exception_rule name = if nat_lt 1 (length (labels_of name)) then Some (exception_of name) else None

-- a rule that is no exception: `*`, or a host, or `*.` and a host
abbrev pub plain_rule : List ℕ → Option Rule
plain_rule text =
    if bytes_eq text (codes "*") then Some any_label
    else if bytes_eq (take 2 text) (codes "*.") then option_map star_rule (host_of (drop 2 text))
    else option_map named_rule (host_of text)

-- the rule that a text spells, if it spells one; `!` before a host makes it an exception
abbrev pub rule_of : List ℕ → Option Rule
rule_of text =
    if slice_index text 0 == 33 then option_and_then exception_rule (host_of (drop 1 text)) else plain_rule text

-- what a line says: nothing, a rule, or it is malformed
pub data SuffixLine : Type 0 where
  nothing : SuffixLine
  rule : Rule → SuffixLine
  bad : SuffixLine

abbrev pub by_rule : Option Rule → SuffixLine
by_rule None = bad
by_rule (Some r) = rule r

-- a trimmed line: it is empty or a comment, or its text up to the first white space is a rule
abbrev pub text_line : List ℕ → SuffixLine
text_line text =
    if length text == 0 || bytes_eq (take 2 text) (codes "//") then nothing else by_rule (rule_of (until_space text))

abbrev pub suffix_line : List ℕ → SuffixLine
suffix_line line = if is_utf8 line then text_line (trimmed line) else bad

abbrev pub with_rule : SuffixLine → List Rule → List Rule
with_rule nothing rules = rules
with_rule (rule r) rules = r ∷ rules
with_rule bad rules = rules

-- the rules of numbered lines, in order
abbrev pub rules_of : List (ℕ × List ℕ) → List Rule
rules_of [] = []
rules_of (line ∷ lines) = with_rule (suffix_line line.1) (rules_of lines)

abbrev pub with_bad : ℕ → SuffixLine → List ℕ → List ℕ
with_bad number nothing numbers = numbers
with_bad number (rule r) numbers = numbers
with_bad number bad numbers = number ∷ numbers

-- the numbers of the malformed lines, in order
abbrev pub bad_lines : List (ℕ × List ℕ) → List ℕ
bad_lines [] = []
bad_lines (line ∷ lines) = with_bad line.0 (suffix_line line.1) (bad_lines lines)
