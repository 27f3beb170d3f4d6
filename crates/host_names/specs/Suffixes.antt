-- Public suffixes, by the format of the public suffix list; `*` stands for a first label alone.
use Rattle.std.specs.Prelude.{ℕ, ◌==◌, ◌+◌, ◌-◌, ◌&&◌, ◌||◌, Bool, true, false, not, nat_le, nat_lt, max, List, [], ◌∷◌, length, take, filter, slice_index, Option, Some, None, if◌then◌else◌, refl}
use Rattle.std.specs.Coded.{Coded, code_by, coded×, coded_bool, coded_list, coded_ℕ}
use Rattle.std.specs.List.{list_any, join_with_byte}
use Rattle.cos_source.specs.Numbers.{is_digits}
use Rattle.host_names.specs.Hosts.{end_with, labels_of, last}

-- a rule: its labels, whether `*` stands before them for one more, and whether `!` makes it an exception
pub record Rule : Type 0 where
  pub exception : Bool
  pub star : Bool
  pub labels : List (List ℕ)

-- how many labels it has, `*` among them
abbrev pub rule_length : Rule → ℕ
rule_length rule = if rule.star then length rule.labels + 1 else length rule.labels

-- the rule matches a host that has at least as many labels, and whose last labels equal the rule's; `*` equals any label
abbrev pub matches : List (List ℕ) → Rule → Bool
matches labels rule = nat_le (rule_length rule) (length labels) && end_with labels rule.labels

-- the greatest number of labels, 0 where there is no rule
abbrev pub most_labels : List Rule → ℕ
most_labels [] = 0
most_labels (rule ∷ rules) = max (rule_length rule) (most_labels rules)

abbrev pub is_exception : Bool → Rule → Bool
is_exception wanted rule = if wanted then rule.exception else not rule.exception

-- how many labels the longest rule has that matches, among the exceptions or among the others
abbrev pub longest : Bool → List Rule → List (List ℕ) → ℕ
longest exceptions rules labels = most_labels (filter (λ rule. is_exception exceptions rule && matches labels rule) rules)

-- how many labels of a host are its public suffix: of the rules that match, the longest exception wins, and its first label
-- isn't of the suffix; else the rule with most labels; with none the rule is `*`
abbrev pub suffix_count : List Rule → List (List ℕ) → ℕ
suffix_count rules labels =
    let exception = longest true rules labels in
    if nat_lt 0 exception then exception - 1 else max 1 (longest false rules labels)

-- the public suffix of a host
abbrev pub suffix : List Rule → List ℕ → List ℕ
suffix rules host = join_with_byte 46 (last (suffix_count rules (labels_of host)) (labels_of host))

-- the last label is of digits alone, at least one
abbrev pub is_number : List (List ℕ) → Bool
is_number labels = list_any is_digits (last 1 labels)

-- an empty host, an address in brackets, and one whose last label is a number
abbrev pub has_no_name : List ℕ → Bool
has_no_name host = length host == 0 || slice_index host 0 == 91 || is_number (labels_of host)

-- the labels before a suffix of so many, if there are any
abbrev pub before : ℕ → List (List ℕ) → Option (List ℕ)
before n labels = if nat_le (length labels) n then None else Some (join_with_byte 46 (take (length labels - n) labels))

-- the rest of a host: it without its public suffix and the dot before that
abbrev pub rest : List Rule → List ℕ → Option (List ℕ)
rest rules host = if has_no_name host then None else before (suffix_count rules (labels_of host)) (labels_of host)

-- how the logic stores a list of rules
abbrev pub rules_code : Coded (List Rule)
rules_code = coded_list (code_by (Bool × (Bool × List (List ℕ))) (coded× coded_bool (coded× coded_bool (coded_list (coded_list coded_ℕ))))
    (λ rule. (rule.exception, (rule.star, rule.labels)))
    (λ p. record { exception = p.0; star = p.1.0; labels = p.1.1 }) (λ _. refl))
