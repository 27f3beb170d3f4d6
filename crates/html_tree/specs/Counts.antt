-- How often names stand behind the first few of a chain of open elements.
use Rattle.std.specs.Prelude.{◌≡◌, ℕ, cond, List, drop}
use Rattle.std.specs.List.{count_by}
use Rattle.std.specs.Option.{unwrap_or}
use Rattle.std.specs.BTreeMap.{BTreeMap, get_by}
use Rattle.std.specs.Cmp.Lexicographic.{slice_cmp}
use Rattle.std.specs.Ordering.{nat_cmp}
use Rattle.std.specs.Str.{bytes_eq}
use Rattle.html_tree.specs.declared.chain.TheConstants.{OUTER}
use Rattle.html_tree.specs.declared.spelled.SpelledName.{SpelledName}
use Rattle.html_tree.specs.Spelled.{lower_of}

-- how often a map counts this name, which is in lower case
abbrev pub count_in : BTreeMap SpelledName ℕ → List ℕ → ℕ
count_in counts name = unwrap_or (get_by (λ k. slice_cmp nat_cmp name (lower_of k)) counts) 0

-- how many of the names are this one
abbrev pub times : List ℕ → List (List ℕ) → ℕ
times name names = count_by (λ n. bytes_eq n name) names

-- each name is counted as often as it stands behind the outer ones
abbrev pub AreCounted : BTreeMap SpelledName ℕ → List (List ℕ) → Type 0
AreCounted counts names = (q : SpelledName) → count_in counts (lower_of q) ≡ times (lower_of q) (drop OUTER names)

-- this name is counted so often then, and each other one as before
abbrev pub IsCountedAs : BTreeMap SpelledName ℕ → BTreeMap SpelledName ℕ → List ℕ → ℕ → Type 0
IsCountedAs old new name count =
    (q : SpelledName) → count_in new (lower_of q) ≡ cond (bytes_eq name (lower_of q)) count (count_in old (lower_of q))

-- each name is counted as before
abbrev pub AreSameCounts : BTreeMap SpelledName ℕ → BTreeMap SpelledName ℕ → Type 0
AreSameCounts old new = (q : SpelledName) → count_in new (lower_of q) ≡ count_in old (lower_of q)
