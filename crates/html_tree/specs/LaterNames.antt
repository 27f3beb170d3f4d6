-- The names of attributes that are read already.
use Rattle.std.specs.Prelude.{◌≡◌, ℕ, List, map, drop}
use Rattle.std.specs.BTreeSet.{BTreeSet, contains}
use Rattle.std.specs.Cmp.Lexicographic.{slice_cmp}
use Rattle.std.specs.Ordering.{nat_cmp, on}
use Rattle.std.specs.Str.{str_to_ascii_lowercase}
use Rattle.html_meaning.specs.Bytes.{is_among}
use Rattle.html_meaning.specs.References.{resolved}
use Rattle.html_tree.specs.declared.attributes.TheConstants.{FEW}
use Rattle.html_tree.specs.declared.spelled.SpelledName.{SpelledName}
use Rattle.html_tree.specs.Spelled.{lower_of}

abbrev pub names_in : List (List ℕ × List ℕ) → List (List ℕ)
names_in attrs = map (λ a. a.0) attrs

-- an attribute as it is kept: its name in lower case, the references in its value resolved
abbrev pub as_read : List ℕ × List ℕ → List ℕ × List ℕ
as_read a = (str_to_ascii_lowercase a.0, resolved 0 a.1)

-- the set has all of these names but the first few
abbrev pub AreLater : BTreeSet SpelledName → List (List ℕ) → Type 0
AreLater later names =
    (name : SpelledName) → contains (on lower_of (slice_cmp nat_cmp)) later name ≡ is_among (lower_of name) (drop FEW names)
