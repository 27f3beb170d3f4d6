-- The pairs of a filter and an element that are marked. A filter goes by its place among the active ones.
use Rattle.std.specs.Prelude.{◌≡◌, ℕ, Bool, ◌&&◌, ◌==◌, List, [], cond, nat_eq, slice_get, unwrap_or}
use Rattle.std.specs.Option.{option_map_or}
use Rattle.std.specs.Map.{lookup}
use Rattle.page_tree.specs.Directions.{is_in}

-- the filters of an element
abbrev pub row : List (ℕ × List ℕ) → ℕ → List ℕ
row rows x = unwrap_or (lookup (nat_eq x) rows) []

-- the filters of the row at a place; none past the last
abbrev pub row_in : List (ℕ × List ℕ) → ℕ → List ℕ
row_in rows place = option_map_or (λ entry. entry.1) (slice_get rows place) []

-- whether a pair is marked
abbrev pub is_marked : List (ℕ × List ℕ) → ℕ → ℕ → Bool
is_marked rows f x = is_in (row rows x) f

-- the pair of f and x is in the set exactly where the answer is yes, and each other pair is as before
abbrev pub Sets : List (ℕ × List ℕ) → List (ℕ × List ℕ) → ℕ → ℕ → Bool → Type 0
Sets old new f x answer = (g y : ℕ) → is_marked new g y ≡ cond (g == f && y == x) answer (is_marked old g y)

-- each pair is as before
abbrev pub IsSame : List (ℕ × List ℕ) → List (ℕ × List ℕ) → Type 0
IsSame old new = (g y : ℕ) → is_marked new g y ≡ is_marked old g y
