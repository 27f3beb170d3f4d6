-- What is known of the steps at the front of chains.
use Rattle.std.specs.Prelude.{◌≡◌, ℕ, Bool, ◌&&◌, ◌==◌, cond, List, Option, Some, None}
use Rattle.std.specs.Map.{lookup}
use Rattle.remembered.specs.declared.members.Front.{Front}

-- whether two fronts are one
abbrev pub same_front : Front → Front → Bool
same_front a b = (a.filter == b.filter) && ((a.chain == b.chain) && ((a.steps == b.steps) && (a.parent == b.parent)))

-- the answer that is remembered for a front, if one is
abbrev pub known : List (Front × Bool) → Front → Option Bool
known members front = lookup (same_front front) members

-- nothing else is known than before but the answer for one front
abbrev pub Knows : List (Front × Bool) → List (Front × Bool) → Front → Bool → Type 0
Knows old new front answer = (other : Front) → known new other ≡ cond (same_front front other) (Some answer) (known old other)
