-- Pieces of a pattern, without the runs between them, at places of an address.
use Rattle.std.specs.Prelude.{ℕ, ◌==◌, ◌+◌, Bool, List, [], ◌∷◌, Option, Some, None, option_map, option_and_then, if◌then◌else◌}
use Rattle.std.specs.Borrow.{Bor}
use Rattle.std.specs.Char.{to_ascii_lowercase}
use Rattle.std.specs.Option.{option_or}
use Rattle.address_patterns.specs.Patterns.{is_border, may_end}

-- one byte of a pattern, other than `*`, at the front of an address: what is left of that, if it fits
abbrev pub step : ℕ → List ℕ → Option (List ℕ)
step item [] = if item == 94 then Some [] else None
step item (b ∷ rest) = if (if item == 94 then is_border b else to_ascii_lowercase b == item) then Some rest else None

-- what is left of the pattern, from its first run on, and of the address, where all before it fits the address's front
abbrev pub piece_of : Bool → List ℕ → List ℕ → Option (List ℕ × List ℕ)
piece_of at_end [] address = if may_end at_end address then Some ([], address) else None
piece_of at_end (item ∷ pattern) address =
    if item == 42 then Some (item ∷ pattern, address) else option_and_then (piece_of at_end pattern) (step item address)

-- the same at the first of these rests of an address where it fits
abbrev pub first_of : Bool → List ℕ → List (List ℕ) → Option (List ℕ × List ℕ)
first_of at_end pattern [] = None
first_of at_end pattern (rest ∷ rests) = option_or (piece_of at_end pattern rest) (first_of at_end pattern rests)

-- the rests of a text, longest first
abbrev pub tails : List ℕ → List (List ℕ)
tails [] = [] ∷ []
tails (b ∷ text) = (b ∷ text) ∷ tails text

-- those that begin at a place that passes, where the longest one begins at `place`
abbrev pub starts_by : (ℕ → Bool) → ℕ → List ℕ → List (List ℕ)
starts_by passes place [] = if passes place then [] ∷ [] else []
starts_by passes place (b ∷ text) =
    if passes place then (b ∷ text) ∷ starts_by passes (place + 1) text else starts_by passes (place + 1) text

abbrev pub left_of : Option (Bor (List ℕ) × Bor (List ℕ)) → Option (List ℕ × List ℕ)
left_of found = option_map (λ left. (left.0.now, left.1.now)) found
