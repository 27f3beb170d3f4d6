-- The signs between the hosts and the selector of a line (uBlock Origin wiki, "Static filter syntax").
use Rattle.std.specs.Prelude.{ℕ, ◌+◌, Bool, true, false, List, [], ◌∷◌, codes, length, take, Option, Some, None, if◌then◌else◌}
use Rattle.std.specs.Str.{bytes_eq}
use Rattle.list_lines.specs.declared.separator.Separator.{Separator}

abbrev pub begins_with : List ℕ → List ℕ → Bool
begins_with sign text = bytes_eq (take (length sign) text) sign

abbrev pub separator : ℕ → Bool → Bool → Separator
separator size exception foreign = record { size = size; exception = exception; foreign = foreign }

-- The separator that a text begins with, where what follows is of another engine. None of all separators begins another one.
abbrev pub foreign_separator : List ℕ → Option Separator
foreign_separator text =
    if begins_with (codes "#$#") text then Some (separator 3 false true)
    else if begins_with (codes "#@$#") text then Some (separator 4 true true)
    else if begins_with (codes "#%#") text then Some (separator 3 false true)
    else if begins_with (codes "#@%#") text then Some (separator 4 true true)
    else if begins_with (codes "#$?#") text then Some (separator 4 false true)
    else if begins_with (codes "#@$?#") text then Some (separator 5 true true)
    else None

abbrev pub separator_of : List ℕ → Option Separator
separator_of text =
    if begins_with (codes "##") text then Some (separator 2 false false)
    else if begins_with (codes "#@#") text then Some (separator 3 true false)
    else if begins_with (codes "#?#") text then Some (separator 3 false false)
    else if begins_with (codes "#@?#") text then Some (separator 4 true false)
    else foreign_separator text

-- a separator found at this place, or else what is found behind it
abbrev pub or_behind : ℕ → Option Separator → Option (ℕ × Separator) → Option (ℕ × Separator)
or_behind at (Some s) more = Some (at, s)
or_behind at None more = more

-- the first separator of a text that begins at the place `at`, with its place
abbrev pub first_separator : ℕ → List ℕ → Option (ℕ × Separator)
first_separator at [] = None
first_separator at (b ∷ text) = or_behind at (separator_of (b ∷ text)) (first_separator (at + 1) text)
