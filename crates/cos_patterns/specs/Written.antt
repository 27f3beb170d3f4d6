-- Patterns as they are written, by their text and flags.
use Rattle.std.specs.Prelude.{ℕ, ◌+◌, ◌==◌, Bool, ◌&&◌, List, [], ◌∷◌, Option, Some, None, if◌then◌else◌, option_map}
use Rattle.std.specs.List.{list_any}
use Rattle.std.specs.Str.{bytes_eq}
use Rattle.cos_patterns.specs.declared.written.Written.{Written}

-- the pattern of this text and these flags
abbrev pub written : List ℕ → ℕ → Written
written body flags = record { body = body; flags = flags }

-- the same text and the same flags
abbrev pub is_same : Written → Written → Bool
is_same a b = bytes_eq a.body b.body && (a.flags == b.flags)

-- the pattern stands in the list
abbrev pub is_in : Written → List Written → Bool
is_in pattern list = list_any (λ other. is_same other pattern) list

-- the first place where the pattern stands in the list, from 0
abbrev pub place_of : Written → List Written → Option ℕ
place_of pattern [] = None
place_of pattern (first ∷ rest) = if is_same first pattern then Some 0 else option_map (λ place. place + 1) (place_of pattern rest)
