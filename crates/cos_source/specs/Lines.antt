-- The lines of a source. Each ends at LF, and one carriage return directly before the LF is no part of the line; what stands
-- behind the last LF is a line where it isn't empty. Lines are numbered from 1.
use Rattle.std.specs.Prelude.{ℕ, ◌+◌, ◌==◌, ◌&&◌, Bool, false, List, [], ◌∷◌, if◌then◌else◌}

abbrev pub is_lf : ℕ → Bool
is_lf b = b == 10

abbrev pub begins_with_lf : List ℕ → Bool
begins_with_lf [] = false
begins_with_lf (b ∷ bytes) = is_lf b

-- one more byte at the front of the first line
abbrev pub onto_first_line : ℕ → List (List ℕ) → List (List ℕ)
onto_first_line b [] = (b ∷ []) ∷ []
onto_first_line b (line ∷ lines) = (b ∷ line) ∷ lines

abbrev pub lines_of : List ℕ → List (List ℕ)
lines_of [] = []
lines_of (b ∷ bytes) =
    if is_lf b then [] ∷ lines_of bytes else
    (if b == 13 && begins_with_lf bytes then lines_of bytes else onto_first_line b (lines_of bytes))

-- lines with their numbers, of which the first has this one
abbrev pub numbered : ℕ → List (List ℕ) → List (ℕ × List ℕ)
numbered n [] = []
numbered n (line ∷ lines) = (n, line) ∷ numbered (n + 1) lines

-- what stands before an LF, without one carriage return at its end
abbrev pub without_cr : List ℕ → List ℕ
without_cr [] = []
without_cr (b ∷ []) = if b == 13 then [] else b ∷ []
without_cr (b ∷ c ∷ bytes) = b ∷ without_cr (c ∷ bytes)
