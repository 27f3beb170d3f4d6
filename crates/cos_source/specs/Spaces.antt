-- White space within a line: space, tab, form feed and carriage return.
use Rattle.std.specs.Prelude.{ℕ, ◌-◌, ◌==◌, ◌||◌, Bool, List, [], ◌∷◌, length, if◌then◌else◌}

abbrev pub is_space : ℕ → Bool
is_space b = b == 32 || b == 9 || b == 12 || b == 13

abbrev pub without_first_spaces : List ℕ → List ℕ
without_first_spaces [] = []
without_first_spaces (b ∷ bytes) = if is_space b then without_first_spaces bytes else b ∷ bytes

-- a byte before a text; a space before nothing is nothing
abbrev pub before_text : ℕ → List ℕ → List ℕ
before_text b [] = if is_space b then [] else b ∷ []
before_text b (c ∷ text) = b ∷ c ∷ text

abbrev pub without_last_spaces : List ℕ → List ℕ
without_last_spaces [] = []
without_last_spaces (b ∷ bytes) = before_text b (without_last_spaces bytes)

-- a text without the white space at both of its ends
abbrev pub trimmed : List ℕ → List ℕ
trimmed bytes = without_last_spaces (without_first_spaces bytes)

-- how many bytes of white space a text begins with
abbrev pub space_count : List ℕ → ℕ
space_count text = length text - length (without_first_spaces text)

-- what stands before the first white space, or all where there is none
abbrev pub until_space : List ℕ → List ℕ
until_space [] = []
until_space (b ∷ bytes) = if is_space b then [] else b ∷ until_space bytes
