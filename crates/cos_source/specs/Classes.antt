-- Classes of ASCII bytes, and the front of a text whose bytes are of a class.
use Rattle.std.specs.Prelude.{ℕ, ◌==◌, ◌||◌, Bool, List, [], ◌∷◌, if◌then◌else◌}
use Rattle.std.specs.Char.{is_ascii_digit, is_ascii_hexdigit, is_ascii_alphabetic, is_ascii_alphanumeric}
use Rattle.cos_source.specs.Spaces.{is_space}
use Rattle.cos_source.specs.declared.classes.Class.{Class}
use Rattle.cos_source.specs.declared.classes.Class.TheVariants.{Digit, HexDigit, Letter, Name, Pseudo, Space}

-- the bytes of a class
abbrev pub is_in : Class → ℕ → Bool
is_in Digit = is_ascii_digit
is_in HexDigit = is_ascii_hexdigit
is_in Letter = is_ascii_alphabetic
is_in Name = λ b. is_ascii_alphanumeric b || b == 95
is_in Pseudo = λ b. is_ascii_alphanumeric b || b == 45
is_in Space = is_space

-- the longest front whose bytes pass
abbrev pub front : (ℕ → Bool) → List ℕ → List ℕ
front p [] = []
front p (b ∷ text) = if p b then b ∷ front p text else []

-- what stands behind that front
abbrev pub past_front : (ℕ → Bool) → List ℕ → List ℕ
past_front p [] = []
past_front p (b ∷ text) = if p b then past_front p text else b ∷ text
