-- Classes of bytes.
use Rattle.std.specs.Prelude.{ℕ, Bool}
use Rattle.std.specs.Char.{is_ascii_digit, is_ascii_hexdigit, is_ascii_alphabetic}
use Rattle.cos_source.specs.Spaces.{is_space}
use Rattle.selector_spelling.specs.Bytes.{is_pseudo_byte}
use Rattle.selector_lexer.specs.declared.fronts.Class.{Class}
use Rattle.selector_lexer.specs.declared.fronts.Class.TheVariants.{Pseudo, Digit, Letter, Hex, Space}

-- the test of a class
abbrev pub passes : Class → ℕ → Bool
passes Pseudo = is_pseudo_byte
passes Digit = is_ascii_digit
passes Letter = is_ascii_alphabetic
passes Hex = is_ascii_hexdigit
passes Space = is_space
