-- The fields of a line, from left to right, each behind one space. What is left of a line is `Some` text behind a space, or
-- `None` where the line has ended.
use Rattle.std.specs.Prelude.{ℕ, ◌==◌, ◌&&◌, ◌||◌, Bool, false, not, List, [], ◌∷◌, length, Option, Some, None, Result, Ok, Err, unwrap_or, if◌then◌else◌}
use Rattle.std.specs.List.{list_all}
use Rattle.std.specs.Str.{str_to_ascii_lowercase}
use Rattle.cos_source.specs.Numbers.{plain_number}
use Rattle.cos_source.specs.Parts.{before, behind}
use Rattle.cos_source.specs.Spaces.{is_space}
use Rattle.mutation_script.specs.declared.mutation.BadLine.{BadLine}
use Rattle.mutation_script.specs.declared.mutation.BadLine.TheVariants.{MissingField, BadNumber, BadName, BadPath, ExtraField}

-- the first field of a text, and what is left behind it
abbrev pub field : List ℕ → List ℕ
field = before 32

abbrev pub left : List ℕ → Option (List ℕ)
left = behind 32

-- the number that a field writes: `0`, or digits without a leading zero, up to 4,294,967,295
abbrev pub number : List ℕ → Option ℕ
number = plain_number 4294967295

-- a byte of the name of an attribute: no white space, and none of `>`, `<`, `/`, `=`, `"` and `'`
abbrev pub is_name_byte : ℕ → Bool
is_name_byte b = not (is_space b || b == 62 || b == 60 || b == 47 || b == 61 || b == 34 || b == 39)

-- the name of an attribute isn't empty
abbrev pub is_name : List ℕ → Bool
is_name text = not (length text == 0) && list_all is_name_byte text

-- the name that a text writes, in ASCII lower case
abbrev pub name : List ℕ → Option (List ℕ)
name text = if is_name text then Some (str_to_ascii_lowercase text) else None

-- the path of an address begins with `/`
abbrev pub is_path : List ℕ → Bool
is_path [] = false
is_path (b ∷ text) = b == 47

-- a value that was read, if there is one, with what is left of the line; else the line is bad for this cause
abbrev pub or_bad : {A : Type 0} → BadLine → Option A → Option (List ℕ) → Result (A × Option (List ℕ)) BadLine
or_bad cause None rest = Err cause
or_bad cause (Some value) rest = Ok (value, rest)

-- the next field as a number
abbrev pub number_field : Option (List ℕ) → Result (ℕ × Option (List ℕ)) BadLine
number_field None = Err MissingField
number_field (Some text) = or_bad BadNumber (number (field text)) (left text)

-- the next field as the name of an attribute
abbrev pub name_field : Option (List ℕ) → Result (List ℕ × Option (List ℕ)) BadLine
name_field None = Err MissingField
name_field (Some text) = or_bad BadName (name (field text)) (left text)

-- a last field that is all of what is left, spaces included, and empty where nothing is
abbrev pub rest_field : Option (List ℕ) → List ℕ
rest_field rest = unwrap_or rest []

-- a last field that is all of what is left, as a path
abbrev pub path_field : Option (List ℕ) → Result (List ℕ) BadLine
path_field None = Err MissingField
path_field (Some text) = if is_path text then Ok text else Err BadPath

-- a value where the line has ended
abbrev pub at_end : {A : Type 0} → A → Option (List ℕ) → Result A BadLine
at_end value None = Ok value
at_end value (Some text) = Err ExtraField
