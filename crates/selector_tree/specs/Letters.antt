-- How names, strings and arguments are spelled in the canonical text (this project's profile). Texts are bytes, and those of
-- characters past ASCII stand for themselves.
use Rattle.std.specs.Prelude.{ℕ, ◌/◌, ◌%◌, nat_lt, nat_le, Bool, true, false, not, ◌==◌, ◌&&◌, ◌||◌, List, [], ◌∷◌, ◌++◌, codes, if◌then◌else◌}
use Rattle.std.specs.List.{flat_map}
use Rattle.std.specs.Char.{digit_char}
use Rattle.selector_tree.specs.declared.letters.Spelling.{Spelling}
use Rattle.selector_tree.specs.declared.letters.Spelling.TheVariants.{Name, Quoted, Literal}

abbrev pub is_within : ℕ → ℕ → ℕ → Bool
is_within low high b = nat_le low b && nat_le b high

abbrev pub is_digit : ℕ → Bool
is_digit b = is_within 48 57 b

-- letters, digits, `-`, `_` and what is past ASCII
abbrev pub is_name_byte : ℕ → Bool
is_name_byte b = is_within 97 122 b || is_within 65 90 b || is_digit b || (b == 45) || (b == 95) || nat_le 128 b

-- U+0001 to U+001F and U+007F
abbrev pub is_control : ℕ → Bool
is_control b = is_within 1 31 b || (b == 127)

-- a number below 256 in lower case hexadecimal digits, without a leading zero
abbrev pub hexadecimal : ℕ → List ℕ
hexadecimal b = if nat_lt b 16 then digit_char b ∷ [] else digit_char (b / 16) ∷ digit_char (b % 16) ∷ []

-- an ASCII character by its number: `\`, its digits, and a space
abbrev pub numbered : ℕ → List ℕ
numbered b = codes "\\" ++ hexadecimal b ++ codes " "

-- which bytes go by their number
abbrev pub is_numbered : Spelling → ℕ → Bool
is_numbered Name b = is_control b
is_numbered Quoted b = is_control b
is_numbered Literal b = false

-- which bytes have a `\` before them: in a name what is no part of it, in a string `"` and `\`, in a literal `\ / " ( )`
abbrev pub is_marked : Spelling → ℕ → Bool
is_marked Name b = not (is_name_byte b)
is_marked Quoted b = (b == 34) || (b == 92)
is_marked Literal b = (b == 92) || (b == 47) || (b == 34) || (b == 40) || (b == 41)

abbrev pub letter : Spelling → ℕ → List ℕ
letter spelling b =
    if is_numbered spelling b then numbered b
    else if is_marked spelling b then 92 ∷ b ∷ []
    else b ∷ []

abbrev pub letters : Spelling → List ℕ → List ℕ
letters spelling text = flat_map (letter spelling) text

-- a name, or the part of it behind a first `-`: a digit there goes by its number
abbrev pub begun : List ℕ → List ℕ
begun [] = []
begun (b ∷ text) = (if is_digit b then numbered b else letter Name b) ++ letters Name text

-- what stands behind the `-` that a name begins with; `-` alone is no name, so it has a `\` before it
abbrev pub behind_dash : List ℕ → List ℕ
behind_dash [] = codes "\\-"
behind_dash (b ∷ text) = codes "-" ++ begun (b ∷ text)

abbrev pub name_text : List ℕ → List ℕ
name_text [] = []
name_text (b ∷ text) = if b == 45 then behind_dash text else begun (b ∷ text)

-- a value of an attribute
abbrev pub string_text : List ℕ → List ℕ
string_text text = codes "\"" ++ letters Quoted text ++ codes "\""

-- an argument without pattern form
abbrev pub literal_text : List ℕ → List ℕ
literal_text text = codes "\"" ++ letters Literal text ++ codes "\""

-- The body of a pattern: each `/` has a `\` before it, unless it is the second of a pair that begins with `\`. The Bool says
-- that such a pair has begun.
abbrev pub body_text : Bool → List ℕ → List ℕ
body_text paired [] = []
body_text true (b ∷ text) = b ∷ body_text false text
body_text false (b ∷ text) = (if b == 47 then 92 ∷ b ∷ [] else b ∷ []) ++ body_text (b == 92) text

-- the flags in their order: bit 0 is `i`, bit 1 is `m`, bit 2 is `s`
abbrev pub flags_text : ℕ → List ℕ
flags_text flags =
    (if flags % 2 == 1 then codes "i" else []) ++ (if flags / 2 % 2 == 1 then codes "m" else []) ++ (if flags / 4 % 2 == 1 then codes "s" else [])
