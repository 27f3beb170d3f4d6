-- Words on bytes that the spelling of selectors is said in. A byte from 128 on is a part of a character past ASCII.
use Rattle.std.specs.Prelude.{ℕ, ◌+◌, ◌*◌, Bool, true, false, not, ◌==◌, ◌||◌, List, [], ◌∷◌, if◌then◌else◌}
use Rattle.std.specs.Char.{digit_value, is_ascii_digit, is_ascii_alphanumeric}
use Rattle.std.specs.List.{list_any}
use Rattle.std.specs.Str.{bytes_eq}
use Rattle.cos_source.specs.Spaces.{without_first_spaces}

abbrev pub Bytes : Type 0
Bytes = List ℕ

-- the signs that the grammar names
abbrev pub double_quote : ℕ
double_quote = 34

abbrev pub hash : ℕ
hash = 35

abbrev pub single_quote : ℕ
single_quote = 39

abbrev pub round_open : ℕ
round_open = 40

abbrev pub round_close : ℕ
round_close = 41

abbrev pub star : ℕ
star = 42

abbrev pub plus : ℕ
plus = 43

abbrev pub comma : ℕ
comma = 44

abbrev pub minus : ℕ
minus = 45

abbrev pub dot : ℕ
dot = 46

abbrev pub slash : ℕ
slash = 47

abbrev pub colon : ℕ
colon = 58

abbrev pub equals : ℕ
equals = 61

abbrev pub greater : ℕ
greater = 62

abbrev pub square_open : ℕ
square_open = 91

abbrev pub backslash : ℕ
backslash = 92

abbrev pub square_close : ℕ
square_close = 93

abbrev pub tilde : ℕ
tilde = 126

-- another byte
abbrev pub differs : ℕ → ℕ → Bool
differs c b = not (b == c)

abbrev pub is_quote : ℕ → Bool
is_quote b = b == double_quote || b == single_quote

-- a byte of the name of a pseudo-class
abbrev pub is_pseudo_byte : ℕ → Bool
is_pseudo_byte b = is_ascii_alphanumeric b || b == minus

abbrev pub is_empty : {A : Type 0} → List A → Bool
is_empty [] = true
is_empty (x ∷ xs) = false

-- nothing but white space
abbrev pub is_blank : Bytes → Bool
is_blank text = is_empty (without_first_spaces text)

-- the longest front whose bytes pass
abbrev pub front : (ℕ → Bool) → Bytes → Bytes
front p [] = []
front p (b ∷ text) = if p b then b ∷ front p text else []

-- what stands behind that front
abbrev pub behind : (ℕ → Bool) → Bytes → Bytes
behind p [] = []
behind p (b ∷ text) = if p b then behind p text else b ∷ text

abbrev pub begins_with : ℕ → Bytes → Bool
begins_with c [] = false
begins_with c (b ∷ text) = b == c

-- the name is one of the texts
abbrev pub is_one_of : Bytes → List Bytes → Bool
is_one_of name texts = list_any (bytes_eq name) texts

-- one digit or more, and nothing else
abbrev pub is_number : Bytes → Bool
is_number [] = false
is_number (b ∷ text) = is_empty (behind is_ascii_digit (b ∷ text))

-- the number that digits spell to a base, behind the number that those before them spell
abbrev pub number_from : ℕ → ℕ → Bytes → ℕ
number_from base n [] = n
number_from base n (b ∷ digits) = number_from base (base * n + digit_value b) digits

abbrev pub number : ℕ → Bytes → ℕ
number base = number_from base 0
