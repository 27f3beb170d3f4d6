-- The arguments of `:nth-child` and the like, and of the operators.
use Rattle.std.specs.Prelude.{ℕ, zero, suc, ℤ, pos, negsuc, ◌+◌, nat_le, Bool, true, false, not, ◌==◌, ◌&&◌, ◌||◌, List, [], ◌∷◌, ◌++◌, length, codes, Option, Some, None, option_and_then, if◌then◌else◌}
use Rattle.std.specs.Char.{is_ascii_digit, is_ascii_alphabetic, is_ascii_alphanumeric}
use Rattle.std.specs.List.{list_all, list_any, slice_split}
use Rattle.std.specs.Str.{bytes_eq, str_to_ascii_lowercase}
use Rattle.cos_source.specs.Spaces.{trimmed, without_first_spaces}
use Rattle.selector_tree.specs.declared.selector.Arg.{Arg}
use Rattle.selector_tree.specs.declared.selector.Arg.TheVariants.{Literal, Pattern}
use Rattle.selector_spelling.specs.Bytes.{Bytes, front, behind, differs, is_quote, is_empty, is_blank, is_number, number, comma, plus, minus, dot, slash, colon, equals, backslash, round_open, round_close}

infixl 10 ◌>>=◌
abbrev pub ◌>>=◌ : {A B : Type 0} → Option A → (A → Option B) → Option B
o >>= f = option_and_then f o

-- ---- an+b

pub record Nth : Type 0 where
  pub a : ℤ
  pub b : ℤ

abbrev pub negated : ℕ → ℤ
negated zero = pos 0
negated (suc n) = negsuc n

abbrev pub signed : Bool → ℕ → ℤ
signed negative n = if negative then negated n else pos n

abbrev pub is_plus_or_minus : ℕ → Bool
is_plus_or_minus b = b == plus || b == minus

abbrev pub begins_minus : Bytes → Bool
begins_minus [] = false
begins_minus (b ∷ text) = b == minus

abbrev pub begins_sign : Bytes → Bool
begins_sign [] = false
begins_sign (b ∷ text) = is_plus_or_minus b

-- without its first byte, if that is a sign
abbrev pub unsigned : Bytes → Bytes
unsigned [] = []
unsigned (b ∷ text) = if is_plus_or_minus b then text else b ∷ text

-- digits alone, up to 1,000,000
abbrev pub digits : Bytes → Option ℕ
digits text = if is_number text && nat_le (number 10 text) 1000000 then Some (number 10 text) else None

abbrev pub digits_or_one : Bytes → Option ℕ
digits_or_one text = if is_empty text then Some 1 else digits text

-- a sign and digits, with white space between
abbrev pub offset : Bytes → Option ℤ
offset text = do
  n ← digits (without_first_spaces (unsigned text))
  Some (signed (begins_minus text) n)

-- what stands behind the `n`: nothing, or a sign and digits with white space around the sign
abbrev pub behind_n : Bytes → Option ℤ
behind_n text =
    if is_empty text then Some (pos 0)
    else if begins_sign (without_first_spaces text) then offset (without_first_spaces text)
    else None

-- a sign and digits before the `n`, each if there, and what stands behind it
abbrev pub with_n : Bytes → Bytes → Option Nth
with_n text rest = do
  a ← digits_or_one (front is_ascii_digit (unsigned text))
  b ← behind_n rest
  Some (record { a = signed (begins_minus text) a; b = b })

-- by what stands behind the first digits
abbrev pub by_rest : Bytes → Bytes → Option Nth
by_rest text [] = do
  b ← digits (unsigned text)
  Some (record { a = pos 0; b = signed (begins_minus text) b })
by_rest text (c ∷ rest) = if c == 110 then with_n text rest else None

-- by the trimmed argument in lower case
abbrev pub nth_of : Bytes → Option Nth
nth_of text =
    if bytes_eq text (codes "odd") then Some (record { a = pos 2; b = pos 1 })
    else if bytes_eq text (codes "even") then Some (record { a = pos 2; b = pos 0 })
    else by_rest text (behind is_ascii_digit (unsigned text))

abbrev pub nth : Bytes → Option Nth
nth argument = nth_of (str_to_ascii_lowercase (trimmed argument))

-- ---- numbers

-- of `:min-text-length`: one to ten digits, below 2^32
abbrev pub text_units : Bytes → Option ℕ
text_units argument =
    if is_number argument && nat_le (length argument) 10 && nat_le (number 10 argument) 4294967295 then Some (number 10 argument) else None

-- of `:upward`: digits for 1 to 255
abbrev pub degree : Bytes → Option ℕ
degree text = if nat_le 1 (number 10 text) && nat_le (number 10 text) 255 then Some (number 10 text) else None

-- ---- text arguments

abbrev pub last_is : ℕ → Bytes → Bool
last_is q [] = false
last_is q (b ∷ []) = b == q
last_is q (b ∷ c ∷ text) = last_is q (c ∷ text)

abbrev pub without_last : Bytes → Bytes
without_last [] = []
without_last (b ∷ []) = []
without_last (b ∷ c ∷ text) = b ∷ without_last (c ∷ text)

-- without the quotes at its ends, where both are the same
abbrev pub unquoted : Bytes → Bytes
unquoted [] = []
unquoted (b ∷ text) = if is_quote b && last_is b text then without_last text else b ∷ text

abbrev pub holds_byte : ℕ → Bytes → Bool
holds_byte b text = list_any (λ c. c == b) text

-- letters among `i m s u`, each at most once
abbrev pub are_flags : Bytes → Bool
are_flags [] = true
are_flags (b ∷ text) = holds_byte b (codes "imsu") && not (holds_byte b text) && are_flags text

-- 1 for `i`, 2 for `m`, 4 for `s`; `u` has no effect
abbrev pub flags_of : Bytes → ℕ
flags_of text = (if holds_byte 105 text then 1 else 0) + (if holds_byte 109 text then 2 else 0) + (if holds_byte 115 text then 4 else 0)

-- an argument in pattern form
pub record Slashed : Type 0 where
  pub body : Bytes
  pub flags : Bytes

abbrev pub with_body : ℕ → Option Slashed → Option Slashed
with_body b None = None
with_body b (Some p) = Some (record { body = b ∷ p.body; flags = p.flags })

-- The `/` that closes a pattern, behind its first: not directly behind that, behind no odd run of `\`, and with nothing but
-- flags to the end, so that there is one at most. `odd` says that an odd run stands before the text, `first` that the first
-- `/` does.
abbrev pub closing : Bool → Bool → Bytes → Option Slashed
closing odd first [] = None
closing odd first (b ∷ text) =
    let later = closing (b == backslash && not odd) false text in
    if b == slash && not odd && not first && are_flags text then Some (record { body = []; flags = text }) else with_body b later

-- A `\` is dropped before a byte that passes, read in pairs from the left; `paired` says that a `\` that begins a pair stands
-- before the text.
abbrev pub unescaped : (ℕ → Bool) → Bool → Bytes → Bytes
unescaped p true [] = backslash ∷ []
unescaped p false [] = []
unescaped p true (b ∷ text) =
    let rest = unescaped p false text in
    if p b then b ∷ rest else backslash ∷ b ∷ rest
unescaped p false (b ∷ text) =
    let rest = unescaped p (b == backslash) text in
    if b == backslash then rest else b ∷ rest

abbrev pub is_slash : ℕ → Bool
is_slash b = b == slash

-- one of `( ) \ / " '`
abbrev pub is_marked : ℕ → Bool
is_marked b = b == round_open || b == round_close || b == backslash || b == slash || is_quote b

-- the number of a pattern is its table's affair, and 0 here
abbrev pub slashed_or : Option Slashed → Bytes → Arg
slashed_or (Some p) text = Pattern (unescaped is_slash false p.body) (flags_of p.flags) 0
slashed_or None text = Literal (unescaped is_marked false text)

abbrev pub pattern_form : Bytes → Option Slashed
pattern_form [] = None
pattern_form (b ∷ text) = if b == slash then closing false true text else None

abbrev pub text_argument : Bytes → Arg
text_argument argument =
    let text = unquoted (trimmed argument) in
    slashed_or (pattern_form text) text

-- no literal that is looked for is empty
abbrev pub sought : Arg → Option Arg
sought (Literal []) = None
sought (Literal (b ∷ text)) = Some (Literal (b ∷ text))
sought (Pattern body flags n) = Some (Pattern body flags n)

-- ---- names of attributes

-- the front of a text, and the text behind it
pub record Split : Type 0 where
  pub front : Bytes
  pub rest : Bytes

abbrev pub with_front : ℕ → Option Split → Option Split
with_front b None = None
with_front b (Some s) = Some (record { front = b ∷ s.front; rest = s.rest })

-- up to and with the next such sign that is behind no odd run of `\`
abbrev pub up_to : ℕ → Bool → Bytes → Option Split
up_to q odd [] = None
up_to q odd (b ∷ text) =
    let later = up_to q (b == backslash && not odd) text in
    if b == q && not odd then Some (record { front = b ∷ []; rest = text }) else with_front b later

-- with the letters that follow
abbrev pub with_letters : Split → Split
with_letters s = record { front = s.front ++ front is_ascii_alphabetic s.rest; rest = behind is_ascii_alphabetic s.rest }

-- the name part of a trimmed argument of `:matches-attr`: a string, what is between slashes with the letters behind it, or
-- all up to the first `=`
abbrev pub name_part : Bytes → Option Split
name_part [] = None
name_part (b ∷ text) =
    if is_quote b then with_front b (up_to b false text)
    else if b == slash then (do
      s ← with_front b (up_to slash false text)
      Some (with_letters s))
    else Some (record { front = front (differs equals) (b ∷ text); rest = behind (differs equals) (b ∷ text) })

-- what a name and a value are compared with
pub record Pair : Type 0 where
  pub name : Arg
  pub value : Option Arg

-- what stands behind the name part: nothing, or `=` and the value part
abbrev pub value_part : Bytes → Option (Option Arg)
value_part [] = Some None
value_part (b ∷ text) = if b == equals then Some (Some (text_argument text)) else None

-- a literal name is kept in lower case
abbrev pub lower_name : Arg → Arg
lower_name (Literal text) = Literal (str_to_ascii_lowercase text)
lower_name (Pattern body flags n) = Pattern body flags n

abbrev pub attribute_pair : Bytes → Option Pair
attribute_pair argument = do
  s ← name_part (trimmed argument)
  n ← sought (text_argument s.front)
  v ← value_part s.rest
  Some (record { name = lower_name n; value = v })

-- a byte of a name of `:watch-attr`
abbrev pub is_watched_byte : ℕ → Bool
is_watched_byte b = is_ascii_alphanumeric b || b == minus || b == 95 || b == colon || b == dot

abbrev pub watched_name : Bytes → Option Bytes
watched_name text = if not (is_empty text) && list_all is_watched_byte text then Some (str_to_ascii_lowercase text) else None

abbrev pub watched_names : List Bytes → Option (List Bytes)
watched_names [] = Some []
watched_names (text ∷ texts) = do
  first ← watched_name (trimmed text)
  others ← watched_names texts
  Some (first ∷ others)

abbrev pub is_comma : ℕ → Bool
is_comma b = b == comma

-- names between commas, or none where there is nothing but white space
abbrev pub watched : Bytes → Option (List Bytes)
watched argument = if is_blank argument then Some [] else watched_names (slice_split is_comma argument)
