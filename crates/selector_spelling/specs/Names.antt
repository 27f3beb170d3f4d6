-- Names, strings and their escapes.
use Rattle.std.specs.Prelude.{ℕ, zero, suc, ◌+◌, ◌-◌, nat_le, nat_lt, Bool, false, not, ◌==◌, ◌&&◌, ◌||◌, [], ◌∷◌, ◌++◌, length, take, drop, encode_utf8, Option, Some, None, is_some, if◌then◌else◌}
use Rattle.std.specs.Char.{is_ascii_digit, is_ascii_hexdigit}
use Rattle.cos_source.specs.Spaces.{is_space}
use Rattle.selector_tree.specs.Letters.{is_name_byte}
use Rattle.selector_spelling.specs.Bytes.{Bytes, front, begins_with, number, minus, backslash}

-- what something at the front of a text stands for, and how many bytes it takes
pub record Letter : Type 0 where
  pub value : Bytes
  pub length : ℕ

-- the character of a number; U+FFFD for 0, for a surrogate and past U+10FFFF
abbrev pub character : ℕ → Bytes
character n = if n == 0 || (nat_le 0xD800 n && nat_le n 0xDFFF) || nat_lt 0x10FFFF n then encode_utf8 0xFFFD else encode_utf8 n

abbrev pub space_length : Bytes → ℕ
space_length [] = 0
space_length (b ∷ text) = if is_space b then 1 else 0

-- an escape by its digits, which takes one white space behind them
abbrev pub numbered : Bytes → Bytes → Letter
numbered digits rest = record { value = character (number 16 digits); length = length digits + space_length rest }

-- An escape, from behind its `\` on: up to six hexadecimal digits and one white space, or another character, of which the
-- first byte is enough here.
abbrev pub escape : Bytes → Option Letter
escape [] = None
escape (b ∷ text) =
    if is_ascii_hexdigit b then (let digits = front is_ascii_hexdigit (take 6 (b ∷ text)) in Some (numbered digits (drop (length digits) (b ∷ text))))
    else Some (record { value = b ∷ []; length = 1 })

-- An escape among bytes of which these stand for themselves. U+0000 is no part of a name, also behind `\`; in a string it is
-- a character as any other.
abbrev pub escaped : (ℕ → Bool) → Bytes → Option Letter
escaped plain text = if not (plain 0) && begins_with 0 text then None else escape text

-- how many bytes an escape takes behind its `\`
abbrev pub letter_length : Option Letter → ℕ
letter_length None = 0
letter_length (Some l) = l.length

abbrev pub behind_backslash : Option Letter → Option Letter
behind_backslash None = None
behind_backslash (Some l) = Some (record { value = l.value; length = l.length + 1 })

-- a byte that stands for itself, or an escape from its `\` on
abbrev pub letter : (ℕ → Bool) → ℕ → Bytes → Option Letter
letter plain b text =
    if plain b then Some (record { value = b ∷ []; length = 1 })
    else if b == backslash then behind_backslash (escaped plain text)
    else None

-- a value at the front of a text, and the text behind it
pub record Taken : Type 0 where
  pub value : Bytes
  pub rest : Bytes

abbrev pub onto : Bytes → Taken → Taken
onto value taken = record { value = value ++ taken.value; rest = taken.rest }

abbrev pub joined : Option Letter → Bytes → Taken → Taken
joined None text more = record { value = []; rest = text }
joined (Some l) text more = onto l.value more

-- The longest run of name bytes and escapes. The number says how many bytes of an escape are still to come.
abbrev pub run : ℕ → Bytes → Taken
run skip [] = record { value = []; rest = [] }
run (suc skip) (b ∷ text) = run skip text
run zero (b ∷ text) =
    let l = letter is_name_byte b text in
    joined l (b ∷ text) (run (letter_length l - 1) text)

-- a name byte but a digit, or an escape
abbrev pub begins_letter : ℕ → Bytes → Bool
begins_letter b text = not (is_ascii_digit b) && is_some (letter is_name_byte b text)

abbrev pub begins_behind_minus : Bytes → Bool
begins_behind_minus [] = false
begins_behind_minus (b ∷ text) = begins_letter b text

-- no name begins with a digit, nor with `-` and a digit, and `-` alone is none
abbrev pub begins_name : Bytes → Bool
begins_name [] = false
begins_name (b ∷ text) = if b == minus then begins_behind_minus text else begins_letter b text

-- the name at the front of a text, with what its escapes stand for
abbrev pub name : Bytes → Option Taken
name text = if begins_name text then Some (run zero text) else None

-- the text in a string, from behind its first quote on; the number is that of `run`
abbrev pub quoted : Option Letter → Option Taken → Option Taken
quoted None more = None
quoted (Some l) None = None
quoted (Some l) (Some more) = Some (onto l.value more)

abbrev pub is_plain : ℕ → Bool
is_plain b = not (b == backslash)

abbrev pub string : ℕ → ℕ → Bytes → Option Taken
string q skip [] = None
string q (suc skip) (b ∷ text) = string q skip text
string q zero (b ∷ text) =
    let l = letter is_plain b text in
    let more = string q (letter_length l - 1) text in
    if b == q then Some (record { value = []; rest = text }) else quoted l more
