-- Words and lengths of texts, as lists of UTF-8 bytes.
use Rattle.std.specs.Prelude.{ℕ, ◌+◌, nat_lt, List, [], ◌∷◌, ◌++◌, if◌then◌else◌}
use Rattle.std.specs.Char.{is_ascii_whitespace}
use Rattle.std.specs.Str.{chars}

-- the piece before the others, if it isn't empty
abbrev pub kept : List ℕ → List (List ℕ) → List (List ℕ)
kept [] words = words
kept (c ∷ cs) words = (c ∷ cs) ∷ words

-- the words of a text behind the front of a word
abbrev pub words_from : List ℕ → List ℕ → List (List ℕ)
words_from front [] = kept front []
words_from front (c ∷ cs) = if is_ascii_whitespace c then kept front (words_from [] cs) else words_from (front ++ c ∷ []) cs

-- the text cut at space, tab, LF, FF and CR, without empty pieces (DOM, "ordered set parser")
abbrev pub words : List ℕ → List (List ℕ)
words = words_from []

-- how many UTF-16 units these characters take
abbrev pub units : List ℕ → ℕ
units [] = 0
units (c ∷ cs) = (if nat_lt c 65536 then 1 else 2) + units cs

-- the length of a text in UTF-16 units, as scripts count it
abbrev pub utf16_length : List ℕ → ℕ
utf16_length text = units (chars text)
