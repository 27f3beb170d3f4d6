-- Words on bytes that the tokens of a page are said in.
use Rattle.std.specs.Prelude.{ℕ, suc, Bool, false, cond, ◌||◌, List, [], ◌∷◌, take, length}
use Rattle.std.specs.Str.{bytes_eq, str_to_ascii_lowercase}

-- the bytes begin with this text
abbrev pub begins : List ℕ → List ℕ → Bool
begins text bytes = bytes_eq (take (length text) bytes) text

-- the bytes begin with this text, the case of letters ignored
abbrev pub begins_like : List ℕ → List ℕ → Bool
begins_like text bytes = bytes_eq (str_to_ascii_lowercase (take (length text) bytes)) (str_to_ascii_lowercase text)

-- how many bytes stand before the first place from which on the rest passes the test; all where there is none
abbrev pub up_to : (List ℕ → Bool) → List ℕ → ℕ
up_to here [] = 0
up_to here (b ∷ bs) = cond (here (b ∷ bs)) 0 (suc (up_to here bs))

-- the text is one of the texts
abbrev pub is_among : List ℕ → List (List ℕ) → Bool
is_among text [] = false
is_among text (t ∷ ts) = bytes_eq text t || is_among text ts
