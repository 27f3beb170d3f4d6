-- The byte order mark that a file in UTF-8 may begin with (Unicode, 23.8 "Byte Order Mark").
use Rattle.std.specs.Prelude.{ℕ, List, [], ◌∷◌, drop, if◌then◌else◌}
use Rattle.std.specs.Str.{bytes_eq}
use Rattle.std.specs.Prelude.{take}

abbrev pub byte_order_mark : List ℕ
byte_order_mark = 239 ∷ 187 ∷ 191 ∷ []

-- how many bytes the mark at the start takes
abbrev pub mark_length : List ℕ → ℕ
mark_length bytes = if bytes_eq (take 3 bytes) byte_order_mark then 3 else 0

-- the bytes without a mark at their start
abbrev pub without_mark : List ℕ → List ℕ
without_mark bytes = drop (mark_length bytes) bytes
