-- Parts of text arguments, by the places where they are cut.
use denote.Ref.{Bor}
use Rattle.std.specs.List.{slice_split}
use Rattle.std.specs.Prelude.{◌≡◌, ℕ, ◌+◌, ◌<◌, Bool, false, true, ◌==◌, [], ◌∷◌, take, drop, length, encode_utf8, List, Option, Some, None, slice_index, if◌then◌else◌}
use Rattle.selector_spelling.specs.Bytes.{Bytes, slash, backslash}
use Rattle.selector_spelling.specs.Arguments.{closing, up_to, is_slash, is_marked, is_comma}
use Rattle.spelling_reader.specs.declared.texts.Marks.{Marks}
use Rattle.spelling_reader.specs.declared.texts.Marks.TheVariants.{BeforeSlash, BeforeSigns}

-- before which bytes a `\` is dropped
abbrev pub marked : Marks → ℕ → Bool
marked BeforeSlash = is_slash
marked BeforeSigns = is_marked

-- the `/` that closes a pattern stands at a place, counted behind its first `/`
pub record ClosesAt (text : Bytes) (n : ℕ) : Type 0 where
  pub inside : n < length text
  pub slashed : closing false true text ≡ Some (record { body = take n text; flags = drop (n + 1) text })
  pub is : slice_index text n ≡ slash

-- a sign that is behind no odd run of `\` stands first at a place
pub record EndsAt (sign : ℕ) (text : Bytes) (n : ℕ) : Type 0 where
  pub inside : n < length text
  pub split : up_to sign false text ≡ Some (record { front = take (n + 1) text; rest = drop (n + 1) text })
  pub is : slice_index text n ≡ sign

-- what a character adds to a text whose `\` are dropped
abbrev pub pushed : (ℕ → Bool) → Bool → ℕ → Bytes
pushed p true c = if p c then encode_utf8 c else backslash ∷ encode_utf8 c
pushed p false c = if c == backslash then [] else encode_utf8 c

-- the parts of what stands behind a first comma
abbrev pub parts_behind : Option (Bor Bytes) → List Bytes
parts_behind None = []
parts_behind (Some rest) = slice_split is_comma rest.now
