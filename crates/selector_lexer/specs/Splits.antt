-- Where a text is cut.
use Rattle.std.specs.Prelude.{◌≡◌, ℕ, ◌+◌, ◌<◌, ◌≤◌, Bool, true, ◌&&◌, List, [], ◌∷◌, ◌++◌, length, take, drop, slice_index, Option, Some, None, IfSome, if◌then◌else◌}
use Rattle.cos_source.specs.Spaces.{is_space}
use Rattle.selector_spelling.specs.Bytes.{Bytes}
use Rattle.selector_spelling.specs.Scan.{Scan, bare, is_bare, standing, step, within, is_closed}
use Rattle.selector_spelling.specs.Cuts.{Part, parts_from, is_comma, is_sign}
use Rattle.selector_spelling.specs.declared.open.Open.{Open}
use Rattle.selector_lexer.specs.declared.cuts.Behind.{Behind}
use Rattle.selector_lexer.specs.declared.cuts.First.{First}
use Rattle.selector_lexer.specs.declared.cuts.Cut.{Cut}
use Rattle.selector_lexer.specs.declared.cuts.Cut.TheVariants.{Comma, Sign, Space}

-- the bytes at which a text is cut
abbrev pub cuts : Cut → ℕ → Bool
cuts Comma = is_comma
cuts Sign = is_sign
cuts Space = is_space

-- what stands before the first bare byte that passes
abbrev pub first_part : (ℕ → Bool) → Scan → Bytes → Bytes
first_part p s [] = []
first_part p s (b ∷ text) =
    let more = first_part p (step s b text) text in
    if is_bare s && p b then [] else b ∷ more

-- that front of a text ends at a place
pub record EndsPart (cut : Cut) (text : Bytes) (n : ℕ) : Type 0 where
  pub most : n ≤ length text
  pub front : first_part (cuts cut) bare text ≡ take n text
  pub passes : n < length text → cuts cut (slice_index text n) ≡ true

-- an argument ends at a place, and so does what stands before its closing bracket
pub record EndsArgument (opened : Open) (text : Bytes) (n : ℕ) : Type 0 where
  pub most : n ≤ length text
  pub front : within (standing (opened ∷ [])) text ≡ take n text
  pub ascii : n < length text → slice_index text n < 128

-- ---- as slices

-- the parts of a text by its first, and by what stands behind the byte that it is cut at
abbrev pub parts_behind : (ℕ → Bool) → ℕ → Option Behind → List Part
parts_behind p at None = []
parts_behind p at (Some behind) = parts_from p bare behind.sign (at + 1) behind.text.now

abbrev pub bytes_behind : Option Behind → Bytes
bytes_behind None = []
bytes_behind (Some behind) = behind.sign ∷ behind.text.now

-- the text behind the byte that it is cut at
abbrev pub text_after : Option Behind → Bytes
text_after None = []
text_after (Some behind) = behind.text.now

-- how long what stands behind a part is, with the byte that it is cut at
abbrev pub length_behind : Option Behind → ℕ
length_behind None = 0
length_behind (Some behind) = 1 + length behind.text.now

-- the first part of a text, wherever the text stands
pub record IsFirst (cut : Cut) (text : Bytes) (first : First) : Type 0 where
  pub whole : text ≡ first.text.now ++ bytes_behind first.behind
  pub lengths : length first.text.now + length_behind first.behind ≡ length text
  pub passes : IfSome first.behind (λ behind. cuts cut behind.sign ≡ true)
  pub parts : (sign at : ℕ) → parts_from (cuts cut) bare sign at text ≡ record { sign = sign; at = at; text = first.text.now } ∷ parts_behind (cuts cut) (at + length first.text.now) first.behind

-- what stands in a bracket, and what stands behind the closing one
pub record IsArgument (opened : Open) (text inside rest : Bytes) : Type 0 where
  pub closed : is_closed (standing (opened ∷ [])) text ≡ true
  pub is : inside ≡ within (standing (opened ∷ [])) text
  pub rest_is : rest ≡ drop (length inside + 1) text
  pub lengths : length inside + length rest ≤ length text
