-- What a table of patterns shows, and when it agrees with a maker.
use Rattle.std.specs.Prelude.{ℕ, ◌≡◌, Bool, false, ◌||◌, List, [], ◌∷◌, ◌++◌, if◌then◌else◌, IsTrue, slice_get, option_map, unwrap_or}
use Rattle.cos_patterns.specs.declared.written.Asked.{Asked}
use Rattle.cos_patterns.specs.declared.written.Asked.TheVariants.{Pattern, Address}
use Rattle.cos_patterns.specs.declared.written.Written.{Written}
use Rattle.cos_patterns.specs.Found.{pattern_found}
use Rattle.cos_patterns.specs.Written.{is_in}

-- the patterns that a table holds, by number, and those that it notes as refused
pub record Noted : Type 0 where
  pub patterns : List Written
  pub large : List Written
  pub unread : List Written

-- the patterns among what a maker refused for size; addresses don't count
abbrev pub patterns_in : List Asked → List Written
patterns_in [] = []
patterns_in (Pattern pattern ∷ rest) = pattern ∷ patterns_in rest
patterns_in (Address text ∷ rest) = patterns_in rest

-- the table notes as refused just the patterns that the maker refused, in the same way
pub record Agrees (table : Noted) (refused_large : List Asked) (refused_unread : List Written) : Type 0 where
  pub large : (pattern : Written) → is_in pattern table.large ≡ is_in pattern (patterns_in refused_large)
  pub unread : (pattern : Written) → is_in pattern table.unread ≡ is_in pattern refused_unread

-- the table has the answer for this pattern already
abbrev pub is_noted : Written → Noted → Bool
is_noted pattern table = is_in pattern table.patterns || (is_in pattern table.large || is_in pattern table.unread)

-- what a table says of a pattern: it is refused for size, or unreadable, or the table holds it, or it isn't noted
pub data Said : Type 0 where
  too_large : Said
  unreadable : Said
  held : Said
  unknown : Said

abbrev pub said_by : Bool → Bool → Bool → Said
said_by is_large is_unread is_held =
    if is_large then too_large else if is_unread then unreadable else if is_held then held else unknown

abbrev pub said_of : Written → Noted → Said
said_of pattern table = said_by (is_in pattern table.large) (is_in pattern table.unread) (is_in pattern table.patterns)

-- a later table says of each pattern that an earlier one noted just what that said, and the numbers stay
pub record Extends (earlier later : Noted) : Type 0 where
  pub said : (pattern : Written) → IsTrue (is_noted pattern earlier) → said_of pattern later ≡ said_of pattern earlier
  pub more : List Written
  pub numbers : later.patterns ≡ earlier.patterns ++ more

-- the patterns by number, after this one was put: a new one stands behind the others
abbrev pub with_pattern : Written → List Written → List Written
with_pattern pattern patterns = if is_in pattern patterns then patterns else patterns ++ pattern ∷ []

-- the pattern of this number is found in the text; a number that wasn't given finds nothing
abbrev pub found_at : List Written → ℕ → List ℕ → Bool
found_at patterns number text =
    unwrap_or (option_map (λ pattern. pattern_found pattern.body pattern.flags text) (slice_get patterns number)) false
