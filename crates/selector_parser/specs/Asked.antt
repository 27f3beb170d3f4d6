-- Which patterns a maker is asked for as a text is read.
use Rattle.std.specs.Prelude.{◌≡◌, false, List, [], ◌∷◌, Result, Ok, Err, IsTrue, if◌then◌else◌}
use Rattle.std.specs.Bool.{MatchBool}
use Rattle.cos_patterns.specs.declared.written.Asked.{Asked}
use Rattle.cos_patterns.specs.declared.written.Asked.TheVariants.{Pattern}
use Rattle.cos_patterns.specs.declared.written.Written.{Written}
use Rattle.cos_patterns.specs.Tables.{Noted, is_noted, said_of, with_pattern}
use Rattle.cos_patterns.specs.Written.{written, is_in, is_same}
use Rattle.selector_spelling.specs.declared.finding.Finding.{Finding}
use Rattle.selector_spelling.specs.declared.reading.Ask.{Ask}
use Rattle.selector_spelling.specs.declared.reading.Chains.{Chains}
use Rattle.selector_spelling.specs.Bytes.{Bytes}
use Rattle.spelling_reader.specs.Spelled.{spelled}

-- what is asked for the chains of a text; nothing for a text with a finding
abbrev pub asks_of : Result Chains Finding → List Ask
asks_of (Ok l) = l.notes.asks
asks_of (Err finding) = []

-- the patterns of a text, in text order; none where the text has a finding before them
abbrev pub patterns_of : Bytes → List Ask
patterns_of text = asks_of (spelled text)

-- `asks` is what one call does to a maker
module _ {Maker : Type 0} (asks : Maker → Asked → Maker → Type 0) where
  -- A pattern is put: one that the table notes changes nothing, and for another the maker is asked once. The table holds it
  -- then behind the others, or notes nothing but its refusal.
  pub record Puts (pattern : Written) (table : Noted) (maker : Maker) (after : Noted) (now : Maker) : Type 0 where
    pub noted : IsTrue (is_noted pattern table) → (after ≡ table) × (now ≡ maker)
    pub new : is_noted pattern table ≡ false → asks maker (Pattern pattern) now
    pub patterns : after.patterns ≡ (if is_in pattern after.patterns then with_pattern pattern table.patterns else table.patterns)
    pub others : (other : Written) → is_same pattern other ≡ false → said_of other after ≡ said_of other table

  -- Patterns are put in their order, up to the first that is refused, which is the first that the table doesn't hold then.
  abbrev pub PutsEach : List Ask → Noted → Maker → Noted → Maker → Type 0
  PutsEach [] table maker after now = (after ≡ table) × (now ≡ maker)
  PutsEach (ask ∷ asked) table maker after now =
      let pattern = written ask.body ask.flags in
      (next : Noted) × (between : Maker) × Puts pattern table maker next between
      × MatchBool (is_in pattern next.patterns) (PutsEach asked next between after now) ((after ≡ next) × (now ≡ between))
