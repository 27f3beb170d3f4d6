-- What an index of patterns notes, and when it fits a table.
use Rattle.std.specs.Prelude.{ℕ, ◌≡◌, ◌<◌, false, true, List, Option, Some, None, IsTrue, slice_index_or}
use Rattle.std.specs.BTreeMap.{get_by_text}
use Rattle.cos_patterns.specs.declared.notes.Note.{Note}
use Rattle.cos_patterns.specs.declared.notes.Note.TheVariants.{Nothing, Held, Large, Unread}
use Rattle.cos_patterns.specs.declared.notes.Notes.{Notes}
use Rattle.cos_patterns.specs.declared.written.Written.{Written}
use Rattle.cos_patterns.specs.Found.{is_read}
use Rattle.cos_patterns.specs.Tables.{Noted, is_noted}
use Rattle.cos_patterns.specs.Written.{is_in, place_of}

-- the notes of a text by flags, if the index has any
abbrev pub notes_of : Notes → List ℕ → Option (List Note)
notes_of notes body = get_by_text notes.by_text body

-- the note for these flags; a text without notes has nothing noted
abbrev pub note_among : Option (List Note) → ℕ → Note
note_among None flags = Nothing
note_among (Some notes) flags = slice_index_or notes flags Nothing

-- what the index notes of a pattern
abbrev pub noted_in : Notes → Written → Note
noted_in notes pattern = note_among (notes_of notes pattern.body) pattern.flags

-- what a note says of a pattern of a table: it isn't noted; or it has this number, and was read; or it was refused in one
-- of the two ways, and isn't held
abbrev pub Says : Note → Written → Noted → Type 0
Says Nothing pattern table = is_noted pattern table ≡ false
Says (Held number) pattern table =
    (place_of pattern table.patterns ≡ Some number) × (is_in pattern table.large ≡ false) × (is_in pattern table.unread ≡ false)
    × IsTrue (is_read pattern.body pattern.flags)
Says Large pattern table =
    (is_in pattern table.large ≡ true) × (is_in pattern table.unread ≡ false) × (is_in pattern table.patterns ≡ false)
Says Unread pattern table =
    (is_in pattern table.large ≡ false) × (is_in pattern table.unread ≡ true) × (is_in pattern table.patterns ≡ false)

-- what the index notes is so of each pattern
abbrev pub IsIndexOf : Notes → Noted → Type 0
IsIndexOf notes table = (pattern : Written) → pattern.flags < 8 → Says (noted_in notes pattern) pattern table
