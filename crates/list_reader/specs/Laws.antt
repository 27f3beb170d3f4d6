-- A malformed line changes no entry and no notice of another line.
use Rattle.std.specs.Prelude.{◌≡◌, ◌⊎◌, ℕ, List, [], ◌∷◌, ◌++◌}
use Rattle.cos_patterns.specs.declared.written.Asked.{Asked}
use Rattle.cos_patterns.specs.declared.written.Written.{Written}
use Rattle.list_entries.specs.declared.notice.Notice.{Notice}
use Rattle.list_lines.specs.Lines.{line_of}
use Rattle.list_lines.specs.Parts.{plain}
use Rattle.list_reader.specs.declared.entries.Given.TheVariants.{Said}
use Rattle.list_reader.specs.Entries.{entries_in, live_line, notice_of, notices_in, sign_of}
use Rattle.selector_spelling.specs.declared.finding.Finding.{Finding}

-- a line that is no directive is noted for this finding, where it is live
abbrev pub IsNoted : List (List ℕ) → List Asked → List Written → ℕ → ℕ → List ℕ → Finding → Type 0
IsNoted names large unread list number line finding =
    (sign_of names (line_of line) ≡ plain) × (live_line large unread list number (line_of line) ≡ Said finding)

-- with an empty line in its place the list gives the same but for that one notice
abbrev pub LeavesOthers : List (List ℕ) → List Asked → List Written → ℕ → ℕ → List ℕ → Finding → List (ℕ × List ℕ) → List (ℕ × List ℕ) → Type 0
LeavesOthers names large unread list number line finding front back =
    let noted = front ++ (number, line) ∷ back in
    let empty = front ++ (number, []) ∷ back in
    (entries_in names large unread list noted ≡ entries_in names large unread list empty)
    × ((a : List Notice) × (b : List Notice) × (notices_in names large unread list empty ≡ a ++ b)
    × ((notices_in names large unread list noted ≡ a ++ b) ⊎ (notices_in names large unread list noted ≡ a ++ notice_of number finding ∷ b)))

-- and so for every list, whatever stands before and behind the line
abbrev pub NotedAlone : Type 0
NotedAlone =
    (names : List (List ℕ)) (large : List Asked) (unread : List Written) (list number : ℕ) (line : List ℕ) (finding : Finding)
    (front back : List (ℕ × List ℕ)) →
    IsNoted names large unread list number line finding → LeavesOthers names large unread list number line finding front back
