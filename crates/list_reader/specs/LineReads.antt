-- What the reading of one line did: what it gave, and the parts behind it.
use Rattle.std.specs.Prelude.{◌≡◌, ℕ, List, [], ◌∷◌, ◌++◌, length}
use Rattle.cos_patterns.specs.Tables.{Noted}
use Rattle.list_entries.specs.declared.entry.Entry.{Entry}
use Rattle.list_entries.specs.declared.notice.Notice.{Notice}
use Rattle.list_lines.specs.declared.nesting.OpenIf.{OpenIf}
use Rattle.list_lines.specs.Lines.{line_of}
use Rattle.list_lines.specs.OpenIfs.{parts_of}
use Rattle.list_lines.specs.Parts.{Sign, parts_over}
use Rattle.list_reader.specs.declared.entries.Given.{Given}
use Rattle.list_reader.specs.Entries.{line_gives, sign_of, unnumbered_given, with_entry, with_notice, IsProperGiven}
use Rattle.list_reader.specs.Unclosed.{woven, AreNoticed}
use Rattle.selector_parser.specs.Lasting.{Lasts}

-- `ifs` are the parts before the line and `after` those behind it; `noticed` notices stood before it
pub record LineRead (names : List (List ℕ)) (list number noticed : ℕ) (line : List ℕ) (ifs after : List OpenIf) (table : Noted) (given : Given) : Type 0 where
  pub parts : (before : List Sign) → parts_of ifs ≡ parts_over before → parts_of after ≡ parts_over (before ++ sign_of names (line_of line) ∷ [])
  pub opened : AreNoticed noticed ifs → AreNoticed noticed after
  pub entries : Lasts table (λ large unread. (behind : List Sign) (more : List Entry) →
      with_entry (unnumbered_given given) more ≡ with_entry (line_gives names large unread list (parts_of ifs) behind number (line_of line)) more)
  pub notices : Lasts table (λ large unread. (behind : List Sign) (notices more : List Notice) → length notices ≡ noticed → AreNoticed noticed ifs →
      woven 0 (notices ++ with_notice number given []) after behind ++ more
      ≡ woven 0 notices ifs (sign_of names (line_of line) ∷ behind) ++ with_notice number (line_gives names large unread list (parts_of ifs) behind number (line_of line)) more)
  pub proper : IsProperGiven table.patterns given
