-- The notices so far, and those of the `if`s whose parts stay open behind some lines, in the order of lines.
use Rattle.std.specs.Prelude.{◌≤◌, ℕ, suc, Bool, false, List, [], ◌∷◌, ◌++◌, take, drop, Option, Some, None, unwrap_or}
use Rattle.list_entries.specs.declared.notice.Notice.{Notice}
use Rattle.list_entries.specs.declared.notice.Notice.TheVariants as notice
use Rattle.list_lines.specs.declared.nesting.OpenIf.{OpenIf}
use Rattle.list_lines.specs.declared.nesting.Unclosed.{Unclosed}
use Rattle.list_lines.specs.OpenIfs.{divided_first, open_if, parts_of}
use Rattle.list_lines.specs.Conditions.{condition_of}
use Rattle.list_lines.specs.Lines.{DirectiveMeaning, opens, divides, closes, includes}
use Rattle.list_lines.specs.Parts.{Sign, inner}
use Rattle.selector_spelling.specs.declared.finding.Cause.TheVariants as cause

-- what is to be said of an `if`, before other notices
abbrev pub with_unclosed : Option Unclosed → List Notice → List Notice
with_unclosed (Some u) notices = notice.Malformed u.line cause.UnclosedIf u.at ∷ notices
with_unclosed None notices = notices

abbrev pub if_open : Option ℕ → Option Unclosed → List Notice → List Notice
if_open (Some n) unclosed notices = with_unclosed unclosed notices
if_open None unclosed notices = notices

-- `signs` are those of the lines behind, and the first part has so many inner ones; parts are innermost first
abbrev pub woven : ℕ → List Notice → List OpenIf → List Sign → List Notice
woven n notices [] signs = notices
woven n notices (part ∷ ifs) signs =
    woven (suc n) (take part.noticed notices) ifs signs ++ if_open (inner n signs) part.unclosed (drop part.noticed notices)

-- each part was opened when there were at most as many notices as at the one in it, and at most so many at the first
abbrev pub AreNoticed : ℕ → List OpenIf → Type 0
AreNoticed n [] = Unit {0}
AreNoticed n (part ∷ ifs) = (part.noticed ≤ n) × AreNoticed part.noticed ifs

-- ---- a directive

-- what is to be said of an `if` on this line, where its condition is read
abbrev pub unclosed_of : ℕ → ℕ → Option Bool → Option Unclosed
unclosed_of line at (Some condition) = Some (record { line = line; at = at })
unclosed_of line at None = None

-- the parts behind a directive, as the reader keeps them
module _ (names : List (List ℕ)) (line at noticed : ℕ) where
  abbrev pub ifs_behind : DirectiveMeaning → List OpenIf → List OpenIf
  ifs_behind (opens condition) ifs =
      open_if (unwrap_or (condition_of names condition) false) noticed (unclosed_of line at (condition_of names condition)) ifs ∷ ifs
  ifs_behind divides ifs = divided_first ifs
  ifs_behind closes ifs = drop 1 ifs
  ifs_behind includes ifs = ifs
