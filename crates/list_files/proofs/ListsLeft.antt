-- Lists that are read one after the other: those that were read, and the files that are left.
use Rattle.std.proofs.Common.{◌≡◌, ◌∙◌, ℕ, ◌+◌, ◌≤◌, List, [], ◌∷◌, ◌++◌, length, length-append, map, All, refl, ap, ap₂, sym, arith, append_assoc}
use Rattle.std.specs.Prelude.{sum_by}
use Rattle.std.proofs.lemmas.List.{append-nil, length-drop, map-append}
use Rattle.std.proofs.lemmas.List.Elements.{All-nil, All-push, All-weaker}
use Rattle.std.proofs.lemmas.List.Sums.{sum_by-cons}
use Rattle.cos_patterns.specs.declared.written.Asked.{Asked}
use Rattle.cos_patterns.specs.declared.written.Written.{Written}
use Rattle.cos_patterns.specs.Tables.{Agrees, Extends, Noted}
use Rattle.cos_patterns.proofs.Extensions.{extends_self, extends_through}
use Rattle.cos_source.specs.Lines.{lines_of, numbered}
use Rattle.cos_source.specs.Mark.{mark_length, without_mark}
use Rattle.command_meaning.specs.Numbers.{unnumbered_list}
use Rattle.command_meaning.specs.Report.{list_read, lists_from}
use Rattle.hostname_buckets.specs.Active.{entries_of}
use Rattle.list_entries.specs.declared.entry.Entry.{Entry}
use Rattle.list_entries.specs.declared.entry.Entry.TheVariants as entry
use Rattle.list_entries.specs.declared.entry.ListRead.{ListRead}
use Rattle.list_entries.specs.declared.notice.Notice.{Notice}
use Rattle.list_reader.specs.Entries.{entries_in, notices_in, unnumbered_entry, IsProperEntry}
use Rattle.list_reader.proofs.Lists.{proper_later}
use Rattle.selector_parser.specs.Lasting.{Lasts}

-- ---- what may be asked

entry_later : (a b : Noted) (e : Entry) → Extends a b → IsProperEntry a.patterns e → IsProperEntry b.patterns e
entry_later a b (entry.Filter filter scope) x h = (proper_later a b filter.selector x h.0, h.1)
entry_later a b (entry.Exception canonical scope) x h = tt
entry_later a b (entry.Page pattern domain options) x h = tt

abbrev AreProper : Noted → ListRead → Type 0
AreProper table list = All (IsProperEntry table.patterns) list.entries

list_later : (a b : Noted) → Extends a b → (list : ListRead) → AreProper a list → AreProper b list
list_later a b x list = All-weaker (IsProperEntry a.patterns) (IsProperEntry b.patterns) (λ e. entry_later a b e x) list.entries

-- ---- how many

entries_more : (lists : List ListRead) (list : ListRead) → length (entries_of (lists ++ list ∷ [])) ≡ length (entries_of lists) + length list.entries
entries_more [] list = omega (arith, length-append list.entries [])
entries_more (l ∷ lists) list =
    omega (arith, entries_more lists list, length-append l.entries (entries_of (lists ++ list ∷ [])), length-append l.entries (entries_of lists))

unmarked_length : (file : List ℕ) → length (without_mark file) ≤ length file
unmarked_length file = omega (arith, length-drop (mark_length file) file)

-- ---- lists

-- what was read, and what the files that are left give, is what all files give, under what a maker refused
pub record ListsLeft (env files : List (List ℕ)) (table : Noted) (lists : List ListRead) (number : ℕ) (left : List (List ℕ)) : Type 0 where
  pub numbered : number ≡ length lists + 1
  pub many : length lists + length left ≡ length files
  pub gives : Lasts table (λ large unread. map unnumbered_list lists ++ lists_from env large unread number left ≡ lists_from env large unread 1 files)
  pub proper : All (AreProper table) lists
  pub few : length (entries_of lists) + sum_by length left ≤ sum_by length files

module _ (env files : List (List ℕ)) where
  pub all_left : (table : Noted) → ListsLeft env files table [] 1 files
  all_left table = record {
    numbered = refl;
    many = omega arith;
    gives = λ later large unread x a. refl;
    proper = All-nil (AreProper table);
    few = omega arith;
  }

  module _ (table : Noted) (lists : List ListRead) (number : ℕ) (file bytes : List ℕ) (rest : List (List ℕ)) (e : bytes ≡ without_mark file) (before : ListsLeft env files table lists number (file ∷ rest)) where
    -- one more list was read
    pub one_more : (after : Noted) (list : ListRead) → Extends table after
        → Lasts after (λ large unread. map unnumbered_entry list.entries ≡ entries_in env large unread number (numbered 1 (lines_of bytes)))
        → Lasts after (λ large unread. list.notices ≡ notices_in env large unread number (numbered 1 (lines_of bytes)))
        → AreProper after list → length list.entries ≤ length bytes
        → ListsLeft env files after (lists ++ list ∷ []) (number + 1) rest
    one_more after list further entries notices proper few = record {
      numbered = omega (arith, before.numbered, length-append lists (list ∷ []));
      many = omega (arith, before.many, length-append lists (list ∷ []));
      gives = λ later large unread x a.
          let more = lists_from env large unread (number + 1) rest in
          let read : unnumbered_list list ≡ list_read env large unread number file =
          ap₂ (λ (es : List Entry) (ns : List Notice). let r : ListRead = record { entries = es; notices = ns } in r) (entries later large unread x a) (notices later large unread x a)
          ∙ ap (λ (bs : List ℕ). let r : ListRead = record { entries = entries_in env large unread number (numbered 1 (lines_of bs)); notices = notices_in env large unread number (numbered 1 (lines_of bs)) } in r) e in
          ap (λ (ls : List ListRead). ls ++ more) (map-append unnumbered_list lists (list ∷ []))
          ∙ append_assoc (map unnumbered_list lists) (unnumbered_list list ∷ []) more
          ∙ ap (λ (r : ListRead). map unnumbered_list lists ++ r ∷ more) read
          ∙ before.gives later large unread (extends_through table after later further x) a;
      proper = All-push (AreProper after) lists list (All-weaker (AreProper table) (AreProper after) (list_later table after further) lists before.proper) proper;
      few = omega (arith, before.few, few, sum_by-cons length file rest, entries_more lists list, unmarked_length file, ap length e);
    }

  -- none is left
  pub all_read : (table : Noted) (lists : List ListRead) (number : ℕ) (large : List Asked) (unread : List Written) → Agrees table large unread
      → ListsLeft env files table lists number [] → map unnumbered_list lists ≡ lists_from env large unread 1 files
  all_read table lists number large unread agrees before =
      sym (append-nil (map unnumbered_list lists)) ∙ before.gives table large unread (extends_self table) agrees
