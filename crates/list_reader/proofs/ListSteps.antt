-- A list, line by line.
use Rattle.std.proofs.Common.{◌≡◌, ◌∙◌, ℕ, ◌+◌, ◌≤◌, true, List, [], ◌∷◌, ◌++◌, length, length-append, map, All, get_or, refl, ap, ap₂, sym, subst, arith}
use Rattle.std.proofs.lemmas.List.{append-nil}
use Rattle.std.proofs.lemmas.List.Elements.{All-push, All-nil}
use Rattle.cos_patterns.specs.declared.written.Asked.{Asked}
use Rattle.cos_patterns.specs.declared.written.Written.{Written}
use Rattle.cos_patterns.specs.Tables.{Noted, Extends}
use Rattle.cos_patterns.proofs.Extensions.{extends_through}
use Rattle.list_entries.specs.declared.entry.Entry.{Entry}
use Rattle.list_entries.specs.declared.entry.Entry.TheVariants as entry
use Rattle.list_entries.specs.declared.notice.Notice.{Notice}
use Rattle.list_lines.specs.declared.nesting.OpenIf.{OpenIf}
use Rattle.list_lines.specs.Lines.{line_of}
use Rattle.list_lines.specs.OpenIfs.{parts_of}
use Rattle.list_lines.specs.Parts.{Part, Sign, parts_over}
use Rattle.list_reader.specs.declared.entries.Given.{Given}
use Rattle.list_reader.specs.declared.entries.Given.TheVariants.{Nothing, Gives, Said}
use Rattle.list_reader.specs.Entries.{entries_in, entries_of, gives_from, line_gives, notices_in, notices_of, sign_of, signs_of, unnumbered_entry, with_entry, with_notice, IsProperEntry, IsProperGiven}
use Rattle.list_reader.specs.LineReads.{LineRead}
use Rattle.list_reader.specs.Unclosed.{woven, AreNoticed}
use Rattle.list_reader.proofs.Gives.{one_entry}
use Rattle.list_reader.proofs.Lists.{proper_later}
use Rattle.list_reader.proofs.Woven.{noticed_more}
use Rattle.selector_parser.specs.Lasting.{Lasts}

-- ---- what may be asked

entry_later : (a b : Noted) (e : Entry) → Extends a b → IsProperEntry a.patterns e → IsProperEntry b.patterns e
entry_later a b (entry.Filter filter scope) x h = (proper_later a b filter.selector x h.0, h.1)
entry_later a b (entry.Exception canonical scope) x h = tt
entry_later a b (entry.Page pattern domain options) x h = tt

all_later : (a b : Noted) (entries : List Entry) → Extends a b → All (IsProperEntry a.patterns) entries → All (IsProperEntry b.patterns) entries
all_later a b entries x h = λ k e within. entry_later a b (get_or entries k e) x (h k e within)

with_proper : (patterns : List Written) (given : Given) (entries : List Entry) → IsProperGiven patterns given → All (IsProperEntry patterns) entries
    → All (IsProperEntry patterns) (entries ++ with_entry given [])
with_proper patterns Nothing entries p h = subst (λ (l : List Entry). All (IsProperEntry patterns) l) (sym (append-nil entries)) h
with_proper patterns (Gives e) entries p h = All-push (IsProperEntry patterns) entries e h p
with_proper patterns (Said finding) entries p h = subst (λ (l : List Entry). All (IsProperEntry patterns) l) (sym (append-nil entries)) h

at_most_one : (given : Given) → length (with_entry given []) ≤ 1
at_most_one Nothing = omega arith
at_most_one (Gives e) = omega arith
at_most_one (Said finding) = omega arith

-- ---- lines

-- what was read of the lines before these ones, and what these ones give, is what all lines give
pub record SoFar (names : List (List ℕ)) (list : ℕ) (all : List (ℕ × List ℕ)) (most : ℕ) (table : Noted) (entries : List Entry) (notices : List Notice) (ifs : List OpenIf) (lines : List (ℕ × List ℕ)) : Type 0 where
  pub before : List Sign
  pub parts : parts_of ifs ≡ parts_over before
  pub noticed : AreNoticed (length notices) ifs
  pub entries_left : Lasts table (λ large unread.
      map unnumbered_entry entries ++ entries_of (gives_from names large unread list before lines) ≡ entries_in names large unread list all)
  pub notices_left : Lasts table (λ large unread.
      woven 0 notices ifs (signs_of names lines) ++ notices_of (gives_from names large unread list before lines) ≡ notices_in names large unread list all)
  pub proper : All (IsProperEntry table.patterns) entries
  pub few : length entries + length lines ≤ most

module _ (names : List (List ℕ)) (list : ℕ) (all : List (ℕ × List ℕ)) (most : ℕ) where
  pub first_line : (table : Noted) (entries : List Entry) (notices : List Notice) (ifs : List OpenIf) (lines : List (ℕ × List ℕ))
      → entries ≡ [] → notices ≡ [] → ifs ≡ [] → lines ≡ all → length all ≤ most → SoFar names list all most table entries notices ifs lines
  first_line table entries notices ifs lines e n i l h = record {
    before = [];
    parts = ap parts_of i;
    noticed = subst (AreNoticed (length notices)) (sym i) tt;
    entries_left = λ later large unread x a.
        ap₂ (λ (es : List Entry) (ls : List (ℕ × List ℕ)). map unnumbered_entry es ++ entries_of (gives_from names large unread list [] ls)) e l;
    notices_left = λ later large unread x a.
        ap (λ (is : List OpenIf). woven 0 notices is (signs_of names lines) ++ notices_of (gives_from names large unread list [] lines)) i
        ∙ ap₂ (λ (ns : List Notice) (ls : List (ℕ × List ℕ)). ns ++ notices_of (gives_from names large unread list [] ls)) n l;
    proper = subst (λ (es : List Entry). All (IsProperEntry table.patterns) es) (sym e) (All-nil (IsProperEntry table.patterns));
    few = omega (arith, ap (λ (es : List Entry). length es) e, ap (λ (ls : List (ℕ × List ℕ)). length ls) l, h);
  }

  pub next_line : (table after : Noted) (entries entries' : List Entry) (notices notices' : List Notice) (ifs ifs' : List OpenIf) (number count : ℕ) (line : List ℕ) (lines rest : List (ℕ × List ℕ)) (read given : Given)
      → Extends table after → lines ≡ (number, line) ∷ rest → LineRead names list number count line ifs ifs' after read → count ≡ length notices → read ≡ given
      → entries' ≡ entries ++ with_entry given [] → notices' ≡ notices ++ with_notice number given []
      → SoFar names list all most table entries notices ifs lines → SoFar names list all most after entries' notices' ifs' rest
  next_line table after entries entries' notices notices' ifs ifs' number count line lines rest read given ext l read_so many is e n s =
      let r : LineRead names list number (length notices) line ifs ifs' after given =
      subst (λ (x : Given). LineRead names list number (length notices) line ifs ifs' after x) is
      (subst (λ (x : ℕ). LineRead names list number x line ifs ifs' after read) many read_so) in
      let sign = sign_of names (line_of line) in
      let behind = signs_of names rest in
      record {
        before = s.before ++ sign ∷ [];
        parts = r.parts s.before s.parts;
        noticed = noticed_more (length notices) (length notices') ifs'
            (omega (arith, ap (λ (x : List Notice). length x) n, length-append notices (with_notice number given []))) (r.opened s.noticed);
        entries_left = λ later large unread x a.
            let more = entries_of (gives_from names large unread list (s.before ++ sign ∷ []) rest) in
            one_entry given entries entries' more e
            ∙ ap (λ (es : List Entry). map unnumbered_entry entries ++ es) (r.entries later large unread x a behind more)
            ∙ ap (λ (ps : List Part). map unnumbered_entry entries ++ with_entry (line_gives names large unread list ps behind number (line_of line)) more) s.parts
            ∙ ap (λ (ls : List (ℕ × List ℕ)). map unnumbered_entry entries ++ entries_of (gives_from names large unread list s.before ls)) (sym l)
            ∙ s.entries_left later large unread (extends_through table after later ext x) a;
        notices_left = λ later large unread x a.
            let more = notices_of (gives_from names large unread list (s.before ++ sign ∷ []) rest) in
            ap (λ (ns : List Notice). woven 0 ns ifs' behind ++ more) n
            ∙ r.notices later large unread x a behind notices more refl s.noticed
            ∙ ap (λ (ps : List Part). woven 0 notices ifs (sign ∷ behind) ++ with_notice number (line_gives names large unread list ps behind number (line_of line)) more) s.parts
            ∙ ap (λ (ls : List (ℕ × List ℕ)). woven 0 notices ifs (signs_of names ls) ++ notices_of (gives_from names large unread list s.before ls)) (sym l)
            ∙ s.notices_left later large unread (extends_through table after later ext x) a;
        proper = subst (λ (es : List Entry). All (IsProperEntry after.patterns) es) (sym e) (with_proper after.patterns given entries r.proper (all_later table after entries ext s.proper));
        few = omega (arith, s.few, at_most_one given, length-append entries (with_entry given []), ap (λ (es : List Entry). length es) e, ap (λ (ls : List (ℕ × List ℕ)). length ls) l);
      }

  pub entries_end : (table : Noted) (entries : List Entry) (notices : List Notice) (ifs : List OpenIf) (lines : List (ℕ × List ℕ)) → lines ≡ []
      → SoFar names list all most table entries notices ifs lines → Lasts table (λ large unread. map unnumbered_entry entries ≡ entries_in names large unread list all)
  entries_end table entries notices ifs lines l s = λ later large unread x a.
      sym (append-nil (map unnumbered_entry entries))
      ∙ ap (λ (ls : List (ℕ × List ℕ)). map unnumbered_entry entries ++ entries_of (gives_from names large unread list s.before ls)) (sym l)
      ∙ s.entries_left later large unread x a

  pub notices_end : (table : Noted) (entries : List Entry) (notices read : List Notice) (ifs : List OpenIf) (lines : List (ℕ × List ℕ)) → lines ≡ [] → read ≡ woven 0 notices ifs []
      → SoFar names list all most table entries notices ifs lines → Lasts table (λ large unread. read ≡ notices_in names large unread list all)
  notices_end table entries notices read ifs lines l w s = λ later large unread x a.
      w ∙ sym (append-nil (woven 0 notices ifs []))
      ∙ ap (λ (ls : List (ℕ × List ℕ)). woven 0 notices ifs (signs_of names ls) ++ notices_of (gives_from names large unread list s.before ls)) (sym l)
      ∙ s.notices_left later large unread x a
