-- A malformed line changes no entry and no notice of another line.
use Rattle.std.proofs.Common.{◌≡◌, ◌∙◌, ◌⊎◌, inl, inr, ℕ, Bool, true, false, List, [], ◌∷◌, ◌++◌, refl, ap, ap₂, sym}
use Rattle.std.specs.Prelude.{if◌then◌else◌}
use Rattle.std.specs.Str.{is_utf8, chars}
use Rattle.cos_patterns.specs.declared.written.Asked.{Asked}
use Rattle.cos_patterns.specs.declared.written.Written.{Written}
use Rattle.list_entries.specs.declared.entry.Entry.{Entry}
use Rattle.list_entries.specs.declared.notice.Notice.{Notice}
use Rattle.list_lines.specs.Lines.{LineMeaning, nothing, directive, hides, switches, noted, line_of}
use Rattle.list_lines.specs.Parts.{Part, Sign, are_live, parts_over, plain}
use Rattle.list_reader.specs.declared.entries.Given.{Given}
use Rattle.list_reader.specs.declared.entries.Given.TheVariants.{Nothing, Gives, Said}
use Rattle.list_reader.specs.Entries.{entries_of, gives_from, if_live, line_gives, live_line, notice_of, notices_of, sign_of, signs_of, with_entry, with_notice}
use Rattle.list_reader.specs.Laws.{IsNoted, LeavesOthers, NotedAlone}
use Rattle.selector_spelling.specs.declared.finding.Finding.{Finding}

empty_line : line_of [] ≡ nothing
unfolding is_utf8 chars lib.Utf8.encode
empty_line = refl

-- such a line is no directive
noted_gives : (names : List (List ℕ)) (large : List Asked) (unread : List Written) (list number : ℕ) (m : LineMeaning) (finding : Finding) (parts : List Part) (behind : List Sign)
    → live_line large unread list number m ≡ Said finding → line_gives names large unread list parts behind number m ≡ if_live parts (Said finding)
noted_gives names large unread list number nothing finding parts behind e = let no : Nothing ≡ Said finding = e in cc
noted_gives names large unread list number (directive at d) finding parts behind e = let no : Nothing ≡ Said finding = e in cc
noted_gives names large unread list number (hides exception hosts selector) finding parts behind e = ap (if_live parts) e
noted_gives names large unread list number (switches pattern options domain) finding parts behind e = ap (if_live parts) e
noted_gives names large unread list number (noted f) finding parts behind e = ap (if_live parts) e

no_entry : (live : Bool) (finding : Finding) (entries : List Entry) → with_entry (if live then Said finding else Nothing) entries ≡ entries
no_entry true finding entries = refl
no_entry false finding entries = refl

none_given : (live : Bool) (entries : List Entry) → entries ≡ with_entry (if live then Nothing else Nothing) entries
none_given true entries = refl
none_given false entries = refl

none_said : (number : ℕ) (live : Bool) (notices : List Notice) → with_notice number (if live then Nothing else Nothing) notices ≡ notices
none_said number true notices = refl
none_said number false notices = refl

perhaps : (number : ℕ) (live : Bool) (finding : Finding) (notices : List Notice)
    → (with_notice number (if live then Said finding else Nothing) notices ≡ notices) ⊎ (with_notice number (if live then Said finding else Nothing) notices ≡ notice_of number finding ∷ notices)
perhaps number true finding notices = inr refl
perhaps number false finding notices = inl refl

said_first : (number : ℕ) (g : Given) (a b : List Notice) → with_notice number g (a ++ b) ≡ with_notice number g a ++ b
said_first number Nothing a b = refl
said_first number (Gives e) a b = refl
said_first number (Said finding) a b = refl

module _ (names : List (List ℕ)) (large : List Asked) (unread : List Written) (list number : ℕ) (line : List ℕ) (finding : Finding) (is : IsNoted names large unread list number line finding) (back : List (ℕ × List ℕ)) where
  same_signs : (front : List (ℕ × List ℕ)) → signs_of names (front ++ (number, line) ∷ back) ≡ signs_of names (front ++ (number, []) ∷ back)
  same_signs [] = ap (λ (s : Sign). s ∷ signs_of names back) (is.0 ∙ sym (ap (sign_of names) empty_line))
  same_signs (l ∷ front) = ap (λ (signs : List Sign). sign_of names (line_of l.1) ∷ signs) (same_signs front)

  same_entries : (front : List (ℕ × List ℕ)) (before : List Sign)
      → entries_of (gives_from names large unread list before (front ++ (number, line) ∷ back)) ≡ entries_of (gives_from names large unread list before (front ++ (number, []) ∷ back))
  same_entries [] before =
      let parts = parts_over before in
      let signs = signs_of names back in
      ap₂ (λ (g : Given) (s : Sign). with_entry g (entries_of (gives_from names large unread list (before ++ s ∷ []) back)))
      (noted_gives names large unread list number (line_of line) finding parts signs is.1) is.0
      ∙ no_entry (are_live parts) finding _ ∙ none_given (are_live parts) _
      ∙ sym (ap (λ (m : LineMeaning). with_entry (line_gives names large unread list parts signs number m) (entries_of (gives_from names large unread list (before ++ sign_of names m ∷ []) back))) empty_line)
  same_entries (l ∷ front) before =
      let s = sign_of names (line_of l.1) in
      ap₂ (λ (signs : List Sign) (entries : List Entry). with_entry (line_gives names large unread list (parts_over before) signs l.0 (line_of l.1)) entries)
      (same_signs front) (same_entries front (before ++ s ∷ []))

  one_notice : (front : List (ℕ × List ℕ)) (before : List Sign) → (a : List Notice) × (b : List Notice)
      × (notices_of (gives_from names large unread list before (front ++ (number, []) ∷ back)) ≡ a ++ b)
      × ((notices_of (gives_from names large unread list before (front ++ (number, line) ∷ back)) ≡ a ++ b)
      ⊎ (notices_of (gives_from names large unread list before (front ++ (number, line) ∷ back)) ≡ a ++ notice_of number finding ∷ b))
  one_notice [] before =
      let parts = parts_over before in
      let rest = notices_of (gives_from names large unread list (before ++ plain ∷ []) back) in
      let e = ap₂ (λ (g : Given) (s : Sign). with_notice number g (notices_of (gives_from names large unread list (before ++ s ∷ []) back)))
      (noted_gives names large unread list number (line_of line) finding parts (signs_of names back) is.1) is.0 in (
        [],
        rest,
        ap (λ (m : LineMeaning). with_notice number (line_gives names large unread list parts (signs_of names back) number m) (notices_of (gives_from names large unread list (before ++ sign_of names m ∷ []) back))) empty_line
            ∙ none_said number (are_live parts) rest,
        elim (perhaps number (are_live parts) finding rest) [ inl h ↦ inl (e ∙ h) | inr h ↦ inr (e ∙ h) ],
      )
  one_notice (l ∷ front) before =
      let s = sign_of names (line_of l.1) in
      let more = one_notice front (before ++ s ∷ []) in
      let g : List Sign → Given = λ signs. line_gives names large unread list (parts_over before) signs l.0 (line_of l.1) in
      let empty = g (signs_of names (front ++ (number, []) ∷ back)) in
      let same = ap (λ (signs : List Sign). with_notice l.0 (g signs) (notices_of (gives_from names large unread list (before ++ s ∷ []) (front ++ (number, line) ∷ back)))) (same_signs front) in (
        with_notice l.0 empty more.0,
        more.1,
        ap (λ (n : List Notice). with_notice l.0 empty n) more.2 ∙ said_first l.0 empty more.0 more.1,
        elim more.3 [
          | inl h ↦ inl (same ∙ ap (λ (n : List Notice). with_notice l.0 empty n) h ∙ said_first l.0 empty more.0 more.1)
          | inr h ↦ inr (same ∙ ap (λ (n : List Notice). with_notice l.0 empty n) h ∙ said_first l.0 empty more.0 (notice_of number finding ∷ more.1))
        ],
      )

  pub leaves_others : (front : List (ℕ × List ℕ)) → LeavesOthers names large unread list number line finding front back
  leaves_others front = let n = one_notice front [] in (same_entries front [], (n.0, n.1, n.2, n.3))

-- for every list

pub noted_alone : NotedAlone
noted_alone names large unread list number line finding front back is = leaves_others names large unread list number line finding is back front
