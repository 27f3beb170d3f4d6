-- What a line gives, the numbers of patterns aside.
use Rattle.std.proofs.Common.{◌≡◌, ◌∙◌, ℕ, Bool, true, false, List, [], ◌∷◌, ◌++◌, map, refl, ap, ap₂, sym}
use Rattle.std.proofs.lemmas.List.{append_assoc, append-nil, map-append}
use Rattle.cos_patterns.specs.declared.written.Asked.{Asked}
use Rattle.cos_patterns.specs.declared.written.Written.{Written}
use Rattle.filter_scope.specs.declared.scope.Scope.{Scope}
use Rattle.list_entries.specs.declared.entry.Entry.{Entry}
use Rattle.list_entries.specs.declared.entry.Entry.TheVariants as entry
use Rattle.list_entries.specs.declared.notice.Notice.{Notice}
use Rattle.list_lines.specs.declared.line.Directive.{Directive}
use Rattle.list_lines.specs.declared.line.LineForm.{LineForm}
use Rattle.list_lines.specs.declared.line.LineForm.TheVariants as form
use Rattle.list_lines.specs.Lines.{LineMeaning}
use Rattle.list_lines.specs.Meanings.{meaning_of}
use Rattle.list_lines.specs.Parts.{Part, Sign, are_live, plain}
use Rattle.list_reader.specs.declared.entries.Given.{Given}
use Rattle.list_reader.specs.declared.entries.Given.TheVariants.{Nothing, Gives, Said}
use Rattle.list_reader.specs.Entries.{by_read, entry_of, if_live, line_gives, live_line, sign_of, unnumbered_entry, unnumbered_given, with_entry, with_notice}
use Rattle.selector_parser.specs.declared.read.Read.{Read}
use Rattle.selector_parser.specs.declared.read.Read.TheVariants as read
use Rattle.selector_parser.specs.Readings.{unnumbered_read}
use Rattle.selector_tree.specs.Canonical.{canonical_text}
use Rattle.selector_tree.specs.Unnumbered.{unnumbered}
use Rattle.selector_tree.specs.declared.filter.Action.{Action}
use Rattle.selector_tree.specs.declared.filter.Filter.{Filter}
use Rattle.selector_tree.specs.declared.selector.Step.{Step}
use Rattle.selector_tree.proofs.Unnumbered.{unnumbered_text}

-- ---- a selector that was read

module _ (list line at : ℕ) (scope : Scope) (selector : List (List Step)) (action : Action) (canonical : List ℕ) (exception : Bool) (r : Read) where
  pub exception_is : exception ≡ true → r ≡ read.Filter selector action → canonical ≡ canonical_text selector action
      → Gives (entry.Exception canonical scope) ≡ by_read exception list line scope at (unnumbered_read r)
  exception_is e is text =
      ap (λ (t : List ℕ). Gives (entry.Exception t scope)) (text ∙ sym (unnumbered_text selector action))
      ∙ ap₂ (λ (x : Bool) (y : Read). by_read x list line scope at (unnumbered_read y)) (sym e) (sym is)

  pub filter_is : exception ≡ false → r ≡ read.Filter selector action → canonical ≡ canonical_text selector action
      → Gives (entry.Filter (record { list = list; line = line; selector = unnumbered selector; action = action; canonical = canonical }) scope)
      ≡ by_read exception list line scope at (unnumbered_read r)
  filter_is e is text =
      ap (λ (t : List ℕ). let f : Filter = record { list = list; line = line; selector = unnumbered selector; action = action; canonical = t } in Gives (entry.Filter f scope))
      (text ∙ sym (unnumbered_text selector action))
      ∙ ap₂ (λ (x : Bool) (y : Read). by_read x list line scope at (unnumbered_read y)) (sym e) (sym is)

-- ---- lines that are no directives

module _ (names : List (List ℕ)) (large : List Asked) (unread : List Written) (list number : ℕ) (parts : List Part) (behind : List Sign) where
  pub other_gives : (f : LineForm) → ((at : ℕ) (d : Directive) → f ≡ form.Directive at d → ⊥)
      → line_gives names large unread list parts behind number (meaning_of f) ≡ if_live parts (live_line large unread list number (meaning_of f))
  other_gives form.Nothing h = refl
  other_gives (form.Directive at d) h = absurd (h at d refl)
  other_gives (form.Hide line) h = refl
  other_gives (form.Page line) h = refl
  other_gives (form.Noted finding) h = refl

pub other_sign : (names : List (List ℕ)) (f : LineForm) → ((at : ℕ) (d : Directive) → f ≡ form.Directive at d → ⊥) → sign_of names (meaning_of f) ≡ plain
other_sign names form.Nothing h = refl
other_sign names (form.Directive at d) h = absurd (h at d refl)
other_sign names (form.Hide line) h = refl
other_sign names (form.Page line) h = refl
other_sign names (form.Noted finding) h = refl

pub live_is : (parts : List Part) (g : Given) → are_live parts ≡ true → g ≡ if_live parts g
live_is parts g e = rw e refl

pub dead_is : (parts : List Part) (g : Given) → are_live parts ≡ false → Nothing ≡ if_live parts g
dead_is parts g e = rw e refl

-- ---- one more

pub same_notice : (line : ℕ) (g : Given) (notices : List Notice) → with_notice line g notices ≡ with_notice line (unnumbered_given g) notices
same_notice line Nothing notices = refl
same_notice line (Gives e) notices = refl
same_notice line (Said finding) notices = refl

pub notice_before : (line : ℕ) (g : Given) (more : List Notice) → with_notice line g [] ++ more ≡ with_notice line g more
notice_before line Nothing more = refl
notice_before line (Gives e) more = refl
notice_before line (Said finding) more = refl

entry_before : (g : Given) (more : List Entry) → map unnumbered_entry (with_entry g []) ++ more ≡ with_entry (unnumbered_given g) more
entry_before Nothing more = refl
entry_before (Gives e) more = refl
entry_before (Said finding) more = refl

pub one_entry : (g : Given) (entries after more : List Entry) → after ≡ entries ++ with_entry g [] → map unnumbered_entry after ++ more ≡ map unnumbered_entry entries ++ with_entry (unnumbered_given g) more
one_entry g entries after more e =
    ap (λ (l : List Entry). map unnumbered_entry l ++ more) e
    ∙ ap (λ (l : List Entry). l ++ more) (map-append unnumbered_entry entries (with_entry g []))
    ∙ append_assoc (map unnumbered_entry entries) (map unnumbered_entry (with_entry g [])) more
    ∙ ap (λ (l : List Entry). map unnumbered_entry entries ++ l) (entry_before g more)
