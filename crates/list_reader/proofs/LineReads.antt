-- One line, read.
use Rattle.std.proofs.Common.{◌≡◌, ◌∙◌, ℕ, Bool, true, false, not, List, [], ◌∷◌, ◌++◌, length, ap, sym, subst}
use Rattle.std.specs.Prelude.{Option, Some, None, Result, Ok, Err, IfOk, OnOk, if◌then◌else◌}
use Rattle.cos_patterns.specs.declared.written.Written.{Written}
use Rattle.cos_patterns.specs.Tables.{Noted}
use Rattle.list_entries.specs.declared.entry.Entry.{Entry}
use Rattle.list_entries.specs.declared.notice.Notice.{Notice}
use Rattle.list_lines.specs.declared.nesting.OpenIf.{OpenIf}
use Rattle.list_lines.specs.declared.line.Directive.{Directive}
use Rattle.list_lines.specs.declared.line.LineForm.{LineForm}
use Rattle.list_lines.specs.declared.line.LineForm.TheVariants as form
use Rattle.list_lines.specs.Conditions.{condition_of}
use Rattle.list_lines.specs.Lines.{DirectiveMeaning, opens, divides, closes, includes, LineMeaning, directive, line_of}
use Rattle.list_lines.specs.Meanings.{meaning_of}
use Rattle.list_lines.specs.OpenIfs.{parts_of}
use Rattle.list_lines.specs.Parts.{Part, Sign, are_live, are_some, parts_over, plain, takes_else}
use Rattle.list_lines.proofs.PartLaws.{parts_behind}
use Rattle.list_reader.specs.declared.entries.Given.{Given}
use Rattle.list_reader.specs.declared.entries.Given.TheVariants.{Nothing, Said}
use Rattle.list_reader.specs.Entries.{directive_line, if_line, line_gives, live_line, say_unless, sign_of, unnumbered_given, with_entry, with_notice, IsProperGiven}
use Rattle.list_reader.specs.LineReads.{LineRead}
use Rattle.list_reader.specs.Unclosed.{ifs_behind, woven, AreNoticed}
use Rattle.list_reader.proofs.Gives.{dead_is, live_is, other_gives, other_sign, same_notice}
use Rattle.list_reader.proofs.Woven.{directive_behind, directive_entry, directive_opened, directive_parts, plain_behind}
use Rattle.selector_parser.specs.Lasting.{Lasts}
use Rattle.selector_spelling.specs.declared.finding.Finding.{Finding}

module _ (names : List (List ℕ)) (list number noticed : ℕ) (line : List ℕ) (ifs : List OpenIf) (table : Noted) (given : Given) where
  -- a line that is no directive
  pub plain_read : sign_of names (line_of line) ≡ plain
      → Lasts table (λ large unread. (behind : List Sign) → unnumbered_given given ≡ line_gives names large unread list (parts_of ifs) behind number (line_of line))
      → IsProperGiven table.patterns given → LineRead names list number noticed line ifs ifs table given
  plain_read is same proper = record {
    parts = λ before e. e ∙ sym (parts_behind before plain) ∙ ap (λ (s : Sign). parts_over (before ++ s ∷ [])) (sym is);
    opened = λ h. h;
    entries = λ later large unread x a behind more. ap (λ (g : Given). with_entry g more) (same later large unread x a behind);
    notices = λ later large unread x a behind notices more e h.
        plain_behind number given notices more ifs behind (subst (λ (n : ℕ). AreNoticed n ifs) (sym e) h)
        ∙ ap (λ (s : Sign). woven 0 notices ifs (s ∷ behind) ++ with_notice number given more) (sym is)
        ∙ ap (λ (l : List Notice). woven 0 notices ifs (sign_of names (line_of line) ∷ behind) ++ l)
        (same_notice number given more ∙ ap (λ (g : Given). with_notice number g more) (same later large unread x a behind));
    proper = proper;
  }

  pub directive_read : (at : ℕ) (d : DirectiveMeaning) (after : List OpenIf) → directive at d ≡ line_of line
      → given ≡ directive_line names (parts_of ifs) false at d → after ≡ ifs_behind names number at noticed d ifs
      → IsProperGiven table.patterns given → LineRead names list number noticed line ifs after table given
  directive_read at d after is says a proper = record {
    parts = λ before e.
        ap parts_of a ∙ directive_parts names number at noticed d ifs before e ∙ ap (λ (m : LineMeaning). parts_over (before ++ sign_of names m ∷ [])) is;
    opened = λ h. subst (AreNoticed noticed) (sym a) (directive_opened names number at noticed d ifs h);
    entries = λ later large unread x b behind more.
        ap (λ (g : Given). with_entry (unnumbered_given g) more) says
        ∙ directive_entry names number at d (parts_of ifs) _ more
        ∙ ap (λ (m : LineMeaning). with_entry (line_gives names large unread list (parts_of ifs) behind number m) more) is;
    notices = λ later large unread x b behind notices more e h.
        ap (λ (l : List OpenIf). woven 0 (notices ++ with_notice number given []) l behind ++ more) a
        ∙ ap (λ (g : Given). woven 0 (notices ++ with_notice number g []) (ifs_behind names number at noticed d ifs) behind ++ more) says
        ∙ directive_behind names number at d ifs behind notices more noticed e h
        ∙ ap (λ (m : LineMeaning). woven 0 notices ifs (sign_of names m ∷ behind) ++ with_notice number (line_gives names large unread list (parts_of ifs) behind number m) more) is;
    proper = proper;
  }

  -- the same by its form, on a live line and on a dead one
  module _ (f : LineForm) (isnt : (at : ℕ) (d : Directive) → f ≡ form.Directive at d → ⊥) (meaning : meaning_of f ≡ line_of line) where
    pub other_read : (g : LineForm) → f ≡ g → true ≡ are_live (parts_of ifs)
        → Lasts table (λ large unread. unnumbered_given given ≡ live_line large unread list number (meaning_of g))
        → IsProperGiven table.patterns given → LineRead names list number noticed line ifs ifs table given
    other_read g e live same proper =
        plain_read (ap (sign_of names) (sym meaning) ∙ other_sign names f isnt)
        (λ later large unread x a behind.
        same later large unread x a
        ∙ ap (λ (h : LineForm). live_line large unread list number (meaning_of h)) (sym e)
        ∙ live_is (parts_of ifs) (live_line large unread list number (meaning_of f)) (sym live)
        ∙ sym (other_gives names large unread list number (parts_of ifs) behind f isnt)
        ∙ ap (λ (m : LineMeaning). line_gives names large unread list (parts_of ifs) behind number m) meaning)
        proper

pub dead_read : (names : List (List ℕ)) (list number noticed : ℕ) (line : List ℕ) (ifs : List OpenIf) (table : Noted) (f : LineForm)
    → ((at : ℕ) (d : Directive) → f ≡ form.Directive at d → ⊥) → meaning_of f ≡ line_of line → false ≡ are_live (parts_of ifs)
    → LineRead names list number noticed line ifs ifs table Nothing
dead_read names list number noticed line ifs table f isnt meaning dead =
    plain_read names list number noticed line ifs table Nothing (ap (sign_of names) (sym meaning) ∙ other_sign names f isnt)
    (λ later large unread x a behind.
    dead_is (parts_of ifs) (live_line large unread list number (meaning_of f)) (sym dead)
    ∙ sym (other_gives names large unread list number (parts_of ifs) behind f isnt)
    ∙ ap (λ (m : LineMeaning). line_gives names large unread list (parts_of ifs) behind number m) meaning)
    tt

-- ---- results

module _ {E : Type 0} where
  pub if_both : (r : Result Given E) (P Q R : Given → Type 0) → IfOk r P → IfOk r Q → ((g : Given) → P g → Q g → R g) → IfOk r R
  if_both (Ok g) P Q R p q f = f g p q
  if_both (Err e) P Q R p q f = p

  pub if_and_on : (r : Result Given E) (P R : Given → Type 0) (Q : Type 0) → IfOk r P → OnOk r Q → ((g : Given) → P g → Q → R g) → IfOk r R
  if_and_on (Ok g) P R Q p q f = f g p q
  if_and_on (Err e) P R Q p q f = p

say_proper : (patterns : List Written) (fine : Bool) (finding : Finding) → IsProperGiven patterns (say_unless fine finding)
say_proper patterns true finding = tt
say_proper patterns false finding = tt

if_proper : (patterns : List Written) (at : ℕ) (o : Option Bool) (u : Bool) → IsProperGiven patterns (if_line at o u)
if_proper patterns at None u = tt
if_proper patterns at (Some b) u = say_proper patterns (not u) _

live_proper : (patterns : List Written) (live : Bool) (finding : Finding) → IsProperGiven patterns (if live then Said finding else Nothing)
live_proper patterns true finding = tt
live_proper patterns false finding = tt

pub directive_proper : (patterns : List Written) (names : List (List ℕ)) (parts : List Part) (u : Bool) (at : ℕ) (d : DirectiveMeaning) → IsProperGiven patterns (directive_line names parts u at d)
directive_proper patterns names parts u at (opens c) = if_proper patterns at (condition_of names c) u
directive_proper patterns names parts u at divides = say_proper patterns (takes_else parts) _
directive_proper patterns names parts u at closes = say_proper patterns (are_some parts) _
directive_proper patterns names parts u at includes = live_proper patterns (are_live parts) _
