-- The notices of `if`s that stay open, among the others, line by line.
use Rattle.std.proofs.Common.{◌≡◌, ◌∙◌, ℕ, zero, suc, ◌≤◌, Bool, true, false, not, List, [], ◌∷◌, ◌++◌, length, take, drop, refl, ap, ap₂, sym, subst, arith}
use Rattle.std.specs.Prelude.{Option, Some, None, unwrap_or, if◌then◌else◌}
use Rattle.std.specs.Option.{is_some}
use Rattle.std.proofs.lemmas.List.{append_assoc, append-nil, take-append-le, drop-append-le, take-append-drop, length-take-le, take_all, drop_all}
use Rattle.list_entries.specs.declared.entry.Entry.{Entry}
use Rattle.list_entries.specs.declared.notice.Notice.{Notice}
use Rattle.list_lines.specs.declared.nesting.OpenIf.{OpenIf}
use Rattle.list_lines.specs.declared.nesting.Unclosed.{Unclosed}
use Rattle.list_lines.specs.Conditions.{condition_of}
use Rattle.list_lines.specs.Lines.{DirectiveMeaning, opens, divides, closes, includes}
use Rattle.list_lines.specs.OpenIfs.{divided_first, open_if, parts_of}
use Rattle.list_lines.specs.Parts.{Part, Sign, are_live, are_some, inner, is_unclosed, takes_else, parts_over}
use Rattle.list_lines.specs.Parts as sign
use Rattle.list_lines.proofs.PartLaws.{after, divided_parts, parts_behind}
use Rattle.list_reader.specs.declared.entries.Given.{Given}
use Rattle.list_reader.specs.declared.entries.Given.TheVariants.{Nothing, Gives, Said}
use Rattle.list_reader.specs.Entries.{directive_line, directive_sign, if_line, if_live, say_unless, unnumbered_given, with_entry, with_notice}
use Rattle.list_reader.specs.Unclosed.{if_open, ifs_behind, unclosed_of, with_unclosed, woven, AreNoticed}
use Rattle.list_reader.proofs.Gives.{notice_before}
use Rattle.selector_spelling.specs.declared.finding.Cause.TheVariants as cause
use Rattle.selector_spelling.specs.declared.finding.Finding.{Finding}
use Rattle.selector_spelling.specs.declared.finding.Finding.TheVariants.{Malformed}

-- ---- more notices

open_before : (o : Option ℕ) (u : Option Unclosed) (a b : List Notice) → if_open o u (a ++ b) ≡ if_open o u a ++ b
open_before None u a b = refl
open_before (Some n) None a b = refl
open_before (Some n) (Some u) a b = refl

pub woven_more : (n : ℕ) (a b : List Notice) (ifs : List OpenIf) (signs : List Sign) → AreNoticed (length a) ifs → woven n (a ++ b) ifs signs ≡ woven n a ifs signs ++ b
woven_more n a b [] signs h = refl
woven_more n a b (p ∷ ifs) signs h =
    let k = p.noticed in
    ap₂ (λ (x y : List Notice). woven (suc n) x ifs signs ++ if_open (inner n signs) p.unclosed y) (take-append-le k a b h.0) (drop-append-le k a b h.0)
    ∙ ap (λ (x : List Notice). woven (suc n) (take k a) ifs signs ++ x) (open_before (inner n signs) p.unclosed (drop k a) b)
    ∙ sym (append_assoc (woven (suc n) (take k a) ifs signs) (if_open (inner n signs) p.unclosed (drop k a)) b)

pub noticed_more : (n m : ℕ) (ifs : List OpenIf) → n ≤ m → AreNoticed n ifs → AreNoticed m ifs
noticed_more n m [] h k = tt
noticed_more n m (p ∷ ifs) h k = (omega (arith, h, k.0), k.1)

-- ---- one line less behind them

woven_plain : (n : ℕ) (a : List Notice) (ifs : List OpenIf) (signs : List Sign) → woven n a ifs (sign.plain ∷ signs) ≡ woven n a ifs signs
woven_plain n a [] signs = refl
woven_plain n a (p ∷ ifs) signs = ap (λ (x : List Notice). x ++ if_open (inner n signs) p.unclosed (drop p.noticed a)) (woven_plain (suc n) (take p.noticed a) ifs signs)

woven_divides : (n : ℕ) (a : List Notice) (ifs : List OpenIf) (signs : List Sign) → woven n a ifs (sign.divides ∷ signs) ≡ woven n a ifs signs
woven_divides n a [] signs = refl
woven_divides n a (p ∷ ifs) signs = ap (λ (x : List Notice). x ++ if_open (inner n signs) p.unclosed (drop p.noticed a)) (woven_divides (suc n) (take p.noticed a) ifs signs)

woven_opens : (n : ℕ) (a : List Notice) (ifs : List OpenIf) (c : Bool) (signs : List Sign) → woven n a ifs (sign.opens c ∷ signs) ≡ woven (suc n) a ifs signs
woven_opens n a [] c signs = refl
woven_opens n a (p ∷ ifs) c signs = ap (λ (x : List Notice). x ++ if_open (inner (suc n) signs) p.unclosed (drop p.noticed a)) (woven_opens (suc n) (take p.noticed a) ifs c signs)

woven_closes : (n : ℕ) (a : List Notice) (ifs : List OpenIf) (signs : List Sign) → woven (suc n) a ifs (sign.closes ∷ signs) ≡ woven n a ifs signs
woven_closes n a [] signs = refl
woven_closes n a (p ∷ ifs) signs = ap (λ (x : List Notice). x ++ if_open (inner n signs) p.unclosed (drop p.noticed a)) (woven_closes (suc n) (take p.noticed a) ifs signs)

pub woven_end : (n : ℕ) (a : List Notice) (ifs : List OpenIf) → woven (suc n) a ifs [] ≡ woven n a ifs []
woven_end n a [] = refl
woven_end n a (p ∷ ifs) = ap (λ (x : List Notice). x ++ if_open (Some n) p.unclosed (drop p.noticed a)) (woven_end (suc n) (take p.noticed a) ifs)

woven_divided : (n : ℕ) (a : List Notice) (ifs : List OpenIf) (signs : List Sign) → woven n a (divided_first ifs) signs ≡ woven n a ifs signs
woven_divided n a [] signs = refl
woven_divided n a (p ∷ ifs) signs = refl

-- ---- what a line says, behind the notices before it

said_behind : (line : ℕ) (g : Given) (a more : List Notice) (ifs : List OpenIf) (signs : List Sign) → AreNoticed (length a) ifs
    → woven 0 (a ++ with_notice line g []) ifs signs ++ more ≡ woven 0 a ifs signs ++ with_notice line g more
said_behind line g a more ifs signs h =
    ap (λ (x : List Notice). x ++ more) (woven_more 0 a (with_notice line g []) ifs signs h)
    ∙ append_assoc (woven 0 a ifs signs) (with_notice line g []) more
    ∙ ap (λ (x : List Notice). woven 0 a ifs signs ++ x) (notice_before line g more)

pub plain_behind : (line : ℕ) (g : Given) (a more : List Notice) (ifs : List OpenIf) (signs : List Sign) → AreNoticed (length a) ifs
    → woven 0 (a ++ with_notice line g []) ifs signs ++ more ≡ woven 0 a ifs (sign.plain ∷ signs) ++ with_notice line g more
plain_behind line g a more ifs signs h =
    said_behind line g a more ifs signs h ∙ ap (λ (x : List Notice). x ++ with_notice line g more) (sym (woven_plain 0 a ifs signs))

-- ---- directives

open_none : (o : Option ℕ) (a : List Notice) → if_open o None a ≡ a
open_none None a = refl
open_none (Some n) a = refl

new_part : (a b : List Notice) (p : OpenIf) (ifs : List OpenIf) (signs : List Sign) → p.noticed ≡ length a
    → woven 0 (a ++ b) (p ∷ ifs) signs ≡ woven 1 a ifs signs ++ if_open (inner 0 signs) p.unclosed b
new_part a b p ifs signs e =
    ap₂ (λ (x y : List Notice). woven 1 x ifs signs ++ if_open (inner 0 signs) p.unclosed y)
    (ap (λ (k : ℕ). take k (a ++ b)) e ∙ front a) (ap (λ (k : ℕ). drop k (a ++ b)) e ∙ back a)
  where
    front : (x : List Notice) → take (length x) (x ++ b) ≡ x
    front [] = refl
    front (y ∷ x) = ap (λ (l : List Notice). y ∷ l) (front x)

    back : (x : List Notice) → drop (length x) (x ++ b) ≡ b
    back [] = refl
    back (y ∷ x) = back x

module _ (names : List (List ℕ)) (line at : ℕ) where
  if_read : (o : Option Bool) (u : Option ℕ) (front more : List Notice) →
      (front ++ if_open u (unclosed_of line at o) (with_notice line (if_line at o false) [])) ++ more
      ≡ front ++ with_notice line (if_line at o (is_some u)) more
  if_read None u front more =
      ap (λ (x : List Notice). (front ++ x) ++ more) (open_none u _) ∙ append_assoc front _ more
  if_read (Some b) None front more = append_assoc front [] more
  if_read (Some b) (Some n) front more = append_assoc front _ more

  closed : (a more : List Notice) (ifs : List OpenIf) (signs : List Sign) → AreNoticed (length a) ifs
      → woven 0 (a ++ with_notice line (say_unless (are_some (parts_of ifs)) (Malformed cause.StrayEndif at)) []) (drop 1 ifs) signs ++ more
      ≡ woven 0 a ifs (sign.closes ∷ signs) ++ with_notice line (say_unless (are_some (parts_of ifs)) (Malformed cause.StrayEndif at)) more
  closed a more [] signs h = append_assoc a _ more
  closed a more (p ∷ ifs) signs h =
      let k = p.noticed in
      let kept : AreNoticed (length (take k a)) ifs = subst (λ (n : ℕ). AreNoticed n ifs) (sym (length-take-le k a h.0)) h.1 in
      ap (λ (x : List Notice). woven 0 x ifs signs ++ more) (append-nil a ∙ sym (take-append-drop k a))
      ∙ ap (λ (x : List Notice). x ++ more) (woven_more 0 (take k a) (drop k a) ifs signs kept)
      ∙ ap (λ (x : List Notice). (x ++ drop k a) ++ more) (sym (woven_closes 0 (take k a) ifs signs))

  pub directive_behind : (d : DirectiveMeaning) (ifs : List OpenIf) (signs : List Sign) (a more : List Notice) (noticed : ℕ) → length a ≡ noticed → AreNoticed noticed ifs
      → woven 0 (a ++ with_notice line (directive_line names (parts_of ifs) false at d) []) (ifs_behind names line at noticed d ifs) signs ++ more
      ≡ woven 0 a ifs (directive_sign names d ∷ signs) ++ with_notice line (directive_line names (parts_of ifs) (is_unclosed signs) at d) more
  directive_behind (opens c) ifs signs a more noticed e h =
      let o = condition_of names c in
      ap (λ (x : List Notice). x ++ more) (new_part a (with_notice line (if_line at o false) []) (open_if (unwrap_or o false) noticed (unclosed_of line at o) ifs) ifs signs (sym e))
      ∙ if_read o (inner 0 signs) (woven 1 a ifs signs) more
      ∙ ap (λ (x : List Notice). x ++ with_notice line (if_line at o (is_unclosed signs)) more) (sym (woven_opens 0 a ifs (unwrap_or o false) signs))
  directive_behind divides ifs signs a more noticed e h =
      let g = say_unless (takes_else (parts_of ifs)) (Malformed cause.StrayElse at) in
      ap (λ (x : List Notice). x ++ more) (woven_divided 0 (a ++ with_notice line g []) ifs signs)
      ∙ said_behind line g a more ifs signs (subst (λ (n : ℕ). AreNoticed n ifs) (sym e) h)
      ∙ ap (λ (x : List Notice). x ++ with_notice line g more) (sym (woven_divides 0 a ifs signs))
  directive_behind closes ifs signs a more noticed e h = closed a more ifs signs (subst (λ (n : ℕ). AreNoticed n ifs) (sym e) h)
  directive_behind includes ifs signs a more noticed e h =
      plain_behind line (directive_line names (parts_of ifs) false at includes) a more ifs signs (subst (λ (n : ℕ). AreNoticed n ifs) (sym e) h)

  ifs_after : (noticed : ℕ) (d : DirectiveMeaning) (ifs : List OpenIf) → parts_of (ifs_behind names line at noticed d ifs) ≡ after (parts_of ifs) (directive_sign names d)
  ifs_after noticed (opens c) ifs = refl
  ifs_after noticed divides ifs = divided_parts ifs
  ifs_after noticed closes [] = refl
  ifs_after noticed closes (p ∷ ifs) = refl
  ifs_after noticed includes ifs = refl

  pub directive_parts : (noticed : ℕ) (d : DirectiveMeaning) (ifs : List OpenIf) (before : List Sign) → parts_of ifs ≡ parts_over before
      → parts_of (ifs_behind names line at noticed d ifs) ≡ parts_over (before ++ directive_sign names d ∷ [])
  directive_parts noticed d ifs before e =
      ifs_after noticed d ifs ∙ ap (λ (l : List Part). after l (directive_sign names d)) e ∙ sym (parts_behind before (directive_sign names d))

  pub directive_opened : (noticed : ℕ) (d : DirectiveMeaning) (ifs : List OpenIf) → AreNoticed noticed ifs → AreNoticed noticed (ifs_behind names line at noticed d ifs)
  directive_opened noticed (opens c) ifs h = (omega arith, h)
  directive_opened noticed divides [] h = tt
  directive_opened noticed divides (p ∷ ifs) h = h
  directive_opened noticed closes [] h = tt
  directive_opened noticed closes (p ∷ ifs) h = noticed_more p.noticed noticed ifs h.0 h.1
  directive_opened noticed includes ifs h = h

  -- a directive gives no entry
  say_entry : (fine : Bool) (f : Finding) (more : List Entry) → with_entry (unnumbered_given (say_unless fine f)) more ≡ more
  say_entry true f more = refl
  say_entry false f more = refl

  said_entry : (fine : Bool) (f : Finding) (more : List Entry) → more ≡ with_entry (say_unless fine f) more
  said_entry true f more = refl
  said_entry false f more = refl

  if_entry : (o : Option Bool) (u : Bool) (more : List Entry) → with_entry (unnumbered_given (if_line at o false)) more ≡ with_entry (if_line at o u) more
  if_entry None u more = refl
  if_entry (Some b) u more = said_entry (not u) _ more

  live_entry : (live : Bool) (f : Finding) (more : List Entry) → with_entry (unnumbered_given (if live then Said f else Nothing)) more ≡ with_entry (if live then Said f else Nothing) more
  live_entry true f more = refl
  live_entry false f more = refl

  pub directive_entry : (d : DirectiveMeaning) (parts : List Part) (u : Bool) (more : List Entry)
      → with_entry (unnumbered_given (directive_line names parts false at d)) more ≡ with_entry (directive_line names parts u at d) more
  directive_entry (opens c) parts u more = if_entry (condition_of names c) u more
  directive_entry divides parts u more = say_entry (takes_else parts) _ more ∙ said_entry (takes_else parts) _ more
  directive_entry closes parts u more = say_entry (are_some parts) _ more ∙ said_entry (are_some parts) _ more
  directive_entry includes parts u more = live_entry (are_live parts) _ more
