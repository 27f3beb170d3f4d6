-- The notices of `if`s that stayed open, put among the others from the last one on.
use Rattle.std.proofs.Common.{◌≡◌, ◌∙◌, ℕ, ◌≤◌, List, [], ◌∷◌, ◌++◌, length, take, drop, reverse, refl, ap, ap₂, sym, subst}
use Rattle.std.specs.Prelude.{Option, Some, None}
use Rattle.std.proofs.lemmas.List.{append_assoc, length-take-le, reverse-append}
use Rattle.list_entries.specs.declared.notice.Notice.{Notice}
use Rattle.list_lines.specs.declared.nesting.OpenIf.{OpenIf}
use Rattle.list_lines.specs.declared.nesting.Unclosed.{Unclosed}
use Rattle.list_reader.specs.Unclosed.{with_unclosed, woven, AreNoticed}
use Rattle.list_reader.proofs.Woven.{woven_end}

unclosed_before : (u : Option Unclosed) (notices : List Notice) → with_unclosed u [] ++ notices ≡ with_unclosed u notices
unclosed_before None notices = refl
unclosed_before (Some u) notices = refl

module _ (notices after back moved final : List Notice) (ifs left : List OpenIf) (part : OpenIf) where
  pub noticed_left : ifs ≡ part ∷ left → after ≡ take part.noticed notices → AreNoticed (length notices) ifs → AreNoticed (length after) left
  noticed_left e a h =
      let k : AreNoticed (length notices) (part ∷ left) = subst (AreNoticed (length notices)) e h in
      subst (λ (n : ℕ). AreNoticed n left) (sym (ap (λ (l : List Notice). length l) a ∙ length-take-le part.noticed notices k.0)) k.1

  pub part_left : (total : List Notice) → ifs ≡ part ∷ left → after ≡ take part.noticed notices → reverse moved ≡ drop part.noticed notices ++ reverse back
      → reverse final ≡ with_unclosed part.unclosed [] ++ reverse moved → woven 0 notices ifs [] ++ reverse back ≡ total → woven 0 after left [] ++ reverse final ≡ total
  part_left total e a m f h =
      let kept = take part.noticed notices in
      let rest = drop part.noticed notices in
      let u = with_unclosed part.unclosed [] in
      ap₂ (λ (x y : List Notice). woven 0 x left [] ++ y) a (f ∙ ap (λ (x : List Notice). u ++ x) m ∙ sym (append_assoc u rest (reverse back)))
      ∙ sym (append_assoc (woven 0 kept left []) (u ++ rest) (reverse back))
      ∙ ap₂ (λ (x y : List Notice). (x ++ y) ++ reverse back) (sym (woven_end 0 kept left)) (unclosed_before part.unclosed rest)
      ∙ ap (λ (l : List OpenIf). woven 0 notices l [] ++ reverse back) (sym e) ∙ h

pub pushed_back : (moved final : List Notice) (n : Notice) → final ≡ moved ++ n ∷ [] → reverse final ≡ n ∷ reverse moved
pushed_back moved final n e = ap (λ (l : List Notice). reverse l) e ∙ reverse-append moved (n ∷ [])
