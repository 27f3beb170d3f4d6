use Rattle.std.proofs.Common.{◌∙◌, ◌+◌, ℕ, List, length, ap, subst, sym}
use Rattle.std.specs.List.{list_any}
use Rattle.filter_scope.proofs.Reading.{EndBy, first_ends, others_end, parts_end}
use Rattle.list_lines.specs.Meanings.{besides_of}
use Rattle.list_lines.specs.Options.{besides, both, is_elem, is_generic, is_specific}
use Rattle.list_lines.proofs.LineLaws.{hosts_more}
use Rattle.list_lines.proofs.OptionLaws.{any_option, next_option}
use Rattle.list_lines.proofs.options.read_options.Goals as goal

pub options-init : goal.options-init
options-init c = record {
  elem_left = ap (λ (l : List (ℕ × List ℕ)). list_any (λ o. is_elem o.1) l) c.new-parts.ensures;
  generic_left = ap (λ (l : List (ℕ × List ℕ)). list_any (λ o. is_generic o.1) l) c.new-parts.ensures;
  specific_left = ap (λ (l : List (ℕ × List ℕ)). list_any (λ o. is_specific o.1) l) c.new-parts.ensures;
  domain_left = ap besides c.new-parts.ensures;
  within = subst (EndBy (length c.args.text.now)) (sym c.new-parts.ensures) (parts_end 44 c.args.text.now);
  ends = tt;
}

pub options-preserved : goal.options-preserved
options-preserved c =
    let inv = c.options.invariant in
    let next = c.in-Some.ensures in
    let o : ℕ × List ℕ = (c.in-Some.part.place, c.in-Some.part.text.now) in
    let ends = first_ends (length c.args.text.now) o _ _ next inv.within in
    record {
      elem_left = any_option (λ p. is_elem p.1) c.options.hide.elem _ o _ _ _ next c.with_option-hide.ensures.elem inv.elem_left;
      generic_left = any_option (λ p. is_generic p.1) c.options.hide.generic _ o _ _ _ next c.with_option-hide.ensures.generic inv.generic_left;
      specific_left = any_option (λ p. is_specific p.1) c.options.hide.specific _ o _ _ _ next c.with_option-hide.ensures.specific inv.specific_left;
      domain_left = next_option (besides_of c.options.domain) _ o _ _ _ next (c.with_domain-domain.ensures.domain ∙ ap (both (besides_of c.options.domain)) c.domain_of.ensures.domain) inv.domain_left;
      within = others_end (length c.args.text.now) o _ _ next inv.within;
      ends = c.with_domain-domain.ensures.within (length c.args.text.now) inv.ends (hosts_more _ (length c.args.text.now) c.domain_of.result ends c.domain_of.ensures.within);
    }
