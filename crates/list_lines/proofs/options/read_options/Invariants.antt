use Rattle.std.proofs.Common.{◌≡◌, ◌||◌, length}
use Rattle.std.specs.List.{list_any}
use Rattle.cos_source.specs.Parts.{parts, placed}
use Rattle.filter_scope.proofs.Reading.{EndBy}
use Rattle.list_lines.specs.Meanings.{besides_of, HostsBy}
use Rattle.list_lines.specs.Options.{besides, both, is_elem, is_generic, is_specific}
use Rattle.list_lines.proofs.options.read_options.Given as goal

abbrev pub invariant-options : goal.invariant-options
invariant-options l = record {
  elem_left : (l.hide.elem || list_any (λ o. is_elem o.1) l.parts) ≡ list_any (λ o. is_elem o.1) (placed 0 (parts 44 l.text));
  generic_left : (l.hide.generic || list_any (λ o. is_generic o.1) l.parts) ≡ list_any (λ o. is_generic o.1) (placed 0 (parts 44 l.text));
  specific_left : (l.hide.specific || list_any (λ o. is_specific o.1) l.parts) ≡ list_any (λ o. is_specific o.1) (placed 0 (parts 44 l.text));
  domain_left : both (besides_of l.domain) (besides l.parts) ≡ besides (placed 0 (parts 44 l.text));
  within : EndBy (length l.text) l.parts;
  ends : HostsBy (length l.text) l.domain;
}

abbrev pub decreases-options : goal.decreases-options
decreases-options l = length l.parts
