use Rattle.std.proofs.Common.{◌∙◌, List, ℕ, length, ap, subst, sym}
use Rattle.filter_scope.specs.declared.scope.Item.{Item}
use Rattle.filter_scope.specs.Scopes.{read_parts}
use Rattle.filter_scope.proofs.Reading.{EndBy, none_before, parts_end, with_items}
use Rattle.filter_scope.proofs.scope.Scope.read.Goals as goal

pub parts-init : goal.parts-init
parts-init c = record {
  read = ap (λ (items : List Item). with_items items (read_parts c.new-parts.result)) c.new-items.ensures
      ∙ none_before (read_parts c.new-parts.result) ∙ ap read_parts c.new-parts.ensures;
  within = subst (EndBy (length c.args.text.now)) (sym c.new-parts.ensures) (parts_end c.args.separator c.args.text.now);
}
