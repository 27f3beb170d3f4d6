use Rattle.std.proofs.Common.{◌&&◌, ap₂, sym, ◌∙◌}
use Rattle.cos_patterns.specs.Found.{pattern_found}
use Rattle.selector_meaning.specs.Meaning.{is_named, is_named_by}
use Rattle.selector_match.proofs.Shown.{attr_found}
use Rattle.selector_match.proofs.plain.has_literal_attr.Goals as goal

pub returns-then-is_literal_if_any : goal.returns-then-is_literal_if_any
returns-then-is_literal_if_any c =
    attr_found (λ a. is_named pattern_found c.args.name.now a.0 && is_named_by pattern_found c.args.value.now a.1)
    c.attrs_of-attr-items.result.now _ c.loop-attr.attr-index c.attr-item.result c.attrs_of-attr-items.ensures c.loop-attr-test.true c.attr-item.is
    (sym (ap₂ (λ n v. is_named pattern_found c.args.name.now n && is_named_by pattern_found c.args.value.now v) c.as_str.ensures c.as_str-then-is_literal.ensures)
    ∙ ap₂ ◌&&◌ (sym c.is_literal.ensures ∙ c.if-is_literal.true) (sym c.is_literal_if_any.ensures ∙ c.if-is_literal_if_any.true))
