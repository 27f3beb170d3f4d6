use Rattle.std.proofs.Common.{sym, ap, ◌∙◌}
use Rattle.std.specs.Str.{bytes_eq}
use Rattle.html_tree.proofs.FirstNames.{name_found, name_other}
use Rattle.html_tree.proofs.attributes.is_name_among.Goals as goal

pub returns-then-eq : goal.returns-then-eq
returns-then-eq c =
    let at = c.as_str.ensures ∙ ap (λ a. a.0) c.attr-item.is in
    sym (sym c.loop-attr.invariant ∙ name_found c.args.name.now c.args.attrs.now c.loop-attr.attr-index c.attr-item.result c.loop-attr-test.true (ap (bytes_eq c.args.name.now) (sym at) ∙ sym c.if-eq.ensures))

pub loop-attr-preserved : goal.loop-attr-preserved
loop-attr-preserved c =
    let at = c.as_str.ensures ∙ ap (λ a. a.0) c.attr-item.is in
    name_other c.args.name.now c.args.attrs.now c.loop-attr.attr-index c.attr-item.result c.loop-attr-test.true (ap (bytes_eq c.args.name.now) (sym at) ∙ sym c.if-eq.ensures)
    ∙ c.loop-attr.invariant
