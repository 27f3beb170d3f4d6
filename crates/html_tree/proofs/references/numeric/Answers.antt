use Rattle.std.proofs.Common.{◌≡◌, ap, ◌∙◌, drop, take, min}
use Rattle.std.specs.Prelude.{slice_index}
use Rattle.html_meaning.specs.Bytes.{up_to}
use Rattle.html_meaning.specs.References as meant
use Rattle.html_tree.specs.Numerals.{radix, ends_number, past}
use Rattle.html_tree.proofs.Resolving.{numeric_found}
use Rattle.html_tree.proofs.references.numeric.Goals as goal

pub returns-then-byte-eq59 : goal.returns-then-byte-eq59
returns-then-byte-eq59 c =
    let digits = c.digits_at-digits.result in
    let inner : c.after-inner.result.now ≡ drop c.args.before c.args.bytes.now = c.after-inner.ensures in
    numeric_found c.args.base c.args.before c.args.bytes.now digits.count c.byte.result digits.value c.character.result
    (c.digits_at-digits.ensures.count ∙ ap (up_to (ends_number c.args.base)) inner) c.if-digits-gt0.true
    (c.byte.ensures ∙ ap (λ bs. slice_index bs digits.count) inner) c.if-byte-eq59.true
    (c.digits_at-digits.ensures.value ∙ ap (λ bs. min past (meant.number (radix c.args.base) 0 (take digits.count bs))) inner) c.character.ensures
