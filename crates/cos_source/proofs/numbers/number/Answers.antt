use Rattle.std.proofs.Common.{ap, sym, ◌∙◌}
use Rattle.cos_source.specs.Numbers.{is_digits}
use Rattle.cos_source.proofs.Numerals.{not_parsed}
use Rattle.cos_source.proofs.numbers.number.Goals as goal

pub returns-in_default : goal.returns-in_default
returns-in_default c =
    let digits = ap is_digits (sym c.as_bytes.ensures.value) ∙ sym c.if-not-is_digits.ensures in
    not_parsed _ c.args.limit c.args.text.now digits c.in_default.field-0 c.in_default.ensures.value.0 c.ranges.limit.fits
