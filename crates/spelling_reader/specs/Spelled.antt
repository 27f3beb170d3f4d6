-- What a text is read as before any pattern is asked for.
use Rattle.std.specs.Prelude.{Result}
use Rattle.selector_spelling.specs.declared.finding.Cause.TheVariants as cause
use Rattle.selector_spelling.specs.declared.finding.Finding.{Finding}
use Rattle.selector_spelling.specs.declared.reading.Chains.{Chains}
use Rattle.selector_spelling.specs.Bytes.{Bytes}
use Rattle.selector_spelling.specs.Scan.{bare, unbalanced, too_nested}
use Rattle.selector_spelling.specs.Texts.{malformed_at, selector_of}

abbrev pub spelled : Bytes → Result Chains Finding
spelled text =
    malformed_at cause.Unbalanced (unbalanced bare 0 0 text)
    (malformed_at cause.TooNested (too_nested bare 0 text) (selector_of text))
