use Rattle.std.proofs.Common.{◌∙◌, ap, sym}
use Rattle.selector_tree.specs.declared.selector.AttrOp.{AttrOp}
use Rattle.selector_meaning.specs.Texts.{spelled, fits}
use Rattle.selector_match.proofs.Values.{word_spelled}
use Rattle.selector_match.proofs.texts.fits_bytes.Goals as goal

pub returns-in-Word : goal.returns-in-Word
returns-in-Word c =
    c.has_word.ensures ∙ word_spelled c.args.ignore_case (spelled c.args.ignore_case c.args.wanted.now) c.args.value.now
    ∙ ap (λ (op : AttrOp). fits op (spelled c.args.ignore_case c.args.wanted.now) (spelled c.args.ignore_case c.args.value.now)) (sym c.in-Word.is)
