use Rattle.std.proofs.lemmas.Str.Pattern.{contains_text}
use Rattle.selector_match.proofs.Values.{part_is}
use Rattle.selector_match.proofs.texts.holds_text.Goals as goal

pub returns : goal.returns
returns c =
    part_is c.args.part.now c.args.text.now c.contains.result (contains_text c.contains.result c.args.part.now c.args.text.now c.contains.ensures.cases)
