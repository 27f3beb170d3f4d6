use Rattle.std.proofs.Common.{sym, ◌∙◌}
use Rattle.selector_meaning.specs.Texts.{spelled}
use Rattle.selector_match.proofs.Values.{part_here}
use Rattle.selector_match.proofs.texts.holds_part.Goals as goal

pub returns-then-begins : goal.returns-then-begins
returns-then-begins c =
    sym (c.places.invariant ∙ part_here (spelled c.args.ignore_case c.args.wanted.now) (spelled c.args.ignore_case c.places.rest.now) (sym c.begins.ensures ∙ c.if-begins.true))
