use Rattle.std.proofs.Common.{◌≡◌, length}
use Rattle.selector_meaning.specs.Texts.{spelled, has_part}
use Rattle.selector_match.proofs.texts.holds_part.Given as goal

abbrev pub invariant-places : goal.invariant-places
invariant-places l =
    has_part (spelled l.ignore_case l.wanted) (spelled l.ignore_case l.value) ≡ has_part (spelled l.ignore_case l.wanted) (spelled l.ignore_case l.rest)

abbrev pub decreases-places : goal.decreases-places
decreases-places l = length l.rest
