use Rattle.std.proofs.Common.{◌≡◌}
use Rattle.selector_spelling.specs.Arguments.{is_comma, watched_names}
use Rattle.std.specs.List.{slice_split}
use Rattle.spelling_reader.proofs.Watched.{names_before, names_of, left}
use Rattle.spelling_reader.proofs.pairs.watched_names.Given as goal

abbrev pub invariant-loop-next : goal.invariant-loop-next
invariant-loop-next l = names_before l.names (names_of l.next) ≡ watched_names (slice_split is_comma l.fn.argument)

abbrev pub decreases-loop-next : goal.decreases-loop-next
decreases-loop-next l = left l.next
