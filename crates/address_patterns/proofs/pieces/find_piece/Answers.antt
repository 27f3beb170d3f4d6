use Rattle.std.proofs.Common.{◌∙◌, sym}
use Rattle.address_patterns.proofs.Shorter.{first_tail}
use Rattle.address_patterns.proofs.pieces.find_piece.Goals as goal

pub returns-then-is_some : goal.returns-then-is_some
returns-then-is_some c =
    first_tail c.args.at_end c.args.pattern.now c.places.address.now c.piece-found.result (sym c.is_some.ensures ∙ c.if-is_some.true) c.piece-found.ensures
    ∙ sym c.places.invariant
