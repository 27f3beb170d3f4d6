use Rattle.std.proofs.Common.{◌≡◌, ◌-◌, ◌≤◌, ◌++◌, length, IsTrue}
use Rattle.cos_outside.proofs.whole.take_rest.Given as goal

-- so far all bytes that were taken are kept, and they are within the limit
abbrev pub invariant-pieces : goal.invariant-pieces
invariant-pieces g l =
    let shelf = g.S.Shelf in
    record {
      within : length l.bytes ≤ l.limit;
      told : shelf.tells l.shelf ≡ shelf.tells l.fn.shelf;
      same_files : shelf.files l.shelf ≡ shelf.files l.fn.shelf;
      same_names : shelf.begun l.shelf ≡ shelf.begun l.fn.shelf;
      held : IsTrue (shelf.in_hand l.shelf);
      taken : IsTrue (shelf.tells l.fn.shelf) → shelf.rest l.fn.shelf ≡ l.bytes ++ shelf.rest l.shelf;
      later : shelf.faults l.fn.shelf ≤ shelf.faults l.shelf;
    }

-- the room that is left: each turn but the last takes at least one byte
abbrev pub decreases-pieces : goal.decreases-pieces
decreases-pieces g l = l.limit - length l.bytes
