use Rattle.std.proofs.Common.{◌≡◌, ◌++◌, map, length}
use Rattle.std.specs.Vec.Iter.{into_iter_items, into_iter_len}
use Rattle.remove_rounds.specs.Numbered.{in_round}
use Rattle.remove_rounds.proofs.add_round.Given as goal

-- the rows so far, and those that are left
abbrev pub invariant-loop-row : goal.invariant-loop-row
invariant-loop-row l =
    record {
      added : l.taken ++ map (in_round l.number) (into_iter_items l.row-iterator) ≡ l.fn.taken ++ map (in_round l.number) l.fn.rows;
      left : into_iter_len l.row-iterator ≡ length (into_iter_items l.row-iterator);
    }
