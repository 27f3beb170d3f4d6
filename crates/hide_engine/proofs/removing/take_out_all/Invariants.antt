use Rattle.std.proofs.Common.{◌≡◌, map, take}
use Rattle.retest_laws.specs.Pending.{Pairs, either}
use Rattle.engine_meaning.specs.Rounds.{without_each}
use Rattle.hide_engine.specs.Changes.{dirtied_without}
use Rattle.hide_engine.specs.Ready.{state_of, IsRight, IsGiven}
use Rattle.hide_engine.proofs.removing.take_out_all.Given as goal

-- the rows so far are taken out and noted
abbrev pub invariant-loop-row : goal.invariant-loop-row
invariant-loop-row l =
    record {
      page : l.page ≡ record l.initial.page { tree = without_each l.initial.page.tree (map (λ row. row.node) (take l.row-index l.rows)) };
      right : IsRight l.page l.filters l.marks l.pending;
      given : (given : Pairs) → IsGiven l.filters l.initial.pending given →
          IsGiven l.filters l.pending (either given (dirtied_without (map (λ row. row.node) (take l.row-index l.rows)) (state_of l.initial.page l.filters)));
    }
