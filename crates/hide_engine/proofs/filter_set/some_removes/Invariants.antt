use Rattle.std.proofs.Common.{◌≡◌, false, take}
use Rattle.std.specs.List.{list_any}
use Rattle.engine_meaning.specs.Filters.{is_remove}
use Rattle.hide_engine.proofs.filter_set.some_removes.Given as goal

-- none so far removes
abbrev pub invariant-loop-filter : goal.invariant-loop-filter
invariant-loop-filter l = list_any is_remove (take l.filter-index l.active) ≡ false
