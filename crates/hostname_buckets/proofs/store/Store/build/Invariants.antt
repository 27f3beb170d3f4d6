use Rattle.std.proofs.Common.{◌≡◌, ◌++◌}
use Rattle.std.specs.Vec.Iter.{into_iter_items}
use Rattle.hostname_buckets.specs.Active.{entries_of}
use Rattle.hostname_buckets.specs.Held.{AreEntered}
use Rattle.hostname_buckets.proofs.store.Store.build.Given as goal

abbrev pub invariant-lists : goal.invariant-lists
invariant-lists l = record {
  entries : l.entries ++ entries_of (into_iter_items l.list-iterator) ≡ entries_of l.fn.lists;
  entered : AreEntered l.tables l.entries;
}
