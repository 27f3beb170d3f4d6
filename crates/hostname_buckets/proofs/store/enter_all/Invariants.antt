use Rattle.std.proofs.Common.{◌≡◌, ◌++◌}
use Rattle.std.specs.Vec.Iter.{into_iter_items}
use Rattle.hostname_buckets.specs.Held.{AreEntered}
use Rattle.hostname_buckets.proofs.store.enter_all.Given as goal

abbrev pub invariant-entries : goal.invariant-entries
invariant-entries l = record {
  entries : l.entries ++ into_iter_items l.entry-iterator ≡ l.fn.entries ++ l.fn.more;
  entered : AreEntered l.tables l.entries;
}
