use Rattle.std.proofs.Common.{◌≡◌, ◌++◌, drop}
use Rattle.std.specs.Option.{option_copied}
use Rattle.hostname_buckets.specs.Active.{active_by}
use Rattle.hostname_buckets.proofs.Walking.{walk}
use Rattle.hostname_buckets.proofs.store.Store.active.Given as goal

abbrev pub invariant-numbers : goal.invariant-numbers
invariant-numbers l =
    let act = active_by l.off l.self l.page.host (option_copied l.rest) in
    l.active ++ walk act l.self l.next (drop l.number-index l.number-items) ≡ walk act l.self 0 l.number-items
