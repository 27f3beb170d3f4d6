use Rattle.std.proofs.Common.{Some, subst, ◌+◌}
use Rattle.html_tree.specs.declared.spelled.SpelledName.{SpelledName}
use Rattle.html_tree.specs.Counts.{IsCountedAs}
use Rattle.html_tree.specs.Spelled.{lower_of}
use Rattle.html_tree.proofs.Counts.{counted_by_update}
use Rattle.html_tree.proofs.chain.count_more.Goals as goal

pub returns-clause-ok : goal.returns-clause-ok
returns-clause-ok c =
    let key : SpelledName = record { spelled = c.args.name } in
    subst (λ n. IsCountedAs c.args.counts.now c.insert.new.self (lower_of key) (n + 1)) c.count_of-count.ensures
    (counted_by_update c.args.counts.now c.insert.new.self key (Some (c.count_of-count.result + 1)) c.in_ok-insert.ensures.updates)
