use Rattle.std.proofs.Common.{◌≡◌, None, arith, subst, ◌-◌}
use Rattle.html_tree.specs.declared.spelled.SpelledName.{SpelledName}
use Rattle.html_tree.specs.Counts.{count_in, IsCountedAs}
use Rattle.html_tree.specs.Spelled.{lower_of}
use Rattle.html_tree.proofs.Counts.{counted_by_insert, counted_by_update}
use Rattle.html_tree.proofs.chain.count_less.Goals as goal

pub returns-then-count-gt1 : goal.returns-then-count-gt1
returns-then-count-gt1 c =
    let key : SpelledName = record { spelled = c.args.name } in
    subst (λ n. IsCountedAs c.args.counts.now c.insert.new.self (lower_of key) (n - 1)) c.count_of-count.ensures
    (counted_by_insert c.args.counts.now c.insert.new.self key (c.count_of-count.result - 1) c.insert.result c.insert.ensures.updates c.insert.ensures.absent c.requires)

pub returns-else-count-gt1 : goal.returns-else-count-gt1
returns-else-count-gt1 c =
    let key : SpelledName = record { spelled = c.args.name } in
    let none : 0 ≡ count_in c.args.counts.now (lower_of key) - 1 = omega (arith, c.count_of-count.ensures, c.if-count-gt1.false) in
    subst (IsCountedAs c.args.counts.now c.remove.new.self (lower_of key)) none
    (counted_by_update c.args.counts.now c.remove.new.self key None c.remove.ensures.updates)
