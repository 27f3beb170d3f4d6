use Rattle.std.proofs.Common.{◌∙◌, arith, sym}
use Rattle.host_names.proofs.Walks.{goes_on, none_left, some_left, stops}
use Rattle.host_names.proofs.suffixes.Suffixes.longest.Goals as goal

pub returns-then-has_rule : goal.returns-then-has_rule
returns-then-has_rule c =
    stops c.args.exceptions c.args.self.now _ c.ends.count c.ends.ends c.in-Some.end.now c.next.new.self c.ends.invariant c.in-Some.ensures (sym c.has_rule.ensures ∙ c.if-has_rule.true)

pub overflow_sub-count : goal.overflow_sub-count
overflow_sub-count c =
    let some = some_left c.args.exceptions c.args.self.now _ c.ends.count c.ends.ends c.in-Some.end.now c.next.new.self c.ends.invariant c.in-Some.ensures in
    omega (arith, some)

pub ends-preserved : goal.ends-preserved
ends-preserved c =
    goes_on c.args.exceptions c.args.self.now _ c.ends.count c.ends.ends c.in-Some.end.now c.next.new.self c.ends.invariant c.in-Some.ensures (sym c.has_rule.ensures ∙ c.if-has_rule.false)

pub returns : goal.returns
returns c = none_left c.args.exceptions c.args.self.now _ c.ends.count c.ends.ends c.ends.invariant c.in_default.ensures.0
