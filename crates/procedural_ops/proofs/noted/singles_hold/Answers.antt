use Rattle.std.proofs.Common.{sym, ◌∙◌}
use Rattle.procedural_ops.specs.declared.runs.Cost.TheVariants.{Names, Places, Texts, Patterns}
use Rattle.procedural_ops.proofs.Keeping as keeping
use Rattle.procedural_ops.proofs.noted.singles_hold.Goals as goal

pub returns-then-not-branch-clause-answer : goal.returns-then-not-branch-clause-answer
returns-then-not-branch-clause-answer g c = sym (keeping.cost_fails c.args.inquiry.now.context.dom.now c.args.inquiry.now.context.path.now c.args.x c.args.run.now Names (sym c.in_ok-all_of_cost.ensures.answer ∙ c.if-not-branch.true))

pub returns-then-not-branch-2-clause-answer : goal.returns-then-not-branch-2-clause-answer
returns-then-not-branch-2-clause-answer g c = sym (keeping.cost_fails c.args.inquiry.now.context.dom.now c.args.inquiry.now.context.path.now c.args.x c.args.run.now Places (sym c.in_ok-all_of_cost-2.ensures.answer ∙ c.if-not-branch-2.true))

pub returns-then-not-branch-3-clause-answer : goal.returns-then-not-branch-3-clause-answer
returns-then-not-branch-3-clause-answer g c = sym (keeping.cost_fails c.args.inquiry.now.context.dom.now c.args.inquiry.now.context.path.now c.args.x c.args.run.now Texts (sym c.in_ok-all_of_cost-3.ensures.answer ∙ c.if-not-branch-3.true))

pub returns-then-not-branch-4-clause-answer : goal.returns-then-not-branch-4-clause-answer
returns-then-not-branch-4-clause-answer g c = sym (keeping.cost_fails c.args.inquiry.now.context.dom.now c.args.inquiry.now.context.path.now c.args.x c.args.run.now Patterns (sym c.in_ok-all_of_cost-4.ensures.answer ∙ c.if-not-branch-4.true))

pub returns-clause-answer : goal.returns-clause-answer
returns-clause-answer g c =
    sym (keeping.all_costs c.args.inquiry.now.context.dom.now c.args.inquiry.now.context.path.now c.args.x c.args.run.now
    (sym c.in_ok-all_of_cost.ensures.answer ∙ c.if-not-branch.false)
    (sym c.in_ok-all_of_cost-2.ensures.answer ∙ c.if-not-branch-2.false)
    (sym c.in_ok-all_of_cost-3.ensures.answer ∙ c.if-not-branch-3.false)
    (sym c.in_ok-all_of_cost-4.ensures.answer ∙ c.if-not-branch-4.false))
