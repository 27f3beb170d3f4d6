use Rattle.std.proofs.Common.{◌≡◌, false, length}
use Rattle.page_tree.specs.Directions.{is_in}
use Rattle.procedural_ops.specs.Reaching.{reached}
use Rattle.retest.proofs.look.may_lead.Given as goal

-- what the steps that are left don't lead to, the whole chain doesn't
abbrev pub invariant-tests : goal.invariant-tests
invariant-tests l =
    is_in (reached l.context.dom.now l.context.path.now l.left) l.x ≡ false →
    is_in (reached l.context.dom.now l.context.path.now l.fn.steps) l.x ≡ false

abbrev pub decreases-tests : goal.decreases-tests
decreases-tests l = length l.left
