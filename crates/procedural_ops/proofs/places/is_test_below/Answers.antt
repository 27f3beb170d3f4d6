use Rattle.std.proofs.Common.{List, All, subst, ◌∙◌}
use Rattle.selector_tree.specs.declared.selector.Step.{Step}
use Rattle.procedural_ops.specs.Blocked.{BeginsBelow}
use Rattle.procedural_ops.proofs.places.is_test_below.Goals as goal

pub returns-in-Has : goal.returns-in-Has
returns-in-Has c = λ e.
    (c.in-Has.selector, c.in-Has.is, subst (λ (l : List (List Step)). All BeginsBelow l) (c.as_slice.ensures ∙ c.get.ensures) (c.all_begin_below.ensures e))
