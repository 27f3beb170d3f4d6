use Rattle.std.proofs.Common.{ap, ◌∙◌}
use Rattle.std.specs.Prelude.{unwrap_or}
use Rattle.dependency_sets.specs.Reaching.{is_place}
use Rattle.dependency_sets.proofs.Touched.{parent_place}
use Rattle.dependency_sets.proofs.touching.parent_of.Goals as goal

pub returns-clause-place : goal.returns-clause-place
returns-clause-place c =
    ap (is_place c.args.dom.now) (c.unwrap_or.ensures ∙ ap (λ o. unwrap_or o 0) c.parent.ensures)
    ∙ parent_place c.args.dom.now c.is_tree.ensures c.args.n c.requires
