use Rattle.std.proofs.Common.{ap, ◌∙◌, ◌||◌, ◌&&◌, ◌==◌, not}
use Rattle.page_tree.specs.Directions.{is_in}
use Rattle.dependency_sets.proofs.Members.{on_ok}
use Rattle.dependency_sets.proofs.Touched.{under_is}
use Rattle.dependency_sets.proofs.touching.add_under.Goals as goal

pub returns : goal.returns
returns c =
    on_ok c.add_elements.result
    (λ g x.
    g x
    ∙ ap (λ b. is_in c.args.found.now.items x || b)
    (ap (λ l. not (x == 0) && is_in l x) c.as_slice.ensures
    ∙ under_is c.args.dom.now c.is_tree.ensures c.args.tops.now c.in_ok-reached.reached c.close.new.found c.in_ok-reached.ensures c.in_ok-close.ensures x))
    c.add_elements.ensures
