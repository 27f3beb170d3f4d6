use Rattle.std.proofs.Common.{not, ◌==◌, ◌&&◌, take}
use Rattle.page_tree.specs.Directions.{is_in}
use Rattle.dependency_sets.specs.Reaching.{Gains}
use Rattle.dependency_sets.proofs.touching.add_elements.Given as goal

abbrev pub invariant-loop-n : goal.invariant-loop-n
invariant-loop-n l = Gains (λ x. not (x == 0) && is_in (take l.n-index l.places) x) l.initial.found.items l.found.items
