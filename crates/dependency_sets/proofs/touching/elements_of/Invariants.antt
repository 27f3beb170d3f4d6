use Rattle.std.proofs.Common.{◌≡◌, ℕ, ◌&&◌, take}
use Rattle.page_tree.specs.Directions.{is_in}
use Rattle.page_tree.specs.Standings.{all}
use Rattle.dependency_sets.proofs.touching.elements_of.Given as goal

abbrev pub invariant-loop-n : goal.invariant-loop-n
invariant-loop-n l = (x : ℕ) → is_in l.elements x ≡ (is_in (all l.dom) x && is_in (take l.n-index l.nodes) x)
