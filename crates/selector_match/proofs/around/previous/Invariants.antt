use Rattle.std.proofs.Common.{◌≡◌, ◌<◌, ℕ, Some}
use Rattle.page_tree.specs.Forest.{count}
use Rattle.page_tree.specs.Standings.{before}
use Rattle.selector_match.proofs.SiblingLaws.{back_from, back_left}
use Rattle.selector_match.proofs.around.previous.Given as goal

abbrev pub invariant-nodes : goal.invariant-nodes
invariant-nodes l = record {
  same : before l.dom l.x ≡ back_from l.dom l.at;
  there : (q : ℕ) → l.at ≡ Some q → 0 < count q l.dom.nodes;
}

abbrev pub decreases-nodes : goal.decreases-nodes
decreases-nodes l = back_left l.dom l.at
