use Rattle.std.proofs.Common.{◌≡◌, ◌<◌, ◌++◌, ℕ, Some, length}
use Rattle.page_tree.specs.Facts.{text_content}
use Rattle.page_tree.proofs.Walk.{times, left_at}
use Rattle.selector_meaning.specs.Texts.{has_part}
use Rattle.selector_match.specs.Asked.{below, own_text}
use Rattle.selector_match.proofs.Under.{joined}
use Rattle.selector_match.proofs.literals.has_literal.Given as goal

abbrev pub invariant-nodes : goal.invariant-nodes
invariant-nodes l = record {
  same : has_part l.fn.literal (text_content l.dom l.x) ≡ has_part l.fn.literal (l.pending.items ++ joined (own_text l.dom) (left_at l.at (below l.dom l.x)));
  there : (k : ℕ) → l.at ≡ Some k → 0 < times k (below l.dom l.x);
}

abbrev pub decreases-nodes : goal.decreases-nodes
decreases-nodes l = length (left_at l.at (below l.dom l.x))
