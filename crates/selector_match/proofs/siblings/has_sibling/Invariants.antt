use Rattle.std.proofs.Common.{◌≡◌, length}
use Rattle.page_tree.specs.Standings.{name}
use Rattle.selector_meaning.specs.Meaning.{of_same_name}
use Rattle.selector_meaning.specs.Texts.{is_empty}
use Rattle.selector_match.specs.Asked.{IsElement, side}
use Rattle.selector_match.proofs.siblings.has_sibling.Given as goal

abbrev pub invariant-siblings : goal.invariant-siblings
invariant-siblings l = record {
  element : IsElement l.dom l.at;
  same : is_empty (of_same_name l.of_name (name l.dom l.x) (side l.dom l.later l.x))
      ≡ is_empty (of_same_name l.of_name (name l.dom l.x) (side l.dom l.later l.at));
}

abbrev pub decreases-siblings : goal.decreases-siblings
decreases-siblings l = length (side l.dom l.later l.at)
