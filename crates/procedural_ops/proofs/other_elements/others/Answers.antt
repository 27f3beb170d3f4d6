use Rattle.std.proofs.Common.{◌≡◌, ◌++◌, ℕ, List, true, filter, ap, sym, ◌∙◌}
use Rattle.page_tree.specs.Standings.{all}
use Rattle.page_tree.specs.Directions.{is_in}
use Rattle.selector_meaning.specs.Meaning.{is_other}
use Rattle.selector_match.specs.Walks.{elements_behind, order}
use Rattle.selector_match.proofs.Walking.{from_one, from_found, all_behind, some_of}
use Rattle.procedural_ops.proofs.other_elements.others.Goals as goal

pub elements-init : goal.elements-init
elements-init c =
    let t = c.args.dom.now in
    let l : from_one (elements_behind t (order t)) c.next_element-at.result ≡ all t =
    sym (from_found (elements_behind t (order t)) (elements_behind t (order t) 0) c.next_element-at.result c.next_element-at.ensures.first) ∙ all_behind t c.is_tree.ensures in
    record {
      found =
          ap (λ (found : List ℕ). found ++ filter (is_other t c.args.members.now) (from_one (elements_behind t (order t)) c.next_element-at.result)) c.new-found.ensures
          ∙ ap (filter (is_other t c.args.members.now)) l;
      element = λ m e. some_of (λ n. is_in (all t) n ≡ true) c.next_element-at.result m c.next_element-at.ensures.element e;
      there = λ m e. some_of (λ n. is_in (order t) n ≡ true) c.next_element-at.result m c.next_element-at.ensures.there e;
    }
