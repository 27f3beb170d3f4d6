use Rattle.std.proofs.Common.{◌∙◌, ◌++◌, ap, List, ℕ}
use Rattle.page_tree.proofs.Walk.{walk_falls, walk_stays, left_at}
use Rattle.selector_match.specs.Asked.{below, own_text}
use Rattle.selector_match.proofs.Under.{once_below, top_in, step_in, walk_start, text_start, text_goes_on, end_text, joined}
use Rattle.selector_match.proofs.below.text_of.Goals as goal

pub nodes-init : goal.nodes-init
nodes-init c = record {
  text =
      ap (λ (l : List ℕ). l ++ joined (own_text c.args.dom.now) (left_at c.next_below-at.result (below c.args.dom.now c.args.x))) c.new-text.ensures
      ∙ text_start c.args.dom.now c.is_tree.ensures c.args.x c.requires c.next_below-at.result c.next_below-at.ensures;
  there = (walk_start c.args.dom.now c.is_tree.ensures c.args.x c.requires c.next_below-at.result c.next_below-at.ensures).1;
}

pub next_below-at-requires-clause-there : goal.next_below-at-requires-clause-there
next_below-at-requires-clause-there c = top_in c.args.dom.now c.is_tree.ensures c.args.x c.requires

pub next_below-at-requires-in-Some-clause-there : goal.next_below-at-requires-in-Some-clause-there
next_below-at-requires-in-Some-clause-there c =
    step_in c.args.dom.now c.is_tree.ensures c.args.x c.requires c.nodes.at c.in-Some.n c.in-Some.is c.nodes.invariant.there

pub nodes-smaller : goal.nodes-smaller
nodes-smaller c =
    walk_falls (below c.args.dom.now c.args.x) (once_below c.args.dom.now c.is_tree.ensures c.args.x c.requires) c.nodes.at c.next_below-at-in-Some.result c.in-Some.n c.in-Some.is
    c.nodes.invariant.there c.next_below-at-in-Some.ensures

pub nodes-preserved : goal.nodes-preserved
nodes-preserved c = record {
  text =
      text_goes_on c.args.dom.now c.is_tree.ensures c.args.x c.requires c.nodes.at c.next_below-at-in-Some.result c.in-Some.n c.in-Some.is c.nodes.invariant.there
      c.next_below-at-in-Some.ensures c.nodes.text c.push_str.new.self c.nodes.invariant.text
      (c.in_ok-push_str.ensures.ok ∙ ap (λ (l : List ℕ). c.nodes.text ++ l) c.own_text.ensures);
  there =
      walk_stays (below c.args.dom.now c.args.x) (once_below c.args.dom.now c.is_tree.ensures c.args.x c.requires) c.nodes.at c.next_below-at-in-Some.result c.in-Some.n c.in-Some.is
      c.nodes.invariant.there c.next_below-at-in-Some.ensures;
}

pub returns : goal.returns
returns c = end_text (own_text c.args.dom.now) c.nodes.at (below c.args.dom.now c.args.x) c.nodes.text _ c.in_default.is c.nodes.invariant.text
