use Rattle.std.proofs.Common.{◌∙◌, ◌-◌, ap, List, ℕ, subst, refl}
use Rattle.page_tree.proofs.Walk.{walk_falls, walk_stays}
use Rattle.std.specs.Str.{IsUtf8}
use Rattle.page_tree.specs.Facts.{text_length}
use Rattle.page_tree.specs.Words.{utf16_length}
use Rattle.selector_match.specs.Asked.{below, own_text}
use Rattle.selector_match.proofs.Under.{once_below, top_in, step_in, walk_start, units_start, units_go_on, end_units, by_left}
use Rattle.selector_match.proofs.below.has_units.Goals as goal

pub nodes-init : goal.nodes-init
nodes-init c = record {
  units = units_start c.args.dom.now c.is_tree.ensures c.args.x c.requires c.next_below-at.result c.next_below-at.ensures c.args.wanted;
  there = (walk_start c.args.dom.now c.is_tree.ensures c.args.x c.requires c.next_below-at.result c.next_below-at.ensures).1;
}

pub next_below-at-requires-clause-there : goal.next_below-at-requires-clause-there
next_below-at-requires-clause-there c = top_in c.args.dom.now c.is_tree.ensures c.args.x c.requires

pub next_below-at-requires-in-Some-clause-there : goal.next_below-at-requires-in-Some-clause-there
next_below-at-requires-in-Some-clause-there c =
    step_in c.args.dom.now c.is_tree.ensures c.args.x c.requires c.nodes.at c.in-Some.n c.in-Some.is c.nodes.invariant.there

pub nodes-smaller : goal.nodes-smaller
nodes-smaller c =
    walk_falls (below c.args.dom.now c.args.x) (once_below c.args.dom.now c.is_tree.ensures c.args.x c.requires) c.nodes.at c.next_below-at-in-Some.result c.in-Some.n c.in-Some.is
    c.nodes.invariant.there c.next_below-at-in-Some.ensures

pub nodes-preserved : goal.nodes-preserved
nodes-preserved c = record {
  units =
      units_go_on c.args.dom.now c.is_tree.ensures c.args.x c.requires c.nodes.at c.next_below-at-in-Some.result c.in-Some.n c.in-Some.is c.nodes.invariant.there
      c.next_below-at-in-Some.ensures c.args.wanted c.nodes.left c.units_left-left.result c.nodes.invariant.units (subst IsUtf8 c.own_text.ensures c.own_text.utf8)
      (c.units_left-left.ensures ∙ ap (λ (l : List ℕ). c.nodes.left - utf16_length l) c.own_text.ensures);
  there =
      walk_stays (below c.args.dom.now c.args.x) (once_below c.args.dom.now c.is_tree.ensures c.args.x c.requires) c.nodes.at c.next_below-at-in-Some.result c.in-Some.n c.in-Some.is
      c.nodes.invariant.there c.next_below-at-in-Some.ensures;
}

pub returns : goal.returns
returns c =
    by_left c.args.wanted (text_length c.args.dom.now c.args.x) c.nodes.left _
    (end_units (own_text c.args.dom.now) c.nodes.at (below c.args.dom.now c.args.x) c.args.wanted (text_length c.args.dom.now c.args.x) c.nodes.left c.in_default.is c.nodes.invariant.units)
    refl
