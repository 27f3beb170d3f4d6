use Rattle.std.proofs.Common.{◌≡◌, ◌||◌, ◌∙◌, ◌++◌, ap, ap₂, Bool, List, ℕ, Option, sym, refl}
use Rattle.std.proofs.lemmas.List.{append-nil}
use Rattle.page_tree.specs.Facts.{text_content}
use Rattle.page_tree.specs.Forest.{behind}
use Rattle.page_tree.proofs.Walk.{walk_falls, walk_stays, left_at}
use Rattle.selector_meaning.specs.Texts.{has_part}
use Rattle.selector_match.specs.Asked.{below, own_text}
use Rattle.selector_match.proofs.Under.{once_below, top_in, step_in, walk_start, text_start, text_step, joined}
use Rattle.selector_match.proofs.literals.has_literal.Goals as goal

-- one text more, where what is searched is given under other names
one_more : (w v whole pending own text later new : List ℕ) (found : Bool) → v ≡ w → text ≡ own → has_part w whole ≡ has_part w (pending ++ (own ++ later)) →
    has_part v (pending ++ (text ++ later)) ≡ (found || has_part v (new ++ later)) → has_part w whole ≡ (found || has_part w (new ++ later))
one_more w v whole pending own text later new found named shown same e =
    same ∙ sym (ap₂ (λ (x y : List ℕ). has_part x (pending ++ (y ++ later))) named shown) ∙ e
    ∙ ap (λ (x : List ℕ). found || has_part x (new ++ later)) named

pub nodes-init : goal.nodes-init
nodes-init c = record {
  same =
      ap (has_part c.args.literal.now)
      (sym (ap (λ (l : List ℕ). l ++ joined (own_text c.args.dom.now) (left_at c.next_below-at.result (below c.args.dom.now c.args.x))) c.new-pending.ensures.items
      ∙ text_start c.args.dom.now c.is_tree.ensures c.args.x c.requires c.next_below-at.result c.next_below-at.ensures));
  there = (walk_start c.args.dom.now c.is_tree.ensures c.args.x c.requires c.next_below-at.result c.next_below-at.ensures).1;
}

pub next_below-at-requires-clause-there : goal.next_below-at-requires-clause-there
next_below-at-requires-clause-there c = top_in c.args.dom.now c.is_tree.ensures c.args.x c.requires

pub returns-then-branch : goal.returns-then-branch
returns-then-branch c =
    let next : Option ℕ = behind c.in-Some.n (below c.args.dom.now c.args.x) in
    let later : List ℕ = joined (own_text c.args.dom.now) (left_at next (below c.args.dom.now c.args.x)) in
    sym (one_more c.args.literal.now c.new-finder.result (text_content c.args.dom.now c.args.x) c.nodes.pending.items (own_text c.args.dom.now c.in-Some.n)
    c.as_bytes-in-Some.result.now later c.found_by_now.new.pending.items c.in_ok-found_by_now.field-0 (c.new-finder.ensures ∙ c.as_bytes.ensures.value)
    (c.as_bytes-in-Some.ensures.value ∙ c.own_text.ensures)
    (c.nodes.invariant.same
    ∙ ap (λ (l : List ℕ). has_part c.args.literal.now (c.nodes.pending.items ++ l))
    (text_step c.args.dom.now c.is_tree.ensures c.args.x c.requires c.nodes.at next c.in-Some.n c.in-Some.is c.nodes.invariant.there refl))
    (c.in_ok-found_by_now.ensures later)
    ∙ ap (λ b. b || has_part c.args.literal.now (c.found_by_now.new.pending.items ++ later)) c.if-branch.true)

pub next_below-at-requires-in-Some-clause-there : goal.next_below-at-requires-in-Some-clause-there
next_below-at-requires-in-Some-clause-there c =
    step_in c.args.dom.now c.is_tree.ensures c.args.x c.requires c.nodes.at c.in-Some.n c.in-Some.is c.nodes.invariant.there

pub nodes-smaller : goal.nodes-smaller
nodes-smaller c =
    walk_falls (below c.args.dom.now c.args.x) (once_below c.args.dom.now c.is_tree.ensures c.args.x c.requires) c.nodes.at c.next_below-at-in-Some.result c.in-Some.n c.in-Some.is
    c.nodes.invariant.there c.next_below-at-in-Some.ensures

pub nodes-preserved : goal.nodes-preserved
nodes-preserved c = record {
  same =
      let later : List ℕ = joined (own_text c.args.dom.now) (left_at c.next_below-at-in-Some.result (below c.args.dom.now c.args.x)) in
      one_more c.args.literal.now c.new-finder.result (text_content c.args.dom.now c.args.x) c.nodes.pending.items (own_text c.args.dom.now c.in-Some.n)
      c.as_bytes-in-Some.result.now later c.found_by_now.new.pending.items c.in_ok-found_by_now.field-0 (c.new-finder.ensures ∙ c.as_bytes.ensures.value)
      (c.as_bytes-in-Some.ensures.value ∙ c.own_text.ensures)
      (c.nodes.invariant.same
      ∙ ap (λ (l : List ℕ). has_part c.args.literal.now (c.nodes.pending.items ++ l))
      (text_step c.args.dom.now c.is_tree.ensures c.args.x c.requires c.nodes.at c.next_below-at-in-Some.result c.in-Some.n c.in-Some.is c.nodes.invariant.there
      c.next_below-at-in-Some.ensures))
      (c.in_ok-found_by_now.ensures later)
      ∙ ap (λ b. b || has_part c.args.literal.now (c.found_by_now.new.pending.items ++ later)) c.if-branch.false;
  there =
      walk_stays (below c.args.dom.now c.args.x) (once_below c.args.dom.now c.is_tree.ensures c.args.x c.requires) c.nodes.at c.next_below-at-in-Some.result c.in-Some.n c.in-Some.is
      c.nodes.invariant.there c.next_below-at-in-Some.ensures;
}

pub returns : goal.returns
returns c =
    c.stands_in.ensures ∙ ap₂ has_part (c.new-finder.ensures ∙ c.as_bytes.ensures.value) c.as_slice.ensures.value
    ∙ sym (c.nodes.invariant.same
    ∙ ap (λ (o : Option ℕ). has_part c.args.literal.now (c.nodes.pending.items ++ joined (own_text c.args.dom.now) (left_at o (below c.args.dom.now c.args.x)))) c.in_default.is
    ∙ ap (has_part c.args.literal.now) (append-nil c.nodes.pending.items))
