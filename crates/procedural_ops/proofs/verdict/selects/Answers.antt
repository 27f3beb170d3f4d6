use Rattle.std.specs.Prelude.{slice_get, unwrap_or}
use Rattle.std.proofs.Common.{◌≡◌, ◌+◌, List, [], refl, ap, sym, ◌∙◌, take, length, arith}
use Rattle.page_tree.specs.Standings.{all}
use Rattle.page_tree.specs.Directions.{is_in}
use Rattle.selector_tree.specs.declared.selector.Step.{Step}
use Rattle.procedural_ops.specs.Noted.{chain_tests, simple_tests}
use Rattle.procedural_ops.specs.Reaching.{reached, is_selected}
use Rattle.procedural_ops.proofs.Fronts as fronts
use Rattle.procedural_ops.proofs.Totals as totals
use Rattle.procedural_ops.proofs.Simple as simple
use Rattle.procedural_ops.proofs.Steps as steps
use Rattle.selector_match.proofs.Walking as walking
use Rattle.procedural_ops.proofs.Weights as weights
use Rattle.procedural_ops.proofs.verdict.selects.Goals as goal

pub chain_selects-requires-clause-chain : goal.chain_selects-requires-clause-chain
chain_selects-requires-clause-chain g c =
    c.as_slice.ensures ∙ fronts.chain_is c.args.selector.now c.loop-i.i c.index-selector-i.result c.loop-i-test.true c.index-selector-i.is
    ∙ ap (λ (l : List (List Step)). unwrap_or (slice_get l c.loop-i.i) []) c.requires.selector

pub chain_selects-requires-clause-proper : goal.chain_selects-requires-clause-proper
chain_selects-requires-clause-proper g c =
    (weights.own_in_selector c.args.context.now.table.now.patterns c.args.selector.now c.loop-i.i c.index-selector-i.result c.as_slice.result.now (c.as_slice.ensures ∙ c.index-selector-i.is) c.loop-i-test.true c.requires.proper).1

pub returns-then-branch-clause-answer : goal.returns-then-branch-clause-answer
unfolding is_selected
returns-then-branch-clause-answer g c =
    sym (steps.any_at (λ d. is_in (reached c.args.context.now.dom.now c.args.context.now.path.now d) c.args.x) c.args.selector.now c.loop-i.i c.index-selector-i.result c.loop-i-test.true c.index-selector-i.is
    (ap (λ (d : List Step). is_in (reached c.args.context.now.dom.now c.args.context.now.path.now d) c.args.x) (sym c.as_slice.ensures) ∙ sym c.in_ok-chain_selects.ensures.answer ∙ c.if-branch.true))

pub returns-clause-answer : goal.returns-clause-answer
unfolding is_selected
returns-clause-answer g c =
    sym (steps.any_end (λ d. is_in (reached c.args.context.now.dom.now c.args.context.now.path.now d) c.args.x) c.args.selector.now c.loop-i.i c.loop-i.invariant.none c.loop-i-test.false)

pub returns-in_err-chain_selects-clause-asked : goal.returns-in_err-chain_selects-clause-asked
returns-in_err-chain_selects-clause-asked g c =
    let m = totals.more_tests c.args.selector.now c.loop-i.i c.index-selector-i.result c.loop-i-test.true c.index-selector-i.is in
    let one : simple_tests (take (c.loop-i.i + 1) c.args.selector.now) ≡ simple_tests (take c.loop-i.i c.args.selector.now) + length (chain_tests c.as_slice.result.now) =
    m ∙ ap (λ (s : List Step). simple_tests (take c.loop-i.i c.args.selector.now) + length (chain_tests s)) (sym c.as_slice.ensures) in
    let p = simple.product_more (simple_tests (take c.loop-i.i c.args.selector.now)) (length (chain_tests c.as_slice.result.now)) (simple_tests (take (c.loop-i.i + 1) c.args.selector.now))
    (length (all c.args.context.now.dom.now)) c.args.parts.now c.loop-i.parts c.chain_selects.new.parts c.loop-i.invariant.asked c.chain_selects.ensures.asked one in
    simple.product_few (simple_tests (take (c.loop-i.i + 1) c.args.selector.now)) (simple_tests c.args.selector.now) (length (all c.args.context.now.dom.now)) c.args.parts.now c.chain_selects.new.parts p
    (totals.few_tests c.args.selector.now (c.loop-i.i + 1))

pub returns-then-branch-clause-asked : goal.returns-then-branch-clause-asked
returns-then-branch-clause-asked g c =
    let m = totals.more_tests c.args.selector.now c.loop-i.i c.index-selector-i.result c.loop-i-test.true c.index-selector-i.is in
    let one : simple_tests (take (c.loop-i.i + 1) c.args.selector.now) ≡ simple_tests (take c.loop-i.i c.args.selector.now) + length (chain_tests c.as_slice.result.now) =
    m ∙ ap (λ (s : List Step). simple_tests (take c.loop-i.i c.args.selector.now) + length (chain_tests s)) (sym c.as_slice.ensures) in
    let p = simple.product_more (simple_tests (take c.loop-i.i c.args.selector.now)) (length (chain_tests c.as_slice.result.now)) (simple_tests (take (c.loop-i.i + 1) c.args.selector.now))
    (length (all c.args.context.now.dom.now)) c.args.parts.now c.loop-i.parts c.chain_selects.new.parts c.loop-i.invariant.asked c.chain_selects.ensures.asked one in
    simple.product_few (simple_tests (take (c.loop-i.i + 1) c.args.selector.now)) (simple_tests c.args.selector.now) (length (all c.args.context.now.dom.now)) c.args.parts.now c.chain_selects.new.parts p
    (totals.few_tests c.args.selector.now (c.loop-i.i + 1))

pub returns-clause-asked : goal.returns-clause-asked
returns-clause-asked g c =
    simple.product_few (simple_tests (take c.loop-i.i c.args.selector.now)) (simple_tests c.args.selector.now) (length (all c.args.context.now.dom.now)) c.args.parts.now c.loop-i.parts c.loop-i.invariant.asked
    (totals.few_tests c.args.selector.now c.loop-i.i)

pub loop-i-init : goal.loop-i-init
loop-i-init g c = record { none = refl; right = c.requires.right; asked = omega (arith, totals.none_in_selector c.args.selector.now) }

pub loop-i-preserved : goal.loop-i-preserved
loop-i-preserved g c = record {
  none = walking.any_more (λ d. is_in (reached c.args.context.now.dom.now c.args.context.now.path.now d) c.args.x) c.args.selector.now c.loop-i.i c.index-selector-i.result c.loop-i-test.true c.index-selector-i.is c.loop-i.invariant.none
      (ap (λ (d : List Step). is_in (reached c.args.context.now.dom.now c.args.context.now.path.now d) c.args.x) (sym c.as_slice.ensures) ∙ sym c.in_ok-chain_selects.ensures.answer ∙ c.if-branch.false);
  right = c.chain_selects.ensures.right;
  asked =
      let m = totals.more_tests c.args.selector.now c.loop-i.i c.index-selector-i.result c.loop-i-test.true c.index-selector-i.is in
      let one : simple_tests (take (c.loop-i.i + 1) c.args.selector.now) ≡ simple_tests (take c.loop-i.i c.args.selector.now) + length (chain_tests c.as_slice.result.now) =
      m ∙ ap (λ (s : List Step). simple_tests (take c.loop-i.i c.args.selector.now) + length (chain_tests s)) (sym c.as_slice.ensures) in
      let p = simple.product_more (simple_tests (take c.loop-i.i c.args.selector.now)) (length (chain_tests c.as_slice.result.now)) (simple_tests (take (c.loop-i.i + 1) c.args.selector.now))
      (length (all c.args.context.now.dom.now)) c.args.parts.now c.loop-i.parts c.chain_selects.new.parts c.loop-i.invariant.asked c.chain_selects.ensures.asked one in
      p;
}
