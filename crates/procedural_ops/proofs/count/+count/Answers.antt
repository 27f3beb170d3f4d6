use Rattle.std.proofs.Common.{◌≡◌, ℕ, ◌+◌, List, length, sym, ap, subst, ◌∙◌, arith}
use Rattle.std.specs.Prelude.{IfOk}
use Rattle.selector_tree.specs.declared.selector.Test.{Test}
use Rattle.procedural_ops.proofs.Parts as parts
use Rattle.procedural_ops.proofs.Weights as weights
use Rattle.procedural_ops.proofs.count.+count.Goals as goal

pub behind-loop-step-init : goal.behind-loop-step-init
behind-loop-step-init t c = omega (arith, parts.none_in_chain c.args.steps.now)

pub behind-behind_step-requires : goal.behind-behind_step-requires
behind-behind_step-requires t c =
    let w = weights.weight_step c.args.steps.now c.loop-step.step-index c.step-item.result c.loop-step-test.true c.step-item.is in
    (omega (arith, w), tt)

pub behind-loop-step-preserved : goal.behind-loop-step-preserved
behind-loop-step-preserved t c =
    parts.place_more c.args.first c.loop-step.place c.in_ok-place.place c.loop-step.step-index c.args.steps.now c.step-item.result c.loop-step-test.true c.step-item.is c.loop-step.invariant c.in_ok-place.ensures

pub behind_selector-loop-chain-init : goal.behind_selector-loop-chain-init
behind_selector-loop-chain-init t c = omega (arith, parts.none_in_selector c.args.selector.now)

pub behind_selector-behind-requires : goal.behind_selector-behind-requires
behind_selector-behind-requires t c =
    let w = weights.weight_chain c.args.selector.now c.loop-chain.chain-index c.chain-item.result c.as_slice.result.now (c.as_slice.ensures ∙ c.chain-item.is) c.loop-chain-test.true in
    (omega (arith, w), tt)

pub behind_selector-loop-chain-preserved : goal.behind_selector-loop-chain-preserved
behind_selector-loop-chain-preserved t c =
    parts.place_beyond c.args.first c.loop-chain.place c.in_ok-place.place c.loop-chain.chain-index c.args.selector.now c.chain-item.result c.as_slice.result.now c.loop-chain-test.true c.chain-item.is c.as_slice.ensures c.loop-chain.invariant c.in_ok-place.ensures

pub behind_step-returns-in-UpwardTo : goal.behind_step-returns-in-UpwardTo
behind_step-returns-in-UpwardTo t c =
    subst (λ (n : ℕ). IfOk c.behind_selector.result (λ place. place ≡ c.args.first + n))
    (ap (λ (l : List Test). length l) (sym (parts.of_UpwardTo c.args.step.now c.in-UpwardTo.selector c.as_slice.result.now c.in-UpwardTo.is (c.as_slice.ensures ∙ c.get.ensures)))) c.behind_selector.ensures

pub behind_test-returns-in-Is : goal.behind_test-returns-in-Is
behind_test-returns-in-Is t c =
    let long = ap (λ (l : List Test). length l) (parts.of_Is c.args.test.now c.in-Is.selector c.as_slice.result.now c.in-Is.is (c.as_slice.ensures ∙ c.get.ensures)) in
    subst (λ (n : ℕ). IfOk c.behind_selector.result (λ place. place ≡ n)) (omega (arith, long, c.in_ok-inside.ensures)) c.behind_selector.ensures

pub behind_test-returns-in-Not : goal.behind_test-returns-in-Not
behind_test-returns-in-Not t c =
    let long = ap (λ (l : List Test). length l) (parts.of_Not c.args.test.now c.in-Not.selector c.as_slice-in-Not.result.now c.in-Not.is (c.as_slice-in-Not.ensures ∙ c.get-in-Not.ensures)) in
    subst (λ (n : ℕ). IfOk c.behind_selector-in-Not.result (λ place. place ≡ n)) (omega (arith, long, c.in_ok-inside.ensures)) c.behind_selector-in-Not.ensures

pub behind_test-returns-in-Has : goal.behind_test-returns-in-Has
behind_test-returns-in-Has t c =
    let long = ap (λ (l : List Test). length l) (parts.of_Has c.args.test.now c.in-Has.selector c.as_slice-in-Has.result.now c.in-Has.is (c.as_slice-in-Has.ensures ∙ c.get-in-Has.ensures)) in
    subst (λ (n : ℕ). IfOk c.behind_selector-in-Has.result (λ place. place ≡ n)) (omega (arith, long, c.in_ok-inside.ensures)) c.behind_selector-in-Has.ensures
