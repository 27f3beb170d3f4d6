use Rattle.std.proofs.Common.{◌≡◌, ◌+◌, ◌-◌, ◌*◌, Bool, List, cond, ℕ, ap, sym, ◌∙◌, take, drop, length, arith}
use Rattle.std.proofs.lemmas.Bool.{and_from}
use Rattle.std.proofs.lemmas.List.Folds.{list_all_more}
use Rattle.page_tree.specs.Standings.{all}
use Rattle.selector_tree.specs.declared.selector.Step.{Step}
use Rattle.procedural_ops.specs.Noted.{chain_tests, step_tests, nested_tests}
use Rattle.procedural_ops.specs.Runs.{is_nested, nested_keeps}
use Rattle.procedural_ops.proofs.Compounds as own
use Rattle.procedural_ops.proofs.Totals as totals
use Rattle.procedural_ops.proofs.Simple as simple
use Rattle.procedural_ops.proofs.Weights as weights
use Rattle.selector_tree.specs.declared.selector.Test.{Test}
use Rattle.procedural_ops.proofs.own.nested_hold.Goals as goal
use Rattle.procedural_ops.proofs.own.nested_hold.Goals.{else-is_nested-via-then-is_nested+in_ok-nested_keeps+else-not-branch, else-is_nested-via-else-is_nested}

pub nested_keeps-requires-clause-proper : goal.nested_keeps-requires-clause-proper
nested_keeps-requires-clause-proper g c = weights.own_slice c.args.context.now.table.now.patterns ((c.loop-i.i + 1) - c.loop-i.i) c.loop-i.i c.args.run.now c.requires.proper

pub returns-in_err-nested_keeps-clause-asked : goal.returns-in_err-nested_keeps-clause-asked
returns-in_err-nested_keeps-clause-asked g c =
    let one = own.one_step c.args.run.now c.loop-i.i c.index-run-i.result c.loop-i-test.true c.index-run-i.is in
    let long : length (chain_tests (take ((c.loop-i.i + 1) - c.loop-i.i) (drop c.loop-i.i c.args.run.now))) ≡ length (step_tests c.index-run-i.result) = ap (λ (l : List Step). length (chain_tests l)) one ∙ ap (λ (l : List Test). length l) (totals.chain_single c.index-run-i.result) in
    let m = own.nested_more c.args.run.now c.loop-i.i c.index-run-i.result c.loop-i-test.true c.index-run-i.is in
    let yes : cond {A = ℕ} (is_nested c.index-run-i.result) (length (step_tests c.index-run-i.result)) 0 ≡ length (step_tests c.index-run-i.result) =
    ap (λ (b : Bool). cond {A = ℕ} b (length (step_tests c.index-run-i.result)) 0) (sym c.is_nested.ensures ∙ c.if-is_nested.true) in
    let p = simple.product_more (nested_tests (take c.loop-i.i c.args.run.now)) (length (chain_tests (take ((c.loop-i.i + 1) - c.loop-i.i) (drop c.loop-i.i c.args.run.now)))) (nested_tests (take (c.loop-i.i + 1) c.args.run.now)) (length (all c.args.context.now.dom.now)) c.args.parts.now c.loop-i.parts c.nested_keeps.new.parts
    c.loop-i.invariant.asked c.nested_keeps.ensures.asked (omega (arith, m, long, yes)) in
    simple.product_few (nested_tests (take (c.loop-i.i + 1) c.args.run.now)) (nested_tests c.args.run.now) (length (all c.args.context.now.dom.now)) c.args.parts.now c.nested_keeps.new.parts p (own.nested_few c.args.run.now (c.loop-i.i + 1))

pub returns-then-not-branch-clause-asked : goal.returns-then-not-branch-clause-asked
returns-then-not-branch-clause-asked g c =
    let one = own.one_step c.args.run.now c.loop-i.i c.index-run-i.result c.loop-i-test.true c.index-run-i.is in
    let long : length (chain_tests (take ((c.loop-i.i + 1) - c.loop-i.i) (drop c.loop-i.i c.args.run.now))) ≡ length (step_tests c.index-run-i.result) = ap (λ (l : List Step). length (chain_tests l)) one ∙ ap (λ (l : List Test). length l) (totals.chain_single c.index-run-i.result) in
    let m = own.nested_more c.args.run.now c.loop-i.i c.index-run-i.result c.loop-i-test.true c.index-run-i.is in
    let yes : cond {A = ℕ} (is_nested c.index-run-i.result) (length (step_tests c.index-run-i.result)) 0 ≡ length (step_tests c.index-run-i.result) =
    ap (λ (b : Bool). cond {A = ℕ} b (length (step_tests c.index-run-i.result)) 0) (sym c.is_nested.ensures ∙ c.if-is_nested.true) in
    let p = simple.product_more (nested_tests (take c.loop-i.i c.args.run.now)) (length (chain_tests (take ((c.loop-i.i + 1) - c.loop-i.i) (drop c.loop-i.i c.args.run.now)))) (nested_tests (take (c.loop-i.i + 1) c.args.run.now)) (length (all c.args.context.now.dom.now)) c.args.parts.now c.loop-i.parts c.nested_keeps.new.parts
    c.loop-i.invariant.asked c.nested_keeps.ensures.asked (omega (arith, m, long, yes)) in
    simple.product_few (nested_tests (take (c.loop-i.i + 1) c.args.run.now)) (nested_tests c.args.run.now) (length (all c.args.context.now.dom.now)) c.args.parts.now c.nested_keeps.new.parts p (own.nested_few c.args.run.now (c.loop-i.i + 1))

pub loop-i-preserved : goal.loop-i-preserved
loop-i-preserved g c =
    let one = own.one_step c.args.run.now c.loop-i.i c.index-run-i.result c.loop-i-test.true c.index-run-i.is in
    let long : length (chain_tests (take ((c.loop-i.i + 1) - c.loop-i.i) (drop c.loop-i.i c.args.run.now))) ≡ length (step_tests c.index-run-i.result) = ap (λ (l : List Step). length (chain_tests l)) one ∙ ap (λ (l : List Test). length l) (totals.chain_single c.index-run-i.result) in
    let m = own.nested_more c.args.run.now c.loop-i.i c.index-run-i.result c.loop-i-test.true c.index-run-i.is in
    elim c.else-is_nested.branch [
      | else-is_nested-via-then-is_nested+in_ok-nested_keeps+else-not-branch w ↦
          let yes : cond {A = ℕ} (is_nested c.index-run-i.result) (length (step_tests c.index-run-i.result)) 0 ≡ length (step_tests c.index-run-i.result) =
          ap (λ (b : Bool). cond {A = ℕ} b (length (step_tests c.index-run-i.result)) 0) (sym c.is_nested.ensures ∙ w.if-is_nested.true) in
          let p = simple.product_more (nested_tests (take c.loop-i.i c.args.run.now)) (length (chain_tests (take ((c.loop-i.i + 1) - c.loop-i.i) (drop c.loop-i.i c.args.run.now)))) (nested_tests (take (c.loop-i.i + 1) c.args.run.now)) (length (all c.args.context.now.dom.now)) c.args.parts.now c.loop-i.parts w.nested_keeps.new.parts
          c.loop-i.invariant.asked w.nested_keeps.ensures.asked (omega (arith, m, long, yes)) in
          record {
            kept = list_all_more (nested_keeps c.args.context.now.dom.now c.args.context.now.path.now c.args.x) c.args.run.now c.loop-i.i c.index-run-i.result c.loop-i-test.true ∙ and_from _ _ c.loop-i.invariant.kept (ap (nested_keeps c.args.context.now.dom.now c.args.context.now.path.now c.args.x) (sym c.index-run-i.is) ∙ own.alone (nested_keeps c.args.context.now.dom.now c.args.context.now.path.now c.args.x) (take ((c.loop-i.i + 1) - c.loop-i.i) (drop c.loop-i.i c.args.run.now)) c.index-run-i.result one (sym w.in_ok-nested_keeps.ensures.answer ∙ w.if-not-branch.false));
            asked = omega (arith, w.parts-is, p);
          }
      | else-is_nested-via-else-is_nested w ↦
          let no : cond {A = ℕ} (is_nested c.index-run-i.result) (length (step_tests c.index-run-i.result)) 0 ≡ 0 =
          ap (λ (b : Bool). cond {A = ℕ} b (length (step_tests c.index-run-i.result)) 0) (sym c.is_nested.ensures ∙ w.if-is_nested.false) in
          let same : nested_tests (take (c.loop-i.i + 1) c.args.run.now) ≡ nested_tests (take c.loop-i.i c.args.run.now) = omega (arith, m, no) in
          record {
            kept = list_all_more (nested_keeps c.args.context.now.dom.now c.args.context.now.path.now c.args.x) c.args.run.now c.loop-i.i c.index-run-i.result c.loop-i-test.true ∙ and_from _ _ c.loop-i.invariant.kept (ap (nested_keeps c.args.context.now.dom.now c.args.context.now.path.now c.args.x) (sym c.index-run-i.is) ∙ own.keeps_anyway c.args.context.now.dom.now c.args.context.now.path.now c.args.x c.index-run-i.result (sym c.is_nested.ensures ∙ w.if-is_nested.false));
            asked = omega (arith, w.parts-is, c.loop-i.invariant.asked, ap (λ (n : ℕ). n * length (all c.args.context.now.dom.now)) same);
          }
    ]

pub returns-clause-asked : goal.returns-clause-asked
returns-clause-asked g c =
    simple.product_few (nested_tests (take c.loop-i.i c.args.run.now)) (nested_tests c.args.run.now) (length (all c.args.context.now.dom.now)) c.args.parts.now c.loop-i.parts c.loop-i.invariant.asked
    (own.nested_few c.args.run.now c.loop-i.i)
