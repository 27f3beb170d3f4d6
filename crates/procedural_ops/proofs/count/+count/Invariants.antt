use Rattle.std.proofs.Common.{◌≡◌, ◌+◌, ◌*◌, length, take}
use Rattle.procedural_ops.specs.Noted.{chain_cells, selector_cells}
use Rattle.procedural_ops.specs.Weight.{test_weight, step_weight, chain_weight, selector_weight}
use Rattle.procedural_ops.proofs.count.+count.Given as goal

abbrev pub invariant-behind-loop-step : goal.invariant-behind-loop-step
invariant-behind-loop-step l = l.place ≡ l.first + length (chain_cells (take l.step-index l.steps))

abbrev pub invariant-behind_selector-loop-chain : goal.invariant-behind_selector-loop-chain
invariant-behind_selector-loop-chain l = l.place ≡ l.first + length (selector_cells (take l.chain-index l.selector))

abbrev pub decreases-behind : goal.decreases-behind
decreases-behind l = 4 * chain_weight l.steps.now + 1

abbrev pub decreases-behind_step : goal.decreases-behind_step
decreases-behind_step l = 4 * step_weight l.step.now

abbrev pub decreases-behind_test : goal.decreases-behind_test
decreases-behind_test l = 4 * test_weight l.test.now

abbrev pub decreases-behind_selector : goal.decreases-behind_selector
decreases-behind_selector l = 4 * selector_weight l.selector.now + 2
