use Rattle.std.proofs.Common.{◌≡◌, ◌+◌, ◌*◌, ◌++◌, drop, map}
use Rattle.selector_tree.specs.Canonical.{chain_text, selector_text, text_of_step}
use Rattle.selector_tree.proofs.Joined.{left}
use Rattle.selector_tree.proofs.printed.+print.Given as goal

abbrev pub invariant-push_selector-loop-chain : goal.invariant-push_selector-loop-chain
invariant-push_selector-loop-chain l =
    l.out ++ left l.behind (map (chain_text l.leads) (map (map text_of_step) (drop l.chain-index l.chain-items)))
    ≡ l.initial.out ++ selector_text l.leads (map (map text_of_step) l.chain-items)

abbrev pub invariant-push_chain-loop-step : goal.invariant-push_chain-loop-step
invariant-push_chain-loop-step l =
    l.out ++ chain_text l.first (map text_of_step (drop l.step-index l.step-items)) ≡ l.initial.out ++ chain_text l.leads (map text_of_step l.step-items)

-- A box, a selector, a chain and a step may be as deep as what they lead to, so each has a rank.
abbrev pub decreases-push_called : goal.decreases-push_called
decreases-push_called l = 4 * goal.size-push_called l + 3

abbrev pub decreases-push_selector : goal.decreases-push_selector
decreases-push_selector l = 4 * goal.size-push_selector l + 2

abbrev pub decreases-push_chain : goal.decreases-push_chain
decreases-push_chain l = 4 * goal.size-push_chain l + 1

abbrev pub decreases-push_step : goal.decreases-push_step
decreases-push_step l = 4 * goal.size-push_step l

abbrev pub decreases-push_test : goal.decreases-push_test
decreases-push_test l = 4 * goal.size-push_test l
