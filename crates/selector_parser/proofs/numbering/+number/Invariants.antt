use Rattle.std.proofs.Common.{◌≡◌, ◌+◌, ◌*◌, take, map}
use Rattle.selector_parser.specs.Numbered.{numbered_step}
use Rattle.selector_parser.proofs.numbering.+number.Given as goal

abbrev pub invariant-numbered-loop-chain : goal.invariant-numbered-loop-chain
invariant-numbered-loop-chain l = l.chains ≡ map (map (numbered_step l.table.patterns)) (take l.chain-index l.chain-items)

abbrev pub invariant-numbered_chain-loop-step : goal.invariant-numbered_chain-loop-step
invariant-numbered_chain-loop-step l = l.steps ≡ map (numbered_step l.table.patterns) (take l.step-index l.step-items)

-- A box, a selector, a chain and a step may be as deep as what they lead to, so each has a rank.
abbrev pub decreases-numbered_boxed : goal.decreases-numbered_boxed
decreases-numbered_boxed l = 4 * goal.size-numbered_boxed l + 3

abbrev pub decreases-numbered : goal.decreases-numbered
decreases-numbered l = 4 * goal.size-numbered l + 2

abbrev pub decreases-numbered_chain : goal.decreases-numbered_chain
decreases-numbered_chain l = 4 * goal.size-numbered_chain l + 1

abbrev pub decreases-numbered_step : goal.decreases-numbered_step
decreases-numbered_step l = 4 * goal.size-numbered_step l

abbrev pub decreases-numbered_test : goal.decreases-numbered_test
decreases-numbered_test l = 4 * goal.size-numbered_test l
