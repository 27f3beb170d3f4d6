use Rattle.std.proofs.Common.{◌≡◌, ◌+◌, ◌*◌, ◌++◌, ◌≤◌, map, drop, length}
use Rattle.std.specs.List.{flat_map}
use Rattle.sensor_meaning.specs.Sensors.{members, members_from, leads, gives, of_selector, sensors_of_step}
use Rattle.dependency_sets.proofs.sensing.+sensing.Given as goal

abbrev pub invariant-of_selector-loop-chain : goal.invariant-of_selector-loop-chain
invariant-of_selector-loop-chain l =
    l.all.items ++ of_selector (map (map sensors_of_step) (drop l.chain-index l.chain-items)) ≡ of_selector (map (map sensors_of_step) l.chain-items)

abbrev pub invariant-of_some_gives-loop-chain : goal.invariant-of_some_gives-loop-chain
invariant-of_some_gives-loop-chain l =
    l.all.items ++ flat_map gives (map (map sensors_of_step) (drop l.chain-index l.chain-items)) ≡ flat_map gives (map (map sensors_of_step) l.chain-items)

abbrev pub invariant-of_some_leads-loop-chain : goal.invariant-of_some_leads-loop-chain
invariant-of_some_leads-loop-chain l =
    l.all.items ++ flat_map leads (map (map sensors_of_step) (drop l.chain-index l.chain-items)) ≡ flat_map leads (map (map sensors_of_step) l.chain-items)

abbrev pub invariant-of_members-loop-step : goal.invariant-of_members-loop-step
invariant-of_members-loop-step l = members_from l.all.items (map sensors_of_step (drop l.step-index l.steps)) ≡ members (map sensors_of_step l.steps)

abbrev pub invariant-of_leads-back : goal.invariant-of_leads-back
invariant-of_leads-back l = (l.i ≤ length l.steps) × (l.all.items ≡ leads (map sensors_of_step (drop l.i l.steps)))

abbrev pub decreases-of_leads-back : goal.decreases-of_leads-back
decreases-of_leads-back l = l.i

-- A selector, a chain and its steps may be as deep as what they lead to, so each has a rank.
abbrev pub decreases-of_selector : goal.decreases-of_selector
decreases-of_selector l = 4 * goal.size-of_selector l + 3

abbrev pub decreases-of_some_gives : goal.decreases-of_some_gives
decreases-of_some_gives l = 4 * goal.size-of_some_gives l + 3

abbrev pub decreases-of_some_leads : goal.decreases-of_some_leads
decreases-of_some_leads l = 4 * goal.size-of_some_leads l + 3

abbrev pub decreases-of_gives : goal.decreases-of_gives
decreases-of_gives l = 4 * goal.size-of_gives l + 2

abbrev pub decreases-of_members : goal.decreases-of_members
decreases-of_members l = 4 * goal.size-of_members l + 1

abbrev pub decreases-of_leads : goal.decreases-of_leads
decreases-of_leads l = 4 * goal.size-of_leads l + 1

abbrev pub decreases-of_member : goal.decreases-of_member
decreases-of_member l = 4 * goal.size-of_member l

abbrev pub decreases-of_lead : goal.decreases-of_lead
decreases-of_lead l = 4 * goal.size-of_lead l

abbrev pub decreases-of_test : goal.decreases-of_test
decreases-of_test l = 4 * goal.size-of_test l
