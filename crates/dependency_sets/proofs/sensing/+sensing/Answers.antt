use Rattle.std.proofs.Common.{◌-◌, length, ap, arith}
use denote.Param.Weighed.{most}
use Rattle.selector_tree.proofs.selector.Step.TheLaws.{the_size}
use Rattle.dependency_sets.proofs.Depths.{most-take, most-part}
use Rattle.dependency_sets.proofs.sensing.+sensing.Goals as goal

-- a part of a chain is no deeper than the chain
pub of_gives-of_members-requires : goal.of_gives-of_members-requires
of_gives-of_members-requires t c =
    let steps = c.as_slice-steps in
    (omega (arith, most-take the_size steps.result.now c.first_up-k.result, ap (most the_size) steps.ensures), tt)

pub of_gives-of_leads-requires : goal.of_gives-of_leads-requires
of_gives-of_leads-requires t c =
    let steps = c.as_slice-steps in (
      omega (arith, most-part the_size steps.result.now c.first_up-k.result (length steps.result.now - c.first_up-k.result), ap (most the_size) steps.ensures),
      tt,
    )
