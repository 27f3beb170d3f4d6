use Rattle.std.proofs.Common.{ap, arith}
use denote.Param.Weighed.{most, at_most}
use Rattle.selector_tree.proofs.selector.Step.TheLaws.{the_size}
use Rattle.selector_parser.proofs.numbering.+number.Goals as goal

-- a chain is no deeper than the list that holds it
pub numbered-numbered_chain-requires : goal.numbered-numbered_chain-requires
numbered-numbered_chain-requires t c =
    let chains = c.as_slice-chain-items in
    let below = at_most (most the_size) chains.result.now c.loop-chain.chain-index c.chain-item.result c.loop-chain-test.true in
    (omega (arith, below, ap (most the_size) c.chain-item.is, ap (most (most the_size)) chains.ensures), tt)
