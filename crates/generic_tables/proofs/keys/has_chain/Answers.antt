use Rattle.std.proofs.Common.{◌∙◌, List, ap, sym}
use Rattle.selector_tree.specs.declared.selector.Step.{Step}
use Rattle.generic_tables.specs.Keys.{key_of_chain}
use Rattle.generic_tables.specs.Carried.{key_in, same_key}
use Rattle.generic_tables.proofs.Filing.{chain_found}
use Rattle.generic_tables.proofs.keys.has_chain.Goals as goal

pub returns-then-is_same : goal.returns-then-is_same
returns-then-is_same c =
    let k = key_in c.args.key in
    sym (chain_found (same_key k) c.args.selector.now c.loop-chain.chain-index c.chain-item.result c.loop-chain-test.true
    (ap (λ (chain : List Step). same_key k (key_of_chain chain)) (sym c.chain-item.is) ∙ ap (same_key k) (sym c.key_of.ensures) ∙ sym c.is_same.ensures ∙ c.if-is_same.true))
