use Rattle.std.proofs.Common.{◌∙◌, List, ap, sym}
use Rattle.std.specs.List.{list_any}
use Rattle.std.proofs.lemmas.List.{take_all}
use Rattle.page_tree.specs.Directions.{is_in}
use Rattle.selector_tree.specs.declared.selector.Step.{Step}
use Rattle.procedural_ops.specs.Reaching.{reached}
use Rattle.retest.proofs.Ends.{selects-reached}
use Rattle.retest.proofs.look.may_select.Goals as goal

pub returns : goal.returns
returns c =
    let t = c.args.context.now.dom.now in
    let path = c.args.context.now.path.now in
    let chains = c.args.selector.now in
    λ no.
    selects-reached t path chains c.args.x
    ∙ ap (λ (l : List (List Step)). list_any (λ chain. is_in (reached t path chain) c.args.x) l) (sym (take_all c.loop-chain.chain-index chains c.loop-chain-test.false))
    ∙ c.loop-chain.invariant
