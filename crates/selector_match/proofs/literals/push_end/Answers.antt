use Rattle.std.proofs.Common.{◌-◌, ◌++◌, ℕ, drop, length, ◌∙◌, ap₂, arith}
use Rattle.std.proofs.lemmas.List.{take_all, length-drop}
use Rattle.selector_match.proofs.Border.{end_of_both}
use Rattle.selector_match.proofs.literals.push_end.Goals as goal

pub returns : goal.returns
returns c =
    let from : ℕ = c.saturating_sub-spare.result - c.min-gone.result in
    c.in_ok-extend_from_slice.ensures.items
    ∙ ap₂ ◌++◌ c.drop_front.ensures (take_all (length c.args.more.now - from) (drop from c.args.more.now) (omega (arith, length-drop from c.args.more.now)))
    ∙ end_of_both c.args.count c.args.bytes.now.items c.args.more.now c.saturating_sub-spare.result c.min-gone.result
    (omega (arith, c.saturating_sub-spare.ensures, c.len.ensures)) (omega (arith, c.min-gone.ensures, c.len-2.ensures))
