use Rattle.std.proofs.Common.{◌∙◌, List, get_or, subst, sym, ap, arith}
use Rattle.selector_tree.specs.declared.filter.Filter.{Filter}
use Rattle.generic_tables.proofs.Filing.{AreEntered, chains_there, one_entered, all_entered}
use Rattle.generic_tables.proofs.filters.entries_of.Goals as goal

pub loop-place-preserved : goal.loop-place-preserved
loop-place-preserved c =
    let here = c.index-as_slice-place.result in
    one_entered c.args.active.now c.loop-place.place here c.loop-place.entries.items c.enter.new.entries.items
    (chains_there c.args.active.now c.loop-place.place here (omega arith) ∙ ap (λ (f : Filter). f.selector) (ap (λ (l : List Filter). get_or l c.loop-place.place here) (sym c.as_slice.ensures) ∙ sym c.index-as_slice-place.is))
    c.loop-place.invariant c.in_ok-enter.ensures

pub returns : goal.returns
returns c =
    all_entered c.args.active.now c.loop-place.entries.items
    (subst (λ n. AreEntered c.args.active.now n c.loop-place.entries.items) (omega arith) c.loop-place.invariant)
