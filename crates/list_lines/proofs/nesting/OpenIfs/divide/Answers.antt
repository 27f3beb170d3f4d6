use Rattle.std.proofs.Common.{reverse, subst, sym}
use Rattle.list_lines.specs.OpenIfs.{AreChained}
use Rattle.list_lines.proofs.NestingLaws.{chained_divided, divided_after}
use Rattle.list_lines.proofs.nesting.OpenIfs.divide.Goals as goal

pub invariant_of-self : goal.invariant_of-self
invariant_of-self c =
    let items = c.self.inside.items.items in
    subst AreChained (sym (divided_after items _ _ _ c.as_slice-count.ensures.value c.if-count-eq0.false c.index-part.ensures c.put.ensures))
    (chained_divided (reverse items) c.self.invariant)

pub returns-clause-after : goal.returns-clause-after
returns-clause-after c =
    let items = c.self.inside.items.items in
    let e = divided_after items c.as_slice-count.result.now c.put.new.items.items c.index-part.result.now c.as_slice-count.ensures.value c.if-count-eq0.false c.index-part.ensures c.put.ensures in
    cc
