use Rattle.std.proofs.Common.{ℕ, Bool, List, sym, subst, arith}
use Rattle.procedural_ops.specs.Noted.{IsRight, chain_cells}
use Rattle.procedural_ops.proofs.Parts as parts
use Rattle.procedural_ops.proofs.Remembered as remembered
use Rattle.procedural_ops.proofs.own.nested_keeps.Goals as goal

pub nested_hold-requires-clause-at : goal.nested_hold-requires-clause-at
nested_hold-requires-clause-at g c = parts.part_all (chain_cells c.args.run.now)

pub nested_hold-requires-clause-right : goal.nested_hold-requires-clause-right
nested_hold-requires-clause-right g c =
    subst (λ (n : List (List (ℕ × Bool))). IsRight c.args.context.now.dom.now c.args.run.now n c.args.context.now.path.now) (sym c.in_ok-notes.ensures)
    (remembered.none_right c.args.context.now.dom.now c.args.run.now c.args.context.now.path.now c.in_ok-behind.field-0 (omega (arith, c.in_ok-behind.ensures)))

pub returns-clause-asked : goal.returns-clause-asked
returns-clause-asked g c = omega (arith, c.nested_hold.ensures.asked, remembered.few_unknown c.args.context.now.dom.now c.args.run.now c.in_ok-notes.notes)
