use Rattle.std.proofs.Common.{◌∙◌, sym, arith}
use Rattle.list_lines.proofs.LineLaws.{dollar_at, dollar_here, other_here}
use Rattle.list_lines.proofs.line.last_dollar.Goals as goal
use Rattle.list_lines.proofs.line.last_dollar.Goals.{then-text-place-eq36, else-text-place-eq36}

pub loop-place-preserved : goal.loop-place-preserved
loop-place-preserved c =
    let text = c.args.text.now in
    let place = c.loop-place.place in
    let inv = c.loop-place.invariant in
    elim c.if-text-place-eq36.branch [
      | then-text-place-eq36 w ↦ record {
        within = omega arith;
        same = dollar_here place text c.loop-place.last _ _ w.last-is c.loop-place-test.true w.if-text-place-eq36.true inv.same;
        dollar = λ x e. dollar_at text place x _ w.last-is c.loop-place-test.true w.if-text-place-eq36.true e;
      }
      | else-text-place-eq36 w ↦ record {
        within = omega arith;
        same = other_here place text c.loop-place.last _ _ w.last-is c.loop-place-test.true w.if-text-place-eq36.false inv.same;
        dollar = λ x e. inv.dollar x (sym w.last-is ∙ e);
      }
    ]
