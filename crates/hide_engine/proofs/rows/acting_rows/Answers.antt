use Rattle.std.proofs.Common.{◌≡◌, ◌<◌, ◌+◌, suc, cond, length, take, ap, sym, ◌∙◌, arith}
use Rattle.std.specs.List.{list_any}
use Rattle.kept_marks.specs.Kept.{row_in}
use Rattle.hide_engine.specs.Chosen.{acts_at, acting_rows}
use Rattle.hide_engine.proofs.Acted.{one_row}
use Rattle.hide_engine.proofs.rows.acting_rows.Goals as goal
use Rattle.hide_engine.proofs.rows.acting_rows.Goals.{then-some_acts, else-some_acts}

pub loop-place-preserved : goal.loop-place-preserved
loop-place-preserved c =
    let filters = c.args.active.now in
    let rows = c.args.marks.now in
    let action = c.args.action in
    let i = c.loop-place.place in
    let so_far = length (acting_rows filters action (take i rows)) in
    let within : i < length rows = omega (arith, c.loop-place-test.true, c.len-place-end.ensures.len) in
    let here : c.some_acts.result ≡ list_any (acts_at filters action) (row_in rows i) = c.some_acts.ensures ∙ ap (list_any (acts_at filters action)) c.row_at.ensures in
    let next : i + 1 ≡ suc i = omega arith in
    let more : length (acting_rows filters action (take (i + 1) rows)) ≡ so_far + cond c.some_acts.result 1 0 =
    ap (λ n. length (acting_rows filters action (take n rows))) next ∙ one_row filters action rows i within ∙ ap (λ b. so_far + cond b 1 0) (sym here) in
    elim c.if-some_acts.branch [
      | then-some_acts w ↦ (
          let one : length (acting_rows filters action (take (i + 1) rows)) ≡ so_far + 1 = more ∙ ap (λ b. so_far + cond b 1 0) w.if-some_acts.true in
          record { same = omega (arith, one, w.count-is, c.loop-place.invariant.same); most = omega (arith, w.count-is, c.loop-place.invariant.most) })
      | else-some_acts w ↦ (
          let none : length (acting_rows filters action (take (i + 1) rows)) ≡ so_far + 0 = more ∙ ap (λ b. so_far + cond b 1 0) w.if-some_acts.false in
          record { same = omega (arith, none, w.count-is, c.loop-place.invariant.same); most = omega (arith, w.count-is, c.loop-place.invariant.most) })
    ]
