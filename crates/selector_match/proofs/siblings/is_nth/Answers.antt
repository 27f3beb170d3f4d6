use Rattle.std.proofs.Common.{◌≡◌, pos, ◌-ℤ◌, ◌<ℤ◌, ◌≤ℤ◌, unsigned_abs, arith, ap, ap₂, ◌∙◌, w32, w64}
use mir.Val.{to_z, of_z}
use Rattle.std.proofs.lemmas.Int.{ints}
use Rattle.selector_match.proofs.Nth.{nth_ahead, nth_back, nth_not_ahead, nth_not_back}
use Rattle.selector_match.proofs.siblings.is_nth.Goals as goal

pub returns-then-a-gt0 : goal.returns-then-a-gt0
returns-then-a-gt0 c =
    let p : to_z w64 (of_z w64 c.from-place.result) ≡ pos c.args.place = omega (arith, ints) in
    let o : to_z w64 (of_z w64 c.from-offset.result) ≡ c.args.b = omega (arith, ints) in
    let a : to_z w32 (of_z w32 c.args.a) ≡ c.args.a = omega (arith, ints) in
    let d : c.abs_diff-distance.result ≡ unsigned_abs (pos c.args.place -ℤ c.args.b) = c.abs_diff-distance.ensures ∙ ap₂ (λ x y. unsigned_abs (x -ℤ y)) p o in
    let far : c.args.b <ℤ pos c.args.place = grind (arith, ints) in
    let way : pos 0 <ℤ c.args.a = grind (arith, ints) in
    nth_ahead c.args.a c.args.b c.args.place c.abs_diff-distance.result c.from-step.result d c.if-distance-eq0.false far way
    (c.from-step.ensures ∙ c.unsigned_abs.ensures.value ∙ ap unsigned_abs a)

pub returns-else-a-gt0 : goal.returns-else-a-gt0
returns-else-a-gt0 c =
    let p : to_z w64 (of_z w64 c.from-place.result) ≡ pos c.args.place = omega (arith, ints) in
    let o : to_z w64 (of_z w64 c.from-offset.result) ≡ c.args.b = omega (arith, ints) in
    let a : to_z w32 (of_z w32 c.args.a) ≡ c.args.a = omega (arith, ints) in
    let d : c.abs_diff-distance.result ≡ unsigned_abs (pos c.args.place -ℤ c.args.b) = c.abs_diff-distance.ensures ∙ ap₂ (λ x y. unsigned_abs (x -ℤ y)) p o in
    let far : c.args.b <ℤ pos c.args.place = grind (arith, ints) in
    let way : c.args.a ≤ℤ pos 0 = grind (arith, ints) in
    c.if-a-gt0.false ∙ nth_not_ahead c.args.a c.args.b c.args.place c.abs_diff-distance.result c.from-step.result d c.if-distance-eq0.false far way

pub returns-then-a-lt0 : goal.returns-then-a-lt0
returns-then-a-lt0 c =
    let p : to_z w64 (of_z w64 c.from-place.result) ≡ pos c.args.place = omega (arith, ints) in
    let o : to_z w64 (of_z w64 c.from-offset.result) ≡ c.args.b = omega (arith, ints) in
    let a : to_z w32 (of_z w32 c.args.a) ≡ c.args.a = omega (arith, ints) in
    let d : c.abs_diff-distance.result ≡ unsigned_abs (pos c.args.place -ℤ c.args.b) = c.abs_diff-distance.ensures ∙ ap₂ (λ x y. unsigned_abs (x -ℤ y)) p o in
    let far : pos c.args.place ≤ℤ c.args.b = grind (arith, ints) in
    let way : c.args.a <ℤ pos 0 = grind (arith, ints) in
    nth_back c.args.a c.args.b c.args.place c.abs_diff-distance.result c.from-step.result d c.if-distance-eq0.false far way
    (c.from-step.ensures ∙ c.unsigned_abs.ensures.value ∙ ap unsigned_abs a)

pub returns-else-a-lt0 : goal.returns-else-a-lt0
returns-else-a-lt0 c =
    let p : to_z w64 (of_z w64 c.from-place.result) ≡ pos c.args.place = omega (arith, ints) in
    let o : to_z w64 (of_z w64 c.from-offset.result) ≡ c.args.b = omega (arith, ints) in
    let a : to_z w32 (of_z w32 c.args.a) ≡ c.args.a = omega (arith, ints) in
    let d : c.abs_diff-distance.result ≡ unsigned_abs (pos c.args.place -ℤ c.args.b) = c.abs_diff-distance.ensures ∙ ap₂ (λ x y. unsigned_abs (x -ℤ y)) p o in
    let far : pos c.args.place ≤ℤ c.args.b = grind (arith, ints) in
    let way : pos 0 ≤ℤ c.args.a = grind (arith, ints) in
    c.if-a-lt0.false ∙ nth_not_back c.args.a c.args.b c.args.place c.abs_diff-distance.result c.from-step.result d c.if-distance-eq0.false far way
