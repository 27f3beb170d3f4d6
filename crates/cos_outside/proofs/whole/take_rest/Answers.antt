use Rattle.std.proofs.Common.{◌≡◌, ◌+◌, ◌≤◌, ◌++◌, ℕ, List, length, take, arith, refl}
use Rattle.std.proofs.lemmas.Grind.{common_steps}
use Rattle.std.proofs.lemmas.List.{length-take-le}
use Rattle.cos_outside.proofs.whole.take_rest.Goals as goal

-- one byte past the limit was taken
pub returns-then-room-count-clause-taken : goal.returns-then-room-count-clause-taken
returns-then-room-count-clause-taken g c = λ told.
    let piece : List ℕ = take c.in_ok-count.count c.next.new.buf in
    let most : c.in_ok-count.count ≤ length c.next.new.buf = c.in_ok-count.ensures.bound in
    let size : length (c.pieces.bytes ++ piece) ≡ c.args.limit + 1 =
    grind (arith, common_steps, length-take-le c.in_ok-count.count c.next.new.buf most) in
    record {
      taken = c.pieces.bytes ++ piece;
      split = grind (arith, common_steps);
      most = omega (arith, size);
      past = (λ _. size, λ _. refl);
    }
