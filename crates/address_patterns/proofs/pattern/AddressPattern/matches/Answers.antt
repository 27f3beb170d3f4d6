use Rattle.std.proofs.Common.{◌≡◌, ◌∙◌, ◌<◌, ◌∷◌, List, ℕ, Some, length, ap, sym, arith}
use Rattle.address_patterns.specs.Pieces.{left_of, tails}
use Rattle.address_patterns.proofs.Cuts.{matches_is}
use Rattle.address_patterns.proofs.Greedy.{after_run, verdict}
use Rattle.address_patterns.proofs.Shorter.{less_left, size_left}
use Rattle.address_patterns.proofs.pattern.AddressPattern.matches.Goals as goal

pub pieces-init : goal.pieces-init
pieces-init c = matches_is c.args.self.now c.args.page.now ∙ ap (verdict c.args.self.now.at_end) (sym c.first_piece-found.ensures)

pub pieces-smaller : goal.pieces-smaller
pieces-smaller c =
    let cut : c.in-Some.pattern.now ≡ c.in-Some-split_first.field-0-0.now ∷ c.in-Some-split_first.pattern.now = c.in-Some-split_first.ensures.cases.0 in
    let was : left_of c.pieces.found ≡ Some (c.in-Some.pattern.now, c.in-Some.address.now) = ap left_of c.in-Some.is in
    let size = ap size_left was in
    let len = ap (λ (l : List ℕ). length l) cut in
    let less = less_left c.args.self.now.at_end c.in-Some-split_first.field-0-0.now c.in-Some-split_first.pattern.now (tails c.in-Some.address.now) (left_of c.find_piece-found.result) c.find_piece-found.ensures in
    let smaller : size_left (left_of c.find_piece-found.result) < size_left (left_of c.pieces.found) = omega (arith, size, len, less) in
    smaller

pub pieces-preserved : goal.pieces-preserved
pieces-preserved c =
    let cut : c.in-Some.pattern.now ≡ c.in-Some-split_first.field-0-0.now ∷ c.in-Some-split_first.pattern.now = c.in-Some-split_first.ensures.cases.0 in
    let was : left_of c.pieces.found ≡ Some (c.in-Some.pattern.now, c.in-Some.address.now) = ap left_of c.in-Some.is in
    c.pieces.invariant ∙ ap (verdict c.args.self.now.at_end) was
    ∙ ap (λ (p : List ℕ). verdict c.args.self.now.at_end (Some (p, c.in-Some.address.now))) cut
    ∙ after_run c.args.self.now.at_end c.in-Some-split_first.field-0-0.now c.in-Some-split_first.pattern.now c.in-Some.address.now
    ∙ ap (verdict c.args.self.now.at_end) (sym c.find_piece-found.ensures)
