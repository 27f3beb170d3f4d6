use Rattle.std.proofs.Common.{◌≡◌, ◌∙◌, ◌<◌, List, ℕ, length, ap, sym, arith}
use Rattle.address_patterns.specs.Patterns.{may_begin}
use Rattle.address_patterns.proofs.Shorter.{found_here, none_left, not_here}
use Rattle.address_patterns.proofs.pattern.AddressPattern.first_piece.Goals as goal

pub returns-then-is_some : goal.returns-then-is_some
returns-then-is_some c =
    found_here c.args.self.now.at_end c.args.self.now.body (may_begin c.args.self.now.begin c.args.page.now) c.args.page.now.address c.places.place
    c.piece_at-found.result (sym c.is_some.ensures ∙ c.if-is_some.true) c.piece_at-found.ensures
    ∙ sym c.places.invariant.places

pub places-preserved : goal.places-preserved
places-preserved c =
    let lens = ap (λ (l : List ℕ). length l) c.as_str-end.ensures in
    let within : c.places.place < length c.args.page.now.address = omega (arith, lens) in
    record {
      places = c.places.invariant.places
          ∙ not_here c.args.self.now.at_end c.args.self.now.body (may_begin c.args.self.now.begin c.args.page.now) c.args.page.now.address c.places.place
          (sym c.piece_at-found.ensures ∙ none_left c.piece_at-found.result (sym c.is_some.ensures ∙ c.if-is_some.false)) within;
      within = omega arith;
    }
