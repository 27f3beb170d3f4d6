use Rattle.std.proofs.Common.{◌≡◌, ◌≤◌, ◌-◌, drop, length}
use Rattle.address_patterns.specs.Patterns.{may_begin}
use Rattle.address_patterns.specs.Pieces.{first_of, starts_by}
use Rattle.address_patterns.proofs.pattern.AddressPattern.first_piece.Given as goal

abbrev pub invariant-places : goal.invariant-places
invariant-places l = record {
  places : first_of l.self.at_end l.self.body (starts_by (may_begin l.self.begin l.page) 0 l.page.address)
      ≡ first_of l.self.at_end l.self.body (starts_by (may_begin l.self.begin l.page) l.place (drop l.place l.page.address));
  within : l.place ≤ length l.page.address;
}

abbrev pub decreases-places : goal.decreases-places
decreases-places l = length l.page.address - l.place
