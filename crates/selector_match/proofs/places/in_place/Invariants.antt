use Rattle.std.proofs.Common.{◌≡◌, length}
use Rattle.selector_meaning.specs.Meaning.{is_there}
use Rattle.selector_match.specs.Asked.{IsElement, sources}
use Rattle.selector_match.proofs.places.in_place.Given as goal

abbrev pub invariant-sources : goal.invariant-sources
invariant-sources l = record {
  element : IsElement l.dom l.at;
  same : is_there l.dom l.place l.from l.x ≡ is_there l.dom l.place l.from l.at;
}

abbrev pub decreases-sources : goal.decreases-sources
decreases-sources l = length (sources l.dom l.place l.at)
