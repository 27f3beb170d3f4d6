use Rattle.std.proofs.Common.{◌≡◌, ◌+◌, ◌-◌, ◌≤◌, length, drop}
use Rattle.html_meaning.specs.Bytes.{up_to}
use Rattle.html_tokens.proofs.scan.up_to_lead.Given as goal

abbrev pub invariant-loop-more : goal.invariant-loop-more
invariant-loop-more g l =
    record { within : l.passed ≤ length l.bytes; value : up_to (g.P.Place.here l.place) l.bytes ≡ l.passed + up_to (g.P.Place.here l.place) (drop l.passed l.bytes) }

abbrev pub decreases-loop-more : goal.decreases-loop-more
decreases-loop-more g l = length l.bytes - l.passed
