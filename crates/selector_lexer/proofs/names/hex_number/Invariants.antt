use Rattle.std.proofs.Common.{◌-◌, ◌<◌, ◌≤◌, length, drop, get_or}
use Rattle.selector_lexer.proofs.Hexes.{IsHexSoFar}
use Rattle.selector_lexer.proofs.names.hex_number.Given as goal

abbrev pub invariant-loop-count : goal.invariant-loop-count
invariant-loop-count l = record {
  so_far : IsHexSoFar l.number l.count (drop l.count l.bytes) l.bytes;
  most : l.count ≤ length l.bytes;
  last : 0 < l.count → get_or l.bytes (l.count - 1) 0 < 128;
}

abbrev pub decreases-loop-count : goal.decreases-loop-count
decreases-loop-count l = 6 - l.count
