use Rattle.std.proofs.Common.{◌≡◌, ◌≤◌, drop}
use Rattle.selector_spelling.specs.Bytes.{number, number_from}
use Rattle.selector_lexer.proofs.numbers.limited.Given as goal

abbrev pub invariant-loop-digit : goal.invariant-loop-digit
invariant-loop-digit l = record {
  most : l.number ≤ l.limit;
  same : number_from 10 l.number (drop l.digit-index l.digits) ≡ number 10 l.digits;
}
