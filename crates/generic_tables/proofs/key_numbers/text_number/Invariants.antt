use Rattle.std.proofs.Common.{◌≡◌, fold, take}
use Rattle.generic_tables.specs.FilterTables.{with_byte}
use Rattle.generic_tables.proofs.key_numbers.text_number.Given as goal

abbrev pub invariant-loop-byte : goal.invariant-loop-byte
invariant-loop-byte l = l.number ≡ fold with_byte l.kind (take l.byte-index l.byte-items)
