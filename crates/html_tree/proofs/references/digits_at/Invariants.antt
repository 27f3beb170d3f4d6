use Rattle.std.proofs.Common.{◌≡◌, ◌+◌, ◌-◌, ◌≤◌, length, drop, take, min}
use Rattle.html_meaning.specs.Bytes.{up_to}
use Rattle.html_meaning.specs.References as meant
use Rattle.html_tree.specs.Numerals.{radix, ends_number, past}
use Rattle.html_tree.proofs.references.digits_at.Given as goal

abbrev pub invariant-loop-count : goal.invariant-loop-count
invariant-loop-count l =
    record {
      within : l.count ≤ length l.bytes;
      counted : up_to (ends_number l.base) l.bytes ≡ l.count + up_to (ends_number l.base) (drop l.count l.bytes);
      value : l.value ≡ min past (meant.number (radix l.base) 0 (take l.count l.bytes));
    }

abbrev pub decreases-loop-count : goal.decreases-loop-count
decreases-loop-count l = length l.bytes - l.count
