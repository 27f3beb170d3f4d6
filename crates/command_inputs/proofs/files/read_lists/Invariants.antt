use Rattle.std.proofs.Common.{◌≡◌, ◌+◌, ◌≤◌, length, drop}
use Rattle.std.specs.Prelude.{sum_by}
use Rattle.command_inputs.specs.declared.TheConstants.{FILE_LIMIT}
use Rattle.command_inputs.proofs.Reading.{DecidesAll}
use Rattle.command_inputs.proofs.files.read_lists.Given as goal

abbrev pub invariant-names : goal.invariant-names
invariant-names g l =
    let s = g.S.Shelf in
    record {
      decides : DecidesAll s.tells s.files s.begun s.faults l.fn.shelf l.shelf l.names l.lists l.number l.room (drop l.name-index l.names);
      room : l.room + sum_by length l.lists ≡ FILE_LIMIT;
      number : l.number ≡ l.name-index + 1;
      count : length l.lists ≡ l.name-index;
      few : l.name-index ≤ length l.names;
    }
