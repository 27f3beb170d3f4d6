use Rattle.std.proofs.Common.{◌≡◌, ◌≤◌, ◌-◌, false, length, take, drop}
use Rattle.list_lines.specs.Conditions.{parts_between, parts_from}
use Rattle.list_lines.proofs.ConditionLaws.{onto_front}
use Rattle.list_lines.proofs.condition.first_part.Given as goal

abbrev pub invariant-loop-at : goal.invariant-loop-at
invariant-loop-at l = record {
  within : l.at ≤ length l.text;
  deep : l.depth ≤ l.at;
  same : onto_front (take l.at l.text) (parts_from l.sign false l.depth (drop l.at l.text)) ≡ parts_between l.sign l.text;
}

abbrev pub decreases-loop-at : goal.decreases-loop-at
decreases-loop-at l = length l.text - l.at
