use Rattle.std.proofs.Common.{◌≡◌, true, take}
use Rattle.std.specs.List.{list_any, list_all}
use Rattle.selector_meaning.specs.Meaning.{is_apart, is_beside}
use Rattle.procedural_ops.proofs.other_elements.is_other_of_members.Given as goal

abbrev pub invariant-loop-y : goal.invariant-loop-y
invariant-loop-y l = record {
  apart : list_all (λ y. is_apart l.dom y l.x) (take l.y-index l.members) ≡ true;
  beside : l.beside ≡ list_any (λ y. is_beside l.dom y l.x) (take l.y-index l.members);
}
