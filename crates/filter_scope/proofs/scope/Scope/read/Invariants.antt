use Rattle.std.proofs.Common.{◌≡◌, ◌+◌, ◌≤◌, length}
use Rattle.cos_source.specs.Parts.{parts, placed}
use Rattle.filter_scope.specs.Scopes.{read_parts}
use Rattle.filter_scope.proofs.Reading.{EndBy, with_items}
use Rattle.filter_scope.proofs.scope.Scope.read.Given as goal

abbrev pub invariant-parts : goal.invariant-parts
invariant-parts l = record {
  read : with_items l.items (read_parts l.parts) ≡ read_parts (placed 0 (parts l.separator l.text));
  within : EndBy (length l.text) l.parts;
}

abbrev pub decreases-parts : goal.decreases-parts
decreases-parts l = length l.parts
