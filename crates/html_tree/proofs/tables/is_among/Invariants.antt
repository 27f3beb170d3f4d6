use Rattle.std.proofs.Common.{◌≡◌, drop}
use Rattle.std.specs.Str.{str_to_ascii_lowercase}
use Rattle.html_meaning.specs.Bytes.{is_among}
use Rattle.html_tree.specs.Chain.{names_of}
use Rattle.html_tree.proofs.tables.is_among.Given as goal

abbrev pub invariant-loop-entry : goal.invariant-loop-entry
invariant-loop-entry l = is_among (str_to_ascii_lowercase l.name) (drop l.entry-index (names_of l.table)) ≡ is_among (str_to_ascii_lowercase l.name) (names_of l.table)
