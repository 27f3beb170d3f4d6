use Rattle.std.proofs.Common.{◌≡◌, drop}
use Rattle.html_meaning.specs.Bytes.{is_among}
use Rattle.html_tree.specs.LaterNames.{names_in}
use Rattle.html_tree.proofs.attributes.is_name_among.Given as goal

abbrev pub invariant-loop-attr : goal.invariant-loop-attr
invariant-loop-attr l = is_among l.name (drop l.attr-index (names_in l.attrs)) ≡ is_among l.name (names_in l.attrs)
