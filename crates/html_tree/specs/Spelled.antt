-- Names as tags spell them.
use Rattle.std.specs.Prelude.{ℕ, List}
use Rattle.std.specs.Str.{str_to_ascii_lowercase}
use Rattle.html_tree.specs.declared.spelled.SpelledName.{SpelledName}

abbrev pub lower_of : SpelledName → List ℕ
lower_of name = str_to_ascii_lowercase name.spelled.now
