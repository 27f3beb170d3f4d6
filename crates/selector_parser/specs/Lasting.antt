-- What stays true as a table of patterns grows.
use Rattle.std.specs.Prelude.{List}
use Rattle.cos_patterns.specs.declared.written.Asked.{Asked}
use Rattle.cos_patterns.specs.declared.written.Written.{Written}
use Rattle.cos_patterns.specs.Tables.{Noted, Agrees, Extends}

-- it is so of the lists of each maker that a table agrees with, this table and every later one
abbrev pub Lasts : Noted → (List Asked → List Written → Type 0) → Type 0
Lasts table IsSo = (later : Noted) (large : List Asked) (unread : List Written) → Extends table later → Agrees later large unread → IsSo large unread
