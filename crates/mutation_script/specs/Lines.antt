-- What a line of a script says. Each word has a row of its own, which reads the fields behind it.
use Rattle.std.specs.Prelude.{ℕ, Bool, List, [], ◌∷◌, codes, Option, Result, Ok, Err, if◌then◌else◌}
use Rattle.std.specs.List.{list_all}
use Rattle.std.specs.Str.{bytes_eq, is_utf8}
use Rattle.cos_source.specs.Spaces.{is_space}
use Rattle.mutation_script.specs.declared.mutation.BadLine.{BadLine}
use Rattle.mutation_script.specs.declared.mutation.BadLine.TheVariants.{NotUtf8, UnknownWord}
use Rattle.mutation_script.specs.declared.mutation.Mutation.{Mutation}
use Rattle.mutation_script.specs.declared.mutation.Mutation.TheVariants.{SetAttr, DropAttr, SetText, Insert, Delete, Relink, Path}
use Rattle.mutation_script.specs.declared.mutation.ScriptLine.{ScriptLine}
use Rattle.mutation_script.specs.declared.mutation.ScriptLine.TheVariants as says
use Rattle.mutation_script.specs.Fields.{field, left, number_field, name_field, rest_field, path_field, at_end}

-- fields are read one after the other, up to the first for which the line is bad
infixl 10 ◌>>=◌
abbrev pub ◌>>=◌ : {A B : Type 0} → Result A BadLine → (A → Result B BadLine) → Result B BadLine
(Ok value) >>= next = next value
(Err cause) >>= next = Err cause

-- `attr N NAME VALUE`
abbrev pub attr_line : Option (List ℕ) → Result Mutation BadLine
attr_line rest = do
  n ← number_field rest
  name ← name_field n.1
  Ok (SetAttr n.0 name.0 (rest_field name.1))

-- `unset N NAME`
abbrev pub unset_line : Option (List ℕ) → Result Mutation BadLine
unset_line rest = do
  n ← number_field rest
  name ← name_field n.1
  at_end (DropAttr n.0 name.0) name.1

-- `text N TEXT`
abbrev pub text_line : Option (List ℕ) → Result Mutation BadLine
text_line rest = do
  n ← number_field rest
  Ok (SetText n.0 (rest_field n.1))

-- `insert P K HTML`
abbrev pub insert_line : Option (List ℕ) → Result Mutation BadLine
insert_line rest = do
  parent ← number_field rest
  place ← number_field parent.1
  Ok (Insert parent.0 place.0 (rest_field place.1))

-- `delete N`
abbrev pub delete_line : Option (List ℕ) → Result Mutation BadLine
delete_line rest = do
  n ← number_field rest
  at_end (Delete n.0) n.1

-- `move N P K`
abbrev pub move_line : Option (List ℕ) → Result Mutation BadLine
move_line rest = do
  n ← number_field rest
  parent ← number_field n.1
  place ← number_field parent.1
  at_end (Relink n.0 parent.0 place.0) place.1

-- `path PATH`
abbrev pub path_line : Option (List ℕ) → Result Mutation BadLine
path_line rest = do
  path ← path_field rest
  Ok (Path path)

-- the mutation of a line, by its word and what is left behind it
abbrev pub by_word : List ℕ → Option (List ℕ) → Result Mutation BadLine
by_word word rest =
    if bytes_eq word (codes "attr") then attr_line rest
    else if bytes_eq word (codes "unset") then unset_line rest
    else if bytes_eq word (codes "text") then text_line rest
    else if bytes_eq word (codes "insert") then insert_line rest
    else if bytes_eq word (codes "delete") then delete_line rest
    else if bytes_eq word (codes "move") then move_line rest
    else if bytes_eq word (codes "path") then path_line rest
    else Err UnknownWord

-- the mutation of a line that is UTF-8
abbrev pub mutation_of : List ℕ → Result Mutation BadLine
mutation_of line = by_word (field line) (left line)

abbrev pub said : Result Mutation BadLine → ScriptLine
said (Ok mutation) = says.Mutation mutation
said (Err cause) = says.Bad cause

-- what a line says
abbrev pub script_line : List ℕ → ScriptLine
script_line line =
    if list_all is_space line then says.Blank
    else (if is_utf8 line then said (mutation_of line) else says.Bad NotUtf8)
