-- How many bytes of HTML a line brings, and so how many numbers it may use up at most.
use Rattle.std.specs.Prelude.{ℕ, length}
use Rattle.mutation_script.specs.declared.mutation.Mutation.{Mutation}
use Rattle.mutation_script.specs.declared.mutation.Mutation.TheVariants.{SetAttr, DropAttr, SetText, Insert, Delete, Relink, Path}
use Rattle.mutation_script.specs.declared.mutation.ScriptLine.{ScriptLine}
use Rattle.mutation_script.specs.declared.mutation.ScriptLine.TheVariants as says

abbrev pub inserted : Mutation → ℕ
inserted (SetAttr n name value) = 0
inserted (DropAttr n name) = 0
inserted (SetText n text) = 0
inserted (Insert parent place html) = length html
inserted (Delete n) = 0
inserted (Relink n parent place) = 0
inserted (Path path) = 0

abbrev pub inserted_by : ScriptLine → ℕ
inserted_by (says.Mutation mutation) = inserted mutation
inserted_by says.Blank = 0
inserted_by (says.Bad cause) = 0
