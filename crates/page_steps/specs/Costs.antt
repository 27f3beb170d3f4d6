-- What the lines of a script cost, counted in any way.
use Rattle.std.specs.Prelude.{ℕ, ◌+◌, List, [], ◌∷◌, Result, Ok, Err}
use Rattle.cos_source.specs.Lines.{lines_of, numbered}
use Rattle.page_tree.specs.Refusals.{Refusal}
use Rattle.mutation_script.specs.declared.mutation.Mutation.{Mutation}
use Rattle.mutation_script.specs.declared.mutation.ScriptLine.{ScriptLine}
use Rattle.mutation_script.specs.declared.mutation.ScriptLine.TheVariants as says
use Rattle.mutation_script.specs.declared.page.PageState.{PageState}
use Rattle.mutation_script.specs.Lines.{script_line}
use Rattle.mutation_script.specs.Changes.{change}
use Rattle.engine_meaning.specs.States.{State}
use Rattle.remove_rounds.specs.Costs.{Costs, settling_cost}
use Rattle.command_meaning.specs.Report.{after_line, settling}

module _ (costs : Costs) where
  -- a change that is accepted, and the rounds behind it; one that is refused costs nothing
  abbrev pub change_cost : Mutation → Result PageState Refusal → State → ℕ
  change_cost mutation (Ok page) s = costs.event mutation s + settling_cost costs (record s { page = page })
  change_cost mutation (Err refusal) s = 0

  -- a line; one that is no change costs nothing
  abbrev pub line_cost : ScriptLine → State → ℕ
  line_cost (says.Mutation mutation) s = change_cost mutation (change mutation s.page) s
  line_cost says.Blank s = 0
  line_cost (says.Bad cause) s = 0

  -- numbered lines, each on the page behind those before it
  abbrev pub lines_cost : State → List (ℕ × List ℕ) → ℕ
  lines_cost s [] = 0
  lines_cost s (line ∷ lines) = line_cost (script_line line.1) s + lines_cost (after_line (script_line line.1) s).state lines

  -- the rounds of a page as it was opened, and then the lines of its script
  unfoldable pub script_cost : State → List ℕ → ℕ
  script_cost s script = settling_cost costs s + lines_cost (settling s).state (numbered 1 (lines_of script))
