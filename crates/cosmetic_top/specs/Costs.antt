-- What a command costs, counted in any way: the opening of its page, and all that follows of the script.
use Rattle.std.specs.Prelude.{ℕ, ◌+◌, List, [], ◌∷◌, Option, Some, None, Result, Ok, Err}
use Rattle.cos_source.specs.Mark.{without_mark}
use Rattle.cos_patterns.specs.declared.written.Asked.{Asked}
use Rattle.cos_patterns.specs.declared.written.Written.{Written}
use Rattle.page_tree.specs.Forest.{Tree}
use Rattle.engine_meaning.specs.States.{State}
use Rattle.remove_rounds.specs.Costs.{Costs}
use Rattle.page_steps.specs.Costs.{script_cost}
use Rattle.command_words.specs.declared.command.Apply.{Apply}
use Rattle.command_words.specs.declared.command.Command.{Command}
use Rattle.command_words.specs.declared.command.Command.TheVariants as command
use Rattle.command_inputs.specs.declared.inputs.ApplyInputs.{ApplyInputs}
use Rattle.command_inputs.specs.declared.status.Status.{Status}
use Rattle.command_inputs.specs.Due.{Files}
use Rattle.command_inputs.specs.Inputs.{apply_inputs, tree_of_source}
use Rattle.command_meaning.specs.Generator.{drill_list, drill_page, drill_script}
use Rattle.command_meaning.specs.Report.{drill_inputs, lists_from, opened_state}

-- the page of a drill with its filters, under what a maker refused
abbrev pub drill_state : List Asked → List Written → Tree → State
drill_state large unread tree = opened_state (drill_inputs 0 tree) (lists_from [] large unread 1 (drill_list ∷ []))

module _ (costs : Costs) where
  -- a page with its filters, and a script
  unfoldable pub page_cost : State → List ℕ → ℕ
  page_cost s script = costs.start s + script_cost costs s script

  -- what was read for a page, under what a maker refused; what is refused costs nothing
  abbrev pub apply_cost : Apply → Result ApplyInputs Status → List Asked → List Written → ℕ
  apply_cost words (Ok inputs) large unread =
      page_cost (opened_state inputs (lists_from words.env large unread 1 inputs.sources.lists)) (without_mark inputs.script)
  apply_cost words (Err status) large unread = 0

  -- the page of a drill of this size, and its script
  abbrev pub drill_cost : ℕ → Result Tree Status → List Asked → List Written → ℕ
  drill_cost number (Ok tree) large unread = page_cost (drill_state large unread tree) (drill_script number)
  drill_cost number (Err status) large unread = 0

  -- a command over files; lists alone cost nothing
  abbrev pub command_cost : Command → Files → List Asked → List Written → ℕ
  command_cost (command.Apply words) files large unread = apply_cost words (apply_inputs words files).answer large unread
  command_cost (command.Lists words) files large unread = 0
  command_cost (command.Drill words) files large unread = drill_cost words.number (tree_of_source (drill_page words.number)) large unread

  -- words that say no command cost nothing
  unfoldable pub words_cost : Option Command → Files → List Asked → List Written → ℕ
  words_cost None files large unread = 0
  words_cost (Some words) files large unread = command_cost words files large unread
