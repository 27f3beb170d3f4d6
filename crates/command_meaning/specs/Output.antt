-- What the program answers, which files it begins, and what it writes.
use Rattle.std.specs.Prelude.{ℕ, List, [], ◌∷◌, Option, Some, None, Result, Ok, Err}
use Rattle.std.specs.List.{concat}
use Rattle.cos_patterns.specs.declared.written.Asked.{Asked}
use Rattle.cos_patterns.specs.declared.written.Written.{Written}
use Rattle.command_words.specs.declared.command.Command.{Command}
use Rattle.command_words.specs.declared.command.Command.TheVariants as command
use Rattle.command_inputs.specs.declared.status.Status.{Status}
use Rattle.command_inputs.specs.declared.status.Status.TheVariants.{Done, Usage}
use Rattle.command_inputs.specs.Due.{Due, Files, at_once, ◌>>=◌}
use Rattle.command_inputs.specs.Inputs.{apply_inputs, lists_inputs, tree_of_source}
use Rattle.command_meaning.specs.Generator.{drill_list, drill_page}
use Rattle.command_meaning.specs.Report.{lists_from, lists_report, apply_report, drill_report}

-- what comes of a command, where nothing fails: its texts, under what a maker refused
abbrev pub Texts : Type 0
Texts = List Asked → List Written → List (List ℕ)

abbrev pub texts_due : Command → Files → Due Texts
texts_due (command.Apply words) files = apply_inputs words files >>= λ inputs. at_once (Ok (λ large unread.
    apply_report words.brief inputs (lists_from words.env large unread 1 inputs.sources.lists)))
texts_due (command.Lists words) files = lists_inputs words files >>= λ sources. at_once (Ok (λ large unread.
    lists_report sources (lists_from words.env large unread 1 sources.lists)))
texts_due (command.Drill words) files = at_once (tree_of_source (drill_page words.number)) >>= λ tree. at_once (Ok (λ large unread.
    drill_report words.number words.brief tree (lists_from [] large unread 1 (drill_list ∷ []))))

abbrev pub command_due : Option Command → Files → Due Texts
command_due None files = at_once (Err Usage)
command_due (Some words) files = texts_due words files

abbrev pub status_by : {A : Type 0} → Result A Status → Status
status_by (Ok x) = Done
status_by (Err status) = status

-- the answer to a command, where nothing fails
abbrev pub due : Option Command → Files → Status
due words files = status_by (command_due words files).answer

abbrev pub texts_by : Result Texts Status → List Asked → List Written → List (List ℕ)
texts_by (Ok texts) large unread = texts large unread
texts_by (Err status) large unread = []

-- the texts that are written, one after the other; none where the command isn't accepted
unfoldable pub texts_of : Option Command → Files → List Asked → List Written → List (List ℕ)
texts_of words files large unread = texts_by (command_due words files).answer large unread

-- what is written
abbrev pub output_of : Option Command → Files → List Asked → List Written → List ℕ
output_of words files large unread = concat (texts_of words files large unread)
