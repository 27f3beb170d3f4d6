-- The texts that each command writes, one after the other.
use Rattle.std.specs.Prelude.{ℕ, ◌+◌, List, [], ◌∷◌, ◌++◌, Bool, Result, Ok, Err, codes, length, map}
use Rattle.cos_source.specs.Lines.{lines_of, numbered}
use Rattle.cos_source.specs.Mark.{without_mark}
use Rattle.cos_patterns.specs.declared.written.Asked.{Asked}
use Rattle.cos_patterns.specs.declared.written.Written.{Written}
use Rattle.cos_patterns.specs.Found.{pattern_found}
use Rattle.address_patterns.specs.declared.page.Page.{Page}
use Rattle.page_tree.specs.Forest.{Tree, size}
use Rattle.page_tree.specs.Refusals.{Refusal}
use Rattle.host_names.specs.SuffixLines.{bad_lines, rules_of}
use Rattle.hostname_buckets.specs.Active.{active_of}
use Rattle.list_entries.specs.declared.entry.ListRead.{ListRead}
use Rattle.list_entries.specs.declared.notice.Notice.{Notice}
use Rattle.list_entries.specs.declared.notice.Notice.TheVariants as notice
use Rattle.list_reader.specs.Entries.{entries_in, notices_in}
use Rattle.selector_spelling.specs.declared.finding.Cause.TheVariants as cause
use Rattle.selector_tree.specs.declared.filter.Taken.{Taken}
use Rattle.mutation_script.specs.declared.answer.Answer.{Answer}
use Rattle.mutation_script.specs.declared.answer.Answer.TheVariants.{Opened}
use Rattle.mutation_script.specs.declared.mutation.ScriptLine.{ScriptLine}
use Rattle.mutation_script.specs.declared.mutation.ScriptLine.TheVariants as says
use Rattle.mutation_script.specs.declared.page.PageState.{PageState}
use Rattle.mutation_script.specs.Lines.{script_line}
use Rattle.mutation_script.specs.Changes.{answer, change}
use Rattle.engine_meaning.specs.States.{State, hidden_of, settled_state, taken_of}
use Rattle.hide_report.specs.Answers.{answer_name}
use Rattle.hide_report.specs.Texts.{notices_text, head_text, step_text, end_text, counts_text, drill_text}
use Rattle.command_meaning.specs.Generator.{drill_list, drill_script}
use Rattle.command_inputs.specs.declared.inputs.ApplyInputs.{ApplyInputs}
use Rattle.command_inputs.specs.declared.inputs.Sources.{Sources}

-- ---- lists

-- a malformed line of the file of public suffix rules
abbrev pub bad_suffix : ℕ → Notice
bad_suffix line = notice.Malformed line cause.BadSuffix 0

-- what is said of the file of public suffix rules
abbrev pub suffixes_text : List ℕ → List ℕ
suffixes_text bytes = notices_text 0 (map bad_suffix (bad_lines (numbered 1 (lines_of (without_mark bytes)))))

-- what is said of lists from this number on, a text for each
abbrev pub lists_texts : ℕ → List ListRead → List (List ℕ)
lists_texts number [] = []
lists_texts number (list ∷ lists) = notices_text number list.notices ∷ lists_texts (number + 1) lists

module _ (env : List (List ℕ)) (large : List Asked) (unread : List Written) where
  -- a list of this number, read under what a maker refused; a byte order mark at its start is skipped
  abbrev pub list_read : ℕ → List ℕ → ListRead
  list_read number bytes = record {
    entries = entries_in env large unread number (numbered 1 (lines_of (without_mark bytes)));
    notices = notices_in env large unread number (numbered 1 (lines_of (without_mark bytes)));
  }

  -- lists from this number on
  abbrev pub lists_from : ℕ → List (List ℕ) → List ListRead
  lists_from number [] = []
  lists_from number (bytes ∷ more) = list_read number bytes ∷ lists_from (number + 1) more

-- the notices of all files, a text for each
abbrev pub notices_texts : Sources → List ListRead → List (List ℕ)
notices_texts sources lists = suffixes_text sources.suffixes ∷ lists_texts 1 lists

-- what `lists` writes
abbrev pub lists_report : Sources → List ListRead → List (List ℕ)
lists_report sources lists = notices_texts sources lists ++ counts_text lists ∷ []

-- ---- steps

-- a step: the page after it, and what its rounds took
pub record Step : Type 0 where
  pub state : State
  pub taken : List Taken

-- the page, and rounds of removal until one takes nothing
abbrev pub settling : State → Step
settling s = record { state = settled_state pattern_found s; taken = taken_of pattern_found s }

-- nothing happens
abbrev pub resting : State → Step
resting s = record { state = s; taken = [] }

abbrev pub by_change : Result PageState Refusal → State → Step
by_change (Ok page) s = settling (record s { page = page })
by_change (Err refusal) s = resting s

-- a line of the script: an accepted change is followed by rounds, and any other line changes nothing
abbrev pub after_line : ScriptLine → State → Step
after_line (says.Mutation mutation) s = by_change (change mutation s.page) s
after_line says.Blank s = resting s
after_line (says.Bad cause) s = resting s

abbrev pub text_of_step : Bool → ℕ → Answer → Step → List ℕ
text_of_step brief number given step =
    step_text number (answer_name given) step.state.page.tree step.state.filters step.taken (hidden_of pattern_found step.state) brief

-- the steps after the numbered lines of a script
abbrev pub lines_texts : Bool → State → List (ℕ × List ℕ) → List (List ℕ)
lines_texts brief s [] = []
lines_texts brief s (line ∷ lines) =
    let read = script_line line.1 in
    let step = after_line read s in
    text_of_step brief line.0 (answer read s.page) step ∷ lines_texts brief step.state lines

-- all steps and the end: the page as it was opened, settled, and then the lines of the script
abbrev pub steps_texts : Bool → State → List ℕ → List (List ℕ)
steps_texts brief s script =
    let opened = settling s in
    text_of_step brief 0 Opened opened ∷ lines_texts brief opened.state (numbered 1 (lines_of script))
    ++ end_text (length (lines_of script)) ∷ []

-- the page at its address, with the active filters of lists
abbrev pub opened_state : ApplyInputs → List ListRead → State
opened_state inputs lists = record {
  page = record { tree = inputs.tree; path = inputs.page.path };
  filters = active_of lists inputs.page (rules_of (numbered 1 (lines_of (without_mark inputs.sources.suffixes))));
}

-- what `apply` writes
abbrev pub apply_report : Bool → ApplyInputs → List ListRead → List (List ℕ)
apply_report brief inputs lists =
    let s = opened_state inputs lists in
    notices_texts inputs.sources lists ++ (head_text inputs.page.address s.filters brief ∷ steps_texts brief s (without_mark inputs.script))

-- ---- the drill

-- the state behind all lines, and how many elements were taken
pub record Drilled : Type 0 where
  pub state : State
  pub taken : ℕ

abbrev pub drilled_by : Drilled → List (ℕ × List ℕ) → Drilled
drilled_by d [] = d
drilled_by d (line ∷ lines) =
    let step = after_line (script_line line.1) d.state in
    drilled_by (record { state = step.state; taken = d.taken + length step.taken }) lines

-- the page of a drill, made from its fields
abbrev pub drill_address : Page
drill_address = record { address = codes "https://example.com/"; host = codes "example.com"; host_from = 8; host_to = 19; path = codes "/" }

abbrev pub drill_inputs : ℕ → Tree → ApplyInputs
drill_inputs number tree = record {
  page = drill_address;
  sources = record { suffixes = []; lists = drill_list ∷ [] };
  tree = tree;
  script = drill_script number;
}

-- what `drill` writes: one line about the page behind the whole script
abbrev pub drill_report : ℕ → Bool → Tree → List ListRead → List (List ℕ)
drill_report number brief tree lists =
    let inputs = drill_inputs number tree in
    let opened = settling (opened_state inputs lists) in
    let lines = numbered 1 (lines_of inputs.script) in
    let end = drilled_by (record { state = opened.state; taken = length opened.taken }) lines in
    drill_text number (size end.state.page.tree.nodes) (length lines) (length (hidden_of pattern_found end.state)) end.taken brief ∷ []
