-- What a mutation does to a page, and how each line of a script is answered.
use Rattle.std.specs.Prelude.{ℕ, List, Option, Some, None, Result, Ok, Err}
use Rattle.std.specs.Result.{result_unwrap_or}
use Rattle.std.specs.Str.{str_to_ascii_lowercase}
use Rattle.page_tree.specs.Forest.{Tree}
use Rattle.page_tree.specs.Edits.{with_attr_set, with_attr_dropped, with_text, detached, moved}
use Rattle.page_tree.specs.Fragments.{with_fragment}
use Rattle.page_tree.specs.Refusals.{Refusal, attr_refused, text_refused, graft_refused, detach_refused, relink_refused}
use Rattle.dom_arena.specs.Refusals.{error_of}
use Rattle.html_meaning.specs.Page.{fragment}
use Rattle.mutation_script.specs.declared.answer.Answer.{Answer}
use Rattle.mutation_script.specs.declared.answer.Answer.TheVariants as answers
use Rattle.mutation_script.specs.declared.answer.Outcome.{Outcome}
use Rattle.mutation_script.specs.declared.answer.Outcome.TheVariants as outcomes
use Rattle.mutation_script.specs.declared.mutation.Mutation.{Mutation}
use Rattle.mutation_script.specs.declared.mutation.Mutation.TheVariants.{SetAttr, DropAttr, SetText, Insert, Delete, Relink, Path}
use Rattle.mutation_script.specs.declared.mutation.ScriptLine.{ScriptLine}
use Rattle.mutation_script.specs.declared.mutation.ScriptLine.TheVariants as says
use Rattle.mutation_script.specs.declared.page.PageState.{PageState}

-- the page with a new tree, or the refusal
abbrev pub unless_refused : Option Refusal → Tree → PageState → Result PageState Refusal
unless_refused None tree page = Ok (record page { tree = tree })
unless_refused (Some refusal) tree page = Err refusal

-- The page changed by a mutation, or its first refusal. The HTML of an insert is read as a fragment for its parent; new
-- nodes get numbers from `next` on.
abbrev pub change : Mutation → PageState → Result PageState Refusal
change (SetAttr n name value) page =
    unless_refused (attr_refused n page.tree) (with_attr_set n (str_to_ascii_lowercase name) value page.tree) page
change (DropAttr n name) page =
    unless_refused (attr_refused n page.tree) (with_attr_dropped n (str_to_ascii_lowercase name) page.tree) page
change (SetText n text) page = unless_refused (text_refused n page.tree) (with_text n text page.tree) page
change (Insert parent place html) page =
    unless_refused (graft_refused parent place (fragment html) page.tree)
    (with_fragment parent place (fragment html) page.tree) page
change (Delete n) page = unless_refused (detach_refused n page.tree) (detached n page.tree) page
change (Relink n parent place) page =
    unless_refused (relink_refused n parent place page.tree) (moved n parent place page.tree) page
change (Path path) page = Ok (record page { path = path })

-- the page behind a mutation: as before it where it is refused
abbrev pub changed : Mutation → PageState → PageState
changed mutation page = result_unwrap_or (change mutation page) page

-- the page behind a line: as before it where the line is refused, blank or bad
abbrev pub after : ScriptLine → PageState → PageState
after (says.Mutation mutation) page = changed mutation page
after says.Blank page = page
after (says.Bad cause) page = page

-- what comes of a mutation
abbrev pub outcome_of : Result PageState Refusal → Outcome
outcome_of (Ok page) = outcomes.Done
outcome_of (Err refusal) = outcomes.Refused (error_of refusal)

-- the answer that says what came of a mutation
abbrev pub answer_by : Outcome → Answer
answer_by outcomes.Done = answers.Done
answer_by (outcomes.Refused error) = answers.Refused error

-- how a line is answered
abbrev pub answer : ScriptLine → PageState → Answer
answer (says.Mutation mutation) page = answer_by (outcome_of (change mutation page))
answer says.Blank page = answers.Blank
answer (says.Bad cause) page = answers.Bad cause
