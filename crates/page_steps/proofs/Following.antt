-- What the lines of a script come to.
use Rattle.std.proofs.Common.{◌≡◌, ◌∙◌, ℕ, Bool, List, Result, Ok, Err, ap, sym}
use Rattle.std.specs.Result.{result_unwrap_or}
use Rattle.page_tree.specs.Refusals.{Refusal}
use Rattle.page_tree.specs.Refusals as refusals
use Rattle.dom_arena.specs.Refusals.{error_of}
use Rattle.dom_arena.specs.declared.refusals.DomError.{DomError}
use Rattle.dom_arena.specs.declared.refusals.DomError.TheVariants as errors
use Rattle.selector_tree.specs.declared.filter.Taken.{Taken}
use Rattle.mutation_script.specs.declared.answer.Answer.{Answer}
use Rattle.mutation_script.specs.declared.answer.Outcome.{Outcome}
use Rattle.mutation_script.specs.declared.answer.Outcome.TheVariants as outcomes
use Rattle.mutation_script.specs.declared.mutation.ScriptLine.{ScriptLine}
use Rattle.mutation_script.specs.declared.mutation.ScriptLine.TheVariants as says
use Rattle.mutation_script.specs.declared.page.PageState.{PageState}
use Rattle.mutation_script.specs.Changes.{answer, answer_by, change, outcome_of}
use Rattle.engine_meaning.specs.States.{State}
use Rattle.hide_report.specs.Reported.{IsAnswer}
use Rattle.command_meaning.specs.Report.{Step, by_change, drilled_by, resting, settling, text_of_step}

-- ---- want of memory is no answer

no_refusal : (r : Refusal) → error_of r ≡ errors.NoMemory → ⊥
no_refusal (refusals.NoSuchNode n) h = cc
no_refusal (refusals.NotElement n) h = cc
no_refusal (refusals.NotText n) h = cc
no_refusal (refusals.BadPlace place) h = cc
no_refusal (refusals.IntoItself n) h = cc
no_refusal refusals.IsDocument h = cc
no_refusal refusals.TooDeep h = cc
no_refusal refusals.TooManyNodes h = cc

answered : (changed : Result PageState Refusal) → IsAnswer (answer_by (outcome_of changed))
answered (Ok page) = λ h. cc
answered (Err refusal) = λ h. no_refusal refusal (cc)

pub is_answer : (read : ScriptLine) (page : PageState) → IsAnswer (answer read page)
is_answer (says.Mutation mutation) page = answered (change mutation page)
is_answer says.Blank page = λ h. cc
is_answer (says.Bad cause) page = λ h. cc

-- ---- what a change comes to

-- a change that was made, and rounds behind it
pub made : (changed : Result PageState Refusal) (s behind : State) (outcome : Outcome) → outcome ≡ outcome_of changed → outcome ≡ outcomes.Done →
    behind ≡ record s { page = result_unwrap_or changed s.page } → settling behind ≡ by_change changed s
made (Ok page) s behind outcome said is at = ap settling at
made (Err refusal) s behind outcome said is at = absurd (let no : outcome_of (Err refusal) ≡ outcomes.Done = sym said ∙ is in cc)

-- one that was refused
pub refused : (changed : Result PageState Refusal) (s behind : State) (outcome : Outcome) (error : DomError) → outcome ≡ outcome_of changed → outcome ≡ outcomes.Refused error →
    behind ≡ record s { page = result_unwrap_or changed s.page } → resting behind ≡ by_change changed s
refused (Ok page) s behind outcome error said is at = absurd (let no : outcomes.Done ≡ outcomes.Refused error = sym said ∙ is in cc)
refused (Err refusal) s behind outcome error said is at = ap resting at

-- it leaves the page as it was
pub refused_same : (changed : Result PageState Refusal) (s behind : State) (outcome : Outcome) (error : DomError) → outcome ≡ outcome_of changed → outcome ≡ outcomes.Refused error →
    behind ≡ record s { page = result_unwrap_or changed s.page } → behind ≡ s
refused_same (Ok page) s behind outcome error said is at = absurd (let no : outcomes.Done ≡ outcomes.Refused error = sym said ∙ is in cc)
refused_same (Err refusal) s behind outcome error said is at = at

-- ---- the same by equal parts

-- a script that is followed
pub drilled_alike : (s t : State) (n m : ℕ) (lines rest : List (ℕ × List ℕ)) → s ≡ t → n ≡ m → lines ≡ rest
    → drilled_by (record { state = s; taken = n }) lines ≡ drilled_by (record { state = t; taken = m }) rest
drilled_alike s t n m lines rest e f g =
    ap (λ (x : State). drilled_by (record { state = x; taken = n }) lines) e ∙ ap (λ (k : ℕ). drilled_by (record { state = t; taken = k }) lines) f
    ∙ ap (drilled_by (record { state = t; taken = m })) g

-- the text of a step
pub step_alike : (brief : Bool) (number : ℕ) (given other : Answer) (s : State) (taken : List Taken) (step : Step) → given ≡ other → s ≡ step.state → taken ≡ step.taken
    → text_of_step brief number given (record { state = s; taken = taken }) ≡ text_of_step brief number other step
step_alike brief number given other s taken step e f g =
    ap (λ (a : Answer). text_of_step brief number a (record { state = s; taken = taken })) e
    ∙ ap (λ (x : State). text_of_step brief number other (record { state = x; taken = taken })) f
    ∙ ap (λ (l : List Taken). text_of_step brief number other (record { state = step.state; taken = l })) g
