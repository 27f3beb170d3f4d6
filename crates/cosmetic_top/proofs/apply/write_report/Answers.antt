use Rattle.std.proofs.Common.{◌≡◌, ◌∷◌, [], ◌++◌, List, ℕ, ◌+◌, ◌≤◌, Ok, Err, ap, arith, length, subst, ◌∙◌}
use Rattle.std.proofs.lemmas.Result.{err_from_is_err_and}
use Rattle.cos_source.specs.Lines.{lines_of, numbered}
use Rattle.cos_source.specs.Mark.{without_mark}
use Rattle.cos_outside.specs.Writes.{WritesText, WritesTexts}
use Rattle.cos_outside.proofs.Writing.{and_more, error_before, no_memory, text_alone}
use Rattle.selector_tree.specs.declared.filter.Filter.{Filter}
use Rattle.engine_meaning.specs.States.{State}
use Rattle.command_inputs.specs.declared.inputs.ApplyInputs.{ApplyInputs}
use Rattle.hide_report.specs.declared.writing.ReportError.TheVariants.{WriteFault, NoMemory}
use Rattle.hide_report.specs.Texts.{end_text, head_text}
use Rattle.mutation_script.specs.declared.answer.Answer.TheVariants.{Opened}
use Rattle.command_meaning.specs.Report.{lines_texts, settling, steps_texts, text_of_step}
use Rattle.cosmetic_top.specs.Reports.{state_of}
use Rattle.cosmetic_top.proofs.Parts.{no_fault, unmarked_length, writes_exit}
use Rattle.hide_engine.specs.Budgets.{start_budget, start_tests}
use Rattle.remove_rounds.specs.Costs.{questions, single_tests}
use Rattle.remove_rounds.proofs.Spending.{start_questions, start_singles}
use Rattle.cosmetic_top.proofs.Spending.{opening_spent, page_spent}
use Rattle.cosmetic_top.proofs.apply.write_report.Goals as goal

pub returns-in_err-write_all_notices-clause-texts : goal.returns-in_err-write_all_notices-clause-texts
returns-in_err-write_all_notices-clause-texts g c =
    let inputs = c.args.inputs in
    let s = state_of inputs.page inputs.tree c.args.read in
    writes_exit (err_from_is_err_and c.from_residual.result c.from_residual.ensures.1)
    (error_before (head_text inputs.page.address s.filters c.args.brief ∷ steps_texts c.args.brief s (without_mark inputs.script)) c.in_err-write_all_notices.ensures)

pub returns-in_err-active-clause-texts : goal.returns-in_err-active-clause-texts
returns-in_err-active-clause-texts g c =
    let inputs = c.args.inputs in
    let s = state_of inputs.page inputs.tree c.args.read in
    writes_exit (err_from_is_err_and c.from_residual-in_err-active.result c.from_residual-in_err-active.ensures.1)
    (and_more c.in_ok-write_all_notices.ensures
    (no_memory c.write_all_notices.new.out (head_text inputs.page.address s.filters c.args.brief) (steps_texts c.args.brief s (without_mark inputs.script)) no_fault))

pub returns-in_err-write_head-clause-texts : goal.returns-in_err-write_head-clause-texts
returns-in_err-write_head-clause-texts g c =
    let o = g.O.Sink in
    let inputs = c.args.inputs in
    let s = state_of inputs.page inputs.tree c.args.read in
    let head = subst (λ (fs : List Filter). WritesText {T = Unit {0}} o.tells o.written o.faults WriteFault NoMemory c.write_all_notices.new.out c.write_head.new.out (head_text inputs.page.address fs c.args.brief) (Err c.in_err-write_head.field-0.0))
    c.in_ok-active.ensures.active c.in_err-write_head.ensures in
    writes_exit (err_from_is_err_and c.from_residual-in_err-write_head.result c.from_residual-in_err-write_head.ensures.1)
    (and_more c.in_ok-write_all_notices.ensures (error_before (steps_texts c.args.brief s (without_mark inputs.script)) (text_alone head)))

pub returns-in_err-engine-clause-texts : goal.returns-in_err-engine-clause-texts
returns-in_err-engine-clause-texts g c =
    let o = g.O.Sink in
    let brief = c.args.brief in
    let inputs = c.args.inputs in
    let s = state_of inputs.page inputs.tree c.args.read in
    let opened = settling s in
    let lines = lines_of (without_mark inputs.script) in
    let head = subst (λ (fs : List Filter). WritesText o.tells o.written o.faults WriteFault NoMemory c.write_all_notices.new.out c.write_head.new.out (head_text inputs.page.address fs brief) (Ok c.in_ok-write_head.field-0))
    c.in_ok-active.ensures.active c.in_ok-write_head.ensures in
    writes_exit (err_from_is_err_and c.from_residual-in_err-engine.result c.from_residual-in_err-engine.ensures.1)
    (and_more c.in_ok-write_all_notices.ensures
    (and_more (text_alone head)
    (no_memory c.write_head.new.out (text_of_step brief 0 Opened opened) (lines_texts brief opened.state (numbered 1 lines) ++ end_text (length lines) ∷ []) no_fault)))

pub write_steps-requires-clause-numbers : goal.write_steps-requires-clause-numbers
write_steps-requires-clause-numbers g c =
    let next = ap (λ (s : State). s.page.tree.next) c.in_ok-engine.ensures.engine in
    let same : c.without_mark-script.result.now ≡ without_mark c.args.inputs.script =
    c.without_mark-script.ensures ∙ ap without_mark c.as_slice.ensures in
    let short : length c.without_mark-script.result.now ≤ length c.args.inputs.script = rw same (unmarked_length c.args.inputs.script) in
    omega (arith, next, short, c.requires.numbers)

pub returns-clause-texts : goal.returns-clause-texts
returns-clause-texts g c =
    let o = g.O.Sink in
    let brief = c.args.brief in
    let inputs = c.args.inputs in
    let s = state_of inputs.page inputs.tree c.args.read in
    let filters = c.in_ok-active.ensures.active in
    let head = subst (λ (fs : List Filter). WritesText o.tells o.written o.faults WriteFault NoMemory c.write_all_notices.new.out c.write_head.new.out (head_text inputs.page.address fs brief) (Ok c.in_ok-write_head.field-0))
    filters c.in_ok-write_head.ensures in
    let opened : c.in_ok-engine.engine ≡ s =
    c.in_ok-engine.ensures.engine ∙ ap (λ (fs : List Filter). record { page = record { tree = inputs.tree; path = inputs.page.path }; filters = fs }) filters in
    let same : c.without_mark-script.result.now ≡ without_mark inputs.script =
    c.without_mark-script.ensures ∙ ap without_mark c.as_slice.ensures in
    let steps = subst (λ (script : List ℕ). WritesTexts o.tells o.written o.faults WriteFault NoMemory c.write_head.new.out c.write_steps.new.out (steps_texts brief s script) c.write_steps.result) same
    (subst (λ (state : State). WritesTexts o.tells o.written o.faults WriteFault NoMemory c.write_head.new.out c.write_steps.new.out (steps_texts brief state c.without_mark-script.result.now) c.write_steps.result) opened c.write_steps.ensures.texts) in
    and_more c.in_ok-write_all_notices.ensures (and_more (text_alone head) steps)

-- the page as it was opened, with the active filters
abbrev opened_with : ApplyInputs → List Filter → State
opened_with inputs filters = record { page = record { tree = inputs.tree; path = inputs.page.path }; filters = filters }

pub returns-in_err-engine-clause-checks : goal.returns-in_err-engine-clause-checks
returns-in_err-engine-clause-checks g c =
    let inputs = c.args.inputs in
    let s = state_of inputs.page inputs.tree c.args.read in
    let opened : opened_with inputs c.in_ok-active.active ≡ s = ap (opened_with inputs) c.in_ok-active.ensures.active in
    opening_spent questions s (without_mark inputs.script) c.args.checks.now c.start.new.checks (start_budget (opened_with inputs c.in_ok-active.active)) (ap start_budget opened ∙ start_questions s)
    c.in_err-engine.ensures.checks

pub returns-clause-checks : goal.returns-clause-checks
returns-clause-checks g c =
    let inputs = c.args.inputs in
    let s = state_of inputs.page inputs.tree c.args.read in
    let opened : opened_with inputs c.in_ok-active.active ≡ s = ap (opened_with inputs) c.in_ok-active.ensures.active in
    page_spent questions s c.in_ok-engine.engine (without_mark inputs.script) c.without_mark-script.result.now c.args.checks.now c.start.new.checks c.write_steps.new.checks
    (start_budget (opened_with inputs c.in_ok-active.active)) (ap start_budget opened ∙ start_questions s) c.in_ok-engine.ensures.checks
    (c.in_ok-engine.ensures.engine ∙ opened) (c.without_mark-script.ensures ∙ ap without_mark c.as_slice.ensures) c.write_steps.ensures.checks

pub returns-in_err-engine-clause-parts : goal.returns-in_err-engine-clause-parts
returns-in_err-engine-clause-parts g c =
    let inputs = c.args.inputs in
    let s = state_of inputs.page inputs.tree c.args.read in
    let opened : opened_with inputs c.in_ok-active.active ≡ s = ap (opened_with inputs) c.in_ok-active.ensures.active in
    opening_spent single_tests s (without_mark inputs.script) c.args.parts.now c.start.new.parts (start_tests (opened_with inputs c.in_ok-active.active)) (ap start_tests opened ∙ start_singles s)
    c.in_err-engine.ensures.parts

pub returns-clause-parts : goal.returns-clause-parts
returns-clause-parts g c =
    let inputs = c.args.inputs in
    let s = state_of inputs.page inputs.tree c.args.read in
    let opened : opened_with inputs c.in_ok-active.active ≡ s = ap (opened_with inputs) c.in_ok-active.ensures.active in
    page_spent single_tests s c.in_ok-engine.engine (without_mark inputs.script) c.without_mark-script.result.now c.args.parts.now c.start.new.parts c.write_steps.new.parts
    (start_tests (opened_with inputs c.in_ok-active.active)) (ap start_tests opened ∙ start_singles s) c.in_ok-engine.ensures.parts
    (c.in_ok-engine.ensures.engine ∙ opened) (c.without_mark-script.ensures ∙ ap without_mark c.as_slice.ensures) c.write_steps.ensures.parts
