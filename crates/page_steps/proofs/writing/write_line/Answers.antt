use Rattle.std.proofs.Common.{◌≡◌, subst, sym}
use Rattle.std.proofs.lemmas.Result.{err_from_is_err_and}
use Rattle.mutation_script.specs.Lines.{script_line}
use Rattle.mutation_script.specs.Changes.{answer}
use Rattle.hide_report.specs.declared.writing.ReportError.TheVariants.{NoMemory, WriteFault}
use Rattle.hide_report.specs.Reported.{IsAnswer}
use Rattle.command_meaning.specs.Report.{after_line}
use Rattle.page_steps.specs.declared.known.Known.{Known}
use Rattle.page_steps.specs.Known.{Knows}
use Rattle.page_steps.proofs.Following.{is_answer, step_alike}
use Rattle.page_steps.proofs.Telling.{still_known}
use Rattle.page_steps.proofs.Written.{none_of_text, same_error, same_text}
use Rattle.page_steps.proofs.writing.write_line.Goals as goal

pub write_followed-requires-clause-answer : goal.write_followed-requires-clause-answer
write_followed-requires-clause-answer g c = subst IsAnswer (sym c.in_ok-followed.ensures.answer) (is_answer (script_line c.args.line.bytes.now) c.args.page.engine.page)

pub write_followed-requires-clause-known : goal.write_followed-requires-clause-known
write_followed-requires-clause-known g c =
    let followed = c.in_ok-followed.followed in
    subst (λ (known : Known). Knows known followed.engine) (sym c.behind_line-known.ensures)
    (still_known followed.same c.args.page.known c.args.page.engine followed.engine c.in_ok-followed.ensures.same c.requires.known)

no_fault : NoMemory ≡ WriteFault → ⊥
no_fault e = cc

pub returns-in_err-followed-clause-text : goal.returns-in_err-followed-clause-text
returns-in_err-followed-clause-text g c =
    let e = err_from_is_err_and c.from_residual.result c.from_residual.ensures.1 in
    rw (e.1, e.2) (none_of_text c.args.out.now no_fault)

pub returns-in_err-known-clause-text : goal.returns-in_err-known-clause-text
returns-in_err-known-clause-text g c =
    let e = err_from_is_err_and c.from_residual-in_err-known.result c.from_residual-in_err-known.ensures.1 in
    let read = script_line c.args.line.bytes.now in
    let followed = c.in_ok-followed.followed in
    rw (e.1, e.2) (same_error
    (step_alike c.args.brief c.args.line.number followed.answer (answer read c.args.page.engine.page) followed.engine followed.taken (after_line read c.args.page.engine)
    c.in_ok-followed.ensures.answer c.in_ok-followed.ensures.engine c.in_ok-followed.ensures.taken) c.in_err-known.ensures.text)

pub returns-clause-text : goal.returns-clause-text
returns-clause-text g c =
    let read = script_line c.args.line.bytes.now in
    let followed = c.in_ok-followed.followed in
    same_text (record { engine = followed.engine; known = c.in_ok-known.known })
    (step_alike c.args.brief c.args.line.number followed.answer (answer read c.args.page.engine.page) followed.engine followed.taken (after_line read c.args.page.engine)
    c.in_ok-followed.ensures.answer c.in_ok-followed.ensures.engine c.in_ok-followed.ensures.taken) c.in_ok-known.ensures.text

pub returns-in_err-followed-clause-checks : goal.returns-in_err-followed-clause-checks
returns-in_err-followed-clause-checks g c = c.in_err-followed.ensures.checks

pub returns-in_err-known-clause-checks : goal.returns-in_err-known-clause-checks
returns-in_err-known-clause-checks g c = c.in_ok-followed.ensures.checks

pub returns-clause-checks : goal.returns-clause-checks
returns-clause-checks g c = c.in_ok-followed.ensures.checks

pub returns-in_err-followed-clause-parts : goal.returns-in_err-followed-clause-parts
returns-in_err-followed-clause-parts g c = c.in_err-followed.ensures.parts

pub returns-in_err-known-clause-parts : goal.returns-in_err-known-clause-parts
returns-in_err-known-clause-parts g c = c.in_ok-followed.ensures.parts

pub returns-clause-parts : goal.returns-clause-parts
returns-clause-parts g c = c.in_ok-followed.ensures.parts
