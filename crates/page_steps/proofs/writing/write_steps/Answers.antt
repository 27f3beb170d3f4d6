use Rattle.std.proofs.Common.{ℕ, ◌+◌, [], ◌∷◌, ◌++◌, Ok, Err, length, arith, refl, subst}
use Rattle.std.proofs.lemmas.Result.{err_from_is_err_and}
use Rattle.cos_outside.proofs.Writing.{and_more, error_before, no_memory, text_alone}
use Rattle.cos_source.specs.Lines.{lines_of, numbered}
use Rattle.mutation_script.specs.declared.answer.Answer.TheVariants.{Opened}
use Rattle.engine_meaning.specs.States.{State}
use Rattle.hide_report.specs.Reported.{Reports, ReportsAll}
use Rattle.hide_report.specs.Texts.{end_text}
use Rattle.command_meaning.specs.Report.{lines_texts, settling, text_of_step}
use Rattle.page_steps.proofs.Following.{step_alike}
use Rattle.page_steps.proofs.Numbers.{settled_within}
use Rattle.page_steps.proofs.Written.{same_error, same_text}
use Rattle.remove_rounds.specs.Costs.{questions, single_tests}
use Rattle.page_steps.proofs.Spending.{opening_within, script_spent}
use Rattle.page_steps.proofs.writing.write_steps.Goals as goal

pub returns-in_err-engine-clause-texts : goal.returns-in_err-engine-clause-texts
returns-in_err-engine-clause-texts g c =
    let e = err_from_is_err_and c.from_residual.result c.from_residual.ensures.1 in
    let opened = settling c.args.engine in
    let lines = lines_of c.args.script.now in
    rw (e.1, e.2) (no_memory c.args.out.now (text_of_step c.args.brief 0 Opened opened)
    (lines_texts c.args.brief opened.state (numbered 1 lines) ++ end_text (length lines) ∷ []) (λ same. cc))

pub returns-in_err-known-clause-texts : goal.returns-in_err-known-clause-texts
returns-in_err-known-clause-texts g c =
    let e = err_from_is_err_and c.from_residual-in_err-known.result c.from_residual-in_err-known.ensures.1 in
    let opened = settling c.args.engine in
    let lines = lines_of c.args.script.now in
    rw (e.1, e.2) (error_before {T = Unit {0}} (lines_texts c.args.brief opened.state (numbered 1 lines) ++ end_text (length lines) ∷ [])
    (text_alone (same_error {U = Unit {0}}
    (step_alike c.args.brief 0 Opened Opened c.in_ok-engine.engine c.in_ok-engine.taken opened refl c.in_ok-engine.ensures.engine c.in_ok-engine.ensures.taken)
    c.in_err-known.ensures.text)))

pub write_lines-requires-clause-numbers : goal.write_lines-requires-clause-numbers
write_lines-requires-clause-numbers g c =
    settled_within c.args.engine c.in_ok-engine.engine (length c.args.script.now) c.in_ok-engine.ensures.engine c.requires.numbers

pub returns-in_err-count-clause-texts : goal.returns-in_err-count-clause-texts
returns-in_err-count-clause-texts g c =
    let s = g.O.Sink in
    let e = err_from_is_err_and c.from_residual-in_err-count.result c.from_residual-in_err-count.ensures.1 in
    let opened = settling c.args.engine in
    let lines = lines_of c.args.script.now in
    rw (e.1, e.2) (and_more
    (text_alone (same_text {U = Unit {0}} tt
    (step_alike c.args.brief 0 Opened Opened c.in_ok-engine.engine c.in_ok-engine.taken opened refl c.in_ok-engine.ensures.engine c.in_ok-engine.ensures.taken)
    c.in_ok-known.ensures.text))
    (error_before (end_text (length lines) ∷ [])
    (subst (λ (x : State). ReportsAll {T = ℕ} s.tells s.written s.faults c.write_followed.new.out c.write_lines.new.out (lines_texts c.args.brief x (numbered 1 lines)) (Err c.in_err-count.field-0.0))
    c.in_ok-engine.ensures.engine c.in_err-count.ensures.texts)))

pub returns-clause-texts : goal.returns-clause-texts
returns-clause-texts g c =
    let s = g.O.Sink in
    let opened = settling c.args.engine in
    let lines = lines_of c.args.script.now in
    and_more
    (text_alone (same_text {U = Unit {0}} tt
    (step_alike c.args.brief 0 Opened Opened c.in_ok-engine.engine c.in_ok-engine.taken opened refl c.in_ok-engine.ensures.engine c.in_ok-engine.ensures.taken)
    c.in_ok-known.ensures.text))
    (and_more
    (subst (λ (x : State). ReportsAll s.tells s.written s.faults c.write_followed.new.out c.write_lines.new.out (lines_texts c.args.brief x (numbered 1 lines)) (Ok c.in_ok-count.count))
    c.in_ok-engine.ensures.engine c.in_ok-count.ensures.texts)
    (text_alone
    (subst (λ (n : ℕ). Reports s.tells s.written s.faults c.write_lines.new.out c.write_end.new.out (end_text n) c.write_end.result) c.in_ok-count.ensures.count
    c.write_end.ensures)))

pub returns-in_err-engine-clause-checks : goal.returns-in_err-engine-clause-checks
returns-in_err-engine-clause-checks g c = omega (arith, opening_within questions c.args.engine c.args.script.now, c.in_err-engine.ensures.checks)

pub returns-in_err-known-clause-checks : goal.returns-in_err-known-clause-checks
returns-in_err-known-clause-checks g c = omega (arith, opening_within questions c.args.engine c.args.script.now, c.in_ok-engine.ensures.checks)

pub returns-in_err-count-clause-checks : goal.returns-in_err-count-clause-checks
returns-in_err-count-clause-checks g c =
    let script = c.args.script.now in
    let whole = script_spent questions c.args.engine c.in_ok-engine.engine script (numbered 1 (lines_of script)) c.in_ok-engine.ensures.engine refl in
    omega (arith, whole, c.in_ok-engine.ensures.checks, c.in_err-count.ensures.checks)

pub returns-clause-checks : goal.returns-clause-checks
returns-clause-checks g c =
    let script = c.args.script.now in
    let whole = script_spent questions c.args.engine c.in_ok-engine.engine script (numbered 1 (lines_of script)) c.in_ok-engine.ensures.engine refl in
    omega (arith, whole, c.in_ok-engine.ensures.checks, c.in_ok-count.ensures.checks)

pub returns-in_err-engine-clause-parts : goal.returns-in_err-engine-clause-parts
returns-in_err-engine-clause-parts g c = omega (arith, opening_within single_tests c.args.engine c.args.script.now, c.in_err-engine.ensures.parts)

pub returns-in_err-known-clause-parts : goal.returns-in_err-known-clause-parts
returns-in_err-known-clause-parts g c = omega (arith, opening_within single_tests c.args.engine c.args.script.now, c.in_ok-engine.ensures.parts)

pub returns-in_err-count-clause-parts : goal.returns-in_err-count-clause-parts
returns-in_err-count-clause-parts g c =
    let script = c.args.script.now in
    let whole = script_spent single_tests c.args.engine c.in_ok-engine.engine script (numbered 1 (lines_of script)) c.in_ok-engine.ensures.engine refl in
    omega (arith, whole, c.in_ok-engine.ensures.parts, c.in_err-count.ensures.parts)

pub returns-clause-parts : goal.returns-clause-parts
returns-clause-parts g c =
    let script = c.args.script.now in
    let whole = script_spent single_tests c.args.engine c.in_ok-engine.engine script (numbered 1 (lines_of script)) c.in_ok-engine.ensures.engine refl in
    omega (arith, whole, c.in_ok-engine.ensures.parts, c.in_ok-count.ensures.parts)
