use Rattle.std.proofs.Common.{List, ℕ, Ok, Err, refl, subst, sym}
use Rattle.std.proofs.lemmas.Result.{err_from_is_err_and}
use Rattle.cos_outside.specs.Writes.{WritesTexts}
use Rattle.hide_report.specs.declared.writing.ReportError.TheVariants.{WriteFault as OutputFault, NoMemory as OutputMemory}
use Rattle.command_words.specs.declared.command.Apply.{Apply}
use Rattle.command_words.specs.declared.command.Command.TheVariants.{Apply as ApplyCommand}
use Rattle.command_inputs.specs.declared.inputs.ApplyInputs.{ApplyInputs}
use Rattle.command_inputs.specs.declared.status.Status.{Status}
use Rattle.command_inputs.specs.declared.status.InputRefusal.TheVariants.{AddressTooLarge}
use Rattle.command_inputs.specs.Due.{Due, Files, at_once}
use Rattle.command_inputs.proofs.Reading.{none_at_ok, reads_error, reads_none, reads_then}
use Rattle.command_meaning.specs.Output.{Texts, texts_due}
use Rattle.command_meaning.specs.Report.{apply_report, lists_from}
use Rattle.cosmetic_top.specs.Runs.{RunsAs}
use Rattle.cosmetic_top.proofs.Ends.{exits, failed, never_refused, no_memory, refused, wrote}
use Rattle.cosmetic_top.proofs.Texts.{report_is}
use Rattle.remove_rounds.specs.Costs.{questions, single_tests}
use Rattle.page_steps.proofs.Unnumbered.{questions_bare, singles_bare}
use Rattle.command_inputs.specs.Inputs.{apply_inputs}
use Rattle.cosmetic_top.proofs.Spending.{due_costs}
use Rattle.cosmetic_top.proofs.apply.apply.Goals as goal

-- what is due behind the inputs
abbrev texts_of : Apply → ApplyInputs → Texts
texts_of words inputs = λ large unread. apply_report words.brief inputs (lists_from words.env large unread 1 inputs.sources.lists)

abbrev behind : Apply → ApplyInputs → Files → Due Texts
behind words inputs files = at_once (Ok (texts_of words inputs))

pub returns-in_err-inputs-clause-runs : goal.returns-in_err-inputs-clause-runs
returns-in_err-inputs-clause-runs g c =
    let maker = c.read_apply.new.maker in
    exits (g.M.Maker.large maker) (g.M.Maker.unread maker) (err_from_is_err_and c.from_residual.result c.from_residual.ensures.1)
    (refused (g.M.Maker.large maker) (g.M.Maker.unread maker) c.args.out.now c.in_err-inputs.ensures.kinds
    (reads_error (behind c.args.words.now) c.in_err-inputs.ensures.reads))

pub returns-in_err-read-clause-runs : goal.returns-in_err-read-clause-runs
returns-in_err-read-clause-runs g c =
    let maker = c.read_sources.new.maker in
    let texts = texts_of c.args.words.now c.in_ok-inputs.inputs in
    exits (g.M.Maker.large maker) (g.M.Maker.unread maker) (err_from_is_err_and c.from_residual-in_err-read.result c.from_residual-in_err-read.ensures.1)
    (no_memory (g.M.Maker.large maker) (g.M.Maker.unread maker) c.args.out.now texts
    (reads_then (behind c.args.words.now) c.in_ok-inputs.ensures.reads (reads_none c.read_apply.new.shelf (Ok texts) (Ok texts) refl (none_at_ok texts))))

pub returns-in-Ok-clause-runs : goal.returns-in-Ok-clause-runs
returns-in-Ok-clause-runs g c =
    let o = g.O.Sink in
    let words = c.args.words.now in
    let inputs = c.in_ok-inputs.inputs in
    let maker = c.read_sources.new.maker in
    let texts = texts_of words inputs in
    let read = c.in_ok-read.ensures in
    wrote (g.M.Maker.large maker) (g.M.Maker.unread maker) texts c.in-Ok.field-0
    (reads_then (behind words) c.in_ok-inputs.ensures.reads (reads_none c.read_apply.new.shelf (Ok texts) (Ok texts) refl (none_at_ok texts)))
    (subst (λ (ts : List (List ℕ)). WritesTexts o.tells o.written o.faults OutputFault OutputMemory c.args.out.now c.write_report.new.out ts (Ok c.in-Ok.field-0))
    (report_is words.env (g.M.Maker.large maker) (g.M.Maker.unread maker) inputs.sources c.in_ok-read.read read.bad read.rules read.lists words.brief inputs refl)
    c.in-Ok.ensures.texts)

pub returns-in-Err-clause-runs : goal.returns-in-Err-clause-runs
returns-in-Err-clause-runs g c =
    let s = g.S.Shelf in
    let o = g.O.Sink in
    let words = c.args.words.now in
    let inputs = c.in_ok-inputs.inputs in
    let large = g.M.Maker.large c.read_sources.new.maker in
    let unread = g.M.Maker.unread c.read_sources.new.maker in
    let texts = texts_of words inputs in
    let read = c.in_ok-read.ensures in
    subst (λ (status : Status). RunsAs {T = Unit {0}} s.tells s.files s.begun s.faults c.args.shelf.now c.read_apply.new.shelf o.tells o.written o.faults c.args.out.now c.write_report.new.out
    large unread (texts_due (ApplyCommand words)) (Err status))
    (sym c.status_of.ensures)
    (failed large unread texts c.in-Err.error
    (reads_then (behind words) c.in_ok-inputs.ensures.reads (reads_none c.read_apply.new.shelf (Ok texts) (Ok texts) refl (none_at_ok texts)))
    (subst (λ (ts : List (List ℕ)). WritesTexts {T = Unit {0}} o.tells o.written o.faults OutputFault OutputMemory c.args.out.now c.write_report.new.out ts (Err c.in-Err.error))
    (report_is words.env large unread inputs.sources c.in_ok-read.read read.bad read.rules read.lists words.brief inputs refl)
    c.in-Err.ensures.texts))

pub returns-in-Err-clause-too_large : goal.returns-in-Err-clause-too_large
returns-in-Err-clause-too_large g c = λ e. absurd (never_refused c.in-Err.error c.status_of.result AddressTooLarge c.status_of.ensures e)

pub returns-in-Ok-clause-checks : goal.returns-in-Ok-clause-checks
returns-in-Ok-clause-checks g c told =
    let words = c.args.words.now in
    let inputs = c.in_ok-inputs.inputs in
    let maker = c.read_sources.new.maker in
    due_costs words.env (g.M.Maker.large maker) (g.M.Maker.unread maker) inputs c.in_ok-read.read c.in_ok-read.ensures.rules c.in_ok-read.ensures.lists questions questions_bare
    words (apply_inputs words (g.S.Shelf.files c.args.shelf.now)).answer c.args.checks.now c.write_report.new.checks refl (c.in_ok-inputs.ensures.reads.is_due told) c.in-Ok.ensures.checks

pub returns-in-Err-clause-checks : goal.returns-in-Err-clause-checks
returns-in-Err-clause-checks g c told =
    let words = c.args.words.now in
    let inputs = c.in_ok-inputs.inputs in
    let maker = c.read_sources.new.maker in
    due_costs words.env (g.M.Maker.large maker) (g.M.Maker.unread maker) inputs c.in_ok-read.read c.in_ok-read.ensures.rules c.in_ok-read.ensures.lists questions questions_bare
    words (apply_inputs words (g.S.Shelf.files c.args.shelf.now)).answer c.args.checks.now c.write_report.new.checks refl (c.in_ok-inputs.ensures.reads.is_due told) c.in-Err.ensures.checks

pub returns-in-Ok-clause-parts : goal.returns-in-Ok-clause-parts
returns-in-Ok-clause-parts g c told =
    let words = c.args.words.now in
    let inputs = c.in_ok-inputs.inputs in
    let maker = c.read_sources.new.maker in
    due_costs words.env (g.M.Maker.large maker) (g.M.Maker.unread maker) inputs c.in_ok-read.read c.in_ok-read.ensures.rules c.in_ok-read.ensures.lists single_tests singles_bare
    words (apply_inputs words (g.S.Shelf.files c.args.shelf.now)).answer c.args.parts.now c.write_report.new.parts refl (c.in_ok-inputs.ensures.reads.is_due told) c.in-Ok.ensures.parts

pub returns-in-Err-clause-parts : goal.returns-in-Err-clause-parts
returns-in-Err-clause-parts g c told =
    let words = c.args.words.now in
    let inputs = c.in_ok-inputs.inputs in
    let maker = c.read_sources.new.maker in
    due_costs words.env (g.M.Maker.large maker) (g.M.Maker.unread maker) inputs c.in_ok-read.read c.in_ok-read.ensures.rules c.in_ok-read.ensures.lists single_tests singles_bare
    words (apply_inputs words (g.S.Shelf.files c.args.shelf.now)).answer c.args.parts.now c.write_report.new.parts refl (c.in_ok-inputs.ensures.reads.is_due told) c.in-Err.ensures.parts
