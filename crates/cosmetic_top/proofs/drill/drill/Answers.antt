use Rattle.std.proofs.Common.{◌∷◌, ◌∙◌, List, [], ℕ, Ok, Err, arith, ap, subst, sym}
use Rattle.std.proofs.lemmas.Result.{err_from_is_err_and}
use Rattle.cos_outside.specs.Writes.{WritesTexts}
use Rattle.cos_outside.proofs.Writing.{text_alone}
use Rattle.hide_report.specs.declared.counts.DrillCounts.{DrillCounts}
use Rattle.hide_report.specs.declared.writing.ReportError.TheVariants.{WriteFault as OutputFault, NoMemory as OutputMemory}
use Rattle.hide_report.specs.Texts.{drill_text}
use Rattle.engine_meaning.specs.States.{State}
use Rattle.command_words.specs.declared.command.Drill.{Drill}
use Rattle.command_words.specs.declared.command.Command.TheVariants.{Drill as DrillCommand}
use Rattle.command_inputs.specs.declared.status.Status.{Status}
use Rattle.command_inputs.proofs.Reading.{reads_error}
use Rattle.command_meaning.specs.Output.{texts_due}
use Rattle.cosmetic_top.specs.Runs.{RunsAlone}
use Rattle.cosmetic_top.proofs.Drilled.{accepted, behind_page, drill_texts, page_reads}
use Rattle.cosmetic_top.proofs.Ends.{exits, failed, no_memory, page_kind, refused, wrote}
use Rattle.cosmetic_top.proofs.Texts.{drill_is}
use Rattle.remove_rounds.specs.Costs.{questions, single_tests}
use Rattle.page_steps.proofs.Unnumbered.{questions_bare, singles_bare}
use Rattle.command_inputs.specs.Inputs.{tree_of_source}
use Rattle.command_meaning.specs.Generator.{drill_page}
use Rattle.cosmetic_top.proofs.Spending.{drill_opening, drill_spent}
use Rattle.cosmetic_top.proofs.drill.drill.Goals as goal

abbrev line_of : Drill → DrillCounts → List ℕ
line_of words counts = drill_text counts.number counts.nodes counts.steps counts.hidden counts.taken words.brief

pub returns-in_err-tree-clause-runs : goal.returns-in_err-tree-clause-runs
returns-in_err-tree-clause-runs g c =
    let words = c.args.words.now in
    let large = g.M.Maker.large c.args.maker.now in
    let unread = g.M.Maker.unread c.args.maker.now in
    exits large unread (err_from_is_err_and c.from_residual.result c.from_residual.ensures.1)
    (refused large unread c.args.out.now (page_kind c.in_err-tree.field-0.0 c.in_err-tree.ensures.kinds)
    (reads_error (behind_page words) (page_reads words.number (Err c.in_err-tree.field-0.0) c.in_err-tree.ensures.due c.in_err-tree.ensures.kinds)))

pub returns-in_err-engine-clause-runs : goal.returns-in_err-engine-clause-runs
returns-in_err-engine-clause-runs g c =
    let words = c.args.words.now in
    let tree = c.in_ok-tree.tree in
    let large = g.M.Maker.large c.opened.new.maker in
    let unread = g.M.Maker.unread c.opened.new.maker in
    exits large unread (err_from_is_err_and c.from_residual-in_err-engine.result c.from_residual-in_err-engine.ensures.1)
    (no_memory large unread c.args.out.now (drill_texts words tree)
    (accepted words tree (page_reads words.number (Ok tree) c.in_ok-tree.ensures.due c.in_ok-tree.ensures.kinds)))

pub returns-in_err-counts-clause-runs : goal.returns-in_err-counts-clause-runs
returns-in_err-counts-clause-runs g c =
    let words = c.args.words.now in
    let tree = c.in_ok-tree.tree in
    let large = g.M.Maker.large c.opened.new.maker in
    let unread = g.M.Maker.unread c.opened.new.maker in
    exits large unread (err_from_is_err_and c.from_residual-in_err-counts.result c.from_residual-in_err-counts.ensures.1)
    (no_memory large unread c.args.out.now (drill_texts words tree)
    (accepted words tree (page_reads words.number (Ok tree) c.in_ok-tree.ensures.due c.in_ok-tree.ensures.kinds)))

pub returns-in-Ok-clause-runs : goal.returns-in-Ok-clause-runs
returns-in-Ok-clause-runs g c =
    let o = g.O.Sink in
    let words = c.args.words.now in
    let tree = c.in_ok-tree.tree in
    let large = g.M.Maker.large c.opened.new.maker in
    let unread = g.M.Maker.unread c.opened.new.maker in
    let said = ap (λ counts. line_of words counts ∷ []) c.in_ok-counts.ensures.counts ∙ drill_is large unread tree c.in_ok-engine.engine c.in_ok-engine.ensures.state words.number words.brief in
    wrote large unread (drill_texts words tree) c.in-Ok.field-0
    (accepted words tree (page_reads words.number (Ok tree) c.in_ok-tree.ensures.due c.in_ok-tree.ensures.kinds))
    (subst (λ (ts : List (List ℕ)). WritesTexts o.tells o.written o.faults OutputFault OutputMemory c.args.out.now c.write_drill.new.out ts (Ok c.in-Ok.field-0))
    said (text_alone c.in-Ok.ensures))

pub returns-in-Err-clause-runs : goal.returns-in-Err-clause-runs
returns-in-Err-clause-runs g c =
    let o = g.O.Sink in
    let words = c.args.words.now in
    let tree = c.in_ok-tree.tree in
    let large = g.M.Maker.large c.opened.new.maker in
    let unread = g.M.Maker.unread c.opened.new.maker in
    let said = ap (λ counts. line_of words counts ∷ []) c.in_ok-counts.ensures.counts ∙ drill_is large unread tree c.in_ok-engine.engine c.in_ok-engine.ensures.state words.number words.brief in
    subst (λ (status : Status). RunsAlone {T = Unit {0}} o.tells o.written o.faults c.args.out.now c.write_drill.new.out large unread (texts_due (DrillCommand words)) (Err status))
    (sym c.status_of.ensures)
    (failed large unread (drill_texts words tree) c.in-Err.error
    (accepted words tree (page_reads words.number (Ok tree) c.in_ok-tree.ensures.due c.in_ok-tree.ensures.kinds))
    (subst (λ (ts : List (List ℕ)). WritesTexts {T = Unit {0}} o.tells o.written o.faults OutputFault OutputMemory c.args.out.now c.write_drill.new.out ts (Err c.in-Err.error))
    said (text_alone c.in-Err.ensures)))

pub counted-requires : goal.counted-requires
counted-requires g c = omega (arith, ap (λ (s : State). s.page.tree.next) c.in_ok-engine.ensures.state.state, c.in_ok-tree.ensures.numbers)

pub returns-in_err-engine-clause-checks : goal.returns-in_err-engine-clause-checks
returns-in_err-engine-clause-checks g c =
    let maker = c.opened.new.maker in
    let number = c.args.words.now.number in
    drill_opening questions (g.M.Maker.large maker) (g.M.Maker.unread maker) c.in_ok-tree.tree number (tree_of_source (drill_page number)) c.args.checks.now c.opened.new.checks
    c.in_ok-tree.ensures.due c.in_err-engine.ensures.checks

pub returns-in_err-counts-clause-checks : goal.returns-in_err-counts-clause-checks
returns-in_err-counts-clause-checks g c =
    let number = c.args.words.now.number in
    drill_spent c.in_ok-engine.engine c.in_ok-engine.ensures.state questions questions_bare number (tree_of_source (drill_page number)) c.args.checks.now c.opened.new.checks c.counted.new.checks
    c.in_ok-tree.ensures.due c.in_ok-engine.ensures.checks c.in_err-counts.ensures.checks

pub returns-in-Ok-clause-checks : goal.returns-in-Ok-clause-checks
returns-in-Ok-clause-checks g c =
    let number = c.args.words.now.number in
    drill_spent c.in_ok-engine.engine c.in_ok-engine.ensures.state questions questions_bare number (tree_of_source (drill_page number)) c.args.checks.now c.opened.new.checks c.counted.new.checks
    c.in_ok-tree.ensures.due c.in_ok-engine.ensures.checks c.in_ok-counts.ensures.checks

pub returns-in-Err-clause-checks : goal.returns-in-Err-clause-checks
returns-in-Err-clause-checks g c =
    let number = c.args.words.now.number in
    drill_spent c.in_ok-engine.engine c.in_ok-engine.ensures.state questions questions_bare number (tree_of_source (drill_page number)) c.args.checks.now c.opened.new.checks c.counted.new.checks
    c.in_ok-tree.ensures.due c.in_ok-engine.ensures.checks c.in_ok-counts.ensures.checks

pub returns-in_err-engine-clause-parts : goal.returns-in_err-engine-clause-parts
returns-in_err-engine-clause-parts g c =
    let maker = c.opened.new.maker in
    let number = c.args.words.now.number in
    drill_opening single_tests (g.M.Maker.large maker) (g.M.Maker.unread maker) c.in_ok-tree.tree number (tree_of_source (drill_page number)) c.args.parts.now c.opened.new.parts
    c.in_ok-tree.ensures.due c.in_err-engine.ensures.parts

pub returns-in_err-counts-clause-parts : goal.returns-in_err-counts-clause-parts
returns-in_err-counts-clause-parts g c =
    let number = c.args.words.now.number in
    drill_spent c.in_ok-engine.engine c.in_ok-engine.ensures.state single_tests singles_bare number (tree_of_source (drill_page number)) c.args.parts.now c.opened.new.parts c.counted.new.parts
    c.in_ok-tree.ensures.due c.in_ok-engine.ensures.parts c.in_err-counts.ensures.parts

pub returns-in-Ok-clause-parts : goal.returns-in-Ok-clause-parts
returns-in-Ok-clause-parts g c =
    let number = c.args.words.now.number in
    drill_spent c.in_ok-engine.engine c.in_ok-engine.ensures.state single_tests singles_bare number (tree_of_source (drill_page number)) c.args.parts.now c.opened.new.parts c.counted.new.parts
    c.in_ok-tree.ensures.due c.in_ok-engine.ensures.parts c.in_ok-counts.ensures.parts

pub returns-in-Err-clause-parts : goal.returns-in-Err-clause-parts
returns-in-Err-clause-parts g c =
    let number = c.args.words.now.number in
    drill_spent c.in_ok-engine.engine c.in_ok-engine.ensures.state single_tests singles_bare number (tree_of_source (drill_page number)) c.args.parts.now c.opened.new.parts c.counted.new.parts
    c.in_ok-tree.ensures.due c.in_ok-engine.ensures.parts c.in_ok-counts.ensures.parts
