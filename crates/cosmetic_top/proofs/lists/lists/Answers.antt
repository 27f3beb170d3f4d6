use Rattle.std.proofs.Common.{List, ℕ, Ok, Err, refl, subst, sym}
use Rattle.std.proofs.lemmas.Result.{err_from_is_err_and}
use Rattle.cos_outside.specs.Writes.{WritesTexts}
use Rattle.hide_report.specs.declared.writing.ReportError.TheVariants.{WriteFault as OutputFault, NoMemory as OutputMemory}
use Rattle.command_words.specs.declared.command.Lists.{Lists}
use Rattle.command_inputs.specs.declared.inputs.Sources.{Sources}
use Rattle.command_words.specs.declared.command.Command.TheVariants.{Lists as ListsCommand}
use Rattle.command_inputs.specs.declared.status.Status.{Status}
use Rattle.command_inputs.specs.Due.{Due, Files, at_once}
use Rattle.command_inputs.proofs.Reading.{none_at_ok, reads_error, reads_none, reads_then}
use Rattle.command_meaning.specs.Output.{Texts, texts_due}
use Rattle.command_meaning.specs.Report.{lists_from, lists_report}
use Rattle.cosmetic_top.specs.Runs.{RunsAs}
use Rattle.cosmetic_top.proofs.Ends.{exits, failed, file_kind, no_memory, refused, wrote}
use Rattle.cosmetic_top.proofs.Texts.{lists_are}
use Rattle.cosmetic_top.proofs.lists.lists.Goals as goal

-- what is due behind the sources
abbrev texts_of : Lists → Sources → Texts
texts_of words sources = λ large unread. lists_report sources (lists_from words.env large unread 1 sources.lists)

abbrev behind : Lists → Sources → Files → Due Texts
behind words sources files = at_once (Ok (texts_of words sources))

pub returns-in_err-sources-clause-runs : goal.returns-in_err-sources-clause-runs
returns-in_err-sources-clause-runs g c =
    exits (g.M.Maker.large c.args.maker.now) (g.M.Maker.unread c.args.maker.now) (err_from_is_err_and c.from_residual.result c.from_residual.ensures.1)
    (refused (g.M.Maker.large c.args.maker.now) (g.M.Maker.unread c.args.maker.now) c.args.out.now (file_kind c.in_err-sources.field-0.0 c.in_err-sources.ensures.kinds)
    (reads_error (behind c.args.words.now) c.in_err-sources.ensures.reads))

pub returns-in_err-read-clause-runs : goal.returns-in_err-read-clause-runs
returns-in_err-read-clause-runs g c =
    let maker = c.read_sources.new.maker in
    let texts = texts_of c.args.words.now c.in_ok-sources.sources in
    exits (g.M.Maker.large maker) (g.M.Maker.unread maker) (err_from_is_err_and c.from_residual-in_err-read.result c.from_residual-in_err-read.ensures.1)
    (no_memory (g.M.Maker.large maker) (g.M.Maker.unread maker) c.args.out.now texts
    (reads_then (behind c.args.words.now) c.in_ok-sources.ensures.reads (reads_none c.read_lists.new.shelf (Ok texts) (Ok texts) refl (none_at_ok texts))))

pub returns-in-Ok-clause-runs : goal.returns-in-Ok-clause-runs
returns-in-Ok-clause-runs g c =
    let o = g.O.Sink in
    let words = c.args.words.now in
    let sources = c.in_ok-sources.sources in
    let large = g.M.Maker.large c.read_sources.new.maker in
    let unread = g.M.Maker.unread c.read_sources.new.maker in
    let texts = texts_of words sources in
    let read = c.in_ok-read.ensures in
    wrote large unread texts c.in-Ok.field-0
    (reads_then (behind words) c.in_ok-sources.ensures.reads (reads_none c.read_lists.new.shelf (Ok texts) (Ok texts) refl (none_at_ok texts)))
    (subst (λ (ts : List (List ℕ)). WritesTexts o.tells o.written o.faults OutputFault OutputMemory c.args.out.now c.write_lists_report.new.out ts (Ok c.in-Ok.field-0))
    (lists_are words.env large unread sources c.in_ok-read.read read.bad read.rules read.lists) c.in-Ok.ensures)

pub returns-clause-runs : goal.returns-clause-runs
returns-clause-runs g c =
    let s = g.S.Shelf in
    let o = g.O.Sink in
    let words = c.args.words.now in
    let sources = c.in_ok-sources.sources in
    let large = g.M.Maker.large c.read_sources.new.maker in
    let unread = g.M.Maker.unread c.read_sources.new.maker in
    let texts = texts_of words sources in
    let read = c.in_ok-read.ensures in
    subst (λ (status : Status). RunsAs {T = Unit {0}} s.tells s.files s.begun s.faults c.args.shelf.now c.read_lists.new.shelf o.tells o.written o.faults c.args.out.now c.write_lists_report.new.out
    large unread (texts_due (ListsCommand words)) (Err status))
    (sym c.status_of.ensures)
    (failed large unread texts c.in-Err.error
    (reads_then (behind words) c.in_ok-sources.ensures.reads (reads_none c.read_lists.new.shelf (Ok texts) (Ok texts) refl (none_at_ok texts)))
    (subst (λ (ts : List (List ℕ)). WritesTexts {T = Unit {0}} o.tells o.written o.faults OutputFault OutputMemory c.args.out.now c.write_lists_report.new.out ts (Err c.in-Err.error))
    (lists_are words.env large unread sources c.in_ok-read.read read.bad read.rules read.lists) c.in-Err.ensures))
