use Rattle.std.proofs.Common.{List, ℕ, Err, Ok, refl, sym, subst}
use Rattle.std.proofs.lemmas.Result.{err_from_is_err_and}
use Rattle.page_tree.specs.Forest.{Tree}
use Rattle.command_inputs.specs.Due.{Due, Files, at_once, ◌>>=◌}
use Rattle.command_inputs.specs.declared.inputs.ApplyInputs.{ApplyInputs}
use Rattle.command_inputs.specs.declared.inputs.Sources.{Sources}
use Rattle.command_inputs.specs.declared.status.File.TheVariants as file
use Rattle.command_inputs.specs.Inputs.{optional_due, page_due}
use Rattle.command_inputs.specs.Reads.{ReadsAs}
use Rattle.command_words.specs.declared.command.Apply.{Apply}
use Rattle.address_patterns.specs.declared.page.Page.{Page}
use Rattle.command_inputs.proofs.Reading.{exits, none_at_ok, reads_error, reads_none, reads_then}
use Rattle.command_inputs.proofs.inputs.read_files.Goals as goal

abbrev inputs_of : Page → Sources → Tree → List ℕ → ApplyInputs
inputs_of at sources tree script = record { page = at; sources = sources; tree = tree; script = script }

abbrev behind_tree : Page → Sources → Tree → List ℕ → Files → Due ApplyInputs
behind_tree at sources tree script files = at_once (Ok (inputs_of at sources tree script))

abbrev behind_page : Apply → Page → Sources → Tree → Files → Due ApplyInputs
behind_page words at sources tree files = optional_due file.Script words.script files >>= λ script. behind_tree at sources tree script files

abbrev behind_sources : Apply → Page → Sources → Files → Due ApplyInputs
behind_sources words at sources files = page_due words.page files >>= λ tree. behind_page words at sources tree files

pub returns-in_err-sources-clause-reads : goal.returns-in_err-sources-clause-reads
returns-in_err-sources-clause-reads g c =
    exits (err_from_is_err_and c.from_residual.result c.from_residual.ensures.1)
    (reads_error (behind_sources c.args.words.now c.args.page) c.in_err-sources.ensures.reads)

pub returns-in_err-tree-clause-reads : goal.returns-in_err-tree-clause-reads
returns-in_err-tree-clause-reads g c =
    let s = g.S.Shelf in
    let read = subst (λ (name : List ℕ). ReadsAs {A = Tree} s.tells s.files s.begun s.faults c.read_sources.new.shelf c.read_tree.new.shelf (page_due name) (Err c.in_err-tree.field-0.0)) c.as_str.ensures c.in_err-tree.ensures.reads in
    exits (err_from_is_err_and c.from_residual-in_err-tree.result c.from_residual-in_err-tree.ensures.1)
    (reads_then (behind_sources c.args.words.now c.args.page) c.in_ok-sources.ensures.reads
    (reads_error (behind_page c.args.words.now c.args.page c.in_ok-sources.sources) read))

pub returns-in_err-script-clause-reads : goal.returns-in_err-script-clause-reads
returns-in_err-script-clause-reads g c =
    let s = g.S.Shelf in
    let read = subst (λ (name : List ℕ). ReadsAs s.tells s.files s.begun s.faults c.read_sources.new.shelf c.read_tree.new.shelf (page_due name) (Ok c.in_ok-tree.tree)) c.as_str.ensures c.in_ok-tree.ensures.reads in
    exits (err_from_is_err_and c.from_residual-in_err-script.result c.from_residual-in_err-script.ensures.1)
    (reads_then (behind_sources c.args.words.now c.args.page) c.in_ok-sources.ensures.reads
    (reads_then (behind_page c.args.words.now c.args.page c.in_ok-sources.sources) read
    (reads_error (behind_tree c.args.page c.in_ok-sources.sources c.in_ok-tree.tree) c.in_err-script.ensures.reads)))

pub returns-clause-reads : goal.returns-clause-reads
returns-clause-reads g c =
    let s = g.S.Shelf in
    let whole = inputs_of c.args.page c.in_ok-sources.sources c.in_ok-tree.tree c.in_ok-script.script in
    let read = subst (λ (name : List ℕ). ReadsAs s.tells s.files s.begun s.faults c.read_sources.new.shelf c.read_tree.new.shelf (page_due name) (Ok c.in_ok-tree.tree)) c.as_str.ensures c.in_ok-tree.ensures.reads in
    reads_then (behind_sources c.args.words.now c.args.page) c.in_ok-sources.ensures.reads
    (reads_then (behind_page c.args.words.now c.args.page c.in_ok-sources.sources) read
    (reads_then (behind_tree c.args.page c.in_ok-sources.sources c.in_ok-tree.tree) c.in_ok-script.ensures.reads
    (reads_none c.read_optional.new.shelf (Ok whole) (Ok whole) refl (none_at_ok whole))))
