use Rattle.std.proofs.Common.{◌≡◌, ◌+◌, ◌≤◌, List, ℕ, length, subst, sym}
use Rattle.std.proofs.lemmas.Result.{err_from_is_err_and}
use Rattle.command_inputs.specs.declared.TheConstants.{FILE_LIMIT}
use Rattle.command_inputs.specs.Due.{at_once}
use Rattle.command_inputs.specs.Inputs.{tree_of_bytes}
use Rattle.command_inputs.specs.Reads.{IsDue}
use Rattle.command_inputs.proofs.Pages.{few_within}
use Rattle.command_inputs.proofs.Reading.{exits, no_page_fault, reads_error, reads_none, reads_then}
use Rattle.command_inputs.proofs.page.read_tree.Goals as goal

pub returns-in_err-bytes-clause-reads : goal.returns-in_err-bytes-clause-reads
returns-in_err-bytes-clause-reads g c =
    exits (err_from_is_err_and c.from_residual.result c.from_residual.ensures.1)
    (reads_error (λ bytes fs. at_once (tree_of_bytes bytes)) c.in_err-bytes.ensures.reads)

pub returns-clause-reads : goal.returns-clause-reads
returns-clause-reads g c =
    reads_then (λ bytes fs. at_once (tree_of_bytes bytes)) c.in_ok-bytes.ensures.reads
    (reads_none c.read_within.new.shelf (tree_of_bytes c.in_ok-bytes.bytes) c.tree_of.result
    (subst (λ (bytes : List ℕ). IsDue c.tree_of.result (tree_of_bytes bytes)) c.as_slice.ensures c.tree_of.ensures.due) (no_page_fault c.tree_of.result c.tree_of.ensures.kinds))

pub returns-clause-numbers : goal.returns-clause-numbers
returns-clause-numbers g c =
    few_within c.tree_of.result (length c.as_slice.result.now) FILE_LIMIT c.tree_of.ensures.numbers
    (subst (λ (v : List ℕ). length v ≤ FILE_LIMIT) (sym c.as_slice.ensures) c.in_ok-bytes.ensures.within)
