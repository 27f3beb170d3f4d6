use Rattle.std.proofs.Common.{Ok, refl}
use Rattle.std.proofs.lemmas.Result.{err_from_is_err_and}
use Rattle.command_inputs.specs.Due.{at_once, ◌>>=◌}
use Rattle.command_inputs.specs.declared.TheConstants.{FILE_LIMIT}
use Rattle.command_inputs.specs.Inputs.{lists_due}
use Rattle.command_inputs.proofs.Reading.{exits, none_at_ok, reads_error, reads_none, reads_then}
use Rattle.command_inputs.proofs.inputs.read_sources.Goals as goal

pub returns-in_err-suffixes-clause-reads : goal.returns-in_err-suffixes-clause-reads
returns-in_err-suffixes-clause-reads g c =
    exits (err_from_is_err_and c.from_residual.result c.from_residual.ensures.1)
    (reads_error (λ rules fs. lists_due 1 FILE_LIMIT c.args.lists.now fs >>= λ lists. at_once (Ok (record { suffixes = rules; lists = lists }))) c.in_err-suffixes.ensures.reads)

pub returns-in_err-lists-clause-reads : goal.returns-in_err-lists-clause-reads
returns-in_err-lists-clause-reads g c =
    exits (err_from_is_err_and c.from_residual-in_err-lists.result c.from_residual-in_err-lists.ensures.1)
    (reads_then (λ rules fs. lists_due 1 FILE_LIMIT c.args.lists.now fs >>= λ lists. at_once (Ok (record { suffixes = rules; lists = lists }))) c.in_ok-suffixes.ensures.reads
    (reads_error (λ lists fs. at_once (Ok (record { suffixes = c.in_ok-suffixes.suffixes; lists = lists }))) c.in_err-lists.ensures.reads))

pub returns-clause-reads : goal.returns-clause-reads
returns-clause-reads g c =
    reads_then (λ rules fs. lists_due 1 FILE_LIMIT c.args.lists.now fs >>= λ lists. at_once (Ok (record { suffixes = rules; lists = lists }))) c.in_ok-suffixes.ensures.reads
    (reads_then (λ lists fs. at_once (Ok (record { suffixes = c.in_ok-suffixes.suffixes; lists = lists }))) c.in_ok-lists.ensures.reads
    (reads_none c.read_lists.new.shelf (Ok (record { suffixes = c.in_ok-suffixes.suffixes; lists = c.in_ok-lists.lists })) (Ok (record { suffixes = c.in_ok-suffixes.suffixes; lists = c.in_ok-lists.lists })) refl (none_at_ok (record { suffixes = c.in_ok-suffixes.suffixes; lists = c.in_ok-lists.lists }))))
