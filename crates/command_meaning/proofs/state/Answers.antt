-- The laws, proved in `Active` and `Reports`.
use Rattle.command_meaning.proofs.Active.{active_unnumbered}
use Rattle.command_meaning.proofs.Reports.{apply_unnumbered, drill_unnumbered, lists_unnumbered}
use Rattle.command_meaning.proofs.state.Goals as goal

pub returns-clause-active : goal.returns-clause-active
returns-clause-active c = active_unnumbered

pub returns-clause-lists : goal.returns-clause-lists
returns-clause-lists c = lists_unnumbered

pub returns-clause-apply : goal.returns-clause-apply
returns-clause-apply c = apply_unnumbered

pub returns-clause-drill : goal.returns-clause-drill
returns-clause-drill c = drill_unnumbered
