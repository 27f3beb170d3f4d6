use Rattle.host_names.proofs.Labels.{cut_at_last, not_cut}
use Rattle.host_names.proofs.ends.split_last.Goals as goal

pub returns-in-Some : goal.returns-in-Some
returns-in-Some c =
    let found = rw c.in-Some.is at c.rsplit_once.ensures.cases in
    cut_at_last c.args.name.now c.in-Some.front.now c.in-Some.label.now found

pub returns-in-None : goal.returns-in-None
returns-in-None c =
    let none = rw c.in-None.is at c.rsplit_once.ensures.cases in
    not_cut c.args.name.now none
