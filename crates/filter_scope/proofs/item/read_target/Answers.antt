use Rattle.std.proofs.Common.{◌∙◌, ap, sym}
use Rattle.std.specs.Prelude.{option_map}
use Rattle.filter_scope.specs.declared.scope.Target.TheVariants.{Host}
use Rattle.filter_scope.proofs.Reading.{host_text}
use Rattle.filter_scope.proofs.item.read_target.Goals as goal

pub returns-in-Some-3 : goal.returns-in-Some-3
returns-in-Some-3 c =
    let none = rw c.in-None.is at c.strip_suffix.ensures.cases in
    ap (option_map Host) (sym c.in-Some-3.is ∙ c.in_ok-host-in-None.ensures) ∙ host_text c.args.text.now none

pub returns-in-None-3 : goal.returns-in-None-3
returns-in-None-3 c =
    let none = rw c.in-None.is at c.strip_suffix.ensures.cases in
    ap (option_map Host) (sym c.in-None-3.is ∙ c.in_ok-host-in-None.ensures) ∙ host_text c.args.text.now none
