use Rattle.std.proofs.Common.{◌∙◌, ap, sym}
use Rattle.std.proofs.lemmas.Bool.Decides.{Decides-eqb}
use Rattle.std.proofs.lemmas.Slice.Eq.{strip_suffix_is}
use Rattle.host_names.specs.Hosts.{is_under}
use Rattle.host_names.proofs.Under.{not_under, under_front}
use Rattle.host_names.proofs.host.ends_with_name.Goals as goal

pub returns-in-Some : goal.returns-in-Some
returns-in-Some c =
    let found = rw c.in-Some.is at (strip_suffix_is Decides-eqb c.args.host.now c.args.name.now c.strip_suffix.result c.strip_suffix.ensures.cases) in
    c.is_front.ensures ∙ sym (ap (is_under c.args.name.now) found ∙ under_front c.in-Some.front.now c.args.name.now)

pub returns-in-None : goal.returns-in-None
returns-in-None c =
    let none = rw c.in-None.is at (strip_suffix_is Decides-eqb c.args.host.now c.args.name.now c.strip_suffix.result c.strip_suffix.ensures.cases) in
    sym (not_under c.args.name.now c.args.host.now none)
