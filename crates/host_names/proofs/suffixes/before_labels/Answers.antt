use Rattle.std.proofs.Common.{◌≡◌, ◌∙◌, ap, arith, sym}
use Rattle.host_names.specs.Hosts.{labels_of}
use Rattle.host_names.specs.Suffixes.{before}
use Rattle.host_names.proofs.Labels.{labels_all}
use Rattle.host_names.proofs.suffixes.before_labels.Goals as goal

pub returns : goal.returns
returns c =
    let none : c.labels.more ≡ 0 = omega arith in
    sym (c.labels.invariant.same ∙ ap (λ n. before n (labels_of c.labels.left.now)) none ∙ labels_all c.labels.left.now)
