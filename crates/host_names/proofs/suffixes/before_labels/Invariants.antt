use Rattle.std.proofs.Common.{◌≡◌}
use denote.Shadow.{shadow}
use denote.Text.{Utf8}
use Rattle.host_names.specs.Hosts.{labels_of}
use Rattle.host_names.specs.Suffixes.{before}
use Rattle.host_names.proofs.suffixes.before_labels.Given as goal

abbrev pub invariant-labels : goal.invariant-labels
invariant-labels l = record {
  same : before l.count (labels_of l.host) ≡ before l.more (labels_of l.left);
  text : shadow (Utf8 l.left);
}

abbrev pub decreases-labels : goal.decreases-labels
decreases-labels l = l.more
