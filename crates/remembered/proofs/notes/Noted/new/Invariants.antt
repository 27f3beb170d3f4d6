use Rattle.std.proofs.Common.{◌≡◌, ◌≤◌, ◌-◌, vec_len}
use Rattle.remembered.proofs.Blank.{blanks}
use Rattle.remembered.proofs.notes.Noted.new.Given as goal

abbrev pub invariant-columns : goal.invariant-columns
invariant-columns l = record { blank : l.columns.items ≡ blanks (vec_len l.columns); few : vec_len l.columns ≤ l.many }

abbrev pub decreases-columns : goal.decreases-columns
decreases-columns l = l.many - vec_len l.columns
