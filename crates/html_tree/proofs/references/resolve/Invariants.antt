use Rattle.std.proofs.Common.{◌≡◌, ◌++◌, length}
use denote.Shadow.{shadow}
use denote.Text.{Utf8}
use Rattle.html_meaning.specs.References as meant
use Rattle.html_tree.proofs.references.resolve.Given as goal

abbrev pub invariant-loop-place : goal.invariant-loop-place
invariant-loop-place l = record { text : shadow (Utf8 l.rest); resolved : l.made ++ meant.resolved 0 l.rest ≡ meant.resolved 0 l.text }

abbrev pub decreases-loop-place : goal.decreases-loop-place
decreases-loop-place l = length l.rest
