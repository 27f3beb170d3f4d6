use Rattle.std.proofs.Common.{◌≡◌, length}
use Rattle.cos_source.specs.Spaces.{without_last_spaces}
use Rattle.cos_source.proofs.spaces.trim_end.Given as goal

abbrev pub invariant-spaces : goal.invariant-spaces
invariant-spaces l = without_last_spaces l.rest ≡ without_last_spaces l.fn.text

abbrev pub decreases-spaces : goal.decreases-spaces
decreases-spaces l = length l.rest
