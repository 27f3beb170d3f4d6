use Rattle.std.proofs.Common.{length}
use Rattle.procedural_ops.proofs.rest.behind_far.Given as goal

abbrev pub decreases-steps : goal.decreases-steps
decreases-steps l = length l.left
