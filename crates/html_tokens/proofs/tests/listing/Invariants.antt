use Rattle.std.proofs.Common.{length}
use Rattle.html_tokens.proofs.tests.listing.Given as goal

abbrev pub decreases-loop-token : goal.decreases-loop-token
decreases-loop-token l = length l.tokens
