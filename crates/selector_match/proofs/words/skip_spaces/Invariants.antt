use Rattle.std.proofs.Common.{◌≡◌, ◌≤◌, length}
use Rattle.page_tree.specs.Words.{words}
use Rattle.selector_match.proofs.words.skip_spaces.Given as goal

abbrev pub invariant-spaces : goal.invariant-spaces
invariant-spaces l = record { words : words l.rest ≡ words l.text; no_longer : length l.rest ≤ length l.text }

abbrev pub decreases-spaces : goal.decreases-spaces
decreases-spaces l = length l.rest
