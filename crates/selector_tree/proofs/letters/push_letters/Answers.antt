use Rattle.selector_tree.proofs.Spelled.{shorter}
use Rattle.selector_tree.proofs.letters.push_letters.Goals as goal

pub loop-c-smaller : goal.loop-c-smaller
loop-c-smaller c = shorter c.in-Some.c c.loop-c.rest.now c.in-Some.behind.now c.in-Some.ensures
