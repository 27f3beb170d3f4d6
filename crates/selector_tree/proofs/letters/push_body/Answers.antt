use Rattle.std.proofs.Common.{rules}
use Rattle.selector_tree.proofs.Spelled.{shorter, body-added}
use Rattle.selector_tree.proofs.letters.push_body.Goals as goal

pub loop-c-smaller : goal.loop-c-smaller
loop-c-smaller c = shorter c.in-Some.c c.loop-c.rest.now c.in-Some.behind.now c.in-Some.ensures

pub loop-c-preserved : goal.loop-c-preserved
loop-c-preserved c = (
  search rules,
  body-added c.loop-c.out c.push_marked.new.out _ c.loop-c.rest.now c.in-Some.behind.now c.loop-c.paired c.is_bare.result c.is_bare-paired.result c.in-Some.c
      c.in-Some.ensures c.is_bare.ensures c.is_bare-paired.ensures c.in_ok-push_marked.ensures c.loop-c.invariant.1,
)
