use Rattle.std.proofs.Common.{◌≡◌, ◌<◌, ◌≤◌, ◌+◌, ◌*◌, length}
use Rattle.page_tree.specs.Standings.{all}
use Rattle.page_tree.specs.Directions.{is_in}
use Rattle.procedural_ops.specs.Count.{many_asked, unasked_at}
use Rattle.procedural_ops.specs.Once.{IsLevelAt}
use Rattle.procedural_ops.specs.Reaching.{reached}
use Rattle.procedural_ops.specs.Standing.{StandsAt, is_open_at, remaining_at}
use Rattle.procedural_ops.proofs.plain.is_reached.Given as goal

abbrev pub invariant-climb : goal.invariant-climb
invariant-climb g l = record {
  stands : StandsAt l.context.dom.now l.context.path.now l.steps l.climb;
  level : 0 < l.climb.here.left → IsLevelAt l.context.dom.now l.steps l.climb;
  same : is_in (reached l.context.dom.now l.context.path.now l.steps) l.x ≡ is_open_at l.context.dom.now l.context.path.now l.steps l.climb;
  asked : l.parts + unasked_at l.context.dom.now l.steps l.climb ≤ l.fn.parts + many_asked l.steps * length (all l.context.dom.now);
}

abbrev pub decreases-climb : goal.decreases-climb
decreases-climb g l = remaining_at l.context.dom.now l.context.path.now l.steps l.climb
