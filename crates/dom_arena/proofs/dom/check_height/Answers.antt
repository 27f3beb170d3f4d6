use Rattle.std.proofs.Common.{◌≡◌, ◌+◌, ap, arith}
use Rattle.page_tree.specs.Forest.{rooted, height, depth_in}
use Rattle.page_tree.specs.Edits.{subtree}
use Rattle.page_tree.proofs.Depths.{depth_in-height}
use Rattle.dom_arena.specs.Linked.{tree_of}
use Rattle.dom_arena.specs.Parts.{part_from}
use Rattle.dom_arena.proofs.Moved.{height-subtree, part_under}
use Rattle.dom_arena.proofs.Moving.{part_too_deep, part_fits}
use Rattle.dom_arena.proofs.Parting.{height-size}
use Rattle.dom_arena.proofs.dom.check_height.Goals as goal

pub height_from-height-requires : goal.height_from-height-requires
height_from-height-requires c = (part_under c.args.table.now.0 _ c.requires.stands c.args.n c.requires.node c.requires.below c.first_child.result c.first_child.ensures).0

pub overflow_add-height : goal.overflow_add-height
overflow_add-height c =
    let part = part_under c.args.table.now.0 _ c.requires.stands c.args.n c.requires.node c.requires.below c.first_child.result c.first_child.ensures in
    omega (arith, c.height_from-height.ensures, height-size (part_from c.args.table.now.0 c.first_child.result), part.0.few)

pub overflow_add-depth_of : goal.overflow_add-depth_of
overflow_add-depth_of c =
    let part = part_under c.args.table.now.0 _ c.requires.stands c.args.n c.requires.node c.requires.below c.first_child.result c.first_child.ensures in
    omega (
      arith,
      c.height_from-height.ensures,
      height-size (part_from c.args.table.now.0 c.first_child.result),
      part.0.few,
      depth_in-height c.args.parent 0 c.depth_of.result (rooted (tree_of c.args.table.now.0).nodes) c.depth_of.ensures,
      c.requires.stands.tree.low,
    )

pub returns-then-depth_of-height-gt-DEPTH_LIMIT-clause-refused : goal.returns-then-depth_of-height-gt-DEPTH_LIMIT-clause-refused
returns-then-depth_of-height-gt-DEPTH_LIMIT-clause-refused c =
    let part = part_under c.args.table.now.0 _ c.requires.stands c.args.n c.requires.node c.requires.below c.first_child.result c.first_child.ensures in
    let high : height (subtree c.args.n (tree_of c.args.table.now.0).nodes) ≡ c.height_from-height.result + 1 =
    omega (arith, height-subtree c.args.table.now.0 _ c.requires.stands c.args.n c.requires.node c.requires.below, c.height_from-height.ensures, ap height part.1) in
    part_too_deep (depth_in c.args.parent 0 (rooted (tree_of c.args.table.now.0).nodes)) c.depth_of.result (height (subtree c.args.n (tree_of c.args.table.now.0).nodes)) c.depth_of.ensures
    (omega (arith, high, c.if-depth_of-height-gt-DEPTH_LIMIT.true))

pub returns-clause-accepted : goal.returns-clause-accepted
returns-clause-accepted c =
    let part = part_under c.args.table.now.0 _ c.requires.stands c.args.n c.requires.node c.requires.below c.first_child.result c.first_child.ensures in
    let high : height (subtree c.args.n (tree_of c.args.table.now.0).nodes) ≡ c.height_from-height.result + 1 =
    omega (arith, height-subtree c.args.table.now.0 _ c.requires.stands c.args.n c.requires.node c.requires.below, c.height_from-height.ensures, ap height part.1) in
    part_fits (depth_in c.args.parent 0 (rooted (tree_of c.args.table.now.0).nodes)) c.depth_of.result (height (subtree c.args.n (tree_of c.args.table.now.0).nodes)) c.depth_of.ensures
    (omega (arith, high, c.if-depth_of-height-gt-DEPTH_LIMIT.false))
