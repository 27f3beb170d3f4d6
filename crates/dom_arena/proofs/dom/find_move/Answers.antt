use Rattle.std.proofs.Common.{◌≡◌, ◌≤◌, Some, sym, ◌∙◌, ap, arith, rules}
use Rattle.std.specs.Prelude.{option_map}
use Rattle.page_tree.specs.Forest.{height, count}
use Rattle.page_tree.specs.Edits.{subtree, children_of, detached}
use Rattle.page_tree.specs.Refusals.{too_deep, relink_refused}
use Rattle.page_tree.proofs.Keeps.{shallow}
use Rattle.dom_arena.specs.declared.refusals.DomError.{DomError}
use Rattle.dom_arena.specs.Linked.{tree_of}
use Rattle.dom_arena.specs.Refusals.{error_of}
use Rattle.dom_arena.proofs.Depths.{depth_known}
use Rattle.dom_arena.proofs.Moving.{bad_place, deep_place, good_place, children_of-detached}
use Rattle.dom_arena.proofs.dom.find_move.Goals as goal

pub returns-in-None-clause-refused : goal.returns-in-None-clause-refused
returns-in-None-clause-refused c =
    let t = tree_of c.args.table.now.0 in
    let apart : count c.args.parent (subtree c.args.n t.nodes) ≡ 0 = c.is_within.ensures.apart c.if-is_within.false in
    let others = children_of-detached c.args.table.now.0 c.requires c.args.n c.in_ok-check_node.ensures.used c.in_ok-check_node.ensures.below c.args.parent c.in_ok-check_parent.ensures.used apart in
    bad_place t c.args.n c.args.parent c.args.place c.in_ok-check_node.ensures.accepted c.in_ok-check_parent.ensures.accepted apart (omega (arith, others, c.in-None.ensures.past))

pub returns-in_err-check_height-in-Some-clause-refused : goal.returns-in_err-check_height-in-Some-clause-refused
returns-in_err-check_height-in-Some-clause-refused c =
    let t = tree_of c.args.table.now.0 in
    let apart : count c.args.parent (subtree c.args.n t.nodes) ≡ 0 = c.is_within.ensures.apart c.if-is_within.false in
    let others = children_of-detached c.args.table.now.0 c.requires c.args.n c.in_ok-check_node.ensures.used c.in_ok-check_node.ensures.below c.args.parent c.in_ok-check_parent.ensures.used apart in
    let within : c.args.place ≤ children_of c.args.parent (detached c.args.n t) = omega (arith, others, c.in-Some.ensures.within) in
    let deep = λ (e : DomError). deep_place t c.args.n c.args.parent c.args.place c.in_ok-check_node.ensures.accepted c.in_ok-check_parent.ensures.accepted apart within e in
    let refused : option_map error_of (relink_refused c.args.n c.args.parent c.args.place t) ≡ Some c.in_err-check_height-in-Some.field-0.0 =
    deep c.in_err-check_height-in-Some.field-0.0 c.in_err-check_height-in-Some.ensures.refused in
    search (rules, refused, c.from_residual-in_err-check_height-in-Some.ensures)

pub returns-in_ok-check_height-in-Some-clause-accepted : goal.returns-in_ok-check_height-in-Some-clause-accepted
returns-in_ok-check_height-in-Some-clause-accepted c =
    let t = tree_of c.args.table.now.0 in
    let apart : count c.args.parent (subtree c.args.n t.nodes) ≡ 0 = c.is_within.ensures.apart c.if-is_within.false in
    let others = children_of-detached c.args.table.now.0 c.requires c.args.n c.in_ok-check_node.ensures.used c.in_ok-check_node.ensures.below c.args.parent c.in_ok-check_parent.ensures.used apart in
    good_place t c.args.n c.args.parent c.args.place c.in_ok-check_node.ensures.accepted c.in_ok-check_parent.ensures.accepted apart (omega (arith, others, c.in-Some.ensures.within))
    c.in_ok-check_height-in-Some.ensures.accepted

pub returns-in_ok-check_height-in-Some-clause-place : goal.returns-in_ok-check_height-in-Some-clause-place
returns-in_ok-check_height-in-Some-clause-place c =
    let t = tree_of c.args.table.now.0 in
    let known = depth_known c.args.table.now.0 t.nodes c.requires c.args.parent c.in_ok-check_parent.ensures.used in
    record {
      node = c.in_ok-check_node.ensures.used;
      not_document = c.in_ok-check_node.ensures.below;
      used = c.in_ok-check_parent.ensures.used;
      holds = c.in_ok-check_parent.ensures.holds;
      apart = c.is_within.ensures.apart c.if-is_within.false;
      within = c.in-Some.ensures.within;
      left = c.in-Some.ensures.before;
      right = c.in-Some.ensures.after;
      depth = known.0;
      deep = known.1;
      low = shallow known.0 (height (subtree c.args.n t.nodes)) (ap (λ o. too_deep o (height (subtree c.args.n t.nodes))) (sym known.1) ∙ c.in_ok-check_height-in-Some.ensures.accepted);
    }
