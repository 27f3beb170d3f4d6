use Rattle.std.proofs.Common.{◌∙◌, List, ◌++◌, [], ap, reverse, sym}
use Rattle.list_entries.specs.declared.notice.Notice.{Notice}
use Rattle.list_lines.specs.declared.nesting.Unclosed.{Unclosed}
use Rattle.std.specs.Prelude.{Option}
use Rattle.list_reader.specs.Unclosed.{with_unclosed}
use Rattle.list_reader.proofs.Weaving.{noticed_left, part_left, pushed_back}
use Rattle.list_reader.proofs.unclosed.with_unclosed.Goals as goal

pub parts-preserved-in-Continue-branch-2 : goal.parts-preserved-in-Continue-branch-2
parts-preserved-in-Continue-branch-2 c =
    let inv = c.parts.invariant in
    let moved = c.move_from.new.back in
    let final = c.push.new.self in
    let put = pushed_back moved final _ c.in_ok-push.ensures.ok ∙ sym (ap (λ (u : Option Unclosed). with_unclosed u [] ++ reverse moved) c.in-Some-unclosed.is) in
    record {
      noticed = noticed_left c.parts.notices c.move_from.new.notices c.parts.back moved final c.parts.ifs c.leave.new.self c.in-Some.part c.in-Some.ensures c.in_ok-move_from.ensures.left inv.noticed;
      all = part_left c.parts.notices c.move_from.new.notices c.parts.back moved final c.parts.ifs c.leave.new.self c.in-Some.part _ c.in-Some.ensures c.in_ok-move_from.ensures.left c.in_ok-move_from.ensures.moved put inv.all;
    }

pub parts-preserved : goal.parts-preserved
parts-preserved c =
    let inv = c.parts.invariant in
    let moved = c.move_from.new.back in
    let put = sym (ap (λ (u : Option Unclosed). with_unclosed u [] ++ reverse moved) c.in_default-unclosed.is) in
    record {
      noticed = noticed_left c.parts.notices c.move_from.new.notices c.parts.back moved moved c.parts.ifs c.leave.new.self c.in-Some.part c.in-Some.ensures c.in_ok-move_from.ensures.left inv.noticed;
      all = part_left c.parts.notices c.move_from.new.notices c.parts.back moved moved c.parts.ifs c.leave.new.self c.in-Some.part _ c.in-Some.ensures c.in_ok-move_from.ensures.left c.in_ok-move_from.ensures.moved put inv.all;
    }
