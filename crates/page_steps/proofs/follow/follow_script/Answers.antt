use Rattle.std.proofs.Common.{◌+◌, List, length, refl, ap, arith, sym, ◌∙◌, zero-add}
use Rattle.selector_tree.specs.declared.filter.Taken.{Taken}
use Rattle.mutation_script.specs.Lines.{script_line}
use Rattle.command_meaning.specs.Report.{after_line, drilled_by, settling}
use Rattle.page_steps.proofs.Following.{drilled_alike}
use Rattle.page_steps.proofs.Numbers.{line_followed, line_within, script_within, settled_within}
use Rattle.remove_rounds.specs.Costs.{questions, single_tests}
use Rattle.page_steps.proofs.Spending.{line_spent, line_within as line_cost_within, opening_within, script_spent}
use Rattle.page_steps.proofs.follow.follow_script.Goals as goal

pub lines-init : goal.lines-init
lines-init g c =
    let opened = settling c.args.engine in
    record {
      left = drilled_alike c.in_ok-settled.settled opened.state c.in_ok-count.count (length opened.taken) c.new-lines.result _ c.in_ok-settled.ensures.engine
          (c.in_ok-count.ensures ∙ zero-add (length c.in_ok-settled.taken) ∙ ap length c.in_ok-settled.ensures.taken) c.new-lines.ensures.lines;
      numbers = script_within c.args.script.now c.new-lines.result c.in_ok-settled.settled.page.tree.next c.new-lines.ensures.lines
          (settled_within c.args.engine c.in_ok-settled.settled (length c.args.script.now) c.in_ok-settled.ensures.engine c.requires.numbers);
      checks = omega (arith, c.in_ok-settled.ensures.checks, script_spent questions c.args.engine c.in_ok-settled.settled c.args.script.now c.new-lines.result c.in_ok-settled.ensures.engine c.new-lines.ensures.lines);
      parts = omega (arith, c.in_ok-settled.ensures.parts, script_spent single_tests c.args.engine c.in_ok-settled.settled c.args.script.now c.new-lines.result c.in_ok-settled.ensures.engine c.new-lines.ensures.lines);
    }

pub follow_line-requires : goal.follow_line-requires
follow_line-requires g c = line_within c.lines.page (c.in-Some.line.number, c.in-Some.line.bytes.now) c.lines.lines c.next.new.self c.in-Some.ensures c.lines.invariant.numbers

pub lines-preserved : goal.lines-preserved
lines-preserved g c =
    let step = after_line (script_line c.in-Some.line.bytes.now) c.lines.page in
    let followed = c.in_ok-engine.field-0 in
    record {
      left = drilled_alike followed.engine step.state c.in_ok-count-2.count (c.lines.count + length step.taken) c.next.new.self c.next.new.self
          c.in_ok-engine.ensures.engine (c.in_ok-count-2.ensures ∙ ap (λ (l : List Taken). c.lines.count + length l) c.in_ok-engine.ensures.taken) refl
          ∙ sym (ap (drilled_by (record { state = c.lines.page; taken = c.lines.count })) c.in-Some.ensures)
          ∙ c.lines.invariant.left;
      numbers = line_followed c.lines.page followed.engine (c.in-Some.line.number, c.in-Some.line.bytes.now) c.lines.lines c.next.new.self c.in-Some.ensures
          c.in_ok-engine.ensures.engine c.lines.invariant.numbers;
      checks = omega (arith, line_spent questions c.lines.page followed.engine (c.in-Some.line.number, c.in-Some.line.bytes.now) c.lines.lines c.next.new.self c.in-Some.ensures c.in_ok-engine.ensures.engine, c.in_ok-engine.ensures.checks, c.lines.invariant.checks);
      parts = omega (arith, line_spent single_tests c.lines.page followed.engine (c.in-Some.line.number, c.in-Some.line.bytes.now) c.lines.lines c.next.new.self c.in-Some.ensures c.in_ok-engine.ensures.engine, c.in_ok-engine.ensures.parts, c.lines.invariant.parts);
    }

pub returns-clause-done : goal.returns-clause-done
returns-clause-done g c = sym (ap (drilled_by (record { state = c.lines.page; taken = c.lines.count })) c.in_default.ensures.0) ∙ c.lines.invariant.left

pub returns-in_err-settled-clause-checks : goal.returns-in_err-settled-clause-checks
returns-in_err-settled-clause-checks g c = omega (arith, opening_within questions c.args.engine c.args.script.now, c.in_err-settled.ensures.checks)

pub returns-in_err-count-clause-checks : goal.returns-in_err-count-clause-checks
returns-in_err-count-clause-checks g c = omega (arith, opening_within questions c.args.engine c.args.script.now, c.in_ok-settled.ensures.checks)

pub returns-in_err-engine-clause-checks : goal.returns-in_err-engine-clause-checks
returns-in_err-engine-clause-checks g c =
    omega (arith, line_cost_within questions c.lines.page (c.in-Some.line.number, c.in-Some.line.bytes.now) c.lines.lines c.next.new.self c.in-Some.ensures, c.in_err-engine.ensures.checks, c.lines.invariant.checks)

pub returns-in_err-count-2-clause-checks : goal.returns-in_err-count-2-clause-checks
returns-in_err-count-2-clause-checks g c =
    omega (arith, line_cost_within questions c.lines.page (c.in-Some.line.number, c.in-Some.line.bytes.now) c.lines.lines c.next.new.self c.in-Some.ensures, c.in_ok-engine.ensures.checks, c.lines.invariant.checks)

pub returns-clause-checks : goal.returns-clause-checks
returns-clause-checks g c = omega (arith, c.lines.invariant.checks)

pub returns-in_err-settled-clause-parts : goal.returns-in_err-settled-clause-parts
returns-in_err-settled-clause-parts g c = omega (arith, opening_within single_tests c.args.engine c.args.script.now, c.in_err-settled.ensures.parts)

pub returns-in_err-count-clause-parts : goal.returns-in_err-count-clause-parts
returns-in_err-count-clause-parts g c = omega (arith, opening_within single_tests c.args.engine c.args.script.now, c.in_ok-settled.ensures.parts)

pub returns-in_err-engine-clause-parts : goal.returns-in_err-engine-clause-parts
returns-in_err-engine-clause-parts g c =
    omega (arith, line_cost_within single_tests c.lines.page (c.in-Some.line.number, c.in-Some.line.bytes.now) c.lines.lines c.next.new.self c.in-Some.ensures, c.in_err-engine.ensures.parts, c.lines.invariant.parts)

pub returns-in_err-count-2-clause-parts : goal.returns-in_err-count-2-clause-parts
returns-in_err-count-2-clause-parts g c =
    omega (arith, line_cost_within single_tests c.lines.page (c.in-Some.line.number, c.in-Some.line.bytes.now) c.lines.lines c.next.new.self c.in-Some.ensures, c.in_ok-engine.ensures.parts, c.lines.invariant.parts)

pub returns-clause-parts : goal.returns-clause-parts
returns-clause-parts g c = omega (arith, c.lines.invariant.parts)
