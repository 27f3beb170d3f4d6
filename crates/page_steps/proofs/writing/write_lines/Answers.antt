use Rattle.std.proofs.Common.{ℕ, List, length, arith, sym, subst, ap}
use Rattle.std.proofs.lemmas.Result.{err_from_is_err_and}
use Rattle.cos_source.specs.Lines.{lines_of, numbered}
use Rattle.command_meaning.specs.Report.{lines_texts}
use Rattle.page_steps.proofs.Lines.{HasLeft, line_fails, line_goes_on, lines_end}
use Rattle.page_steps.proofs.Numbers.{line_followed, line_within, lines_few, numbered_many, script_within}
use Rattle.page_steps.proofs.Written.{none_written}
use Rattle.remove_rounds.specs.Costs.{questions, single_tests}
use Rattle.page_steps.specs.Costs.{lines_cost}
use Rattle.page_steps.proofs.Spending.{line_spent, line_within as line_cost_within}
use Rattle.page_steps.proofs.writing.write_lines.Goals as goal

pub lines-init : goal.lines-init
lines-init g c =
    let sink = g.O.Sink in
    let texts = lines_texts c.args.brief c.args.opened.engine (numbered 1 (lines_of c.args.script.now)) in
    record {
      texts = subst
          (λ (ls : List (ℕ × List ℕ)). HasLeft sink.tells sink.written sink.faults c.args.out.now c.args.out.now texts (lines_texts c.args.brief c.args.opened.engine ls))
          (sym c.new-lines.ensures.lines) (none_written c.args.out.now texts);
      counted = omega (arith, ap length c.new-lines.ensures.lines, numbered_many 1 (lines_of c.args.script.now));
      numbers = script_within c.args.script.now c.new-lines.result c.args.opened.engine.page.tree.next c.new-lines.ensures.lines c.requires.numbers;
      known = c.requires.known;
      checks = omega (arith, ap (lines_cost questions c.args.opened.engine) c.new-lines.ensures.lines);
      parts = omega (arith, ap (lines_cost single_tests c.args.opened.engine) c.new-lines.ensures.lines);
    }

pub write_line-requires-clause-number : goal.write_line-requires-clause-number
write_line-requires-clause-number g c = line_within c.lines.page.engine (c.in-Some.line.number, c.in-Some.line.bytes.now) c.lines.lines c.next.new.self c.in-Some.ensures c.lines.invariant.numbers

pub overflow_add-count : goal.overflow_add-count
overflow_add-count g c = omega (arith, c.lines.invariant.counted, ap length c.in-Some.ensures, lines_few c.args.script.now, c.requires.script)

pub returns-in_err-page-clause-texts : goal.returns-in_err-page-clause-texts
returns-in_err-page-clause-texts g c =
    let e = err_from_is_err_and c.from_residual.result c.from_residual.ensures.1 in
    rw (e.1, e.2) (line_fails c.args.brief c.lines.page.engine (c.in-Some.line.number, c.in-Some.line.bytes.now) c.lines.lines c.next.new.self c.in-Some.ensures
    c.lines.invariant.texts c.in_err-page.ensures.text)

pub lines-preserved : goal.lines-preserved
lines-preserved g c =
    record {
      texts = line_goes_on c.args.brief c.lines.page.engine (c.in-Some.line.number, c.in-Some.line.bytes.now) c.lines.lines c.next.new.self c.in-Some.ensures
          c.lines.invariant.texts c.in_ok-page.page.engine c.in_ok-page.ensures.page c.in_ok-page.ensures.text;
      counted = omega (arith, c.lines.invariant.counted, ap length c.in-Some.ensures);
      numbers = line_followed c.lines.page.engine c.in_ok-page.page.engine (c.in-Some.line.number, c.in-Some.line.bytes.now) c.lines.lines c.next.new.self c.in-Some.ensures
          c.in_ok-page.ensures.page c.lines.invariant.numbers;
      known = c.in_ok-page.ensures.known;
      checks = omega (arith, line_spent questions c.lines.page.engine c.in_ok-page.page.engine (c.in-Some.line.number, c.in-Some.line.bytes.now) c.lines.lines c.next.new.self c.in-Some.ensures c.in_ok-page.ensures.page, c.in_ok-page.ensures.checks, c.lines.invariant.checks);
      parts = omega (arith, line_spent single_tests c.lines.page.engine c.in_ok-page.page.engine (c.in-Some.line.number, c.in-Some.line.bytes.now) c.lines.lines c.next.new.self c.in-Some.ensures c.in_ok-page.ensures.page, c.in_ok-page.ensures.parts, c.lines.invariant.parts);
    }

pub returns-clause-texts : goal.returns-clause-texts
returns-clause-texts g c = lines_end c.args.brief c.lines.page.engine c.lines.lines c.lines.count c.in_default.ensures.0 c.lines.invariant.texts

pub returns-in_err-page-clause-checks : goal.returns-in_err-page-clause-checks
returns-in_err-page-clause-checks g c =
    omega (arith, line_cost_within questions c.lines.page.engine (c.in-Some.line.number, c.in-Some.line.bytes.now) c.lines.lines c.next.new.self c.in-Some.ensures, c.in_err-page.ensures.checks, c.lines.invariant.checks)

pub returns-clause-checks : goal.returns-clause-checks
returns-clause-checks g c = omega (arith, c.lines.invariant.checks)

pub returns-in_err-page-clause-parts : goal.returns-in_err-page-clause-parts
returns-in_err-page-clause-parts g c =
    omega (arith, line_cost_within single_tests c.lines.page.engine (c.in-Some.line.number, c.in-Some.line.bytes.now) c.lines.lines c.next.new.self c.in-Some.ensures, c.in_err-page.ensures.parts, c.lines.invariant.parts)

pub returns-clause-parts : goal.returns-clause-parts
returns-clause-parts g c = omega (arith, c.lines.invariant.parts)
