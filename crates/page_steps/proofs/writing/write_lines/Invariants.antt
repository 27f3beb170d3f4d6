use Rattle.std.proofs.Common.{◌≡◌, ◌+◌, ◌≤◌, length}
use Rattle.cos_source.specs.Lines.{lines_of, numbered}
use Rattle.command_meaning.specs.Report.{lines_texts}
use Rattle.remove_rounds.specs.Costs.{questions, single_tests}
use Rattle.page_steps.specs.Costs.{lines_cost}
use Rattle.page_steps.specs.Known.{Knows}
use Rattle.page_steps.proofs.Lines.{HasLeft}
use Rattle.page_steps.proofs.Numbers.{bytes_of}
use Rattle.page_steps.proofs.writing.write_lines.Given as goal

-- what is left to write are the steps after the lines that are left, and what is known is true of the page
abbrev pub invariant-lines : goal.invariant-lines
invariant-lines g l =
    let sink = g.O.Sink in
    record {
      texts : HasLeft sink.tells sink.written sink.faults l.fn.out l.out (lines_texts l.brief l.fn.opened.engine (numbered 1 (lines_of l.script))) (lines_texts l.brief l.page.engine l.lines);
      counted : l.count + length l.lines ≡ length (lines_of l.script);
      numbers : l.page.engine.page.tree.next + bytes_of l.lines ≤ 4294967295;
      known : Knows l.page.known l.page.engine;
      checks : l.checks + lines_cost questions l.page.engine l.lines ≤ l.fn.checks + lines_cost questions l.fn.opened.engine (numbered 1 (lines_of l.script));
      parts : l.parts + lines_cost single_tests l.page.engine l.lines ≤ l.fn.parts + lines_cost single_tests l.fn.opened.engine (numbered 1 (lines_of l.script));
    }

abbrev pub decreases-lines : goal.decreases-lines
decreases-lines g l = length l.lines
