use Rattle.std.proofs.Common.{◌≡◌, ◌+◌, ◌≤◌, length}
use Rattle.cos_source.specs.Lines.{lines_of, numbered}
use Rattle.command_meaning.specs.Report.{drilled_by, settling}
use Rattle.remove_rounds.specs.Costs.{questions, single_tests}
use Rattle.page_steps.specs.Costs.{lines_cost, script_cost}
use Rattle.page_steps.proofs.Numbers.{bytes_of}
use Rattle.page_steps.proofs.follow.follow_script.Given as goal

-- what is left of the script gives what comes of all of it, within what all of it costs
abbrev pub invariant-lines : goal.invariant-lines
invariant-lines g l =
    record {
      left : drilled_by (record { state = l.page; taken = l.count }) l.lines ≡ drilled_by
          (record { state = (settling l.fn.engine).state; taken = length (settling l.fn.engine).taken }) (numbered 1 (lines_of l.script));
      numbers : l.page.page.tree.next + bytes_of l.lines ≤ 4294967295;
      checks : l.checks + lines_cost questions l.page l.lines ≤ l.fn.checks + script_cost questions l.fn.engine l.script;
      parts : l.parts + lines_cost single_tests l.page l.lines ≤ l.fn.parts + script_cost single_tests l.fn.engine l.script;
    }

abbrev pub decreases-lines : goal.decreases-lines
decreases-lines g l = length l.lines
