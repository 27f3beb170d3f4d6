use Rattle.std.proofs.Common.{◌∙◌, ◌++◌, List, ℕ, ap, sym}
use Rattle.host_names.specs.Held.{line_meaning, rule_by}
use Rattle.host_names.specs.SuffixLines.{any_label, bad, bad_lines, nothing, rule, rules_of}
use Rattle.host_names.proofs.Walks.{after_any, after_bad, after_bad_line, after_nothing, after_rule, one_more}
use Rattle.host_names.proofs.suffixes.Suffixes.read.Goals as goal

pub lines-preserved-in-Nothing : goal.lines-preserved-in-Nothing
lines-preserved-in-Nothing c =
    let meaning = sym (ap line_meaning c.in-Nothing.is) ∙ c.in_ok-read_line.ensures in
    record {
      rules = after_nothing c.lines.rules _ (c.in-Some.line.number, c.in-Some.line.bytes.now) c.lines.lines c.next.new.self c.in-Some.ensures meaning c.lines.invariant.rules;
      bad = after_bad_line c.lines.bad _ (c.in-Some.line.number, c.in-Some.line.bytes.now) c.lines.lines c.next.new.self nothing c.in-Some.ensures meaning c.lines.invariant.bad;
    }

pub lines-preserved-in-Any : goal.lines-preserved-in-Any
lines-preserved-in-Any c =
    let meaning = sym (ap line_meaning c.in-Any.is) ∙ c.in_ok-read_line.ensures in
    record {
      rules = after_any c.lines.rules _ (c.in-Some.line.number, c.in-Some.line.bytes.now) c.lines.lines c.next.new.self c.in-Some.ensures meaning c.lines.invariant.rules;
      bad = after_bad_line c.lines.bad _ (c.in-Some.line.number, c.in-Some.line.bytes.now) c.lines.lines c.next.new.self (rule any_label) c.in-Some.ensures meaning c.lines.invariant.bad;
    }

pub lines-preserved-in-Continue-branch-3 : goal.lines-preserved-in-Continue-branch-3
lines-preserved-in-Continue-branch-3 c =
    let meaning = sym (ap line_meaning c.in-Named.is) ∙ c.in_ok-read_line.ensures in
    let r = rule_by c.in-Named.sort c.in-Named.name in
    record {
      rules = after_rule c.lines.rules _ (c.in-Some.line.number, c.in-Some.line.bytes.now) c.lines.lines c.next.new.self r c.put.new.self c.in-Some.ensures meaning
          c.in_ok-put-in-Named.ensures c.lines.invariant.rules;
      bad = after_bad_line c.lines.bad _ (c.in-Some.line.number, c.in-Some.line.bytes.now) c.lines.lines c.next.new.self (rule r) c.in-Some.ensures meaning c.lines.invariant.bad;
    }
