use Rattle.std.proofs.Common.{◌∙◌, List, ◌∷◌, [], ◌++◌, ap, length, sym}
use Rattle.std.proofs.lemmas.List.{append-nil}
use Rattle.cos_patterns.proofs.Extensions.{extends_self, extends_through}
use Rattle.cos_source.specs.Lines.{lines_of, numbered}
use Rattle.list_entries.specs.declared.notice.Notice.{Notice}
use Rattle.list_reader.specs.declared.entries.Given.TheVariants.{Nothing, Gives, Said}
use Rattle.list_reader.proofs.ListSteps.{first_line, next_line}
use Rattle.list_reader.proofs.Lists.{few_lines}
use Rattle.list_reader.proofs.list.read_list.Goals as goal

pub lines-init : goal.lines-init
lines-init g c = record {
  agrees = c.requires.agrees;
  extends = extends_self c.args.table.now;
  so_far =
      first_line c.args.env.now c.args.number (numbered 1 (lines_of c.args.bytes.now)) (length c.args.bytes.now) c.args.table.now c.new-entries.result c.new-notices.result c.new-ifs.result c.new-lines.result
      c.new-entries.ensures c.new-notices.ensures c.new-ifs.ensures c.new-lines.ensures.lines (few_lines c.args.bytes.now);
}

pub returns-in_err-read_next-clause-extends : goal.returns-in_err-read_next-clause-extends
returns-in_err-read_next-clause-extends g c =
    extends_through c.args.table.now c.lines.table c.read_next.new.table c.lines.invariant.extends c.in_err-read_next.ensures.extends

pub returns-in_err-push-in-Gives-clause-extends : goal.returns-in_err-push-in-Gives-clause-extends
returns-in_err-push-in-Gives-clause-extends g c =
    extends_through c.args.table.now c.lines.table c.read_next.new.table c.lines.invariant.extends c.in_ok-read_next.ensures.extends

pub returns-in_err-push-in-Said-clause-extends : goal.returns-in_err-push-in-Said-clause-extends
returns-in_err-push-in-Said-clause-extends g c =
    extends_through c.args.table.now c.lines.table c.read_next.new.table c.lines.invariant.extends c.in_ok-read_next.ensures.extends

pub lines-preserved-in-Nothing : goal.lines-preserved-in-Nothing
lines-preserved-in-Nothing g c =
    let further = c.in_ok-read_next.ensures.extends in
    record {
      agrees = c.in_ok-read_next.ensures.agrees;
      extends = extends_through c.args.table.now c.lines.table c.read_next.new.table c.lines.invariant.extends further;
      so_far =
          next_line c.args.env.now c.args.number (numbered 1 (lines_of c.args.bytes.now)) (length c.args.bytes.now) c.lines.table c.read_next.new.table
          c.lines.entries c.lines.entries c.lines.notices c.lines.notices c.lines.ifs c.read_next.new.ifs c.in-Some.line.number c.len.result c.in-Some.line.bytes.now c.lines.lines c.next.new.self
          c.in_ok-read_next.field-0 Nothing further c.in-Some.ensures c.in_ok-read_next.ensures.read c.len.ensures c.in-Nothing.is
          (sym (append-nil c.lines.entries)) (sym (append-nil c.lines.notices)) c.lines.invariant.so_far;
    }

pub lines-preserved-in-Continue-branch-3 : goal.lines-preserved-in-Continue-branch-3
lines-preserved-in-Continue-branch-3 g c =
    let further = c.in_ok-read_next.ensures.extends in
    record {
      agrees = c.in_ok-read_next.ensures.agrees;
      extends = extends_through c.args.table.now c.lines.table c.read_next.new.table c.lines.invariant.extends further;
      so_far =
          next_line c.args.env.now c.args.number (numbered 1 (lines_of c.args.bytes.now)) (length c.args.bytes.now) c.lines.table c.read_next.new.table
          c.lines.entries c.push.new.self c.lines.notices c.lines.notices c.lines.ifs c.read_next.new.ifs c.in-Some.line.number c.len.result c.in-Some.line.bytes.now c.lines.lines c.next.new.self
          c.in_ok-read_next.field-0 (Gives c.in-Gives.entry) further c.in-Some.ensures c.in_ok-read_next.ensures.read c.len.ensures c.in-Gives.is
          c.in_ok-push-in-Gives.ensures.ok (sym (append-nil c.lines.notices)) c.lines.invariant.so_far;
    }

pub lines-preserved : goal.lines-preserved
lines-preserved g c =
    let further = c.in_ok-read_next.ensures.extends in
    record {
      agrees = c.in_ok-read_next.ensures.agrees;
      extends = extends_through c.args.table.now c.lines.table c.read_next.new.table c.lines.invariant.extends further;
      so_far =
          next_line c.args.env.now c.args.number (numbered 1 (lines_of c.args.bytes.now)) (length c.args.bytes.now) c.lines.table c.read_next.new.table
          c.lines.entries c.lines.entries c.lines.notices c.push-in-Said.new.self c.lines.ifs c.read_next.new.ifs c.in-Some.line.number c.len.result c.in-Some.line.bytes.now c.lines.lines c.next.new.self
          c.in_ok-read_next.field-0 (Said c.in-Said.finding) further c.in-Some.ensures c.in_ok-read_next.ensures.read c.len.ensures c.in-Said.is
          (sym (append-nil c.lines.entries)) (c.in_ok-push-in-Said.ensures.ok ∙ ap (λ (n : Notice). c.lines.notices ++ n ∷ []) c.notice_of.ensures) c.lines.invariant.so_far;
    }
