use Rattle.std.proofs.Common.{refl, sym, subst}
use Rattle.list_lines.specs.Meanings.{directive_meaning}
use Rattle.list_lines.specs.OpenIfs.{parts_of}
use Rattle.list_reader.specs.Entries.{IsProperGiven}
use Rattle.list_reader.proofs.LineReads.{dead_read, directive_proper, directive_read, if_and_on, if_both, other_read}
use Rattle.cos_patterns.proofs.Extensions.{extends_self}
use Rattle.list_reader.proofs.entries.read_next.Goals as goal

pub returns-in-Directive-clause-read : goal.returns-in-Directive-clause-read
returns-in-Directive-clause-read g c =
    let d = directive_meaning c.in-Directive.directive in
    let names = c.args.env.now in
    let table = c.args.table.now in
    if_and_on c.read_directive.result _ _ _ c.read_directive.ensures.said c.read_directive.ensures.behind
    (λ given says a.
    directive_read names c.args.place.list c.args.place.line c.args.place.noticed c.args.line.now c.args.ifs.now table given c.in-Directive.at d c.read_directive.new.ifs
    c.in-Directive.ensures.meaning says a
    (subst (IsProperGiven table.patterns) (sym says) (directive_proper table.patterns names (parts_of c.args.ifs.now) _ c.in-Directive.at d)))

pub returns-in_default : goal.returns-in_default
returns-in_default g c = record {
  agrees = c.read_live.ensures.agrees;
  extends = c.read_live.ensures.extends;
  read =
      if_both c.read_live.result _ _ _ c.read_live.ensures.lasting c.read_live.ensures.proper
      (λ given same proper.
      other_read c.args.env.now c.args.place.list c.args.place.line c.args.place.noticed c.args.line.now c.args.ifs.now c.read_live.new.table given c.read_line.result
      c.in_default.not-Directive c.read_line.ensures.meaning c.read_line.result refl c.if-is_live.ensures same proper);
}

pub returns-in_default-2 : goal.returns-in_default-2
returns-in_default-2 g c = record {
  agrees = c.requires.agrees;
  extends = extends_self c.args.table.now;
  read =
      dead_read c.args.env.now c.args.place.list c.args.place.line c.args.place.noticed c.args.line.now c.args.ifs.now c.args.table.now c.read_line.result
      c.in_default.not-Directive c.read_line.ensures.meaning c.if-is_live.ensures;
}
