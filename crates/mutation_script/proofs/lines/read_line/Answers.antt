use Rattle.std.proofs.Common.{sym, Ok, Err}
use Rattle.mutation_script.proofs.Texts.{no_text, line_says}
use Rattle.mutation_script.proofs.lines.read_line.Goals as goal

pub returns-in_default : goal.returns-in_default
returns-in_default c =
    let fault = rw c.in_default.is at c.from_utf8.ensures.cases in
    no_text c.args.bytes.now (sym c.if-is_blank.ensures) fault.0

pub returns-in-Ok-mutation_of : goal.returns-in-Ok-mutation_of
returns-in-Ok-mutation_of c =
    let text = c.in-Ok.ensures.cases in
    line_says c.args.bytes.now c.in-Ok.line.now (Ok c.in-Ok-mutation_of.mutation) (sym c.if-is_blank.ensures) text.0 text.1
    c.in-Ok-mutation_of.ensures

pub returns-in-Err-Bad : goal.returns-in-Err-Bad
returns-in-Err-Bad c =
    let text = c.in-Ok.ensures.cases in
    let read = rw c.in-Err-Bad.field-0-is at c.in-Err-Bad.ensures in
    line_says c.args.bytes.now c.in-Ok.line.now (Err c.in-Err-Bad.cause) (sym c.if-is_blank.ensures) text.0 text.1 read
