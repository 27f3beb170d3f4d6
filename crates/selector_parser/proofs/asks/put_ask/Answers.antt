use Rattle.std.proofs.Common.{◌≡◌, true, ap, sym, subst, ◌∙◌}
use Rattle.cos_patterns.specs.Written.{written, is_in}
use Rattle.selector_spelling.specs.Bytes.{Bytes}
use Rattle.selector_spelling.specs.Texts.{by_answer}
use Rattle.selector_parser.specs.Answers.{answer_by}
use Rattle.selector_parser.specs.Asked.{Puts}
use Rattle.selector_parser.proofs.Puts.{is_found, puts_by}
use Rattle.selector_parser.proofs.asks.put_ask.Goals as goal

-- the pattern is held, and goes on being found
pub returns-in-Ok-clause-answer : goal.returns-in-Ok-clause-answer
returns-in-Ok-clause-answer g c =
    let ask = c.args.ask.now in
    let text = c.as_str-2.result.now in
    let number = rw c.in-Ok.is at c.put.ensures.number in
    let read = rw c.in-Ok.is at c.put.ensures.read in
    let lasts = is_found c.put.new.self _ _ text ask.flags c.put.result c.put.ensures.agrees c.put.ensures.bad c.put.ensures.too_large c.in-Ok.field-0 c.in-Ok.is number read in
    λ later large unread extends agrees others.
    ap (λ body. by_answer (answer_by large unread body ask.flags) ask.at others) (sym c.as_str-2.ensures)
    ∙ ap (λ answer. by_answer answer ask.at others) (lasts later large unread extends agrees)

pub returns-in-Ok-clause-held : goal.returns-in-Ok-clause-held
returns-in-Ok-clause-held g c =
    subst (λ (body : Bytes). is_in (written body c.args.ask.now.flags) c.put.new.self.patterns ≡ true) c.as_str-2.ensures (rw c.in-Ok.is at c.put.ensures.held)

-- what was put, for each answer but want of memory
pub returns-in-Ok-clause-asked : goal.returns-in-Ok-clause-asked
returns-in-Ok-clause-asked g c =
    let put = c.put.ensures in
    let flags = c.args.ask.now.flags in
    let puts = puts_by g.M.Maker.asks (written c.as_str-2.result.now flags) c.args.table.now c.put.new.self c.args.maker.now c.put.new.maker
    put.kept put.asked_once put.others c.put.result put.asked_new put.held put.patterns put.refused in
    let at_body = λ (body : Bytes). Puts g.M.Maker.asks (written body flags) c.args.table.now c.args.maker.now c.put.new.self c.put.new.maker in
    subst at_body c.as_str-2.ensures (rw c.in-Ok.is at puts)

pub returns-in-Err-BadPattern-clause-asked : goal.returns-in-Err-BadPattern-clause-asked
returns-in-Err-BadPattern-clause-asked g c =
    let put = c.put.ensures in
    let flags = c.args.ask.now.flags in
    let puts = puts_by g.M.Maker.asks (written c.as_str-2.result.now flags) c.args.table.now c.put.new.self c.args.maker.now c.put.new.maker
    put.kept put.asked_once put.others c.put.result put.asked_new put.held put.patterns put.refused in
    let at_body = λ (body : Bytes). Puts g.M.Maker.asks (written body flags) c.args.table.now c.args.maker.now c.put.new.self c.put.new.maker in
    subst at_body c.as_str-2.ensures (rw (c.in-Err-BadPattern.is, c.in-Err-BadPattern.field-0-is) at puts)

pub returns-in-Err-PatternTooLarge-clause-asked : goal.returns-in-Err-PatternTooLarge-clause-asked
returns-in-Err-PatternTooLarge-clause-asked g c =
    let put = c.put.ensures in
    let flags = c.args.ask.now.flags in
    let puts = puts_by g.M.Maker.asks (written c.as_str-2.result.now flags) c.args.table.now c.put.new.self c.args.maker.now c.put.new.maker
    put.kept put.asked_once put.others c.put.result put.asked_new put.held put.patterns put.refused in
    let at_body = λ (body : Bytes). Puts g.M.Maker.asks (written body flags) c.args.table.now c.args.maker.now c.put.new.self c.put.new.maker in
    subst at_body c.as_str-2.ensures (rw (c.in-Err-PatternTooLarge.is, c.in-Err-PatternTooLarge.field-0-is) at puts)
