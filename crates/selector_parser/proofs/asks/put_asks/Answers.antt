use Rattle.std.proofs.Common.{◌≡◌, true, List, Some, None, arith, sym, subst}
use Rattle.std.specs.List.{All}
use Rattle.std.proofs.lemmas.List.{take_all}
use Rattle.cos_patterns.specs.Written.{written, is_in}
use Rattle.cos_patterns.proofs.Extensions.{extends_through}
use Rattle.selector_spelling.specs.declared.reading.Ask.{Ask}
use Rattle.selector_parser.proofs.Puts.{next_decides, next_held, found_goes_on, refused_ends, all_put}
use Rattle.selector_parser.proofs.asks.put_asks.Goals as goal

-- the table extends the first one through those between
pub returns-in_err-refusal-clause-extends : goal.returns-in_err-refusal-clause-extends
returns-in_err-refusal-clause-extends g c =
    extends_through c.args.table.now c.loop-ask.table c.put_ask.new.table c.loop-ask.invariant.extends c.put_ask.ensures.extends

pub returns-in-Some-clause-extends : goal.returns-in-Some-clause-extends
returns-in-Some-clause-extends g c =
    extends_through c.args.table.now c.loop-ask.table c.put_ask.new.table c.loop-ask.invariant.extends c.put_ask.ensures.extends

-- the first pattern that is refused decides
pub returns-in-Some-clause-answer : goal.returns-in-Some-clause-answer
returns-in-Some-clause-answer g c = λ later large unread more agrees.
    let one = rw c.in-Some.is at c.in_ok-refusal.ensures.answer in
    sym (next_decides c.loop-ask.table c.put_ask.new.table c.args.asks.now c.loop-ask.ask-index c.ask-item.result (Some c.in-Some.refusal)
    c.loop-ask-test.true c.ask-item.is c.put_ask.ensures.extends c.loop-ask.invariant.answer one later large unread more agrees)

-- one that is found leaves it to those behind it
pub loop-ask-preserved : goal.loop-ask-preserved
loop-ask-preserved g c =
    let none = c.in_default.is in
    let one = rw none at c.in_ok-refusal.ensures.answer in
    let is_held = rw none at c.in_ok-refusal.ensures.held in
    record {
      agrees = c.put_ask.ensures.agrees;
      extends = extends_through c.args.table.now c.loop-ask.table c.put_ask.new.table c.loop-ask.invariant.extends c.put_ask.ensures.extends;
      answer = next_decides c.loop-ask.table c.put_ask.new.table c.args.asks.now c.loop-ask.ask-index c.ask-item.result None
          c.loop-ask-test.true c.ask-item.is c.put_ask.ensures.extends c.loop-ask.invariant.answer one;
      held = next_held c.loop-ask.table c.put_ask.new.table c.args.asks.now c.loop-ask.ask-index c.ask-item.result None
          c.loop-ask-test.true c.ask-item.is c.put_ask.ensures.extends c.loop-ask.invariant.held is_held;
      asked = found_goes_on g.M.Maker.asks c.args.asks.now c.args.asks.now c.loop-ask.ask-index c.ask-item.result c.loop-ask-test.true c.ask-item.is
          c.args.table.now c.loop-ask.table c.put_ask.new.table c.args.maker.now c.loop-ask.maker c.put_ask.new.maker c.in_ok-refusal.ensures.asked c.loop-ask.invariant.asked is_held;
    }

pub returns-in-Some-clause-asked : goal.returns-in-Some-clause-asked
returns-in-Some-clause-asked g c =
    refused_ends g.M.Maker.asks c.args.asks.now c.args.asks.now c.loop-ask.ask-index c.ask-item.result c.loop-ask-test.true c.ask-item.is
    c.args.table.now c.loop-ask.table c.put_ask.new.table c.args.maker.now c.loop-ask.maker c.put_ask.new.maker c.in_ok-refusal.ensures.asked c.loop-ask.invariant.asked
    (rw c.in-Some.is at c.in_ok-refusal.ensures.held)

pub returns-clause-asked : goal.returns-clause-asked
returns-clause-asked g c =
    all_put g.M.Maker.asks c.args.asks.now c.args.asks.now c.loop-ask.ask-index c.args.table.now c.loop-ask.table c.args.maker.now c.loop-ask.maker
    (omega (arith, c.loop-ask-test.false)) c.loop-ask.invariant.asked

-- all patterns are held
pub returns-clause-held : goal.returns-clause-held
returns-clause-held g c = λ _.
    subst (λ (asks : List Ask). All (λ ask. is_in (written ask.body ask.flags) c.loop-ask.table.patterns ≡ true) asks)
    (take_all c.loop-ask.ask-index c.args.asks.now (omega (arith, c.loop-ask-test.false))) c.loop-ask.invariant.held
