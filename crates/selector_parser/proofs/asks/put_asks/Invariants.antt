use Rattle.std.proofs.Common.{◌≡◌, true, take, drop}
use Rattle.std.specs.List.{All}
use Rattle.cos_patterns.specs.Tables.{Agrees, Extends}
use Rattle.cos_patterns.specs.Written.{written, is_in}
use Rattle.selector_spelling.specs.Texts.{first_refused}
use Rattle.selector_parser.specs.Answers.{answer_by}
use Rattle.selector_parser.specs.Lasting.{Lasts}
use Rattle.selector_parser.proofs.Puts.{GoOn}
use Rattle.selector_parser.proofs.asks.put_asks.Given as goal

-- the patterns before this place were found, so that those from it on decide
abbrev pub invariant-loop-ask : goal.invariant-loop-ask
invariant-loop-ask g l = record {
  agrees : Agrees l.table (g.M.Maker.large l.maker) (g.M.Maker.unread l.maker);
  extends : Extends l.initial.table l.table;
  answer : Lasts l.table (λ large unread. first_refused (answer_by large unread) l.asks ≡ first_refused (answer_by large unread) (drop l.ask-index l.asks));
  asked : GoOn g.M.Maker.asks (drop l.ask-index l.asks) l.table l.maker l.asks l.fn.table l.fn.maker;
  held : All (λ ask. is_in (written ask.body ask.flags) l.table.patterns ≡ true) (take l.ask-index l.asks);
}
