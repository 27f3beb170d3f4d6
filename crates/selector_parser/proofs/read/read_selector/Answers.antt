use Rattle.std.proofs.Common.{◌≡◌, ◌<◌, true, List, [], length, refl, ap, sym, ◌∙◌, subst, arith}
use Rattle.std.specs.List.{All}
use Rattle.cos_patterns.specs.Written.{written, is_in}
use Rattle.cos_patterns.proofs.Extensions.{extends_self}
use Rattle.selector_spelling.specs.declared.reading.Ask.{Ask}
use Rattle.selector_spelling.specs.Texts.{first_refused}
use Rattle.selector_parser.specs.Answers.{answer_by}
use Rattle.selector_parser.specs.Asked.{asks_of, patterns_of, PutsEach}
use Rattle.selector_parser.specs.Readings.{unnumbered_read}
use Rattle.selector_parser.specs.declared.read.Read.TheVariants.{Filter}
use Rattle.selector_parser.proofs.Readings.{read_flags, read_proper, read_degrees, read_unasked, numbered_again}
use Rattle.selector_parser.proofs.Places.{place_by}
use Rattle.selector_parser.proofs.Stages.{pieces_read, by_pieces, by_refusal, by_filter}
use Rattle.selector_parser.proofs.read.read_selector.Goals as goal

-- the flags of each pattern are a sum of 1, 2 and 4
pub put_asks-requires-clause-flags : goal.put_asks-requires-clause-flags
put_asks-requires-clause-flags g c =
    let is = sym c.in_ok-chains.ensures ∙ c.in-Ok.is in
    subst (λ (asks : List Ask). All (λ ask. ask.flags < 8) asks) (sym c.as_slice.ensures)
    (read_flags c.args.text.now c.in-Ok.chains (pieces_read c.args.text.now c.in-Ok.chains is))

-- without patterns the chains need no numbers
pub with_numbers-requires : goal.with_numbers-requires
with_numbers-requires g c =
    let is = sym c.in_ok-chains.ensures ∙ c.in-Ok.is in
    read_unasked c.put_asks.new.table.patterns c.args.text.now c.in-Ok.chains (pieces_read c.args.text.now c.in-Ok.chains is)

-- all patterns are found, and go on being found
pub returns-in_ok-selector-in-None-clause-lasting : goal.returns-in_ok-selector-in-None-clause-lasting
returns-in_ok-selector-in-None-clause-lasting g c = λ later large unread extends agrees.
    let is = sym c.in_ok-chains.ensures ∙ c.in-Ok.is in
    let found = c.in_ok-finding.ensures.answer later large unread extends agrees in
    rw (c.in_ok-selector-in-None.ensures, c.action_of-action.ensures)
    (by_filter large unread c.args.text.now c.in-Ok.chains is c.put_asks.new.table.patterns
    (sym c.in-None.is ∙ found ∙ ap (first_refused (answer_by large unread)) c.as_slice.ensures))

pub returns-in_ok-selector-in-None-clause-proper : goal.returns-in_ok-selector-in-None-clause-proper
returns-in_ok-selector-in-None-clause-proper g c =
    let patterns = c.put_asks.new.table.patterns in
    let text = c.args.text.now in
    let pieces = pieces_read text c.in-Ok.chains (sym c.in_ok-chains.ensures ∙ c.in-Ok.is) in
    let held = subst (λ (asks : List Ask). All (λ ask. is_in (written ask.body ask.flags) patterns ≡ true) asks) c.as_slice.ensures (c.in_ok-finding.ensures.held c.in-None.is) in
    rw c.in_ok-selector-in-None.ensures (read_proper patterns text c.in-Ok.chains pieces held, read_degrees patterns text c.in-Ok.chains pieces)

pub returns-in_ok-selector-in-None-clause-numbers : goal.returns-in_ok-selector-in-None-clause-numbers
returns-in_ok-selector-in-None-clause-numbers g c =
    let pieces = pieces_read c.args.text.now c.in-Ok.chains (sym c.in_ok-chains.ensures ∙ c.in-Ok.is) in
    rw c.in_ok-selector-in-None.ensures
    (ap (λ selector. Filter selector c.action_of-action.result) (sym (numbered_again c.put_asks.new.table.patterns c.args.text.now c.in-Ok.chains pieces)))

-- ---- places

pub returns-in-Err-clause-within : goal.returns-in-Err-clause-within
returns-in-Err-clause-within g c =
    place_by (length c.args.text.now) [] [] c.args.text.now c.refused.result
    (ap unnumbered_read c.refused.ensures ∙ by_pieces [] [] c.args.text.now c.in-Err.finding (sym c.in_ok-chains.ensures ∙ c.in-Err.is)) (omega arith)

pub returns-in-Some-clause-within : goal.returns-in-Some-clause-within
returns-in-Some-clause-within g c =
    let large = g.M.Maker.large c.put_asks.new.maker in
    let unread = g.M.Maker.unread c.put_asks.new.maker in
    let table = c.put_asks.new.table in
    let is = sym c.in_ok-chains.ensures ∙ c.in-Ok.is in
    let refused = c.in_ok-finding.ensures.answer table large unread (extends_self table) c.put_asks.ensures.agrees in
    place_by (length c.args.text.now) large unread c.args.text.now c.refused-in-Some.result
    (ap unnumbered_read c.refused-in-Some.ensures
    ∙ by_refusal large unread c.args.text.now c.in-Ok.chains is c.in-Some.finding
    (sym c.in-Some.is ∙ refused ∙ ap (first_refused (answer_by large unread)) c.as_slice.ensures))
    (omega arith)

-- ---- what is asked for

pub returns-in-Err-clause-asked : goal.returns-in-Err-clause-asked
returns-in-Err-clause-asked g c =
    let none : patterns_of c.args.text.now ≡ [] = ap asks_of (sym c.in_ok-chains.ensures ∙ c.in-Err.is) in
    subst (λ (asked : List Ask). PutsEach g.M.Maker.asks asked c.args.table.now c.args.maker.now c.args.table.now c.args.maker.now) (sym none) (refl, refl)

pub returns-in-Some-clause-asked : goal.returns-in-Some-clause-asked
returns-in-Some-clause-asked g c =
    let asked : c.as_slice.result.now ≡ patterns_of c.args.text.now = c.as_slice.ensures ∙ sym (ap asks_of (sym c.in_ok-chains.ensures ∙ c.in-Ok.is)) in
    subst (λ (asks : List Ask). PutsEach g.M.Maker.asks asks c.args.table.now c.args.maker.now c.put_asks.new.table c.put_asks.new.maker) asked c.in_ok-finding.ensures.asked

pub returns-in_ok-selector-in-None-clause-asked : goal.returns-in_ok-selector-in-None-clause-asked
returns-in_ok-selector-in-None-clause-asked g c =
    let asked : c.as_slice.result.now ≡ patterns_of c.args.text.now = c.as_slice.ensures ∙ sym (ap asks_of (sym c.in_ok-chains.ensures ∙ c.in-Ok.is)) in
    subst (λ (asks : List Ask). PutsEach g.M.Maker.asks asks c.args.table.now c.args.maker.now c.put_asks.new.table c.put_asks.new.maker) asked c.in_ok-finding.ensures.asked
