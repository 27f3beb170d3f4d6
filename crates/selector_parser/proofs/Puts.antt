-- What a put of a pattern says of this table and of each later one.
use Rattle.std.proofs.Common.{◌≡◌, ◌↔◌, ◌+◌, ◌<◌, ◌≤◌, ℕ, suc, Bool, true, false, List, [], ◌∷◌, ◌++◌, length, take, drop, get_or, Option, Some, Result, Ok, Err, OnOk, OnErr, IsTrue, if◌then◌else◌, arith, refl, ap, sym, ◌∙◌, subst, drop-cons, add-one}
use Rattle.std.specs.Bool.{MatchBool}
use Rattle.std.specs.List.{All}
use Rattle.std.specs.Option.{option_or}
use Rattle.std.specs.Result.{IsErrOf, is_ok}
use Rattle.std.proofs.lemmas.List.{drop_all}
use Rattle.std.proofs.lemmas.Grind.{common_steps}
use Rattle.std.proofs.lemmas.List.Elements.{All-weaker, All-more}
use Rattle.cos_patterns.specs.declared.errors.PatternError.{PatternError}
use Rattle.cos_patterns.specs.declared.errors.PatternError.TheVariants.{BadPattern, PatternTooLarge}
use Rattle.cos_patterns.specs.declared.errors.PatternError.TheVariants as errors
use Rattle.cos_patterns.specs.declared.written.Asked.{Asked}
use Rattle.cos_patterns.specs.declared.written.Asked.TheVariants.{Pattern}
use Rattle.cos_patterns.specs.declared.written.Written.{Written}
use Rattle.cos_patterns.specs.Found.{is_read}
use Rattle.cos_patterns.specs.Makers.{UnlessNoMemory}
use Rattle.cos_patterns.specs.Tables.{Noted, Agrees, Extends, is_noted, patterns_in, said_by, said_of, held, with_pattern}
use Rattle.cos_patterns.specs.Written.{written, is_in, is_same, place_of}
use Rattle.cos_patterns.proofs.Extensions.{extends_through}
use Rattle.cos_patterns.proofs.Places.{has_place}
use Rattle.selector_spelling.specs.declared.finding.Finding.{Finding}
use Rattle.selector_spelling.specs.declared.reading.Ask.{Ask}
use Rattle.selector_spelling.specs.Bytes.{Bytes}
use Rattle.selector_spelling.specs.Texts.{found, by_answer, first_refused}
use Rattle.selector_parser.specs.Answers.{answer_by}
use Rattle.selector_parser.specs.Asked.{Puts, PutsEach}
use Rattle.selector_parser.specs.Lasting.{Lasts}

-- a pattern that is held stands in no list of refusals
held_lists : (is_large is_unread is_held : Bool) → said_by is_large is_unread is_held ≡ held → (is_large ≡ false) × (is_unread ≡ false)
held_lists true is_unread is_held said = absurd (grind arith)
held_lists false true is_held said = absurd (grind arith)
held_lists false false is_held said = (refl, refl)

-- a test fails where what it stands for is impossible
fails : {P : Type 0} (test : Bool) → (P ↔ IsTrue test) → (P → ⊥) → test ≡ false
fails true iff never = absurd (never (iff.1 refl))
fails false iff never = refl

-- a pattern that has a place stands in the list
pub stands : (pattern : Written) (patterns : List Written) (number : ℕ) → place_of pattern patterns ≡ Some number → is_in pattern patterns ≡ true
stands pattern patterns number is = sym (has_place pattern patterns) ∙ rw is refl

-- a pattern that was put goes on being found
module _ (table : Noted) (large : List Asked) (unread : List Written) (body : Bytes) (flags : ℕ) (result : Result ℕ PatternError)
    (agrees : Agrees table large unread) (bad : IsErrOf result BadPattern ↔ IsTrue (is_in (written body flags) unread))
    (too_big : IsErrOf result PatternTooLarge ↔ IsTrue (is_in (written body flags) (patterns_in large))) where
  abbrev key : Written
  key = written body flags

  pub is_found : (number : ℕ) → result ≡ Ok number → place_of key table.patterns ≡ Some number → IsTrue (is_read body flags) →
      Lasts table (λ large_later unread_later. answer_by large_later unread_later body flags ≡ found)
  is_found number ok place read = λ later large_later unread_later extends agrees_later.
      let not_large : is_in key table.large ≡ false = agrees.large key ∙ fails _ too_big (λ is. absurd (grind (arith, ok, is))) in
      let not_unread : is_in key table.unread ≡ false = agrees.unread key ∙ fails _ bad (λ is. absurd (grind (arith, ok, is))) in
      let is_held : is_in key table.patterns ≡ true = stands key table.patterns number place in
      let said : said_of key later ≡ held = extends.said key (grind arith) ∙ rw (not_large, not_unread, is_held) refl in
      let lists = held_lists (is_in key later.large) (is_in key later.unread) (is_in key later.patterns) said in
      rw (sym (agrees_later.large key) ∙ lists.0, sym (agrees_later.unread key) ∙ lists.1, read) refl

-- a pattern stands in a longer list
in_longer : (pattern : Written) (list more : List Written) → is_in pattern list ≡ true → is_in pattern (list ++ more) ≡ true
in_longer pattern [] more is = absurd (grind arith)
in_longer pattern (first ∷ rest) more is = grind (arith, common_steps, in_longer pattern rest more)

-- patterns that a table holds are held by each later one
held_on : (earlier later : Noted) (asks : List Ask) → Extends earlier later → All (λ ask. is_in (written ask.body ask.flags) earlier.patterns ≡ true) asks →
    All (λ ask. is_in (written ask.body ask.flags) later.patterns ≡ true) asks
held_on earlier later asks extends all =
    All-weaker (λ (ask : Ask). is_in (written ask.body ask.flags) earlier.patterns ≡ true) (λ (ask : Ask). is_in (written ask.body ask.flags) later.patterns ≡ true)
    (λ ask is. rw extends.numbers (in_longer (written ask.body ask.flags) earlier.patterns extends.more is)) asks all

-- the pattern at a place, and those behind it
at_place : (asks : List Ask) (place : ℕ) (ask item : Ask) → place < length asks → ask ≡ get_or asks place item → drop place asks ≡ ask ∷ drop (place + 1) asks
at_place asks place ask item within is =
    drop-cons asks place item within ∙ ap (λ (one : Ask). one ∷ drop (suc place) asks) (sym is)
    ∙ ap (λ (count : ℕ). ask ∷ drop count asks) (sym (add-one place))

module _ (earlier later : Noted) (asks : List Ask) (place : ℕ) (ask : Ask) (refusal : Option Finding)
    (within : place < length asks) (is : ask ≡ get_or asks place ask) (extends : Extends earlier later) where
  -- the patterns from a place on decide, by the one there and those behind it
  pub next_decides :
      Lasts earlier (λ large unread. first_refused (answer_by large unread) asks ≡ first_refused (answer_by large unread) (drop place asks)) →
      Lasts later (λ large unread. (others : Option Finding) → by_answer (answer_by large unread ask.body ask.flags) ask.at others ≡ option_or refusal others) →
      Lasts later (λ large unread. first_refused (answer_by large unread) asks ≡ option_or refusal (first_refused (answer_by large unread) (drop (place + 1) asks)))
  next_decides before one = λ last large unread more agrees.
      before last large unread (extends_through earlier later last extends more) agrees
      ∙ ap (first_refused (answer_by large unread)) (at_place asks place ask ask within is)
      ∙ one last large unread more agrees (first_refused (answer_by large unread) (drop (place + 1) asks))

  -- the patterns before a place are held, and the one there
  pub next_held : All (λ one. is_in (written one.body one.flags) earlier.patterns ≡ true) (take place asks) →
      is_in (written ask.body ask.flags) later.patterns ≡ true → All (λ one. is_in (written one.body one.flags) later.patterns ≡ true) (take (place + 1) asks)
  next_held before here =
      All-more (λ (one : Ask). is_in (written one.body one.flags) later.patterns ≡ true) asks place ask within
      (held_on earlier later (take place asks) extends before)
      (subst (λ (one : Ask). is_in (written one.body one.flags) later.patterns ≡ true) is here)

-- ---- what the maker is asked for

-- what was put, and what the puts that are left leave, is what all puts leave
abbrev pub GoOn : {Maker : Type 0} → (Maker → Asked → Maker → Type 0) → List Ask → Noted → Maker → List Ask → Noted → Maker → Type 0
GoOn {Maker} asks left table maker all first_table first_maker =
    (after : Noted) (now : Maker) → PutsEach asks left table maker after now → PutsEach asks all first_table first_maker after now

module _ {Maker : Type 0} (asks : Maker → Asked → Maker → Type 0) (all asked : List Ask) (place : ℕ) (ask : Ask) (within : place < length asked)
    (is : ask ≡ get_or asked place ask) (first table next : Noted) (first_maker maker between : Maker)
    (puts : Puts asks (written ask.body ask.flags) table maker next between)
    (before : GoOn asks (drop place asked) table maker all first first_maker) where
  abbrev holds : Bool
  holds = is_in (written ask.body ask.flags) next.patterns

  next_leaves : (after : Noted) (now : Maker) → MatchBool holds (PutsEach asks (drop (place + 1) asked) next between after now) ((after ≡ next) × (now ≡ between)) →
      PutsEach asks all first first_maker after now
  next_leaves after now rest =
      before after now (subst (λ (left : List Ask). PutsEach asks left table maker after now) (sym (at_place asked place ask ask within is)) (next, between, puts, rest))

  pub found_goes_on : holds ≡ true → GoOn asks (drop (place + 1) asked) next between all first first_maker
  found_goes_on is_held = λ after now rest. next_leaves after now (rw is_held rest)

  pub refused_ends : holds ≡ false → PutsEach asks all first first_maker next between
  refused_ends not_held = next_leaves next between (rw not_held (refl, refl))

-- all patterns were put
pub all_put : {Maker : Type 0} (asks : Maker → Asked → Maker → Type 0) (all asked : List Ask) (place : ℕ) (first table : Noted) (first_maker maker : Maker) →
    length asked ≤ place → GoOn asks (drop place asked) table maker all first first_maker → PutsEach asks all first first_maker table maker
all_put asks all asked place first table first_maker maker behind before =
    before table maker (subst (λ (left : List Ask). PutsEach asks left table maker table maker) (sym (drop_all place asked behind)) (refl, refl))

-- what a put says of the table and of the maker
module _ {Maker : Type 0} (asks : Maker → Asked → Maker → Type 0) (key : Written) (table after : Noted) (maker now : Maker)
    (kept : IsTrue (is_noted key table) → after ≡ table) (once : IsTrue (is_noted key table) → now ≡ maker)
    (others : (other : Written) → is_same key other ≡ false → said_of other after ≡ said_of other table) where
  pattern_by : (is_held : Bool) (with_it without : List Written) → is_in key after.patterns ≡ is_held →
      after.patterns ≡ (if is_held then with_it else without) → after.patterns ≡ (if is_in key after.patterns then with_it else without)
  pattern_by is_held with_it without same is = is ∙ sym (ap (λ (c : Bool). if c then with_it else without) same)

  pub puts_by : (result : Result ℕ PatternError) → (is_noted key table ≡ false → UnlessNoMemory result (asks maker (Pattern key) now)) →
      is_in key after.patterns ≡ is_ok result → OnOk result (after.patterns ≡ with_pattern key table.patterns) → OnErr result (after.patterns ≡ table.patterns) →
      UnlessNoMemory result (Puts asks key table maker after now)
  puts_by (Ok number) new same ok err = record {
    noted = λ h. (kept h, once h);
    new = new;
    patterns = pattern_by true (with_pattern key table.patterns) table.patterns same ok;
    others = others;
  }
  puts_by (Err BadPattern) new same ok err = record {
    noted = λ h. (kept h, once h);
    new = new;
    patterns = pattern_by false (with_pattern key table.patterns) table.patterns same err;
    others = others;
  }
  puts_by (Err PatternTooLarge) new same ok err = record {
    noted = λ h. (kept h, once h);
    new = new;
    patterns = pattern_by false (with_pattern key table.patterns) table.patterns same err;
    others = others;
  }
  puts_by (Err errors.NoMemory) new same ok err = tt
