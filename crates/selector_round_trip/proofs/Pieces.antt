-- Each piece that is read has a canonical text, which is read as that piece.
use Rattle.std.proofs.Common.{◌≡◌, ℕ, ℤ, ◌+◌, ◌-◌, ◌^◌, ◌<◌, ◌≤◌, Bool, true, false, not, eqb, ◌&&◌, ◌||◌, List, [], ◌∷◌, ◌++◌, map, length, length-append, codes, Option, Some, None, Result, Ok, if◌then◌else◌, refl, sym, ap, ap₂, subst, ◌∙◌, append_assoc, append-nil, arith}
use Rattle.std.specs.Fmt.{decimal, signed_decimal}
use Rattle.std.specs.List.{list_all}
use Rattle.std.specs.Char.{is_ascii_digit}
use Rattle.std.specs.Str.{str_to_ascii_lowercase}
use Rattle.std.proofs.lemmas.Bool.{or_from, both_ways, and_from, or_right}
use Rattle.cos_source.specs.Spaces.{is_space, before_text, without_first_spaces, without_last_spaces, trimmed}
use Rattle.selector_tree.specs.declared.selector.Arg.{Arg}
use Rattle.selector_tree.specs.declared.selector.Arg.TheVariants.{Literal, Pattern}
use Rattle.selector_tree.specs.declared.selector.AttrOp.{AttrOp}
use Rattle.selector_tree.specs.declared.selector.Test.{Test}
use Rattle.selector_tree.specs.declared.selector.Test.TheVariants as test
use Rattle.selector_tree.specs.declared.selector.Step.{Step}
use Rattle.selector_tree.specs.declared.selector.Step.TheVariants as step
use Rattle.selector_tree.specs.Letters.{name_text}
use Rattle.selector_tree.specs.Canonical.{StepText, arg_text, nth_text, offset_text, selector_text, joined, text_of_step, text_of_test}
use Rattle.selector_tree.proofs.TextLaws.{text_of_step-Upward, text_of_step-UpwardTo, text_of_step-Others, text_of_test-Any, text_of_test-Tag, text_of_test-Id, text_of_test-Class, text_of_test-Attr, text_of_test-Nth, text_of_test-Is, text_of_test-Not, text_of_test-Has, text_of_test-HasText, text_of_test-MinText, text_of_test-MatchesPath, text_of_test-MatchesAttr, text_of_test-WatchAttr}
use Rattle.selector_spelling.specs.declared.finding.Cause.TheVariants as cause
use Rattle.selector_spelling.specs.declared.finding.Finding.{Finding}
use Rattle.selector_spelling.specs.declared.open.Open.{Open}
use Rattle.selector_spelling.specs.declared.open.Open.TheVariants.{Selector, Raw, Round, Square, DoubleQuote, SingleQuote}
use Rattle.selector_spelling.specs.declared.reading.Reading.{Reading}
use Rattle.selector_spelling.specs.declared.reading.Chains.{Chains}
use Rattle.selector_spelling.specs.declared.reading.Setting.{Setting}
use Rattle.selector_spelling.specs.Bytes.{Bytes, begins_with, front, behind, is_empty, is_number, is_pseudo_byte}
use Rattle.selector_spelling.specs.Names.{name, begins_name}
use Rattle.selector_spelling.specs.Operators.{operator_of}
use Rattle.selector_spelling.specs.Scan.{standing, is_bare, opens, step, within, is_closed, begins_number_argument}
use Rattle.selector_spelling.specs.Attributes.{attribute}
use Rattle.selector_spelling.specs.Arguments.{Nth, degree, sought, Pair}
use Rattle.selector_spelling.specs.Pieces.{◌>>=◌, or_bad, ask, ask_each, keep, operating, nth_test, search_test, length_test, pair_test, watch_test, upward_step, selecting_test, Piece, by_operator, piece}
use Rattle.selector_spelling.specs.declared.operator.Operator.{Operator}
use Rattle.selector_spelling.specs.declared.operator.Operator.TheVariants as operator
use Rattle.selector_spelling.specs.Pieces as spelled
use Rattle.selector_round_trip.specs.RoundTrip.{Asked}
use Rattle.selector_round_trip.specs.Balanced.{is_balanced, test_is_balanced, are_balanced}
use Rattle.selector_round_trip.proofs.BalanceLaws.{balance-Is, balance-Not, balance-Has}
use Rattle.selector_round_trip.proofs.Scanned.{over, over-append, is_sound, is_uncut, sound-append, uncut-append, is_other, IsSound, IsClosed, IsClosed-append, IsKept, IsKept-nil, within_argument, within_selector, closed_by, kept_sound, kept_uncut}
use Rattle.selector_round_trip.proofs.Classes.{apart}
use Rattle.selector_round_trip.proofs.Names.{IsRead, begins_text, read_again, read_printed}
use Rattle.selector_round_trip.proofs.NameScans.{calm_closed, name_closed}
use Rattle.selector_round_trip.proofs.Numbers.{is_decimal, IsSmallNth, nth_argument, nth_again, nth_round, units_again, degree_again, decimal_round, decimal_raw, digits_number, digits_trimmed, digits_solid_first, front_digits, behind_digits}
use Rattle.selector_round_trip.proofs.Args.{IsSought, IsPair, arg_again, pair_text, pair_again}
use Rattle.selector_round_trip.proofs.Watched.{AreWatched, watched_again, watched_raw}
use Rattle.selector_round_trip.proofs.Attributes.{IsAttr, attribute_again, attr_argument, attr_square}
use Rattle.selector_round_trip.proofs.RawScan.{balanced_raw}
use Rattle.selector_round_trip.proofs.Seen.{asked, seen, SeenChains, seen_chains, keep_text, reading_text, reading_keep}
use Rattle.selector_round_trip.proofs.Operators.{ends_piece, end_ends, IsPseudo, operator_text, closes, operator_closed, selector_closed, plain_closed, where_closed_is, operator_again, plain_again}

-- ---- selector arguments

abbrev pub chains_text : Bool → List (List Step) → Bytes
chains_text in_has chains = selector_text in_has (map (map text_of_step) chains)

pub record SelectorRead (inner : Bool → ℕ → Bytes → Result Chains Finding) (in_has : Bool) (place : ℕ) (l : Chains) : Type 0 where
  pub read : Chains
  pub is : inner in_has place (chains_text in_has l.chains) ≡ Ok read
  pub same : seen_chains read ≡ seen_chains l

-- a text whose first byte is neither a digit nor white space
pub record Starts (text : Bytes) : Type 0 where
  pub first : ℕ
  pub others : Bytes
  pub is : text ≡ first ∷ others
  pub solid : is_space first ≡ false
  pub letter : is_ascii_digit first ≡ false

-- what an argument is read as, with k selectors open around it, is read again from its canonical text
pub record IsSelector (inner : Bool → ℕ → Bytes → Result Chains Finding) (k : ℕ) (in_has : Bool) (l : Chains) : Type 0 where
  pub room : k ≤ 16
  pub sound : (rest : Bytes) → IsSound k (chains_text in_has l.chains) (41 ∷ rest)
  pub again : (place : ℕ) → SelectorRead inner in_has place l
  pub starts : in_has ≡ false → Starts (chains_text in_has l.chains)
  pub hides : l.notes.removes ≡ false

-- ---- pieces

-- the first byte of a piece; a name and `*` stand first alone
abbrev pub begins_piece : Bool → ℕ → Bool
begins_piece first b = eqb b 35 || eqb b 46 || eqb b 91 || eqb b 58 || (first && (eqb b 42 || begins_text b))

pub record PieceRead (inner : Bool → ℕ → Bytes → Result Chains Finding) (setting : Setting) (first : Bool) (place b : ℕ) (text : Bytes) (bytes : ℕ) (r : Reading) : Type 0 where
  pub read : Piece
  pub is : piece inner setting first place b text ≡ Ok read
  pub size : read.length ≡ bytes
  pub same : seen read.reading ≡ seen r

-- what a piece is read as, with k selectors open around it, is read again from its canonical text
pub record IsPiece (inner : Bool → ℕ → Bytes → Result Chains Finding) (setting : Setting) (k : ℕ) (first : Bool) (r : Reading) : Type 0 where
  pub b : ℕ
  pub others : Bytes
  pub is : reading_text r ≡ b ∷ others
  pub begins : begins_piece first b ≡ true
  pub closed : (rest : Bytes) → ends_piece rest ≡ true → IsClosed k (b ∷ others) rest
  pub again : (place : ℕ) (rest : Bytes) → ends_piece rest ≡ true → (r.notes.removes ≡ true → rest ≡ []) → PieceRead inner setting first place b (others ++ rest) (length (b ∷ others)) r

-- ---- the table of operators

pub record Selecting (f : List (List Step) → Test) (in_has : Bool) (o : Operator) : Type 0 where
  pub n : Bytes
  pub pseudo : IsPseudo n
  pub named : operator_of n ≡ Some o
  pub prints : (l : List (List Step)) → text_of_test (f l) ≡ operator_text n (chains_text in_has l)
  pub opens : (argument : Bytes) → opens n argument ≡ Selector
  pub balance : (l : List (List Step)) → test_is_balanced (f l) ≡ are_balanced l

pub record Searching (f : Arg → Test) (o : Operator) : Type 0 where
  pub n : Bytes
  pub pseudo : IsPseudo n
  pub named : operator_of n ≡ Some o
  pub prints : (a : Arg) → text_of_test (f a) ≡ operator_text n (arg_text a)
  pub opens : (argument : Bytes) → opens n argument ≡ Raw

pub pseudo : (n : Bytes) → list_all is_pseudo_byte n ≡ true → begins_name n ≡ true → str_to_ascii_lowercase n ≡ n → is_empty n ≡ false → IsPseudo n
pseudo n a b c d = record { bytes = a; begins = b; lower = c; some = d }

pub selects_is : Selecting test.Is false operator.Is
selects_is = record { n = codes "is"; pseudo = pseudo (codes "is") refl refl refl refl; named = refl; prints = text_of_test-Is; opens = λ argument. refl; balance = balance-Is }

pub selects_not : Selecting test.Not false operator.Not
selects_not = record { n = codes "not"; pseudo = pseudo (codes "not") refl refl refl refl; named = refl; prints = text_of_test-Not; opens = λ argument. refl; balance = balance-Not }

pub selects_has : Selecting test.Has true operator.Has
selects_has = record { n = codes "has"; pseudo = pseudo (codes "has") refl refl refl refl; named = refl; prints = text_of_test-Has; opens = λ argument. refl; balance = balance-Has }

pub searches_text : Searching test.HasText operator.HasText
searches_text = record { n = codes "has-text"; pseudo = pseudo (codes "has-text") refl refl refl refl; named = refl; prints = text_of_test-HasText; opens = λ argument. refl }

pub searches_path : Searching test.MatchesPath operator.MatchesPath
searches_path = record { n = codes "matches-path"; pseudo = pseudo (codes "matches-path") refl refl refl refl; named = refl; prints = text_of_test-MatchesPath; opens = λ argument. refl }

-- how a counting pseudo-class is spelled
record Counting (from_end of_name : Bool) : Type 0 where
  n : Bytes
  pseudo : IsPseudo n
  named : operator_of n ≡ Some (operator.Nth from_end of_name)
  prints : nth_text from_end of_name ≡ 58 ∷ (n ++ 40 ∷ [])
  opens : (argument : Bytes) → opens n argument ≡ Round

counts : (from_end of_name : Bool) → Counting from_end of_name
counts false false = record { n = codes "nth-child"; pseudo = pseudo (codes "nth-child") refl refl refl refl; named = refl; prints = refl; opens = λ argument. refl }
counts true false = record { n = codes "nth-last-child"; pseudo = pseudo (codes "nth-last-child") refl refl refl refl; named = refl; prints = refl; opens = λ argument. refl }
counts false true = record { n = codes "nth-of-type"; pseudo = pseudo (codes "nth-of-type") refl refl refl refl; named = refl; prints = refl; opens = λ argument. refl }
counts true true = record { n = codes "nth-last-of-type"; pseudo = pseudo (codes "nth-last-of-type") refl refl refl refl; named = refl; prints = refl; opens = λ argument. refl }

nth_assoc : (n x y : Bytes) → (((n ++ 40 ∷ []) ++ x) ++ 110 ∷ []) ++ y ++ 41 ∷ [] ≡ n ++ 40 ∷ ((x ++ 110 ∷ y) ++ 41 ∷ [])
nth_assoc n x y = simp append_assoc

counting_text : (a b : ℤ) (from_end of_name : Bool) → text_of_test (test.Nth a b from_end of_name) ≡ operator_text (counts from_end of_name).n (nth_argument a b)
counting_text a b from_end of_name =
    let c = counts from_end of_name in
    let x = signed_decimal a in
    let y = offset_text b in
    text_of_test-Nth a b from_end of_name
    ∙ ap (λ (t : Bytes). (((t ++ x) ++ 110 ∷ []) ++ y) ++ 41 ∷ []) c.prints
    ∙ ap (λ (t : Bytes). 58 ∷ t) (nth_assoc c.n x y)

-- ---- asks, without places

asked_arg : (p q : ℕ) (a : Arg) → asked (ask p a) ≡ asked (ask q a)
asked_arg p q (Literal text) = refl
asked_arg p q (Pattern body flags number) = refl

asked_given : (p q : ℕ) (a : Arg) (v : Option Arg) → asked (ask p a ++ ask_each p v) ≡ asked (ask q a ++ ask_each q v)
asked_given p q (Literal text) None = refl
asked_given p q (Literal text) (Some v) = asked_arg p q v
asked_given p q (Pattern body flags number) None = refl
asked_given p q (Pattern body flags number) (Some v) = ap (λ (x : List Asked). record { body = body; flags = flags } ∷ x) (asked_arg p q v)

-- ---- numbers of `:upward`

number_argument : (n : ℕ) (rest : Bytes) → n < 2 ^ 64 → opens (codes "upward") (decimal n ++ 41 ∷ rest) ≡ Round
number_argument n rest h =
    let d = is_decimal n h in
    let e : without_first_spaces (decimal n ++ 41 ∷ rest) ≡ decimal n ++ 41 ∷ rest = digits_solid_first (decimal n) (41 ∷ rest) d.digits d.some in
    let f : front is_ascii_digit (decimal n ++ 41 ∷ rest) ≡ decimal n = front_digits (decimal n) (41 ∷ rest) d.digits ∙ append-nil (decimal n) in
    let g : behind is_ascii_digit (decimal n ++ 41 ∷ rest) ≡ 41 ∷ rest = behind_digits (decimal n) (41 ∷ rest) d.digits in
    let b : begins_number_argument (decimal n ++ 41 ∷ rest) ≡ true =
    ap₂ (λ (x y : Bytes). not (is_empty x) && begins_with 41 (without_first_spaces y)) f g ∙ ap (λ (c : Bool). not c && true) d.some in
    ap (λ (t : Bytes). if begins_number_argument t then Round else Selector) e ∙ ap (λ (c : Bool). if c then Round else Selector) b

first_solid : (text rest : Bytes) → Starts text → without_first_spaces (text ++ rest) ≡ text ++ rest
first_solid text rest s =
    ap (λ (t : Bytes). without_first_spaces (t ++ rest)) s.is ∙ ap (λ (c : Bool). if c then without_first_spaces (s.others ++ rest) else s.first ∷ (s.others ++ rest)) s.solid
    ∙ ap (λ (t : Bytes). t ++ rest) (sym s.is)

selector_argument : (text rest : Bytes) → Starts text → opens (codes "upward") (text ++ 41 ∷ rest) ≡ Selector
selector_argument text rest s =
    let all = s.others ++ 41 ∷ rest in
    let f : front is_ascii_digit (text ++ 41 ∷ rest) ≡ [] = ap (λ (t : Bytes). front is_ascii_digit (t ++ 41 ∷ rest)) s.is ∙ ap (λ (c : Bool). if c then s.first ∷ front is_ascii_digit all else []) s.letter in
    ap (λ (t : Bytes). if begins_number_argument t then Round else Selector) (first_solid text (41 ∷ rest) s)
    ∙ ap (λ (t : Bytes). if not (is_empty t) && begins_with 41 (without_first_spaces (behind is_ascii_digit (text ++ 41 ∷ rest))) then Round else Selector) f

no_number : (b : ℕ) (text : Bytes) → is_ascii_digit b ≡ false → is_number (b ∷ text) ≡ false
no_number b text h = ap (λ (c : Bool). is_empty (if c then behind is_ascii_digit text else b ∷ text)) h

before_no_number : (b : ℕ) (text : Bytes) → is_ascii_digit b ≡ false → is_space b ≡ false → is_number (before_text b text) ≡ false
before_no_number b [] h g = ap (λ (c : Bool). is_number (if c then [] else b ∷ [])) g ∙ no_number b [] h
before_no_number b (c ∷ text) h g = no_number b (c ∷ text) h

no_degree : (text : Bytes) → Starts text → is_number (trimmed text) ≡ false
no_degree text s =
    ap (λ (t : Bytes). is_number (without_last_spaces t)) (ap without_first_spaces (sym (append-nil text)) ∙ first_solid text [] s ∙ append-nil text ∙ s.is)
    ∙ before_no_number s.first (without_last_spaces s.others) s.letter s.solid

-- ---- readings of one piece

module _ (inner : Bool → ℕ → Bytes → Result Chains Finding) (setting : Setting) (k : ℕ)
    (good : (in_has : Bool) (place : ℕ) (text : Bytes) (l : Chains) → inner in_has place text ≡ Ok l → are_balanced l.chains ≡ true → IsSelector inner (k + 1) in_has l) (first : Bool) where
  abbrev OnePiece : Reading → Type 0
  OnePiece r = IsPiece inner setting k first r

  -- what is read of the argument of the canonical text
  record ArgumentRead (o : Operator) (argument : Bytes) (ends : Bool) (place from : ℕ) (r : Reading) : Type 0 where
    read : Reading
    is : by_operator inner setting first ends place from argument (Some o) ≡ Ok read
    same : seen read ≡ seen r

  operator_piece : (r : Reading) (n argument : Bytes) (o : Operator) → IsPseudo n → operator_of n ≡ Some o → reading_text r ≡ operator_text n argument
      → ((rest : Bytes) → IsClosed k (operator_text n argument) rest)
      → ((rest : Bytes) → within (standing (opens n (argument ++ 41 ∷ rest) ∷ [])) (argument ++ 41 ∷ rest) ≡ argument)
      → ((place from : ℕ) (rest : Bytes) → (r.notes.removes ≡ true → rest ≡ []) → ArgumentRead o argument (is_empty rest) place from r)
      → OnePiece r
  operator_piece r n argument o h named is closed inside read = record {
    b = 58;
    others = n ++ 40 ∷ (argument ++ 41 ∷ []);
    is = is;
    begins = refl;
    closed = λ rest ends. closed rest;
    again = λ place rest ends last. (
        let a = read place (place + 1 + length n + 1) rest last in
        record {
          read = record { length = length (operator_text n argument); reading = a.read };
          is = operator_again inner setting first place n argument rest o a.read h named (inside rest) a.is;
          size = refl;
          same = a.same;
        });
  }

  closes_bare : (o : Open) (rest : Bytes) → closes o ≡ true → is_bare (step (standing (o ∷ [])) 41 rest) ≡ true
  closes_bare Selector rest h = refl
  closes_bare Raw rest h = refl
  closes_bare Round rest h = refl
  closes_bare Square rest h = absurd (both_ways false refl h)
  closes_bare DoubleQuote rest h = absurd (both_ways false refl h)
  closes_bare SingleQuote rest h = absurd (both_ways false refl h)

  -- one whose argument is no selector
  kept_piece : (r : Reading) (n argument : Bytes) (o : Operator) (bracket : Open) → IsPseudo n → operator_of n ≡ Some o → reading_text r ≡ operator_text n argument
      → ((rest : Bytes) → opens n (argument ++ 41 ∷ rest) ≡ bracket) → is_other (Some bracket) ≡ true → closes bracket ≡ true
      → ((rest : Bytes) → IsKept (bracket ∷ []) argument (41 ∷ rest))
      → ((place from : ℕ) (rest : Bytes) → (r.notes.removes ≡ true → rest ≡ []) → ArgumentRead o argument (is_empty rest) place from r)
      → OnePiece r
  kept_piece r n argument o bracket h named is opened other shut kept read =
      operator_piece r n argument o h named is
      (λ rest. operator_closed k n argument rest bracket h (opened rest) other (kept rest) shut)
      (λ rest. ap (λ (q : Open). within (standing (q ∷ [])) (argument ++ 41 ∷ rest)) (opened rest) ∙ within_argument bracket 41 argument rest other (kept rest) (closes_bare bracket rest shut))
      read

  keeps : (t : Test) → reading_text (keep t) ≡ text_of_test t
  keeps t = reading_keep (keep t) refl ∙ keep_text t

  -- selectors
  pub selecting_piece : (f : List (List Step) → Test) (in_has : Bool) (o : Operator) (l : Chains) → Selecting f in_has o
      → ((ends : Bool) (place from : ℕ) (argument : Bytes) → by_operator inner setting first ends place from argument (Some o) ≡ (inner in_has from argument >>= λ m. Ok (selecting_test f m)))
      → IsSelector inner (k + 1) in_has l → OnePiece (selecting_test f l)
  selecting_piece f in_has o l s reads h =
      let argument = chains_text in_has l.chains in
      let r = selecting_test f l in
      operator_piece r s.n argument o s.pseudo s.named
      (reading_keep r h.hides ∙ keep_text (f l.chains) ∙ s.prints l.chains)
      (λ rest. selector_closed k s.n argument rest s.pseudo (s.opens (argument ++ 41 ∷ rest)) (let e = h.room in omega arith) (h.sound rest))
      (λ rest. ap (λ (q : Open). within (standing (q ∷ [])) (argument ++ 41 ∷ rest)) (s.opens (argument ++ 41 ∷ rest)) ∙ within_selector (k + 1) argument rest (h.sound rest))
      (λ place from rest last. (
      let a = h.again from in
      record {
        read = selecting_test f a.read;
        is = reads (is_empty rest) place from argument ∙ ap (λ (x : Result Chains Finding). x >>= λ m. Ok (selecting_test f m)) a.is;
        same = ap (λ (c : SeenChains). record { steps = step.Keep (f c.chains) ∷ []; told = c.told }) a.same;
      }))

  -- what climbs to a selector
  abbrev pub upward_reading : Chains → Reading
  upward_reading l = record { steps = step.UpwardTo l.chains ∷ []; notes = record { asks = l.notes.asks; removes = l.notes.removes; operates = true } }

  pub upward_to_piece : (l : Chains) → l.notes.operates ≡ false → IsSelector inner (k + 1) false l → OnePiece (upward_reading l)
  upward_to_piece l plain h =
      let argument = chains_text false l.chains in
      let r = upward_reading l in
      let starts = h.starts refl in
      let opened : (rest : Bytes) → opens (codes "upward") (argument ++ 41 ∷ rest) ≡ Selector = λ (rest : Bytes). selector_argument argument rest starts in
      operator_piece r (codes "upward") argument operator.Upward (pseudo (codes "upward") refl refl refl refl) refl
      (reading_keep r h.hides ∙ ap (λ (s : StepText). s false ++ []) (text_of_step-UpwardTo l.chains) ∙ append-nil (operator_text (codes "upward") argument))
      (λ rest. selector_closed k (codes "upward") argument rest (pseudo (codes "upward") refl refl refl refl) (opened rest) (let e = h.room in omega arith) (h.sound rest))
      (λ rest. ap (λ (q : Open). within (standing (q ∷ [])) (argument ++ 41 ∷ rest)) (opened rest) ∙ within_selector (k + 1) argument rest (h.sound rest))
      (λ place from rest last. (
      let a = h.again from in
      let o : a.read.notes.operates ≡ false = ap (λ (c : SeenChains). c.told.operates) a.same ∙ plain in
      record {
        read = upward_reading a.read;
        is = ap (λ (c : Bool). if c then (or_bad cause.BadOperatorArgument place (degree (trimmed argument)) >>= λ n. Ok (upward_step n)) else (inner false from argument >>= λ m. spelled.upward_to place m)) (no_degree argument starts)
            ∙ ap (λ (x : Result Chains Finding). x >>= λ m. spelled.upward_to place m) a.is
            ∙ ap (λ (c : Bool). if c then spelled.bad cause.BadOperatorArgument place else Ok (upward_reading a.read)) o;
        same = ap (λ (c : SeenChains). record { steps = step.UpwardTo c.chains ∷ []; told = record { asks = c.told.asks; removes = c.told.removes; operates = true } }) a.same;
      }))

  pub upward_piece : (n : ℕ) → 0 < n → n < 256 → OnePiece (upward_step n)
  upward_piece n some low =
      let r = upward_step n in
      let wide : n < 2 ^ 64 = omega arith in
      let d = is_decimal n wide in
      let t : trimmed (decimal n) ≡ decimal n = digits_trimmed (decimal n) d.digits d.some in
      kept_piece r (codes "upward") (decimal n) operator.Upward Round (pseudo (codes "upward") refl refl refl refl) refl
      (reading_keep r refl ∙ ap (λ (s : StepText). s false ++ []) (text_of_step-Upward n) ∙ append-nil (operator_text (codes "upward") (decimal n)))
      (λ rest. number_argument n rest wide) refl refl (λ rest. decimal_round n (41 ∷ rest) wide)
      (λ place from rest last. record {
        read = r;
        is = ap (λ (c : Bool). if c then (or_bad cause.BadOperatorArgument place (degree (trimmed (decimal n))) >>= λ m. Ok (upward_step m)) else (inner false from (decimal n) >>= λ m. spelled.upward_to place m)) (ap is_number t ∙ digits_number (decimal n) d.digits d.some)
            ∙ ap (λ (o : Option ℕ). or_bad cause.BadOperatorArgument place o >>= λ m. Ok (upward_step m)) (ap degree t ∙ degree_again n some low);
        same = refl;
      })

  -- counting
  pub counting_piece : (from_end of_name : Bool) (v : Nth) → IsSmallNth v → OnePiece (nth_test from_end of_name v)
  counting_piece from_end of_name v h =
      let c = counts from_end of_name in
      let r = nth_test from_end of_name v in
      kept_piece r c.n (nth_argument v.a v.b) (operator.Nth from_end of_name) Round c.pseudo c.named
      (keeps (test.Nth v.a v.b from_end of_name) ∙ counting_text v.a v.b from_end of_name)
      (λ rest. c.opens (nth_argument v.a v.b ++ 41 ∷ rest)) refl refl (λ rest. nth_round v.a v.b (41 ∷ rest) h.0 h.1)
      (λ place from rest last. record {
        read = r;
        is = ap (λ (o : Option Nth). or_bad cause.BadNumber place o >>= λ w. Ok (nth_test from_end of_name w)) (nth_again v.a v.b h.0 h.1);
        same = refl;
      })

  -- text arguments
  pub searching_piece : (f : Arg → Test) (o : Operator) (place : ℕ) (a : Arg) → Searching f o
      → ((ends : Bool) (there from : ℕ) (argument : Bytes) → by_operator inner setting first ends there from argument (Some o) ≡ spelled.searching f there argument) → IsSought a → is_balanced (arg_text a) ≡ true → OnePiece (search_test f place a)
  searching_piece f o place a s reads h balanced =
      let r = search_test f place a in
      kept_piece r s.n (arg_text a) o Raw s.pseudo s.named
      (reading_keep r refl ∙ keep_text (f a) ∙ s.prints a)
      (λ rest. s.opens (arg_text a ++ 41 ∷ rest)) refl refl (λ rest. balanced_raw (arg_text a) rest balanced)
      (λ there from rest last. record {
        read = search_test f there a;
        is = reads (is_empty rest) there from (arg_text a) ∙ ap (λ (o : Option Arg). or_bad cause.BadOperatorArgument there o >>= λ b. Ok (search_test f there b)) (ap sought (arg_again a h.arg) ∙ h.sought);
        same = ap (λ (x : List Asked). record { steps = step.Keep (f a) ∷ []; told = record { asks = x; removes = false; operates = true } }) (asked_arg there place a);
      })

  pub measuring_piece : (n : ℕ) → n < 2 ^ 32 → OnePiece (length_test n)
  measuring_piece n low =
      let r = length_test n in
      let wide : n < 2 ^ 64 = omega arith in
      kept_piece r (codes "min-text-length") (decimal n) operator.MinText Raw (pseudo (codes "min-text-length") refl refl refl refl) refl
      (reading_keep r refl ∙ keep_text (test.MinText n) ∙ text_of_test-MinText n)
      (λ rest. refl) refl refl (λ rest. decimal_raw n (41 ∷ rest) wide)
      (λ place from rest last. record {
        read = r;
        is = ap (λ (o : Option ℕ). or_bad cause.BadOperatorArgument place o >>= λ m. Ok (length_test m)) (units_again n low);
        same = refl;
      })

  pub matching_piece : (place : ℕ) (p : Pair) → IsPair p → is_balanced (pair_text p) ≡ true → OnePiece (pair_test place p)
  matching_piece place p h balanced =
      let r = pair_test place p in
      kept_piece r (codes "matches-attr") (pair_text p) operator.MatchesAttr Raw (pseudo (codes "matches-attr") refl refl refl refl) refl
      (reading_keep r refl ∙ keep_text (test.MatchesAttr p.name p.value) ∙ text_of_test-MatchesAttr p.name p.value)
      (λ rest. refl) refl refl (λ rest. balanced_raw (pair_text p) rest balanced)
      (λ there from rest last. record {
        read = pair_test there p;
        is = ap (λ (o : Option Pair). or_bad cause.BadOperatorArgument there o >>= λ q. Ok (pair_test there q)) (pair_again p h);
        same = ap (λ (x : List Asked). record { steps = step.Keep (test.MatchesAttr p.name p.value) ∷ []; told = record { asks = x; removes = false; operates = true } }) (asked_given there place p.name p.value);
      })

  pub watching_piece : (names : List Bytes) → AreWatched names → OnePiece (watch_test names)
  watching_piece names h =
      let r = watch_test names in
      kept_piece r (codes "watch-attr") (joined names) operator.WatchAttr Raw (pseudo (codes "watch-attr") refl refl refl refl) refl
      (reading_keep r refl ∙ keep_text (test.WatchAttr names) ∙ text_of_test-WatchAttr names)
      (λ rest. refl) refl refl (λ rest. watched_raw names (41 ∷ rest) h)
      (λ place from rest last. record {
        read = r;
        is = ap (λ (o : Option (List Bytes)). or_bad cause.BadOperatorArgument place o >>= λ m. Ok (watch_test m)) (watched_again names h);
        same = refl;
      })

  -- without an argument
  pub others_piece : setting.nested ≡ false → OnePiece (operating step.Others [])
  others_piece top =
      let r = operating step.Others [] in
      kept_piece r (codes "others") [] operator.Others Raw (pseudo (codes "others") refl refl refl refl) refl
      (reading_keep r refl ∙ ap (λ (s : StepText). s false ++ []) text_of_step-Others)
      (λ rest. refl) refl refl (λ rest. IsKept-nil (Raw ∷ []) (41 ∷ rest))
      (λ place from rest last. record {
        read = r;
        is = ap (λ (c : Bool). if c then spelled.bad cause.OthersNested place else spelled.if_blank place [] r) top;
        same = refl;
      })

  abbrev pub the_action : Reading
  the_action = record { steps = []; notes = record { asks = []; removes = true; operates = false } }

  action_again : (place : ℕ) (ends : Bool) → setting.nested ≡ false → setting.last ≡ true → setting.several ≡ false → first ≡ false → ends ≡ true
      → spelled.action setting first ends place [] ≡ Ok the_action
  action_again place ends top last_one single behind_others e =
      let x : (setting.nested || not (setting.last && ends)) ≡ false = or_from setting.nested (not (setting.last && ends)) top (ap not (and_from setting.last ends last_one e)) in
      rw (x, single, behind_others) refl

  pub action_piece : setting.nested ≡ false → setting.last ≡ true → setting.several ≡ false → first ≡ false → OnePiece the_action
  action_piece top last_one single behind_others =
      kept_piece the_action (codes "remove") [] operator.Remove Raw (pseudo (codes "remove") refl refl refl refl) refl refl
      (λ rest. refl) refl refl (λ rest. IsKept-nil (Raw ∷ []) (41 ∷ rest))
      (λ place from rest last. (
      let e : is_empty rest ≡ true = ap is_empty (last refl) in
      record {
        read = the_action;
        is = action_again place (is_empty rest) top last_one single behind_others e;
        same = refl;
      }))

  pub plain_piece : (t : Test) (n : Bytes) → IsPseudo n → text_of_test t ≡ 58 ∷ n → ((place : ℕ) → spelled.without_argument_reading place n ≡ Ok (keep t)) → OnePiece (keep t)
  plain_piece t n h prints named = record {
    b = 58;
    others = n;
    is = keeps t ∙ prints;
    begins = refl;
    closed = λ rest ends. plain_closed k n rest h ends;
    again = λ place rest ends last. record {
      read = record { length = length (58 ∷ n); reading = keep t };
      is = plain_again inner setting first place n rest (keep t) h ends (named place);
      size = refl;
      same = refl;
    };
  }

  -- names, attributes and `*`
  named_size : (b : ℕ) (text rest : Bytes) → length (b ∷ (text ++ rest)) - length rest ≡ length (b ∷ text)
  named_size b text rest = omega (arith, length-append text rest)

  pub id_piece : (v : Bytes) → IsRead v → OnePiece (keep (test.Id v))
  id_piece v h = record {
    b = 35;
    others = name_text v;
    is = keeps (test.Id v) ∙ text_of_test-Id v;
    begins = refl;
    closed = λ rest ends. IsClosed-append k (35 ∷ []) (name_text v) rest (calm_closed k 35 (name_text v ++ rest) refl) (name_closed k v rest);
    again = λ place rest ends last. record {
      read = record { length = length (35 ∷ (name_text v ++ rest)) - length rest; reading = keep (test.Id v) };
      is = ap (spelled.named place (35 ∷ (name_text v ++ rest)) test.Id) (read_again v rest h (end_ends rest ends));
      size = named_size 35 (name_text v) rest;
      same = refl;
    };
  }

  pub class_piece : (v : Bytes) → IsRead v → OnePiece (keep (test.Class v))
  class_piece v h = record {
    b = 46;
    others = name_text v;
    is = keeps (test.Class v) ∙ text_of_test-Class v;
    begins = refl;
    closed = λ rest ends. IsClosed-append k (46 ∷ []) (name_text v) rest (calm_closed k 46 (name_text v ++ rest) refl) (name_closed k v rest);
    again = λ place rest ends last. record {
      read = record { length = length (46 ∷ (name_text v ++ rest)) - length rest; reading = keep (test.Class v) };
      is = ap (spelled.named place (46 ∷ (name_text v ++ rest)) test.Class) (read_again v rest h (end_ends rest ends));
      size = named_size 46 (name_text v) rest;
      same = refl;
    };
  }

  -- a name that stands first
  tag_first : (place b : ℕ) (text : Bytes) → begins_text b ≡ true → first ≡ true → piece inner setting first place b text ≡ spelled.named place (b ∷ text) spelled.tag (name (b ∷ text))
  tag_first place b text h is_first =
      let d = apart begins_text b in
      let f : not first ≡ false = ap not is_first in
      rw (d 35 h refl, d 46 h refl, d 91 h refl, d 58 h refl, f, d 42 h refl) refl

  tag_begins : (b : ℕ) → begins_text b ≡ true → first ≡ true → begins_piece first b ≡ true
  tag_begins b h is_first =
      or_right (eqb b 35 || eqb b 46 || eqb b 91 || eqb b 58) (first && (eqb b 42 || begins_text b)) (and_from first (eqb b 42 || begins_text b) is_first (or_right (eqb b 42) (begins_text b) h))

  pub tag_piece : (v : Bytes) → IsRead v → str_to_ascii_lowercase v ≡ v → first ≡ true → OnePiece (keep (test.Tag v))
  tag_piece v h lower is_first =
      let p = read_printed v h in
      record {
        b = p.first;
        others = p.others;
        is = keeps (test.Tag v) ∙ text_of_test-Tag v ∙ p.is;
        begins = tag_begins p.first p.begins is_first;
        closed = λ rest ends. subst (λ (t : Bytes). IsClosed k t rest) p.is (name_closed k v rest);
        again = λ place rest ends last. (
            let text = p.others ++ rest in
            let e : name (p.first ∷ text) ≡ Some (record { value = v; rest = rest }) = ap (λ (t : Bytes). name (t ++ rest)) (sym p.is) ∙ read_again v rest h (end_ends rest ends) in
            record {
              read = record { length = length (p.first ∷ text) - length rest; reading = keep (test.Tag (str_to_ascii_lowercase v)) };
              is = tag_first place p.first text p.begins is_first ∙ ap (spelled.named place (p.first ∷ text) spelled.tag) e;
              size = named_size p.first p.others rest;
              same = ap (λ (t : Bytes). seen (keep (test.Tag t))) lower;
            });
      }

  pub any_piece : first ≡ true → OnePiece (keep test.Any)
  any_piece is_first = record {
    b = 42;
    others = [];
    is = keeps test.Any ∙ text_of_test-Any;
    begins = ap (λ (c : Bool). c && true) is_first;
    closed = λ rest ends. calm_closed k 42 rest refl;
    again = λ place rest ends last. record {
      read = record { length = 1; reading = keep test.Any };
      is = ap (λ (c : Bool). if not c then spelled.bad cause.BadName place else Ok (record { length = 1; reading = keep test.Any })) is_first;
      size = refl;
      same = refl;
    };
  }

  square_closed : (argument rest : Bytes) → IsKept (Square ∷ []) argument (93 ∷ rest) → IsClosed k (91 ∷ (argument ++ 93 ∷ [])) rest
  square_closed argument rest kept =
      let from = standing (Square ∷ []) in
      record {
        sound = sound-append k from argument (93 ∷ []) rest (kept_sound k from argument (93 ∷ rest) kept.kept) (ap (λ s. is_sound k s (93 ∷ []) rest) kept.ends);
        uncut = uncut-append from argument (93 ∷ []) rest (kept_uncut from argument (93 ∷ rest) kept.kept) (ap (λ s. is_uncut s (93 ∷ []) rest) kept.ends);
        ends = over-append from argument (93 ∷ []) rest ∙ ap (λ s. over s (93 ∷ []) rest) kept.ends;
      }

  pub attr_piece : (key : Bytes) (op : AttrOp) (v : Bytes) (i : Bool) → IsAttr key op v i → OnePiece (keep (test.Attr key op v i))
  attr_piece key op v i h =
      let argument = attr_argument key op v i in
      record {
        b = 91;
        others = argument ++ 93 ∷ [];
        is = keeps (test.Attr key op v i) ∙ text_of_test-Attr key op v i;
        begins = refl;
        closed = λ rest ends. square_closed argument rest (attr_square key op v i (93 ∷ rest));
        again = λ place rest ends last. (
            let e : (argument ++ 93 ∷ []) ++ rest ≡ argument ++ 93 ∷ rest = append_assoc argument (93 ∷ []) rest in
            let inside = within_argument Square 93 argument rest refl (attr_square key op v i (93 ∷ rest)) refl in
            let w : within (standing (Square ∷ [])) ((argument ++ 93 ∷ []) ++ rest) ≡ argument = ap (within (standing (Square ∷ []))) e ∙ inside in
            let closed : is_closed (standing (Square ∷ [])) ((argument ++ 93 ∷ []) ++ rest) ≡ true = ap (is_closed (standing (Square ∷ []))) e ∙ closed_by Square 93 argument rest inside in
            record {
              read = record { length = length argument + 2; reading = keep (test.Attr key op v i) };
              is = where_closed_is place Square ((argument ++ 93 ∷ []) ++ rest) _ closed
                  ∙ ap (λ (a : Bytes). or_bad cause.BadAttribute place (attribute a) >>= λ t. Ok (record { length = length a + 2; reading = keep t })) w
                  ∙ ap (λ (o : Option Test). or_bad cause.BadAttribute place o >>= λ t. Ok (record { length = length argument + 2; reading = keep t })) (attribute_again key op v i h);
              size = omega (arith, length-append argument (93 ∷ []));
              same = refl;
            });
      }
