-- What is read as a piece is one that its canonical text is read as.
use Rattle.std.proofs.Common.{List, ◌≡◌, ℕ, pos, suc, ◌+◌, ◌-◌, Bool, true, false, not, eqb, ◌&&◌, ◌||◌, [], ◌∷◌, ◌++◌, length, drop, codes, Option, Some, None, Result, Ok, Err, if◌then◌else◌, refl, sym, ap, ap₂, subst, ◌∙◌, arith, inl, inr}
use Rattle.std.specs.List.{list_all}
use Rattle.std.specs.Str.{str_to_ascii_lowercase}
use Rattle.std.proofs.lemmas.Bool.{cases_Bool, eqb-true, or_parts, both_ways, and_parts, not-false}
use Rattle.cos_source.specs.Spaces.{trimmed}
use Rattle.selector_tree.specs.declared.selector.Arg.{Arg}
use Rattle.selector_tree.specs.declared.selector.Test.{Test}
use Rattle.selector_tree.specs.declared.selector.Test.TheVariants as test
use Rattle.selector_tree.specs.declared.selector.Step.{Step}
use Rattle.selector_tree.specs.declared.selector.Step.TheVariants as step
use Rattle.selector_tree.proofs.TextLaws.{text_of_test-Root, text_of_test-Empty, text_of_test-Only}
use Rattle.selector_spelling.specs.declared.finding.Cause.{Cause}
use Rattle.selector_spelling.specs.declared.finding.Cause.TheVariants as cause
use Rattle.selector_spelling.specs.declared.finding.Kind.TheVariants as kind
use Rattle.selector_spelling.specs.declared.finding.Finding.{Finding}
use Rattle.selector_spelling.specs.declared.open.Open.TheVariants.{Raw, Square}
use Rattle.selector_spelling.specs.declared.reading.Reading.{Reading}
use Rattle.selector_spelling.specs.declared.reading.Chains.{Chains}
use Rattle.selector_spelling.specs.declared.reading.Setting.{Setting}
use Rattle.selector_spelling.specs.Bytes.{Bytes, begins_with, front, behind, is_empty, is_blank, is_number, is_pseudo_byte, colon}
use Rattle.selector_spelling.specs.Names.{Taken, name, begins_name}
use Rattle.selector_spelling.specs.Operators.{operator_of}
use Rattle.selector_spelling.specs.Scan.{standing, opened_by, opens, within, is_closed}
use Rattle.selector_spelling.specs.declared.open.Open.{Open}
use Rattle.selector_round_trip.proofs.Closed.{raw_argument}
use Rattle.selector_round_trip.proofs.Marks.{marks, run, depth, search_balanced, pair_balanced, sought_same}
use Rattle.selector_tree.specs.Canonical.{arg_text}
use Rattle.selector_spelling.specs.Attributes.{attribute}
use Rattle.selector_spelling.specs.Arguments.{nth, text_units, degree, text_argument, sought, attribute_pair, watched}
use Rattle.selector_spelling.specs.Pieces.{◌>>=◌, or_bad, keep, plain_of, plain_reading, nth_test, search_test, length_test, pair_test, watch_test, upward_step, selecting_test, Piece, by_operator, piece}
use Rattle.selector_spelling.specs.declared.operator.Operator.{Operator}
use Rattle.selector_spelling.specs.declared.operator.Operator.TheVariants as operator
use Rattle.selector_spelling.specs.declared.operator.Plain.{Plain}
use Rattle.selector_spelling.specs.declared.operator.Plain.TheVariants as plain
use Rattle.selector_spelling.specs.Pieces as spelled
use Rattle.selector_round_trip.specs.Balanced.{is_balanced, step_is_balanced, test_is_balanced, are_balanced}
use Rattle.selector_round_trip.proofs.BalanceLaws.{balance-Keep, balance-UpwardTo, balance-MatchesAttr}
use Rattle.selector_round_trip.proofs.Names.{name_read, lower_read, lower_lower}
use Rattle.selector_round_trip.proofs.Numbers.{nth_small, units_small, degree_small}
use Rattle.selector_round_trip.proofs.Args.{sought_read, pair_read}
use Rattle.selector_round_trip.proofs.Watched.{watched_read}
use Rattle.selector_round_trip.proofs.Attributes.{attribute_read}
use Rattle.selector_round_trip.proofs.Pieces.{IsSelector, IsPiece, Selecting, Searching, selects_is, selects_not, selects_has, searches_text, searches_path, pseudo, upward_reading, selecting_piece, upward_to_piece, upward_piece, counting_piece, searching_piece, measuring_piece, matching_piece, watching_piece, others_piece, action_piece, plain_piece, id_piece, class_piece, tag_piece, any_piece, attr_piece}

all_one : (s : Step) → list_all step_is_balanced (s ∷ []) ≡ true → step_is_balanced s ≡ true
all_one s h = (and_parts (step_is_balanced s) true h).0

all_keep : (t : Test) → list_all step_is_balanced (step.Keep t ∷ []) ≡ true → test_is_balanced t ≡ true
all_keep t h = sym (balance-Keep t) ∙ all_one (step.Keep t) h

front_behind : (p : ℕ → Bool) (text : Bytes) → front p text ++ behind p text ≡ text
front_behind p [] = refl
front_behind p (b ∷ text) =
    elim (cases_Bool (p b)) [
      | inl yes_byte ↦ ap₂ ◌++◌ (ap (λ (c : Bool). if c then b ∷ front p text else []) yes_byte) (ap (λ (c : Bool). if c then behind p text else b ∷ text) yes_byte) ∙ ap (λ (t : Bytes). b ∷ t) (front_behind p text)
      | inr no_byte ↦ ap₂ ◌++◌ (ap (λ (c : Bool). if c then b ∷ front p text else []) no_byte) (ap (λ (c : Bool). if c then behind p text else b ∷ text) no_byte)
    ]

drop_past : (a b : Bytes) (m : ℕ) → drop (length a + m) (a ++ b) ≡ drop m b
drop_past [] b m = (let e : 0 + m ≡ m = omega arith in ap (λ (n : ℕ). drop n b) e)
drop_past (c ∷ a) b m = (let e : suc (length a) + m ≡ suc (length a + m) = omega arith in ap (λ (n : ℕ). drop n (c ∷ (a ++ b))) e ∙ drop_past a b m)

empty_nil : (text : Bytes) → is_empty text ≡ true → text ≡ []
empty_nil [] h = refl
empty_nil (b ∷ text) h = absurd (both_ways false refl h)

module _ (inner : Bool → ℕ → Bytes → Result Chains Finding) (setting : Setting) (k : ℕ)
    (good : (in_has : Bool) (place : ℕ) (text : Bytes) (l : Chains) → inner in_has place text ≡ Ok l → are_balanced l.chains ≡ true → IsSelector inner (k + 1) in_has l) (first : Bool) where
  -- a reading of one piece; `ends` says that nothing stands behind it
  pub record GoodReading (ends : Bool) (r : Reading) : Type 0 where
    pub piece : IsPiece inner setting k first r
    pub nested : setting.nested ≡ true → r.notes.removes ≡ false
    pub last : r.notes.removes ≡ true → ends ≡ true
    pub only : r.notes.removes ≡ true → (setting.last ≡ true) × (setting.several ≡ false)

  abbrev OnReading : Bool → Result Reading Finding → Type 0
  OnReading ends (Err f) = Unit {0}
  OnReading ends (Ok r) = list_all step_is_balanced r.steps ≡ true → GoodReading ends r

  on_cond : (ends c : Bool) (x y : Result Reading Finding) → (c ≡ true → OnReading ends x) → (c ≡ false → OnReading ends y) → OnReading ends (if c then x else y)
  on_cond ends true x y h g = h refl
  on_cond ends false x y h g = g refl

  on_bind : {A : Type 0} (ends : Bool) (x : Result A Finding) (f : A → Result Reading Finding) → ((v : A) → x ≡ Ok v → OnReading ends (f v)) → OnReading ends (x >>= f)
  on_bind ends (Ok v) f h = h v refl
  on_bind ends (Err e) f h = tt

  on_option : {A : Type 0} (ends : Bool) (c : Cause) (place : ℕ) (o : Option A) (f : A → Result Reading Finding) → ((v : A) → o ≡ Some v → OnReading ends (f v)) → OnReading ends (or_bad c place o >>= f)
  on_option ends c place (Some v) f h = h v refl
  on_option ends c place None f h = tt

  hides : (ends : Bool) (r : Reading) → r.notes.removes ≡ false → IsPiece inner setting k first r → GoodReading ends r
  hides ends r h p = record { piece = p; nested = λ e. h; last = λ (e : r.notes.removes ≡ true). absurd (both_ways r.notes.removes h e); only = λ (e : r.notes.removes ≡ true). absurd (both_ways r.notes.removes h e) }

  upward_good : (ends : Bool) (place from : ℕ) (argument : Bytes) → OnReading ends (spelled.upward inner place from argument)
  upward_good ends place from argument =
      on_cond ends (is_number (trimmed argument)) _ _
      (λ number. on_option ends cause.BadOperatorArgument place (degree (trimmed argument)) (λ n. Ok (upward_step n)) (λ n e balanced. (
      let d = degree_small (trimmed argument) n e in
      hides ends (upward_step n) refl (upward_piece inner setting k good first n d.0 d.1))))
      (λ other. on_bind ends (inner false from argument) (λ l. spelled.upward_to place l) (λ l e. on_cond ends l.notes.operates _ _ (λ operates. tt) (λ plain balanced. (
      let b : are_balanced l.chains ≡ true = sym (balance-UpwardTo l.chains) ∙ all_one (step.UpwardTo l.chains) balanced in
      hides ends (upward_reading inner setting k good first l) (good false from argument l e b).hides (upward_to_piece inner setting k good first l plain (good false from argument l e b))))))

  others_good : (ends : Bool) (place : ℕ) (argument : Bytes) → OnReading ends (spelled.others setting place argument)
  others_good ends place argument =
      on_cond ends setting.nested _ _ (λ inside. tt) (λ top. on_cond ends (is_blank argument) _ _ (λ blank balanced. hides ends (spelled.operating step.Others []) refl (others_piece inner setting k good first top)) (λ other. tt))

  action_good : (ends : Bool) (place : ℕ) (argument : Bytes) → OnReading ends (spelled.action setting first ends place argument)
  action_good ends place argument =
      on_cond ends (setting.nested || not (setting.last && ends)) _ _ (λ h. tt)
      (λ not_last. on_cond ends setting.several _ _ (λ h. tt)
      (λ single. on_cond ends first _ _ (λ h. tt)
      (λ behind_others. on_cond ends (is_blank argument) _ _ (λ blank balanced. (
      let p = or_parts setting.nested (not (setting.last && ends)) not_last in
      let q = and_parts setting.last ends (not-false (setting.last && ends) p.1) in
      record {
        piece = action_piece inner setting k good first p.0 q.0 single behind_others;
        nested = λ (e : setting.nested ≡ true). absurd (both_ways setting.nested p.0 e);
        last = λ e. q.1;
        only = λ e. (q.0, single);
      })) (λ h. tt))))

  selecting_good : (ends : Bool) (from : ℕ) (argument : Bytes) (f : List (List Step) → Test) (in_has : Bool) (o : Operator) → Selecting f in_has o
      → ((last : Bool) (place there : ℕ) (text : Bytes) → by_operator inner setting first last place there text (Some o) ≡ (inner in_has there text >>= λ m. Ok (selecting_test f m)))
      → OnReading ends (inner in_has from argument >>= λ l. Ok (selecting_test f l))
  selecting_good ends from argument f in_has o s reads =
      on_bind ends (inner in_has from argument) (λ l. Ok (selecting_test f l)) (λ l e balanced. (
      let b : are_balanced l.chains ≡ true = sym (s.balance l.chains) ∙ all_keep (f l.chains) balanced in
      let g = good in_has from argument l e b in
      hides ends (selecting_test f l) g.hides (selecting_piece inner setting k good first f in_has o l s reads g)))

  searching_good : (ends : Bool) (place : ℕ) (argument : Bytes) (f : Arg → Test) (o : Operator) → Searching f o
      → ((last : Bool) (there from : ℕ) (text : Bytes) → by_operator inner setting first last there from text (Some o) ≡ spelled.searching f there text)
      → depth (run (marks 0 false) argument) ≡ Some 0 → OnReading ends (spelled.searching f place argument)
  searching_good ends place argument f o s reads raw =
      on_option ends cause.BadOperatorArgument place (sought (text_argument argument)) (λ a. Ok (search_test f place a)) (λ a e balanced. hides ends (search_test f place a) refl
      (searching_piece inner setting k good first f o place a s reads (sought_read argument a e) (subst (λ (x : Arg). is_balanced (arg_text x) ≡ true) (sought_same (text_argument argument) a e) (search_balanced argument raw))))

  operator_good : (ends : Bool) (place from : ℕ) (text argument : Bytes) (o : Option Operator) → (opened_by o text ≡ Raw → depth (run (marks 0 false) argument) ≡ Some 0)
      → OnReading ends (by_operator inner setting first ends place from argument o)
  operator_good ends place from text argument None raw = tt
  operator_good ends place from text argument (Some operator.Is) raw = selecting_good ends from argument test.Is false operator.Is selects_is (λ last there start text. refl)
  operator_good ends place from text argument (Some operator.Not) raw = selecting_good ends from argument test.Not false operator.Not selects_not (λ last there start text. refl)
  operator_good ends place from text argument (Some operator.Has) raw = selecting_good ends from argument test.Has true operator.Has selects_has (λ last there start text. refl)
  operator_good ends place from text argument (Some (operator.Nth from_end of_name)) raw =
      on_option ends cause.BadNumber place (nth argument) (λ v. Ok (nth_test from_end of_name v)) (λ v e balanced. hides ends (nth_test from_end of_name v) refl (counting_piece inner setting k good first from_end of_name v (nth_small argument v e)))
  operator_good ends place from text argument (Some operator.HasText) raw = searching_good ends place argument test.HasText operator.HasText searches_text (λ last there start text. refl) (raw refl)
  operator_good ends place from text argument (Some operator.MinText) raw =
      on_option ends cause.BadOperatorArgument place (text_units argument) (λ n. Ok (length_test n)) (λ n e balanced. hides ends (length_test n) refl (measuring_piece inner setting k good first n (units_small argument n e)))
  operator_good ends place from text argument (Some operator.MatchesPath) raw = searching_good ends place argument test.MatchesPath operator.MatchesPath searches_path (λ last there start text. refl) (raw refl)
  operator_good ends place from text argument (Some operator.MatchesAttr) raw =
      on_option ends cause.BadOperatorArgument place (attribute_pair argument) (λ p. Ok (pair_test place p)) (λ p e balanced. hides ends (pair_test place p) refl
      (matching_piece inner setting k good first place p (pair_read argument p e) (pair_balanced argument p e (sym (balance-MatchesAttr p.name p.value) ∙ all_keep (test.MatchesAttr p.name p.value) balanced) (raw refl))))
  operator_good ends place from text argument (Some operator.WatchAttr) raw =
      on_option ends cause.BadOperatorArgument place (watched argument) (λ names. Ok (watch_test names)) (λ names e balanced. hides ends (watch_test names) refl (watching_piece inner setting k good first names (watched_read argument names e)))
  operator_good ends place from text argument (Some operator.Upward) raw = upward_good ends place from argument
  operator_good ends place from text argument (Some operator.Others) raw = others_good ends place argument
  operator_good ends place from text argument (Some operator.Remove) raw = action_good ends place argument
  operator_good ends place from text argument (Some (operator.Aside a)) raw = tt

  -- ---- pieces without an argument

  one_of : (from_end of_name : Bool) → IsPiece inner setting k first (keep (test.Nth (pos 0) (pos 1) from_end of_name))
  one_of from_end of_name = counting_piece inner setting k good first from_end of_name (record { a = pos 0; b = pos 1 }) (omega arith, omega arith)

  only_of : (of_name : Bool) → IsPiece inner setting k first (keep (test.Only of_name))
  only_of false = plain_piece inner setting k good first (test.Only false) (codes "only-child") (pseudo (codes "only-child") refl refl refl refl) (text_of_test-Only false) (λ place. refl)
  only_of true = plain_piece inner setting k good first (test.Only true) (codes "only-of-type") (pseudo (codes "only-of-type") refl refl refl refl) (text_of_test-Only true) (λ place. refl)

  -- ---- pieces

  -- a piece at the front of a text
  pub record GoodPiece (text : Bytes) (p : Piece) : Type 0 where
    pub piece : IsPiece inner setting k first p.reading
    pub nested : setting.nested ≡ true → p.reading.notes.removes ≡ false
    pub last : p.reading.notes.removes ≡ true → drop p.length text ≡ []
    pub only : p.reading.notes.removes ≡ true → (setting.last ≡ true) × (setting.several ≡ false)

  abbrev pub OnPiece : Bytes → Result Piece Finding → Type 0
  OnPiece text (Err f) = Unit {0}
  OnPiece text (Ok p) = list_all step_is_balanced p.reading.steps ≡ true → GoodPiece text p

  piece_cond : (text : Bytes) (c : Bool) (x y : Result Piece Finding) → (c ≡ true → OnPiece text x) → (c ≡ false → OnPiece text y) → OnPiece text (if c then x else y)
  piece_cond text true x y h g = h refl
  piece_cond text false x y h g = g refl

  hidden : (text : Bytes) (p : Piece) → p.reading.notes.removes ≡ false → IsPiece inner setting k first p.reading → GoodPiece text p
  hidden text p h g = record { piece = g; nested = λ e. h; last = λ (e : p.reading.notes.removes ≡ true). absurd (both_ways p.reading.notes.removes h e); only = λ (e : p.reading.notes.removes ≡ true). absurd (both_ways p.reading.notes.removes h e) }

  named_good : (text : Bytes) (place : ℕ) (behind_sign : Bytes) (of_name : Bytes → Test) (o : Option Taken) → ((t : Taken) → o ≡ Some t → IsPiece inner setting k first (keep (of_name t.value)))
      → OnPiece text (spelled.named place behind_sign of_name o)
  named_good text place behind_sign of_name None h = tt
  named_good text place behind_sign of_name (Some t) h = λ balanced. hidden text (record { length = length behind_sign - length t.rest; reading = keep (of_name t.value) }) refl (h t refl)

  attributed_good : (text : Bytes) (place : ℕ) (argument : Bytes) (o : Option Test) → attribute argument ≡ o
      → OnPiece text (or_bad cause.BadAttribute place o >>= λ t. Ok (record { length = length argument + 2; reading = keep t }))
  attributed_good text place argument None h = tt
  attributed_good text place argument (Some t) h = λ balanced. (
      let a = attribute_read argument t h in
      hidden text (record { length = length argument + 2; reading = keep t }) refl (subst (λ (q : Test). IsPiece inner setting k first (keep q)) a.is (attr_piece inner setting k good first a.key a.op a.v a.i a.attr)))

  without_good : (text : Bytes) (place from : ℕ) (o : Option Plain) → OnPiece text (plain_reading place o >>= λ r. Ok (record { length = from - place; reading = r }))
  without_good text place from None = tt
  without_good text place from (Some plain.Root) = λ balanced. hidden text (record { length = from - place; reading = keep test.Root }) refl
      (plain_piece inner setting k good first test.Root (codes "root") (pseudo (codes "root") refl refl refl refl) text_of_test-Root (λ there. refl))
  without_good text place from (Some plain.Empty) = λ balanced. hidden text (record { length = from - place; reading = keep test.Empty }) refl
      (plain_piece inner setting k good first test.Empty (codes "empty") (pseudo (codes "empty") refl refl refl refl) text_of_test-Empty (λ there. refl))
  without_good text place from (Some (plain.Nth from_end of_name)) = λ balanced. hidden text (record { length = from - place; reading = keep (test.Nth (pos 0) (pos 1) from_end of_name) }) refl (one_of from_end of_name)
  without_good text place from (Some (plain.Only of_name)) = λ balanced. hidden text (record { length = from - place; reading = keep (test.Only of_name) }) refl (only_of of_name)
  without_good text place from (Some (plain.Aside a)) = tt

  with_good : (text : Bytes) (size : ℕ) (ends : Bool) (x : Result Reading Finding) → OnReading ends x → (ends ≡ true → drop size text ≡ []) → OnPiece text (x >>= λ r. Ok (record { length = size; reading = r }))
  with_good text size ends (Err f) h g = tt
  with_good text size ends (Ok r) h g = λ balanced. (
      let q = h balanced in
      record { piece = q.piece; nested = q.nested; last = λ e. g (q.last e); only = q.only })

  argument_good : (place : ℕ) (n low text : Bytes) → OnPiece (58 ∷ (n ++ 40 ∷ text)) (spelled.with_argument inner setting first place low (place + 1 + length n + 1) text)
  argument_good place n low text =
      let argument = within (standing (opens low text ∷ [])) text in
      let from = place + 1 + length n + 1 in
      let m = length argument + 1 in
      let size = from - place + length argument + 1 in
      let left : drop size (58 ∷ (n ++ 40 ∷ text)) ≡ drop m text =
      (let e : size ≡ suc (length n + suc m) = omega arith in
      ap (λ (c : ℕ). drop c (58 ∷ (n ++ 40 ∷ text))) e ∙ drop_past n (40 ∷ text) (suc m)) in
      piece_cond (58 ∷ (n ++ 40 ∷ text)) (is_closed (standing (opens low text ∷ [])) text) _ _
      (λ closed. with_good (58 ∷ (n ++ 40 ∷ text)) size (is_empty (drop m text)) (by_operator inner setting first (is_empty (drop m text)) place from argument (operator_of low))
      (operator_good (is_empty (drop m text)) place from text argument (operator_of low)
      (λ h. ap (λ (o : Open). depth (run (marks 0 false) (within (standing (o ∷ [])) text))) h ∙ raw_argument text (ap (λ (o : Open). is_closed (standing (o ∷ [])) text) (sym h) ∙ closed)))
      (λ ends. left ∙ empty_nil (drop m text) ends))
      (λ open_still. tt)

  behind_good : (place : ℕ) (n rest : Bytes) → OnPiece (58 ∷ (n ++ rest)) (spelled.behind_name inner setting first place (str_to_ascii_lowercase n) (place + 1 + length n) rest)
  behind_good place n [] = without_good (58 ∷ (n ++ [])) place (place + 1 + length n) (plain_of (str_to_ascii_lowercase n))
  behind_good place n (b ∷ rest) =
      let low = str_to_ascii_lowercase n in
      let from = place + 1 + length n in
      piece_cond (58 ∷ (n ++ b ∷ rest)) (eqb b 40) _ _
      (λ is. subst (λ (c : ℕ). OnPiece (58 ∷ (n ++ c ∷ rest)) (spelled.with_argument inner setting first place low (from + 1) rest)) (sym (eqb-true b 40 is)) (argument_good place n low rest))
      (λ other. without_good (58 ∷ (n ++ b ∷ rest)) place from (plain_of low))

  element_good : (text : Bytes) (place : ℕ) (c : Bool) → OnPiece text (if c then spelled.aside kind.PseudoElement else spelled.bad cause.BadName place)
  element_good text place true = tt
  element_good text place false = tt

  pseudo_good : (place : ℕ) (text : Bytes) → OnPiece (58 ∷ text) (spelled.pseudo inner setting first place text)
  pseudo_good place text =
      let n = front is_pseudo_byte text in
      let w = behind is_pseudo_byte text in
      piece_cond (58 ∷ text) (begins_with colon text) _ _ (λ is. element_good (58 ∷ text) place (begins_name (drop 1 text)))
      (λ other. piece_cond (58 ∷ text) (begins_name n) _ _
      (λ begins. subst (λ (t : Bytes). OnPiece (58 ∷ t) (spelled.behind_name inner setting first place (str_to_ascii_lowercase n) (place + 1 + length n) w)) (front_behind is_pseudo_byte text)
      (behind_good place n w))
      (λ none. tt))

  -- what is read as a piece is read again from its canonical text
  pub piece_good : (place b : ℕ) (text : Bytes) → OnPiece (b ∷ text) (piece inner setting first place b text)
  piece_good place b text =
      let all = b ∷ text in
      let inside = within (standing (Square ∷ [])) text in
      let id : (t : Taken) → name text ≡ Some t → IsPiece inner setting k first (keep (test.Id t.value)) = λ (t : Taken) (e : name text ≡ Some t). id_piece inner setting k good first t.value (name_read text t e) in
      let class : (t : Taken) → name text ≡ Some t → IsPiece inner setting k first (keep (test.Class t.value)) = λ (t : Taken) (e : name text ≡ Some t). class_piece inner setting k good first t.value (name_read text t e) in
      piece_cond all (eqb b 35) _ _ (λ is. named_good all place all test.Id (name text) id)
      (λ o1. piece_cond all (eqb b 46) _ _ (λ is. named_good all place all test.Class (name text) class)
      (λ o2. piece_cond all (eqb b 91) _ _ (λ is. piece_cond all (is_closed (standing (Square ∷ [])) text) _ _ (λ closed. attributed_good all place inside (attribute inside) refl) (λ open_still. tt))
      (λ o3. piece_cond all (eqb b 58) _ _ (λ is. subst (λ (c : ℕ). OnPiece (c ∷ text) (spelled.pseudo inner setting first place text)) (sym (eqb-true b 58 is)) (pseudo_good place text))
      (λ o4. piece_cond all (not first) _ _ (λ is. tt)
      (λ is_first. piece_cond all (eqb b 42) _ _ (λ is balanced. hidden all (record { length = 1; reading = keep test.Any }) refl (any_piece inner setting k good first (not-false first is_first)))
      (λ o5. named_good all place all spelled.tag (name all) (λ t e. tag_piece inner setting k good first (str_to_ascii_lowercase t.value) (lower_read t.value (name_read all t e)) (lower_lower t.value) (not-false first is_first))))))))
