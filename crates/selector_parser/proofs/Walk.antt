-- What is read has no `:others()` in an argument, degrees of at least 1, and what is asked for its patterns; and each place that
-- is found in a text stands in it, or directly behind it: from pieces to whole texts, as the definition goes.
use Rattle.std.proofs.Common.{◌≡◌, ℕ, zero, suc, ◌+◌, ◌-◌, ◌≤◌, pos, Bool, true, false, not, ◌&&◌, ◌||◌, nat_lt, nat_le, eqb, List, [], ◌∷◌, ◌++◌, length, drop, Option, Some, None, IfSome, Result, Ok, Err, if◌then◌else◌, refl, arith}
use Rattle.std.specs.Str.{str_to_ascii_lowercase}
use Rattle.std.proofs.lemmas.Bool.{and_parts, leb-true, lt-ltb}
use Rattle.cos_source.specs.Spaces.{is_space, trimmed, without_first_spaces}
use Rattle.cos_patterns.specs.declared.written.Written.{Written}
use Rattle.selector_tree.specs.declared.selector.Arg.{Arg}
use Rattle.selector_tree.specs.declared.selector.AttrOp.TheVariants.{Exists}
use Rattle.selector_tree.specs.declared.selector.Step.{Step}
use Rattle.selector_tree.specs.declared.selector.Step.TheVariants as step
use Rattle.selector_tree.specs.declared.selector.Test.{Test}
use Rattle.selector_tree.specs.declared.selector.Test.TheVariants as test
use Rattle.selector_spelling.specs.declared.finding.Cause.{Cause}
use Rattle.selector_spelling.specs.declared.finding.Cause.TheVariants as cause
use Rattle.selector_spelling.specs.declared.finding.Finding.{Finding}
use Rattle.selector_spelling.specs.declared.finding.Finding.TheVariants.{SetAside, Malformed}
use Rattle.selector_spelling.specs.declared.open.Open.TheVariants.{Square}
use Rattle.selector_spelling.specs.declared.operator.Operator.{Operator}
use Rattle.selector_spelling.specs.declared.operator.Operator.TheVariants as operator
use Rattle.selector_spelling.specs.declared.operator.Plain.{Plain}
use Rattle.selector_spelling.specs.declared.operator.Plain.TheVariants as plain
use Rattle.selector_spelling.specs.declared.reading.Ask.{Ask}
use Rattle.selector_spelling.specs.declared.reading.Reading.{Reading}
use Rattle.selector_spelling.specs.declared.reading.Chains.{Chains}
use Rattle.selector_spelling.specs.declared.reading.Setting.{Setting}
use Rattle.selector_spelling.specs.Bytes.{Bytes, front, behind, begins_with, is_pseudo_byte, is_empty, is_blank, is_number, number, colon, dot, hash, star, square_open, round_open}
use Rattle.selector_spelling.specs.Names.{Taken, begins_name, name}
use Rattle.selector_spelling.specs.Operators.{operator_of}
use Rattle.selector_spelling.specs.Scan.{Scan, bare, is_bare, is_wrong, is_too_deep, standing, opens, is_closed, unbalanced, too_nested}
use Rattle.selector_spelling.specs.Scan as scan
use Rattle.selector_spelling.specs.Cuts.{Part, Item, combinator, compound, missing, longer, parts_from, parts, is_comma, is_sign, filled, behind_space, compounds, compounds_of, behind_signs, items, items_of_has, items_of}
use Rattle.selector_spelling.specs.Attributes.{comparison, value, flag, compared, attribute}
use Rattle.selector_spelling.specs.Arguments.{nth, text_units, degree, text_argument, sought, attribute_pair, watched}
use Rattle.selector_spelling.specs.Pieces.{◌>>=◌, bad, or_bad, operating, ask, ask_each, plain_of, plain_reading, without_argument_reading, searching, measuring, matching, watching, climbing, counting, if_blank, action, selecting_test, upward_to, Piece, without_argument, named, attributed, tag, piece_length, then_others, upward, by_operator, with_argument, behind_name, pseudo, piece, pieces}
use Rattle.selector_spelling.specs.Texts.{place_of, item, chain, chains, are_several, argument, selector_of, Answer, found, bad_pattern, pattern_too_large, by_answer, first_refused, unless, malformed_at, read_text}
use Rattle.selector_parser.proofs.Args.{AreLow, bound_some, any_some, chosen_some, IsArg, sought_read, IsPair, pair_read}
use Rattle.selector_parser.proofs.Layers.{IsTest, AreSteps, AreChains, no_chains, more_chains, no_steps, one_step, steps_joined, keep_step, move_step, upward_step, upward_to_step, others_step, any_test, tag_test, id_test, class_test, attr_test, root_test, empty_test, nth_test, only_test, length_test, watch_test, is_test, not_test, has_test, text_test, path_test, pair_test}

by_if : {A : Type 0} (P : A → Type 0) (b : Bool) (x y : A) → P x → P y → P (if b then x else y)
by_if P true x y p q = p
by_if P false x y p q = q

-- ---- lengths

within_length : (s : Scan) (text : Bytes) → length (scan.within s text) ≤ length text
within_length s [] = omega arith
within_length s (b ∷ text) =
    by_if (λ (v : Bytes). length v ≤ length (b ∷ text)) (is_bare (scan.step s b text)) [] (b ∷ scan.within (scan.step s b text) text)
    (omega arith) (omega (arith, within_length (scan.step s b text) text))

front_behind : (p : ℕ → Bool) (text : Bytes) → length (front p text) + length (behind p text) ≡ length text
front_behind p [] = refl
front_behind p (b ∷ text) =
    elim (p b) as (λ v. length (if v then b ∷ front p text else []) + length (if v then behind p text else b ∷ text) ≡ length (b ∷ text)) [
      | true ↦ omega (arith, front_behind p text)
      | false ↦ omega arith
    ]

-- ---- degrees

degree_some : (text : Bytes) → IfSome (degree text) (λ n. nat_lt 0 n ≡ true)
degree_some text =
    let n = number 10 text in
    chosen_some (λ m. nat_lt 0 m ≡ true) (nat_le 1 n && nat_le n 255) (Some n) None
    (λ e. let some = leb-true 1 n (and_parts (nat_le 1 n) (nat_le n 255) e).0 in lt-ltb 0 n (omega (arith, some))) tt

module _ (patterns : List Written) (limit : ℕ) where
  abbrev pub FindingBy : Finding → Type 0
  FindingBy (SetAside kind) = Unit {0}
  FindingBy (Malformed c at) = at ≤ limit

  -- what is read is so, or the place of the finding is by the limit
  abbrev pub By : {A : Type 0} → (A → Type 0) → Result A Finding → Type 0
  By P (Ok x) = P x
  By P (Err f) = FindingBy f

  -- what follows a value, where there is one
  bound : {A B : Type 0} (P : A → Type 0) (Q : B → Type 0) (r : Result A Finding) (f : A → Result B Finding) → By P r → ((x : A) → P x → By Q (f x)) → By Q (r >>= f)
  bound P Q (Ok x) f h more = more x h
  bound P Q (Err e) f h more = h

  or_bad_bound : {A B : Type 0} (P : A → Type 0) (Q : B → Type 0) (c : Cause) (at : ℕ) → at ≤ limit → (o : Option A) (f : A → Result B Finding) → IfSome o P → ((x : A) → P x → By Q (f x)) → By Q (or_bad c at o >>= f)
  or_bad_bound P Q c at within None f h more = within
  or_bad_bound P Q c at within (Some x) f h more = more x h

  abbrev pub IsReading : Bool → Reading → Type 0
  IsReading nested r = AreSteps patterns limit nested r.steps r.notes.asks

  abbrev IsPiece : Bool → Piece → Type 0
  IsPiece nested p = IsReading nested p.reading

  abbrev pub IsChains : Bool → Chains → Type 0
  IsChains nested l = AreChains patterns limit nested l.chains l.notes.asks

  abbrev IsPlain : Test → Type 0
  IsPlain t = IsTest patterns limit t []

  -- ---- attributes

  compared_read : (key text : Bytes) → IfSome (compared key text) IsPlain
  compared_read key text =
      bound_some (λ c. Unit {0}) IsPlain (comparison text) _ (any_some (comparison text)) (λ c u.
      bound_some (λ v. Unit {0}) IsPlain (value (without_first_spaces c.rest)) _ (any_some (value (without_first_spaces c.rest))) (λ v w.
      bound_some (λ f. Unit {0}) IsPlain (flag (str_to_ascii_lowercase (trimmed v.rest))) _ (any_some (flag (str_to_ascii_lowercase (trimmed v.rest)))) (λ f x.
      attr_test patterns limit (str_to_ascii_lowercase key) c.op v.value f)))

  attribute_read : (text : Bytes) → IfSome (attribute text) IsPlain
  attribute_read text =
      bound_some (λ k. Unit {0}) IsPlain (name (without_first_spaces text)) _ (any_some (name (without_first_spaces text))) (λ key u.
      let rest = without_first_spaces key.rest in
      chosen_some IsPlain (is_empty rest) (Some (test.Attr (str_to_ascii_lowercase key.value) Exists [] false)) (compared key.value rest)
      (λ e. attr_test patterns limit (str_to_ascii_lowercase key.value) Exists [] false) (compared_read key.value rest))

  -- ---- readings of one step

  kept : (nested : Bool) (t : Test) (asks : List Ask) → IsTest patterns limit t asks → AreSteps patterns limit nested (step.Keep t ∷ []) asks
  kept nested t asks h = one_step patterns limit nested (step.Keep t) asks (keep_step patterns limit nested t asks h)

  upward_to_read : (nested : Bool) (at : ℕ) (l : Chains) → at ≤ limit → IsChains true l → By (IsReading nested) (upward_to at l)
  upward_to_read nested at l within h =
      by_if (By (IsReading nested)) l.notes.operates _ _ within
      (one_step patterns limit nested (step.UpwardTo l.chains) l.notes.asks (upward_to_step patterns limit nested l.chains l.notes.asks h))

  then_read : (nested : Bool) (p : Result Piece Finding) (more : Result Reading Finding) → By (IsPiece nested) p → By (IsReading nested) more → By (IsReading nested) (then_others p more)
  then_read nested (Err f) more h g = h
  then_read nested (Ok p) more h g =
      bound (IsReading nested) (IsReading nested) more _ g (λ r k. steps_joined patterns limit nested p.reading.steps r.steps p.reading.notes.asks r.notes.asks h k)

  -- ---- of a piece at a place

  module _ (nested : Bool) (at : ℕ) (within : at ≤ limit) where
    plain_read : (o : Option Plain) → By (IsReading nested) (plain_reading at o)
    plain_read None = within
    plain_read (Some plain.Root) = kept nested test.Root [] (root_test patterns limit)
    plain_read (Some plain.Empty) = kept nested test.Empty [] (empty_test patterns limit)
    plain_read (Some (plain.Nth from_end of_name)) = kept nested (test.Nth (pos 0) (pos 1) from_end of_name) [] (nth_test patterns limit (pos 0) (pos 1) from_end of_name)
    plain_read (Some (plain.Only of_name)) = kept nested (test.Only of_name) [] (only_test patterns limit of_name)
    plain_read (Some (plain.Aside k)) = tt

    counting_read : (from_end of_name : Bool) (text : Bytes) → By (IsReading nested) (counting from_end of_name at text)
    counting_read from_end of_name text =
        or_bad_bound (λ v. Unit {0}) (IsReading nested) cause.BadNumber at within (nth text) _ (any_some (nth text)) (λ v u.
        kept nested (test.Nth v.a v.b from_end of_name) [] (nth_test patterns limit v.a v.b from_end of_name))

    searching_read : (of_arg : Arg → Test) (text : Bytes) → ((arg : Arg) → IsArg arg → IsTest patterns limit (of_arg arg) (ask at arg)) → By (IsReading nested) (searching of_arg at text)
    searching_read of_arg text is =
        or_bad_bound IsArg (IsReading nested) cause.BadOperatorArgument at within (sought (text_argument text)) _ (sought_read text) (λ arg h. kept nested (of_arg arg) (ask at arg) (is arg h))

    measuring_read : (text : Bytes) → By (IsReading nested) (measuring at text)
    measuring_read text =
        or_bad_bound (λ n. Unit {0}) (IsReading nested) cause.BadOperatorArgument at within (text_units text) _ (any_some (text_units text)) (λ n u. kept nested (test.MinText n) [] (length_test patterns limit n))

    matching_read : (text : Bytes) → By (IsReading nested) (matching at text)
    matching_read text =
        or_bad_bound IsPair (IsReading nested) cause.BadOperatorArgument at within (attribute_pair text) _ (pair_read text) (λ p h.
        kept nested (test.MatchesAttr p.name p.value) (ask at p.name ++ ask_each at p.value) (pair_test patterns limit at within p h))

    watching_read : (text : Bytes) → By (IsReading nested) (watching at text)
    watching_read text =
        or_bad_bound (λ names. Unit {0}) (IsReading nested) cause.BadOperatorArgument at within (watched text) _ (any_some (watched text)) (λ names u. kept nested (test.WatchAttr names) [] (watch_test patterns limit names))

    climbing_read : (digits : Bytes) → By (IsReading nested) (climbing at digits)
    climbing_read digits =
        or_bad_bound (λ n. nat_lt 0 n ≡ true) (IsReading nested) cause.BadOperatorArgument at within (degree digits) _ (degree_some digits) (λ n h.
        one_step patterns limit nested (step.Upward n) [] (upward_step patterns limit nested n h))

    if_blank_read : (text : Bytes) (r : Reading) → IsReading nested r → By (IsReading nested) (if_blank at text r)
    if_blank_read text r h = by_if (By (IsReading nested)) (is_blank text) (Ok r) (bad cause.BadOperatorArgument at) h within

    action_read : (setting : Setting) (alone ends : Bool) (text : Bytes) → By (IsReading nested) (action setting alone ends at text)
    action_read setting alone ends text =
        let P = By (IsReading nested) in
        by_if P (setting.nested || not (setting.last && ends)) _ _ within
        (by_if P setting.several _ _ within
        (by_if P alone _ _ within
        (if_blank_read text (record { steps = []; notes = record { asks = []; removes = true; operates = false } }) (no_steps patterns limit nested))))

    without_argument_read : (n : Bytes) (from : ℕ) → By (IsPiece nested) (without_argument at n from)
    without_argument_read n from = bound (IsReading nested) (IsPiece nested) (without_argument_reading at n) _ (plain_read (plain_of n)) (λ r h. h)

    named_read : (text : Bytes) (of_name : Bytes → Test) (o : Option Taken) → ((n : Bytes) → IsPlain (of_name n)) → By (IsPiece nested) (named at text of_name o)
    named_read text of_name None h = within
    named_read text of_name (Some n) h = kept nested (of_name n.value) [] (h n.value)

    attributed_read : (text : Bytes) → By (IsPiece nested) (attributed at text)
    attributed_read text =
        let inside = scan.within (standing (Square ∷ [])) text in
        by_if (By (IsPiece nested)) (is_closed (standing (Square ∷ [])) text) _ _
        (or_bad_bound IsPlain (IsPiece nested) cause.BadAttribute at within (attribute inside) _ (attribute_read inside) (λ t h. kept nested t [] h)) within

  others_cases : (nested : Bool) (at : ℕ) (text : Bytes) → at ≤ limit → By (IsReading nested) (if nested then bad cause.OthersNested at else if_blank at text (operating step.Others []))
  others_cases true at text within = within
  others_cases false at text within = if_blank_read false at within text (operating step.Others []) (one_step patterns limit false step.Others [] (others_step patterns limit))

  -- ---- with what reads arguments

  module _ (inner : Bool → ℕ → Bytes → Result Chains Finding) (good : (in_has : Bool) (at : ℕ) (text : Bytes) → at + length text ≤ limit → By (IsChains true) (inner in_has at text)) where
    module _ (setting : Setting) (first : Bool) (at : ℕ) (within : at ≤ limit) where
      abbrev nested : Bool
      nested = setting.nested

      selecting_read : (in_has : Bool) (of_selector : List (List Step) → Test) (from : ℕ) (text : Bytes) → from + length text ≤ limit
          → ((l : List (List Step)) (asks : List Ask) → AreChains patterns limit true l asks → IsTest patterns limit (of_selector l) asks)
          → By (IsReading nested) (inner in_has from text >>= λ l. Ok (selecting_test of_selector l))
      selecting_read in_has of_selector from text room is =
          bound (IsChains true) (IsReading nested) (inner in_has from text) _ (good in_has from text room) (λ l h. kept nested (of_selector l.chains) l.notes.asks (is l.chains l.notes.asks h))

      upward_read : (from : ℕ) (text : Bytes) → from + length text ≤ limit → By (IsReading nested) (upward inner at from text)
      upward_read from text room =
          by_if (By (IsReading nested)) (is_number (trimmed text)) _ _ (climbing_read nested at within (trimmed text))
          (bound (IsChains true) (IsReading nested) (inner false from text) (λ l. upward_to at l) (good false from text room) (λ l h. upward_to_read nested at l within h))

      operator_read : (ends : Bool) (from : ℕ) (text : Bytes) (o : Option Operator) → from + length text ≤ limit → By (IsReading nested) (by_operator inner setting first ends at from text o)
      operator_read ends from text None room = within
      operator_read ends from text (Some operator.Is) room = selecting_read false (λ l. test.Is l) from text room (is_test patterns limit)
      operator_read ends from text (Some operator.Not) room = selecting_read false (λ l. test.Not l) from text room (not_test patterns limit)
      operator_read ends from text (Some operator.Has) room = selecting_read true (λ l. test.Has l) from text room (has_test patterns limit)
      operator_read ends from text (Some (operator.Nth from_end of_name)) room = counting_read nested at within from_end of_name text
      operator_read ends from text (Some operator.HasText) room = searching_read nested at within (λ arg. test.HasText arg) text (text_test patterns limit at within)
      operator_read ends from text (Some operator.MinText) room = measuring_read nested at within text
      operator_read ends from text (Some operator.MatchesPath) room = searching_read nested at within (λ arg. test.MatchesPath arg) text (path_test patterns limit at within)
      operator_read ends from text (Some operator.MatchesAttr) room = matching_read nested at within text
      operator_read ends from text (Some operator.WatchAttr) room = watching_read nested at within text
      operator_read ends from text (Some operator.Upward) room = upward_read from text room
      operator_read ends from text (Some operator.Others) room = others_cases nested at text within
      operator_read ends from text (Some operator.Remove) room = action_read nested at within setting first ends text
      operator_read ends from text (Some (operator.Aside k)) room = tt

      with_argument_read : (n : Bytes) (from : ℕ) (text : Bytes) → from + length text ≤ limit → By (IsPiece nested) (with_argument inner setting first at n from text)
      with_argument_read n from text room =
          let inside = scan.within (standing (opens n text ∷ [])) text in
          let ends = is_empty (drop (length inside + 1) text) in
          by_if (By (IsPiece nested)) (is_closed (standing (opens n text ∷ [])) text) _ _
          (bound (IsReading nested) (IsPiece nested) (by_operator inner setting first ends at from inside (operator_of n)) _
          (operator_read ends from inside (operator_of n) (omega (arith, within_length (standing (opens n text ∷ [])) text))) (λ r h. h)) within

      behind_name_read : (n : Bytes) (from : ℕ) (text : Bytes) → from + length text ≤ limit → By (IsPiece nested) (behind_name inner setting first at n from text)
      behind_name_read n from [] room = without_argument_read nested at within n from
      behind_name_read n from (b ∷ text) room =
          by_if (By (IsPiece nested)) (eqb b round_open) _ _ (with_argument_read n (from + 1) text (omega arith)) (without_argument_read nested at within n from)

      pseudo_read : (text : Bytes) → at + 1 + length text ≤ limit → By (IsPiece nested) (pseudo inner setting first at text)
      pseudo_read text room =
          let P = By (IsPiece nested) in
          let n = front is_pseudo_byte text in
          by_if P (begins_with colon text) _ _ (by_if P (begins_name (drop 1 text)) _ _ tt within)
          (by_if P (begins_name n) _ _ (behind_name_read (str_to_ascii_lowercase n) (at + 1 + length n) (behind is_pseudo_byte text) (omega (arith, front_behind is_pseudo_byte text))) within)

      piece_read : (b : ℕ) (text : Bytes) → at + 1 + length text ≤ limit → By (IsPiece nested) (piece inner setting first at b text)
      piece_read b text room =
          let P = By (IsPiece nested) in
          by_if P (eqb b hash) _ _ (named_read nested at within (b ∷ text) (λ n. test.Id n) (name text) (id_test patterns limit))
          (by_if P (eqb b dot) _ _ (named_read nested at within (b ∷ text) (λ n. test.Class n) (name text) (class_test patterns limit))
          (by_if P (eqb b square_open) _ _ (attributed_read nested at within text)
          (by_if P (eqb b colon) _ _ (pseudo_read text room)
          (by_if P (not first) _ _ within
          (by_if P (eqb b star) _ _ (kept nested test.Any [] (any_test patterns limit))
          (named_read nested at within (b ∷ text) tag (name (b ∷ text)) (λ n. tag_test patterns limit (str_to_ascii_lowercase n))))))))

    pieces_read : (setting : Setting) (first : Bool) (at skip : ℕ) (text : Bytes) → at + length text ≤ limit → By (IsReading setting.nested) (pieces inner setting first at skip text)
    pieces_read setting first at skip [] room = no_steps patterns limit setting.nested
    pieces_read setting first at (suc skip) (b ∷ text) room = pieces_read setting first (at + 1) skip text (omega arith)
    pieces_read setting first at zero (b ∷ text) room =
        let p = piece inner setting first at b text in
        then_read setting.nested p (pieces inner setting false (at + 1) (piece_length p - 1) text)
        (piece_read setting first at (omega arith) b text (omega arith)) (pieces_read setting false (at + 1) (piece_length p - 1) text (omega arith))

  -- ---- cuts

  abbrev PartsBy : List Part → Type 0
  PartsBy [] = Unit {0}
  PartsBy (part ∷ rest) = (part.at + length part.text ≤ limit) × PartsBy rest

  abbrev FirstBy : ℕ → List Part → Type 0
  FirstBy at [] = at ≤ limit
  FirstBy at (part ∷ rest) = (part.at ≡ at) × (at + length part.text ≤ limit) × PartsBy rest

  first_all : (at : ℕ) (rest : List Part) → FirstBy at rest → PartsBy rest
  first_all at [] h = tt
  first_all at (part ∷ rest) h = (omega (arith, h.0, h.1), h.2)

  longer_by : (sign at b : ℕ) (rest : List Part) → FirstBy (at + 1) rest → FirstBy at (longer sign at b rest)
  longer_by sign at b [] h = (refl, omega (arith, h), tt)
  longer_by sign at b (part ∷ rest) h = (refl, omega (arith, h.1), h.2)

  parts_first : (p : ℕ → Bool) (s : Scan) (sign at : ℕ) (text : Bytes) → at + length text ≤ limit → FirstBy at (parts_from p s sign at text)
  parts_first p s sign at [] h = (refl, omega arith, tt)
  parts_first p s sign at (b ∷ text) h =
      let cuts = is_bare s && p b in
      let rest = parts_from p (scan.step s b text) (if cuts then b else sign) (at + 1) text in
      let ih : FirstBy (at + 1) rest = parts_first p (scan.step s b text) (if cuts then b else sign) (at + 1) text (omega arith) in
      by_if (FirstBy at) cuts (record { sign = sign; at = at; text = [] } ∷ rest) (longer sign at b rest)
      (refl, omega arith, first_all (at + 1) rest ih) (longer_by sign at b rest ih)

  parts_by : (p : ℕ → Bool) (at : ℕ) (text : Bytes) → at + length text ≤ limit → PartsBy (parts p at text)
  parts_by p at text h = first_all at (parts p at text) (parts_first p bare 0 at text h)

  abbrev ItemBy : Item → Type 0
  ItemBy (combinator b) = Unit {0}
  ItemBy (compound at text) = at + length text ≤ limit
  ItemBy (missing at) = at ≤ limit

  abbrev ItemsBy : List Item → Type 0
  ItemsBy [] = Unit {0}
  ItemsBy (i ∷ rest) = ItemBy i × ItemsBy rest

  items-append : (xs ys : List Item) → ItemsBy xs → ItemsBy ys → ItemsBy (xs ++ ys)
  items-append [] ys p q = q
  items-append (i ∷ xs) ys p q = (p.0, items-append xs ys p.1 q)

  filled_by : (rest : List Part) → PartsBy rest → PartsBy (filled rest)
  filled_by [] h = tt
  filled_by (part ∷ rest) h =
      by_if PartsBy (is_empty part.text) (filled rest) (part ∷ filled rest) (filled_by rest h.1) (h.0, filled_by rest h.1)

  behind_space_by : (rest : List Part) → PartsBy rest → ItemsBy (behind_space rest)
  behind_space_by [] h = tt
  behind_space_by (part ∷ rest) h = (tt, (h.0, behind_space_by rest h.1))

  compounds_by : (end : ℕ) (rest : List Part) → end ≤ limit → PartsBy rest → ItemsBy (compounds end rest)
  compounds_by end [] e h = (e, tt)
  compounds_by end (part ∷ rest) e h = (h.0, behind_space_by rest h.1)

  compounds_of_by : (part : Part) → part.at + length part.text ≤ limit → ItemsBy (compounds_of part)
  compounds_of_by part h =
      compounds_by (part.at + length part.text) (filled (parts is_space part.at part.text)) h
      (filled_by (parts is_space part.at part.text) (parts_by is_space part.at part.text h))

  behind_signs_by : (rest : List Part) → PartsBy rest → ItemsBy (behind_signs rest)
  behind_signs_by [] h = tt
  behind_signs_by (part ∷ rest) h = (tt, items-append (compounds_of part) (behind_signs rest) (compounds_of_by part h.0) (behind_signs_by rest h.1))

  items_by : (rest : List Part) → PartsBy rest → ItemsBy (items rest)
  items_by [] h = tt
  items_by (part ∷ rest) h = items-append (compounds_of part) (behind_signs rest) (compounds_of_by part h.0) (behind_signs_by rest h.1)

  items_of_has_by : (rest : List Part) → PartsBy rest → ItemsBy (items_of_has rest)
  items_of_has_by [] h = tt
  items_of_has_by (part ∷ rest) h =
      by_if ItemsBy (is_blank part.text && not (is_empty rest)) (behind_signs rest) (combinator 32 ∷ items (part ∷ rest)) (behind_signs_by rest h.1) (tt, items_by (part ∷ rest) h)

  items_of_by : (in_has : Bool) (part : Part) → part.at + length part.text ≤ limit → ItemsBy (items_of in_has part)
  items_of_by in_has part h =
      let signed = parts is_sign part.at part.text in
      by_if ItemsBy in_has (items_of_has signed) (items signed)
      (items_of_has_by signed (parts_by is_sign part.at part.text h)) (items_by signed (parts_by is_sign part.at part.text h))

  -- ---- selectors

  module _ (inner : Bool → ℕ → Bytes → Result Chains Finding) (good : (in_has : Bool) (at : ℕ) (text : Bytes) → at + length text ≤ limit → By (IsChains true) (inner in_has at text)) (nested several : Bool) where
    item_read : (last : Bool) (i : Item) → ItemBy i → By (IsReading nested) (item inner nested several last i)
    item_read last (combinator b) h = one_step patterns limit nested (step.Move (place_of b)) [] (move_step patterns limit nested (place_of b))
    item_read last (missing at) h = h
    item_read last (compound at text) h = pieces_read inner good (record { nested = nested; several = several; last = last }) true at 0 text h

    chain_read : (items : List Item) → ItemsBy items → By (IsReading nested) (chain inner nested several items)
    chain_read [] h = no_steps patterns limit nested
    chain_read (i ∷ items) h =
        bound (IsReading nested) (IsReading nested) (item inner nested several (is_empty items) i) _ (item_read (is_empty items) i h.0) (λ r k.
        bound (IsReading nested) (IsReading nested) (chain inner nested several items) _ (chain_read items h.1) (λ more g.
        steps_joined patterns limit nested r.steps more.steps r.notes.asks more.notes.asks k g))

    chains_read : (in_has : Bool) (cut : List Part) → PartsBy cut → By (IsChains nested) (chains inner nested several in_has cut)
    chains_read in_has [] h = no_chains patterns limit nested
    chains_read in_has (part ∷ cut) h =
        bound (IsReading nested) (IsChains nested) (chain inner nested several (items_of in_has part)) _ (chain_read (items_of in_has part) (items_of_by in_has part h.0)) (λ r k.
        bound (IsChains nested) (IsChains nested) (chains inner nested several in_has cut) _ (chains_read in_has cut h.1) (λ l g.
        more_chains patterns limit nested r.steps l.chains r.notes.asks l.notes.asks k g))

  argument_read : (levels : ℕ) (in_has : Bool) (at : ℕ) (text : Bytes) → at + length text ≤ limit → By (IsChains true) (argument levels in_has at text)
  argument_read zero in_has at text room = omega (arith, room)
  argument_read (suc levels) in_has at text room =
      (let cut = parts is_comma at text in chains_read (argument levels) (argument_read levels) true (are_several cut) in_has cut (parts_by is_comma at text room))

  pub pieces_of : (text : Bytes) → length text ≤ limit → By (IsChains false) (selector_of text)
  pieces_of text room = (let cut = parts is_comma 0 text in chains_read (argument 16) (argument_read 16) false (are_several cut) false cut (parts_by is_comma 0 text (omega arith)))

  -- ---- stages

  abbrev PlaceIn : Option ℕ → Type 0
  PlaceIn None = Unit {0}
  PlaceIn (Some at) = at ≤ limit

  unbalanced_by : (s : Scan) (outermost at : ℕ) (text : Bytes) → outermost ≤ limit → at + length text ≤ limit → PlaceIn (unbalanced s outermost at text)
  unbalanced_by s outermost at [] o h = by_if PlaceIn (is_bare s) None (Some outermost) tt o
  unbalanced_by s outermost at (b ∷ text) o h =
      by_if PlaceIn (is_wrong s b) (Some at) (unbalanced (scan.step s b text) (if is_bare s then at else outermost) (at + 1) text) (omega arith)
      (unbalanced_by (scan.step s b text) (if is_bare s then at else outermost) (at + 1) text
      (by_if (λ (m : ℕ). m ≤ limit) (is_bare s) at outermost (omega arith) o) (omega arith))

  too_nested_by : (s : Scan) (at : ℕ) (text : Bytes) → at + length text ≤ limit → PlaceIn (too_nested s at text)
  too_nested_by s at [] h = tt
  too_nested_by s at (b ∷ text) h =
      by_if PlaceIn (is_too_deep s b text) (Some at) (too_nested (scan.step s b text) (at + 1) text) (omega arith) (too_nested_by (scan.step s b text) (at + 1) text (omega arith))

  malformed_by : (c : Cause) (o : Option ℕ) (r : Result Chains Finding) → PlaceIn o → By (IsChains false) r → By (IsChains false) (malformed_at c o r)
  malformed_by c None r p q = q
  malformed_by c (Some at) r p q = p

  refused_by : (answer : Bytes → ℕ → Answer) (asks : List Ask) (l : Chains) → AreLow limit asks → IsChains false l → By (IsChains false) (unless (first_refused answer asks) (Ok l))
  refused_by answer [] l h k = k
  refused_by answer (a ∷ asks) l h k =
      elim (answer a.body a.flags) as (λ v. By (IsChains false) (unless (by_answer v a.at (first_refused answer asks)) (Ok l))) [
        | found ↦ refused_by answer asks l h.2 k
        | bad_pattern ↦ h.1
        | pattern_too_large ↦ h.1
      ]

  pub text_read : (answer : Bytes → ℕ → Answer) (text : Bytes) → length text ≤ limit → By (IsChains false) (read_text answer text)
  text_read answer text room =
      malformed_by cause.Unbalanced (unbalanced bare 0 0 text) _ (unbalanced_by bare 0 0 text (omega arith) (omega arith))
      (malformed_by cause.TooNested (too_nested bare 0 text) _ (too_nested_by bare 0 text (omega arith))
      (bound (IsChains false) (IsChains false) (selector_of text) _ (pieces_of text room) (λ l k. refused_by answer l.notes.asks l k.low k)))
