-- A compound, piece by piece: each has its step, or a finding.
use Rattle.std.specs.Prelude.{ℕ, zero, suc, ◌+◌, ◌-◌, pos, Bool, true, false, not, ◌==◌, ◌&&◌, ◌||◌, List, [], ◌∷◌, ◌++◌, length, drop, codes, Option, Some, None, Result, Ok, Err, if◌then◌else◌}
use Rattle.std.specs.Str.{bytes_eq, str_to_ascii_lowercase}
use Rattle.cos_source.specs.Spaces.{trimmed}
use Rattle.selector_tree.specs.declared.selector.Arg.{Arg}
use Rattle.selector_tree.specs.declared.selector.Arg.TheVariants.{Literal, Pattern}
use Rattle.selector_tree.specs.declared.selector.Test.{Test}
use Rattle.selector_tree.specs.declared.selector.Test.TheVariants as test
use Rattle.selector_tree.specs.declared.selector.Step.{Step}
use Rattle.selector_tree.specs.declared.selector.Step.TheVariants as step
use Rattle.selector_spelling.specs.declared.finding.Kind.{Kind}
use Rattle.selector_spelling.specs.declared.finding.Kind.TheVariants as kind
use Rattle.selector_spelling.specs.declared.finding.Cause.{Cause}
use Rattle.selector_spelling.specs.declared.finding.Cause.TheVariants as cause
use Rattle.selector_spelling.specs.declared.finding.Finding.{Finding}
use Rattle.selector_spelling.specs.declared.finding.Finding.TheVariants.{SetAside, Malformed}
use Rattle.selector_spelling.specs.declared.open.Open.{Open}
use Rattle.selector_spelling.specs.declared.open.Open.TheVariants.{Square}
use Rattle.selector_spelling.specs.declared.operator.Operator.{Operator}
use Rattle.selector_spelling.specs.declared.operator.Operator.TheVariants as operator
use Rattle.selector_spelling.specs.declared.operator.Plain.{Plain}
use Rattle.selector_spelling.specs.declared.operator.Plain.TheVariants as plain
use Rattle.selector_spelling.specs.declared.reading.Ask.{Ask}
use Rattle.selector_spelling.specs.declared.reading.Notes.{Notes}
use Rattle.selector_spelling.specs.declared.reading.Reading.{Reading}
use Rattle.selector_spelling.specs.declared.reading.Chains.{Chains}
use Rattle.selector_spelling.specs.declared.reading.Setting.{Setting}
use Rattle.selector_spelling.specs.Bytes.{Bytes, front, behind, begins_with, is_pseudo_byte, is_empty, is_blank, is_number, is_one_of, colon, dot, hash, star, square_open, round_open}
use Rattle.selector_spelling.specs.Names.{Taken, begins_name, name}
use Rattle.selector_spelling.specs.Operators.{operator_of}
use Rattle.selector_spelling.specs.Scan.{standing, opens, within, is_closed}
use Rattle.selector_spelling.specs.Attributes.{attribute}
use Rattle.selector_spelling.specs.Arguments.{Nth, nth, text_units, degree, text_argument, sought, Pair, attribute_pair, watched}

infixl 10 ◌>>=◌
abbrev pub ◌>>=◌ : {A B : Type 0} → Result A Finding → (A → Result B Finding) → Result B Finding
(Ok x) >>= f = f x
(Err e) >>= f = Err e

-- ---- findings and readings

abbrev pub bad : {A : Type 0} → Cause → ℕ → Result A Finding
bad c at = Err (Malformed c at)

abbrev pub aside : {A : Type 0} → Kind → Result A Finding
aside k = Err (SetAside k)

-- an option, or a finding where there is nothing
abbrev pub or_bad : {A : Type 0} → Cause → ℕ → Option A → Result A Finding
or_bad c at None = bad c at
or_bad c at (Some x) = Ok x

abbrev pub no_notes : Notes
no_notes = record { asks = []; removes = false; operates = false }

abbrev pub notes_joined : Notes → Notes → Notes
notes_joined a b = record { asks = a.asks ++ b.asks; removes = a.removes || b.removes; operates = a.operates || b.operates }

abbrev pub nothing : Reading
nothing = record { steps = []; notes = no_notes }

abbrev pub both : Reading → Reading → Reading
both a b = record { steps = a.steps ++ b.steps; notes = notes_joined a.notes b.notes }

abbrev pub one : Step → Reading
one s = record { steps = s ∷ []; notes = no_notes }

abbrev pub keep : Test → Reading
keep t = one (step.Keep t)

-- a step of an operator that may not stand in the argument of `:upward`, with its patterns
abbrev pub operating : Step → List Ask → Reading
operating s asks = record { steps = s ∷ []; notes = record { asks = asks; removes = false; operates = true } }

-- the pattern of an argument that has one, in the piece at a place
abbrev pub ask : ℕ → Arg → List Ask
ask at (Literal text) = []
ask at (Pattern body flags n) = record { at = at; body = body; flags = flags } ∷ []

abbrev pub ask_each : ℕ → Option Arg → List Ask
ask_each at None = []
ask_each at (Some arg) = ask at arg

-- ---- names

abbrev pub state_names : List Bytes
state_names =
    codes "hover" ∷ codes "active" ∷ codes "focus" ∷ codes "focus-visible" ∷ codes "focus-within" ∷ codes "link"
    ∷ codes "visited" ∷ codes "any-link" ∷ codes "target" ∷ codes "checked" ∷ codes "disabled" ∷ codes "enabled"
    ∷ codes "read-only" ∷ codes "read-write" ∷ codes "required" ∷ codes "optional" ∷ codes "valid" ∷ codes "invalid"
    ∷ codes "placeholder-shown" ∷ codes "indeterminate" ∷ codes "default" ∷ codes "in-range" ∷ codes "out-of-range"
    ∷ codes "autofill" ∷ codes "defined" ∷ codes "fullscreen" ∷ codes "scope" ∷ []

-- the pseudo-elements that are spelled with one `:` too
abbrev pub element_names : List Bytes
element_names = codes "before" ∷ codes "after" ∷ codes "first-line" ∷ codes "first-letter" ∷ []

-- what `:name` without argument is
abbrev pub plain_of : Bytes → Option Plain
plain_of n =
    if bytes_eq n (codes "root") then Some plain.Root
    else if bytes_eq n (codes "empty") then Some plain.Empty
    else if bytes_eq n (codes "first-child") then Some (plain.Nth false false)
    else if bytes_eq n (codes "last-child") then Some (plain.Nth true false)
    else if bytes_eq n (codes "first-of-type") then Some (plain.Nth false true)
    else if bytes_eq n (codes "last-of-type") then Some (plain.Nth true true)
    else if bytes_eq n (codes "only-child") then Some (plain.Only false)
    else if bytes_eq n (codes "only-of-type") then Some (plain.Only true)
    else if is_one_of n state_names then Some (plain.Aside kind.State)
    else if is_one_of n element_names then Some (plain.Aside kind.PseudoElement)
    else None

-- ---- pieces whose argument is no selector

abbrev pub plain_reading : ℕ → Option Plain → Result Reading Finding
plain_reading at None = bad cause.UnknownPseudo at
plain_reading at (Some plain.Root) = Ok (keep test.Root)
plain_reading at (Some plain.Empty) = Ok (keep test.Empty)
plain_reading at (Some (plain.Nth from_end of_name)) = Ok (keep (test.Nth (pos 0) (pos 1) from_end of_name))
plain_reading at (Some (plain.Only of_name)) = Ok (keep (test.Only of_name))
plain_reading at (Some (plain.Aside k)) = aside k

abbrev pub without_argument_reading : ℕ → Bytes → Result Reading Finding
without_argument_reading at n = plain_reading at (plain_of n)

abbrev pub nth_test : Bool → Bool → Nth → Reading
nth_test from_end of_name v = keep (test.Nth v.a v.b from_end of_name)

abbrev pub search_test : (Arg → Test) → ℕ → Arg → Reading
search_test of_arg at arg = operating (step.Keep (of_arg arg)) (ask at arg)

abbrev pub length_test : ℕ → Reading
length_test n = operating (step.Keep (test.MinText n)) []

abbrev pub pair_test : ℕ → Pair → Reading
pair_test at p = operating (step.Keep (test.MatchesAttr p.name p.value)) (ask at p.name ++ ask_each at p.value)

abbrev pub watch_test : List Bytes → Reading
watch_test names = operating (step.Keep (test.WatchAttr names)) []

abbrev pub upward_step : ℕ → Reading
upward_step n = operating (step.Upward n) []

-- `:nth-child(..)` and the like
abbrev pub counting : Bool → Bool → ℕ → Bytes → Result Reading Finding
counting from_end of_name at argument = or_bad cause.BadNumber at (nth argument) >>= λ v. Ok (nth_test from_end of_name v)

-- `:has-text(..)` and `:matches-path(..)`
abbrev pub searching : (Arg → Test) → ℕ → Bytes → Result Reading Finding
searching of_arg at argument = or_bad cause.BadOperatorArgument at (sought (text_argument argument)) >>= λ arg. Ok (search_test of_arg at arg)

-- `:min-text-length(..)`
abbrev pub measuring : ℕ → Bytes → Result Reading Finding
measuring at argument = or_bad cause.BadOperatorArgument at (text_units argument) >>= λ n. Ok (length_test n)

-- `:matches-attr(..)`
abbrev pub matching : ℕ → Bytes → Result Reading Finding
matching at argument = or_bad cause.BadOperatorArgument at (attribute_pair argument) >>= λ p. Ok (pair_test at p)

-- `:watch-attr(..)`
abbrev pub watching : ℕ → Bytes → Result Reading Finding
watching at argument = or_bad cause.BadOperatorArgument at (watched argument) >>= λ names. Ok (watch_test names)

-- `:upward(..)` with digits
abbrev pub climbing : ℕ → Bytes → Result Reading Finding
climbing at digits = or_bad cause.BadOperatorArgument at (degree digits) >>= λ n. Ok (upward_step n)

-- the argument is empty or white space
abbrev pub if_blank : ℕ → Bytes → Reading → Result Reading Finding
if_blank at argument r = if is_blank argument then Ok r else bad cause.BadOperatorArgument at

abbrev pub others : Setting → ℕ → Bytes → Result Reading Finding
others setting at argument = if setting.nested then bad cause.OthersNested at else if_blank at argument (operating step.Others [])

-- `:remove()`; `alone` says that it begins its compound, `ends` that it ends it
abbrev pub action : Setting → Bool → Bool → ℕ → Bytes → Result Reading Finding
action setting alone ends at argument =
    if setting.nested || not (setting.last && ends) then bad cause.ActionNotLast at
    else if setting.several then bad cause.ActionInList at
    else if alone then bad cause.EmptyPart at
    else if_blank at argument (record { steps = []; notes = record { asks = []; removes = true; operates = false } })

-- ---- pieces whose argument is one

abbrev pub selecting_test : (List (List Step) → Test) → Chains → Reading
selecting_test of_selector l = record { steps = step.Keep (of_selector l.chains) ∷ []; notes = l.notes }

-- what it selects is judged behind its pieces: no operator stands in it
abbrev pub upward_to : ℕ → Chains → Result Reading Finding
upward_to at l =
    if l.notes.operates then bad cause.BadOperatorArgument at
    else Ok (record { steps = step.UpwardTo l.chains ∷ []; notes = record { asks = l.notes.asks; removes = l.notes.removes; operates = true } })

-- a piece, and how many bytes it takes
pub record Piece : Type 0 where
  pub length : ℕ
  pub reading : Reading

-- ---- pieces at the front of a text

abbrev pub without_argument : ℕ → Bytes → ℕ → Result Piece Finding
without_argument at n from = without_argument_reading at n >>= λ r. Ok (record { length = from - at; reading = r })

-- behind a `::`
abbrev pub pseudo_element : ℕ → Bytes → Result Piece Finding
pseudo_element at text = if begins_name text then aside kind.PseudoElement else bad cause.BadName at

-- a piece that is a name, from its place on; its text begins with the sign where it has one
abbrev pub named : ℕ → Bytes → (Bytes → Test) → Option Taken → Result Piece Finding
named at text of_name None = bad cause.BadName at
named at text of_name (Some n) = Ok (record { length = length text - length n.rest; reading = keep (of_name n.value) })

-- what stands in a bracket is read where another closes it; stage 1 leaves none open
abbrev pub where_closed : {A : Type 0} → ℕ → Open → Bytes → Result A Finding → Result A Finding
where_closed at opened text read = if is_closed (standing (opened ∷ [])) text then read else bad cause.Unbalanced at

-- behind a `[`
abbrev pub attributed : ℕ → Bytes → Result Piece Finding
attributed at text =
    let argument = within (standing (Square ∷ [])) text in
    where_closed at Square text (or_bad cause.BadAttribute at (attribute argument) >>= λ t. Ok (record { length = length argument + 2; reading = keep t }))

abbrev pub tag : Bytes → Test
tag n = test.Tag (str_to_ascii_lowercase n)

abbrev pub piece_length : Result Piece Finding → ℕ
piece_length (Ok p) = p.length
piece_length (Err f) = 0

abbrev pub then_others : Result Piece Finding → Result Reading Finding → Result Reading Finding
then_others (Ok p) others = others >>= λ r. Ok (both p.reading r)
then_others (Err f) others = Err f

-- An argument that is a selector is read by `inner`, which takes whether it is that of `:has`, its place, and its text.
module _ (inner : Bool → ℕ → Bytes → Result Chains Finding) where
  abbrev pub upward : ℕ → ℕ → Bytes → Result Reading Finding
  upward at from argument =
      if is_number (trimmed argument) then climbing at (trimmed argument)
      else (inner false from argument >>= λ l. upward_to at l)

  -- `:name(..)`, by what its name says: `at` is the place of the `:`, and `from` that of the argument
  abbrev pub by_operator : Setting → Bool → Bool → ℕ → ℕ → Bytes → Option Operator → Result Reading Finding
  by_operator setting alone ends at from argument None = bad cause.UnknownPseudo at
  by_operator setting alone ends at from argument (Some operator.Is) = inner false from argument >>= λ l. Ok (selecting_test test.Is l)
  by_operator setting alone ends at from argument (Some operator.Not) = inner false from argument >>= λ l. Ok (selecting_test test.Not l)
  by_operator setting alone ends at from argument (Some operator.Has) = inner true from argument >>= λ l. Ok (selecting_test test.Has l)
  by_operator setting alone ends at from argument (Some (operator.Nth from_end of_name)) = counting from_end of_name at argument
  by_operator setting alone ends at from argument (Some operator.HasText) = searching test.HasText at argument
  by_operator setting alone ends at from argument (Some operator.MinText) = measuring at argument
  by_operator setting alone ends at from argument (Some operator.MatchesPath) = searching test.MatchesPath at argument
  by_operator setting alone ends at from argument (Some operator.MatchesAttr) = matching at argument
  by_operator setting alone ends at from argument (Some operator.WatchAttr) = watching at argument
  by_operator setting alone ends at from argument (Some operator.Upward) = upward at from argument
  by_operator setting alone ends at from argument (Some operator.Others) = others setting at argument
  by_operator setting alone ends at from argument (Some operator.Remove) = action setting alone ends at argument
  by_operator setting alone ends at from argument (Some (operator.Aside k)) = aside k

  -- `:name(..)`, from behind its `(` on
  abbrev pub with_argument : Setting → Bool → ℕ → Bytes → ℕ → Bytes → Result Piece Finding
  with_argument setting first at n from text =
      let argument = within (standing (opens n text ∷ [])) text in
      where_closed at (opens n text) text
      (by_operator setting first (is_empty (drop (length argument + 1) text)) at from argument (operator_of n)
      >>= λ r. Ok (record { length = from - at + length argument + 1; reading = r }))

  -- behind the name of a pseudo-class, at the place `from`
  abbrev pub behind_name : Setting → Bool → ℕ → Bytes → ℕ → Bytes → Result Piece Finding
  behind_name setting first at n from [] = without_argument at n from
  behind_name setting first at n from (b ∷ text) = if b == round_open then with_argument setting first at n (from + 1) text else without_argument at n from

  -- a name of a pseudo-class is letters, digits and `-`, and a name besides
  abbrev pub pseudo_class : Setting → Bool → ℕ → Bytes → Result Piece Finding
  pseudo_class setting first at text =
      let n = front is_pseudo_byte text in
      if begins_name n then behind_name setting first at (str_to_ascii_lowercase n) (at + 1 + length n) (behind is_pseudo_byte text)
      else bad cause.BadName at

  -- behind a `:`
  abbrev pub pseudo : Setting → Bool → ℕ → Bytes → Result Piece Finding
  pseudo setting first at text = if begins_with colon text then pseudo_element at (drop 1 text) else pseudo_class setting first at text

  -- the piece that begins with the byte b
  abbrev pub piece : Setting → Bool → ℕ → ℕ → Bytes → Result Piece Finding
  piece setting first at b text =
      if b == hash then named at (b ∷ text) test.Id (name text)
      else if b == dot then named at (b ∷ text) test.Class (name text)
      else if b == square_open then attributed at text
      else if b == colon then pseudo setting first at text
      else if not first then bad cause.BadName at
      else if b == star then Ok (record { length = 1; reading = keep test.Any })
      else named at (b ∷ text) tag (name (b ∷ text))

  -- The pieces of a compound, up to the first finding. The number says how many bytes of a piece are still to come.
  abbrev pub pieces : Setting → Bool → ℕ → ℕ → Bytes → Result Reading Finding
  pieces setting first at skip [] = Ok nothing
  pieces setting first at (suc skip) (b ∷ text) = pieces setting first (at + 1) skip text
  pieces setting first at zero (b ∷ text) =
      let p = piece setting first at b text in
      then_others p (pieces setting false (at + 1) (piece_length p - 1) text)
