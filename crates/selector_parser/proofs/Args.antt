-- Arguments as they are read: their patterns have the number 0, and flags below 8.
use Rattle.std.proofs.Common.{◌≡◌, ℕ, ◌+◌, ◌<◌, ◌≤◌, Bool, true, false, ◌&&◌, eqb, List, [], ◌∷◌, ◌++◌, Option, Some, None, IfSome, is_some, option_map, option_and_then, slice_get, if◌then◌else◌, refl, sym, ap, ◌∙◌, arith}
use Rattle.std.specs.Prelude.{unwrap_or}
use Rattle.std.proofs.lemmas.Bool.{both_ways, and_from, lt-ltb}
use Rattle.cos_source.specs.Spaces.{trimmed}
use Rattle.cos_patterns.specs.declared.written.Written.{Written}
use Rattle.cos_patterns.specs.Written.{written, is_in, place_of}
use Rattle.cos_patterns.proofs.Places.{same_self, has_place}
use Rattle.cos_patterns.proofs.Numbers.{at_place}
use Rattle.selector_tree.specs.declared.selector.Arg.{Arg}
use Rattle.selector_tree.specs.declared.selector.Arg.TheVariants.{Literal, Pattern}
use Rattle.selector_tree.specs.Unnumbered.{unnumbered_arg}
use Rattle.proper_filters.specs.Held.{stands_for, is_held, is_held_or_none}
use Rattle.selector_spelling.specs.declared.reading.Ask.{Ask}
use Rattle.selector_spelling.specs.Bytes.{Bytes, equals}
use Rattle.selector_spelling.specs.Arguments.{Slashed, Pair, holds_byte, flags_of, slashed_or, pattern_form, unquoted, text_argument, sought, lower_name, name_part, value_part, attribute_pair}
use Rattle.selector_spelling.specs.Pieces.{ask, ask_each}
use Rattle.selector_parser.specs.Numbered.{number_in, numbered_arg}

-- ---- options

-- what follows a value, where there is one
pub bound_some : {A B : Type 0} (P : A → Type 0) (Q : B → Type 0) (o : Option A) (f : A → Option B) → IfSome o P
    → ((x : A) → P x → IfSome (f x) Q) → IfSome (option_and_then f o) Q
bound_some P Q None f h more = tt
bound_some P Q (Some x) f h more = more x h

pub any_some : {A : Type 0} (o : Option A) → IfSome o (λ x. Unit {0})
any_some None = tt
any_some (Some x) = tt

pub chosen_some : {A : Type 0} (P : A → Type 0) (c : Bool) (a b : Option A) → (c ≡ true → IfSome a P) → IfSome b P → IfSome (if c then a else b) P
chosen_some P true a b h g = h refl
chosen_some P false a b h g = g

-- ---- what is asked

-- the flags are few, and the place is by a limit
abbrev pub AreLow : ℕ → List Ask → Type 0
AreLow limit [] = Unit {0}
AreLow limit (a ∷ asks) = (a.flags < 8) × (a.at ≤ limit) × AreLow limit asks

pub low_joined : (limit : ℕ) (first others : List Ask) → AreLow limit first → AreLow limit others → AreLow limit (first ++ others)
low_joined limit [] others h g = g
low_joined limit (a ∷ first) others h g = (h.0, h.1, low_joined limit first others h.2 g)

pub none_first : (first others : List Ask) → first ++ others ≡ [] → first ≡ []
none_first [] others none = refl
none_first (a ∷ first) others none = absurd (let e : a ∷ (first ++ others) ≡ [] = none in cc)

pub none_others : (first others : List Ask) → first ++ others ≡ [] → others ≡ []
none_others [] others none = none
none_others (a ∷ first) others none = absurd (let e : a ∷ (first ++ others) ≡ [] = none in cc)

-- ---- arguments

abbrev pub IsArg : Arg → Type 0
IsArg (Literal text) = Unit {0}
IsArg (Pattern body flags number) = (flags < 8) × (number ≡ 0)

abbrev pub IsGiven : Option Arg → Type 0
IsGiven None = Unit {0}
IsGiven (Some arg) = IsArg arg

pub record IsPair (p : Pair) : Type 0 where
  pub name : IsArg p.name
  pub value : IsGiven p.value

few : (x y z : Bool) → (if x then 1 else 0) + (if y then 2 else 0) + (if z then 4 else 0) < 8
few true true true = omega arith
few true true false = omega arith
few true false true = omega arith
few true false false = omega arith
few false true true = omega arith
few false true false = omega arith
few false false true = omega arith
few false false false = omega arith

flags_few : (text : Bytes) → flags_of text < 8
flags_few text = few (holds_byte 105 text) (holds_byte 109 text) (holds_byte 115 text)

slashed_read : (o : Option Slashed) (text : Bytes) → IsArg (slashed_or o text)
slashed_read (Some p) text = (flags_few p.flags, refl)
slashed_read None text = tt

pub argument_read : (argument : Bytes) → IsArg (text_argument argument)
argument_read argument = (let text = unquoted (trimmed argument) in slashed_read (pattern_form text) text)

sought_arg : (arg : Arg) → IsArg arg → IfSome (sought arg) IsArg
sought_arg (Literal []) h = tt
sought_arg (Literal (b ∷ text)) h = tt
sought_arg (Pattern body flags number) h = h

pub sought_read : (argument : Bytes) → IfSome (sought (text_argument argument)) IsArg
sought_read argument = sought_arg (text_argument argument) (argument_read argument)

lower_read : (arg : Arg) → IsArg arg → IsArg (lower_name arg)
lower_read (Literal text) h = tt
lower_read (Pattern body flags number) h = h

value_read : (text : Bytes) → IfSome (value_part text) IsGiven
value_read [] = tt
value_read (b ∷ text) = chosen_some IsGiven (eqb b equals) (Some (Some (text_argument text))) None (λ e. argument_read text) tt

pub pair_read : (argument : Bytes) → IfSome (attribute_pair argument) IsPair
pair_read argument =
    bound_some (λ s. Unit {0}) IsPair (name_part (trimmed argument)) _ (any_some (name_part (trimmed argument))) (λ s u.
    bound_some IsArg IsPair (sought (text_argument s.front)) _ (sought_read s.front) (λ n h.
    bound_some IsGiven IsPair (value_part s.rest) _ (value_read s.rest) (λ v g. record { name = lower_read n h; value = g })))

pub ask_low : (limit at : ℕ) → at ≤ limit → (arg : Arg) → IsArg arg → AreLow limit (ask at arg)
ask_low limit at within (Literal text) h = tt
ask_low limit at within (Pattern body flags number) h = (h.0, within, tt)

pub ask_each_low : (limit at : ℕ) → at ≤ limit → (o : Option Arg) → IsGiven o → AreLow limit (ask_each at o)
ask_each_low limit at within None h = tt
ask_each_low limit at within (Some arg) h = ask_low limit at within arg h

-- ---- numbers

module _ (patterns : List Written) where
  -- the patterns that are asked stand in the table
  abbrev pub AreIn : List Ask → Type 0
  AreIn [] = Unit {0}
  AreIn (a ∷ asks) = (is_in (written a.body a.flags) patterns ≡ true) × AreIn asks

  pub first_in : (first others : List Ask) → AreIn (first ++ others) → AreIn first
  first_in [] others h = tt
  first_in (a ∷ first) others h = (h.0, first_in first others h.1)

  pub others_in : (first others : List Ask) → AreIn (first ++ others) → AreIn others
  others_in [] others h = h
  others_in (a ∷ first) others h = others_in first others h.1

  pub arg_bare : (arg : Arg) → IsArg arg → unnumbered_arg (numbered_arg patterns arg) ≡ arg
  arg_bare (Literal text) h = refl
  arg_bare (Pattern body flags number) h = ap (λ (n : ℕ). Pattern body flags n) (sym h.1)

  pub given_bare : (o : Option Arg) → IsGiven o → option_map unnumbered_arg (option_map (numbered_arg patterns) o) ≡ o
  given_bare None h = refl
  given_bare (Some arg) h = ap (λ (a : Arg). Some a) (arg_bare arg h)

  -- numbers are given once, and none where nothing is asked for
  pub arg_again : (arg : Arg) → numbered_arg patterns (numbered_arg patterns arg) ≡ numbered_arg patterns arg
  arg_again (Literal text) = refl
  arg_again (Pattern body flags number) = refl

  pub given_again : (o : Option Arg) → option_map (numbered_arg patterns) (option_map (numbered_arg patterns) o) ≡ option_map (numbered_arg patterns) o
  given_again None = refl
  given_again (Some arg) = ap (λ (a : Arg). Some a) (arg_again arg)

  pub arg_unasked : (at : ℕ) (arg : Arg) → ask at arg ≡ [] → numbered_arg patterns arg ≡ arg
  arg_unasked at (Literal text) none = refl
  arg_unasked at (Pattern body flags number) none = absurd (let e : record { at = at; body = body; flags = flags } ∷ [] ≡ [] = none in cc)

  pub given_unasked : (at : ℕ) (o : Option Arg) → ask_each at o ≡ [] → option_map (numbered_arg patterns) o ≡ o
  given_unasked at None none = refl
  given_unasked at (Some arg) none = ap (λ (a : Arg). Some a) (arg_unasked at arg none)

  number_held : (body : Bytes) (flags : ℕ) (place : Option ℕ) → place_of (written body flags) patterns ≡ place → flags < 8
      → is_in (written body flags) patterns ≡ true → stands_for (slice_get patterns (number_in patterns body flags)) (written body flags) ≡ true
  number_held body flags None is low asked = absurd (both_ways false refl (sym (ap (λ (o : Option ℕ). is_some o) is) ∙ has_place (written body flags) patterns ∙ asked))
  number_held body flags (Some place) is low asked =
      let p = written body flags in
      let number : number_in patterns body flags ≡ place =
      ap (λ (c : Bool). if c then unwrap_or (place_of p patterns) 0 else 0) (lt-ltb flags 8 low) ∙ ap (λ (o : Option ℕ). unwrap_or o 0) is in
      ap (λ (n : ℕ). stands_for (slice_get patterns n) p) number ∙ ap (λ (o : Option Written). stands_for o p) (at_place p patterns place is) ∙ same_self p

  pub arg_held : (at : ℕ) (arg : Arg) → IsArg arg → AreIn (ask at arg) → is_held patterns (numbered_arg patterns arg) ≡ true
  arg_held at (Literal text) h asked = refl
  arg_held at (Pattern body flags number) h asked = number_held body flags (place_of (written body flags) patterns) refl h.0 asked.0

  given_held : (at : ℕ) (o : Option Arg) → IsGiven o → AreIn (ask_each at o) → is_held_or_none patterns (option_map (numbered_arg patterns) o) ≡ true
  given_held at None h asked = refl
  given_held at (Some arg) h asked = arg_held at arg h asked

  pub pair_held : (at : ℕ) (p : Pair) → IsPair p → AreIn (ask at p.name ++ ask_each at p.value)
      → (is_held patterns (numbered_arg patterns p.name) && is_held_or_none patterns (option_map (numbered_arg patterns) p.value)) ≡ true
  pair_held at p h asked =
      and_from (is_held patterns (numbered_arg patterns p.name)) (is_held_or_none patterns (option_map (numbered_arg patterns) p.value))
      (arg_held at p.name h.name (first_in (ask at p.name) (ask_each at p.value) asked))
      (given_held at p.value h.value (others_in (ask at p.name) (ask_each at p.value) asked))
