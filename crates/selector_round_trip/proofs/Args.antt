-- Text arguments and pairs of them: their canonical texts are read as they are.
use Rattle.std.proofs.Common.{◌≡◌, ℕ, ◌<◌, Bool, true, false, eqb, [], ◌∷◌, ◌++◌, Option, Some, None, if◌then◌else◌, refl, sym, ap, ap₂, subst, ◌∙◌, append_assoc, append-nil, inl, inr}
use Rattle.std.specs.Prelude.{option_and_then, drop}
use Rattle.std.specs.List.{list_all}
use Rattle.std.specs.Char.{is_ascii_alphabetic}
use Rattle.std.proofs.lemmas.Bool.{agree_below_at, cases_Bool, eqb-true, and_parts}
use Rattle.cos_source.specs.Spaces.{without_first_spaces, without_last_spaces, trimmed}
use Rattle.selector_tree.specs.declared.letters.Spelling.TheVariants as spelling
use Rattle.selector_tree.specs.declared.selector.Arg.{Arg}
use Rattle.selector_tree.specs.declared.selector.Arg.TheVariants.{Literal, Pattern}
use Rattle.selector_tree.specs.Letters.{letters, body_text, flags_text}
use Rattle.selector_tree.specs.Canonical.{arg_text, given_text}
use Rattle.selector_spelling.specs.Bytes.{Bytes, is_empty, front, behind}
use Rattle.selector_spelling.specs.Arguments.{Slashed, Split, Pair, unquoted, flags_of, closing, slashed_or, pattern_form, text_argument, sought, with_front, with_letters, up_to, name_part, value_part, lower_name, attribute_pair}
use Rattle.selector_round_trip.proofs.Names.{lower_lower}
use Rattle.selector_round_trip.proofs.Bodies.{is_body, unslashed_again, body_even, closing_again, closed, unslashed_body, unslashed_some, body_text_some, flags_again, flags_few, up_to_slash}
use Rattle.selector_round_trip.proofs.Literals.{literal_again, up_to_quote}
use Rattle.selector_round_trip.proofs.Numbers.{is_solid, solid_kept, solid-append, then_some}

-- an argument as it is read
abbrev pub IsArg : Arg → Type 0
IsArg (Literal text) = Unit {0}
IsArg (Pattern body flags number) = (is_body false body ≡ true) × (is_empty body ≡ false) × (flags < 8) × (number ≡ 0)

form_arg : (text : Bytes) (o : Option Slashed) → ((p : Slashed) → o ≡ Some p → closing false true (drop 1 text) ≡ Some p) → IsArg (slashed_or o text)
form_arg text None h = tt
form_arg text (Some p) h =
    let c = closed false true (drop 1 text) p (h p refl) in
    (unslashed_body false p.body c.even, unslashed_some p.body (c.some refl), flags_few p.flags, refl)

form_closing : (text : Bytes) (p : Slashed) → pattern_form text ≡ Some p → closing false true (drop 1 text) ≡ Some p
form_closing [] p h = absurd (let w : None ≡ Some p = h in cc)
form_closing (b ∷ text) p h =
    elim (cases_Bool (eqb b 47)) [
      | inl is ↦ sym (ap (λ (c : Bool). if c then closing false true text else None) is) ∙ h
      | inr other ↦ absurd (let w : None ≡ Some p = sym (ap (λ (c : Bool). if c then closing false true text else None) other) ∙ h in cc)
    ]

pub argument_read : (text : Bytes) → IsArg (text_argument text)
argument_read text = (let t = unquoted (trimmed text) in form_arg t (pattern_form t) (form_closing t))

-- ---- again

pub flags_solid : (f : ℕ) → f < 8 → is_solid (47 ∷ flags_text f) ≡ true
flags_solid f low = agree_below_at (λ k. is_solid (47 ∷ flags_text k)) (λ k. true) 8 f refl low

pub pattern_text : (body : Bytes) (flags number : ℕ) → arg_text (Pattern body flags number) ≡ 47 ∷ (body_text false body ++ 47 ∷ flags_text flags)
pattern_text body flags number = ap (λ (t : Bytes). 47 ∷ t) (append_assoc (body_text false body) (47 ∷ []) (flags_text flags))

pattern_solid : (body : Bytes) (flags number : ℕ) → flags < 8 → is_solid (arg_text (Pattern body flags number)) ≡ true
pattern_solid body flags number low = ap is_solid (pattern_text body flags number) ∙ solid-append (47 ∷ body_text false body) (47 ∷ flags_text flags) (flags_solid flags low)

pub arg_solid : (a : Arg) → IsArg a → is_solid (arg_text a) ≡ true
arg_solid (Literal text) h = solid-append (34 ∷ letters spelling.Literal text) (34 ∷ []) refl
arg_solid (Pattern body flags number) h = pattern_solid body flags number h.2

pub arg_again : (a : Arg) → IsArg a → text_argument (arg_text a) ≡ a
arg_again (Literal text) h = literal_again text
arg_again (Pattern body flags number) h =
    let inner = body_text false body in
    let f = flags_again flags h.2 in
    let text = 47 ∷ (inner ++ 47 ∷ flags_text flags) in
    let t : unquoted (trimmed text) ≡ text = ap unquoted (solid_kept text (sym (ap is_solid (pattern_text body flags number)) ∙ pattern_solid body flags number h.2)) in
    let c : closing false true (inner ++ 47 ∷ flags_text flags) ≡ Some (record { body = inner; flags = flags_text flags }) =
    closing_again inner (flags_text flags) (body_text_some body h.1) f.0 (body_even false body h.0) in
    ap text_argument (pattern_text body flags number) ∙ ap (λ (v : Bytes). slashed_or (pattern_form v) v) t
    ∙ ap (λ (o : Option Slashed). slashed_or o text) c
    ∙ ap (λ (v : Bytes). Pattern v (flags_of (flags_text flags)) 0) (unslashed_again false body h.0)
    ∙ ap (λ (v : ℕ). Pattern body v 0) f.1
    ∙ ap (λ (v : ℕ). Pattern body flags v) (sym h.3)

-- ---- pairs

-- a name as it is read: something, and in lower case
pub record IsSought (a : Arg) : Type 0 where
  pub arg : IsArg a
  pub sought : sought a ≡ Some a

abbrev pub IsGiven : Option Arg → Type 0
IsGiven None = Unit {0}
IsGiven (Some a) = IsArg a

pub record IsPair (p : Pair) : Type 0 where
  pub name : IsSought p.name
  pub lower : lower_name p.name ≡ p.name
  pub value : IsGiven p.value

sought_same : (a b : Arg) → sought a ≡ Some b → a ≡ b
sought_same (Literal []) b h = absurd (let w : None ≡ Some b = h in cc)
sought_same (Literal (c ∷ text)) b h = cc
sought_same (Pattern body flags number) b h = cc

pub sought_read : (text : Bytes) (a : Arg) → sought (text_argument text) ≡ Some a → IsSought a
sought_read text a h =
    let e = sought_same (text_argument text) a h in
    record { arg = subst IsArg e (argument_read text); sought = ap sought (sym e) ∙ h }

lower_sought : (a : Arg) → IsSought a → IsSought (lower_name a)
lower_sought (Literal []) h = h
lower_sought (Literal (c ∷ text)) h = record { arg = tt; sought = refl }
lower_sought (Pattern body flags number) h = h

lower_again : (a : Arg) → lower_name (lower_name a) ≡ lower_name a
lower_again (Literal text) = ap (λ (t : Bytes). Literal t) (lower_lower text)
lower_again (Pattern body flags number) = refl

given_read : (text : Bytes) (v : Option Arg) → value_part text ≡ Some v → IsGiven v
given_read [] v h = (let e : None ≡ v = cc in subst IsGiven e tt)
given_read (b ∷ text) v h =
    elim (cases_Bool (eqb b 61)) [
      | inl is ↦ (
          let k : ◌≡◌ {A = Option (Option Arg)} (Some (Some (text_argument text))) (Some v) = sym (ap (λ (c : Bool). if c then Some (Some (text_argument text)) else None) is) ∙ h in
          let e : Some (text_argument text) ≡ v = cc in
          subst IsGiven e (argument_read text))
      | inr other ↦ absurd (let w : None ≡ Some v = sym (ap (λ (c : Bool). if c then Some (Some (text_argument text)) else None) other) ∙ h in cc)
    ]

pub pair_read : (text : Bytes) (p : Pair) → attribute_pair text ≡ Some p → IsPair p
pair_read text p h =
    let t = then_some (name_part (trimmed text)) _ p h in
    let u = then_some (sought (text_argument t.value.front)) _ p t.gives in
    let w = then_some (value_part t.value.rest) _ p u.gives in
    let n : IsSought u.value = sought_read t.value.front u.value u.is in
    let e : record { name = lower_name u.value; value = w.value } ≡ p = (let g = w.gives in cc) in
    subst IsPair e (record { name = lower_sought u.value n; lower = lower_again u.value; value = given_read t.value.rest w.value w.is })

abbrev split : Bytes → Bytes → Option Split
split front rest = Some (record { front = front; rest = rest })

-- the name part ends before `=` or the end
abbrev pub is_given_rest : Bytes → Bool
is_given_rest [] = true
is_given_rest (b ∷ text) = eqb b 61

given_rest : (v : Option Arg) → is_given_rest (given_text v) ≡ true
given_rest None = refl
given_rest (Some a) = refl

no_letters : (rest : Bytes) → is_given_rest rest ≡ true → (front is_ascii_alphabetic rest ≡ []) × (behind is_ascii_alphabetic rest ≡ rest)
no_letters [] h = (refl, refl)
no_letters (b ∷ rest) h = (
    let e : b ≡ 61 = eqb-true b 61 h in
    let f : is_ascii_alphabetic b ≡ false = ap is_ascii_alphabetic e in
    (ap (λ (c : Bool). if c then b ∷ front is_ascii_alphabetic rest else []) f, ap (λ (c : Bool). if c then behind is_ascii_alphabetic rest else b ∷ rest) f))

letters_front : (text rest : Bytes) → list_all is_ascii_alphabetic text ≡ true → is_given_rest rest ≡ true → (front is_ascii_alphabetic (text ++ rest) ≡ text) × (behind is_ascii_alphabetic (text ++ rest) ≡ rest)
letters_front [] rest h g = no_letters rest g
letters_front (b ∷ text) rest h g =
    let p = and_parts (is_ascii_alphabetic b) (list_all is_ascii_alphabetic text) h in
    let more = letters_front text rest p.1 g in (
      ap (λ (c : Bool). if c then b ∷ front is_ascii_alphabetic (text ++ rest) else []) p.0 ∙ ap (λ (t : Bytes). b ∷ t) more.0,
      ap (λ (c : Bool). if c then behind is_ascii_alphabetic (text ++ rest) else b ∷ (text ++ rest)) p.0 ∙ more.1,
    )

flags_letters : (f : ℕ) → f < 8 → list_all is_ascii_alphabetic (flags_text f) ≡ true
flags_letters f low = agree_below_at (λ k. list_all is_ascii_alphabetic (flags_text k)) (λ k. true) 8 f refl low

name_again : (a : Arg) (rest : Bytes) → IsArg a → is_given_rest rest ≡ true → name_part (arg_text a ++ rest) ≡ split (arg_text a) rest
name_again (Literal text) rest h g =
    let inner = letters spelling.Literal text in
    let e : (inner ++ 34 ∷ []) ++ rest ≡ inner ++ 34 ∷ rest = append_assoc inner (34 ∷ []) rest in
    ap (λ (t : Bytes). with_front 34 (up_to 34 false t)) e ∙ ap (with_front 34) (up_to_quote text rest)
name_again (Pattern body flags number) rest h g =
    let inner = body_text false body in
    let f = flags_text flags in
    let e : (inner ++ 47 ∷ f) ++ rest ≡ inner ++ 47 ∷ (f ++ rest) = append_assoc inner (47 ∷ f) rest in
    let l = letters_front f rest (flags_letters flags h.2) g in
    let with_flags : Option Split → Option Split = λ (o : Option Split). option_and_then (λ (s : Split). Some (with_letters s)) (with_front 47 o) in
    ap (λ (t : Bytes). name_part (t ++ rest)) (pattern_text body flags number) ∙ ap (λ (t : Bytes). with_flags (up_to 47 false t)) e
    ∙ ap with_flags (up_to_slash false body (f ++ rest) h.0)
    ∙ ap₂ (λ (x y : Bytes). split (47 ∷ ((inner ++ 47 ∷ []) ++ x)) y) l.0 l.1
    ∙ ap (λ (t : Bytes). split (47 ∷ t) rest) (append_assoc inner (47 ∷ []) f) ∙ ap (λ (t : Bytes). split t rest) (sym (pattern_text body flags number))

value_again : (v : Option Arg) → IsGiven v → value_part (given_text v) ≡ Some v
value_again None h = refl
value_again (Some a) h = ap (λ (b : Arg). Some (Some b)) (arg_again a h)

given_solid : (a : Bytes) (v : Option Arg) → is_solid a ≡ true → IsGiven v → is_solid (a ++ given_text v) ≡ true
given_solid a None h g = ap is_solid (append-nil a) ∙ h
given_solid a (Some b) h g = solid-append a (61 ∷ arg_text b) (solid-append (61 ∷ []) (arg_text b) (arg_solid b g))

first_kept : (a : Arg) (rest : Bytes) → without_first_spaces (arg_text a ++ rest) ≡ arg_text a ++ rest
first_kept (Literal text) rest = refl
first_kept (Pattern body flags number) rest = refl

abbrev pub pair_text : Pair → Bytes
pair_text p = arg_text p.name ++ given_text p.value

pub pair_again : (p : Pair) → IsPair p → attribute_pair (pair_text p) ≡ Some p
pair_again p h =
    let t : trimmed (pair_text p) ≡ pair_text p = ap without_last_spaces (first_kept p.name (given_text p.value)) ∙ solid_kept (pair_text p) (given_solid (arg_text p.name) p.value (arg_solid p.name h.name.arg) h.value) in
    let n : name_part (trimmed (pair_text p)) ≡ split (arg_text p.name) (given_text p.value) = ap name_part t ∙ name_again p.name (given_text p.value) h.name.arg (given_rest p.value) in
    let s : sought (text_argument (arg_text p.name)) ≡ Some p.name = ap sought (arg_again p.name h.name.arg) ∙ h.name.sought in
    let with_value : Arg → Option (Option Arg) → Option Pair = λ (m : Arg) (o : Option (Option Arg)). option_and_then (λ (v : Option Arg). Some (record { name = lower_name m; value = v })) o in
    ap (λ (o : Option Split). option_and_then (λ (s : Split). option_and_then (λ (m : Arg). with_value m (value_part s.rest)) (sought (text_argument s.front))) o) n
    ∙ ap (λ (o : Option Arg). option_and_then (λ (m : Arg). with_value m (value_part (given_text p.value))) o) s
    ∙ ap (with_value p.name) (value_again p.value h.value)
    ∙ ap (λ (m : Arg). Some (record { name = m; value = p.value })) h.lower
