-- Round brackets of raw arguments, from a text to its canonical text.
use Rattle.std.proofs.Common.{◌≡◌, ℕ, zero, suc, ◌-◌, ◌/◌, ◌%◌, Bool, true, false, not, eqb, ltb, ◌&&◌, ◌||◌, [], ◌∷◌, ◌++◌, codes, Option, Some, None, if◌then◌else◌, refl, sym, ap, ap₂, subst, ◌∙◌, append_assoc, append-nil, arith, inl, inr}
use Rattle.std.specs.Prelude.{option_and_then}
use Rattle.std.specs.List.{list_all}
use Rattle.std.specs.Char.{is_ascii_alphabetic}
use Rattle.std.proofs.lemmas.Bool.{cases_Bool, or_parts, eqb-true, both_ways, and_parts, and_from, eq-eqb, lt-ltb}
use Rattle.cos_source.specs.Spaces.{is_space, before_text, without_first_spaces, without_last_spaces, trimmed}
use Rattle.selector_tree.specs.declared.letters.Spelling.TheVariants as spelling
use Rattle.selector_tree.specs.declared.selector.Arg.{Arg}
use Rattle.selector_tree.specs.declared.selector.Arg.TheVariants.{Literal, Pattern}
use Rattle.selector_tree.specs.Letters.{is_marked, letter, letters, body_text, flags_text, literal_text}
use Rattle.selector_tree.specs.Canonical.{arg_text, given_text}
use Rattle.selector_spelling.specs.Bytes.{Bytes, front, behind, is_quote}
use Rattle.selector_spelling.specs.Arguments.{Slashed, Split, Pair, last_is, without_last, unquoted, holds_byte, are_flags, closing, pattern_form, slashed_or, text_argument, sought, up_to, with_front, with_letters, name_part, value_part, lower_name, attribute_pair}
use Rattle.selector_round_trip.specs.Balanced.{closes, is_balanced, pair_balance}
use Rattle.selector_round_trip.proofs.Classes.{apart}
use Rattle.selector_round_trip.proofs.Literals.{literal_cases}
use Rattle.selector_round_trip.proofs.Bodies.{unslashed, is_body, closed}
use Rattle.selector_round_trip.proofs.Args.{IsArg, argument_read, pattern_text}
use Rattle.selector_round_trip.proofs.Numbers.{then_some}

-- how many brackets are open, and whether a `\` stands before; or one closed nothing
pub data Mark : Type 0 where
  failed : Mark
  marks : (depth : ℕ) → (paired : Bool) → Mark

abbrev closed_one : ℕ → Mark
closed_one zero = failed
closed_one (suc d) = marks d false

abbrev pub move : Mark → ℕ → Mark
move failed b = failed
move (marks d true) b = marks d false
move (marks d false) b = if eqb b 40 then marks (suc d) false else if eqb b 41 then closed_one d else marks d (eqb b 92)

abbrev pub run : Mark → Bytes → Mark
run m [] = m
run m (b ∷ text) = run (move m b) text

run-append : (m : Mark) (a b : Bytes) → run m (a ++ b) ≡ run (run m a) b
run-append m [] b = refl
run-append m (c ∷ a) b = run-append (move m c) a b

run_failed : (text : Bytes) → run failed text ≡ failed
run_failed [] = refl
run_failed (b ∷ text) = run_failed text

abbrev pub depth : Mark → Option ℕ
depth failed = None
depth (marks d paired) = Some d

-- a byte that is no bracket
abbrev is_flat : ℕ → Bool
is_flat b = not (eqb b 40 || eqb b 41)

move-flat : (d b : ℕ) → is_flat b ≡ true → move (marks d false) b ≡ marks d (eqb b 92)
move-flat d b h = rw (apart is_flat b 40 h refl, apart is_flat b 41 h refl) refl

depth-move : (m : Mark) (b : ℕ) → is_flat b ≡ true → depth (move m b) ≡ depth m
depth-move failed b h = refl
depth-move (marks d true) b h = refl
depth-move (marks d false) b h = ap depth (move-flat d b h)

depth-run : (m : Mark) (text : Bytes) → list_all is_flat text ≡ true → depth (run m text) ≡ depth m
depth-run m [] h = refl
depth-run m (b ∷ text) h =
    let p = and_parts (is_flat b) (list_all is_flat text) h in
    depth-run (move m b) text p.1 ∙ depth-move m b p.0

-- what goes on after such a byte
flat_on : (d b : ℕ) (text : Bytes) → is_flat b ≡ true → eqb b 92 ≡ false → run (marks d false) (b ∷ text) ≡ run (marks d false) text
flat_on d b text h k = ap (λ (m : Mark). run m text) (move-flat d b h ∙ ap (marks d) k)

-- ---- the balance, said by one fold

closes_less : (d : ℕ) (text : Bytes) → run (closed_one d) text ≡ marks 0 false → ((e : ℕ) → run (marks e false) text ≡ marks 0 false → closes e false text ≡ true) → (ltb 0 d && closes (d - 1) false text) ≡ true
closes_less zero text h more = absurd (let w : failed ≡ marks 0 false = sym (run_failed text) ∙ h in cc)
closes_less (suc d) text h more =
    let e : suc d - 1 ≡ d = omega arith in
    and_from (ltb 0 (suc d)) (closes (suc d - 1) false text) (lt-ltb 0 (suc d) (omega arith)) (ap (λ (n : ℕ). closes n false text) e ∙ more d h)

run_less : (d : ℕ) (text : Bytes) → (ltb 0 d && closes (d - 1) false text) ≡ true → ((e : ℕ) → closes e false text ≡ true → run (marks e false) text ≡ marks 0 false) → run (closed_one d) text ≡ marks 0 false
run_less zero text h more = absurd (both_ways false refl h)
run_less (suc d) text h more =
    let e : suc d - 1 ≡ d = omega arith in
    more d (ap (λ (n : ℕ). closes n false text) (sym e) ∙ (and_parts (ltb 0 (suc d)) (closes (suc d - 1) false text) h).1)

pub closes_run : (d : ℕ) (paired : Bool) (text : Bytes) → run (marks d paired) text ≡ marks 0 false → closes d paired text ≡ true
closes_run d true [] h = absurd (let w : marks d true ≡ marks 0 false = h in let v : true ≡ false = cc in both_ways true v refl)
closes_run d false [] h = (let w : marks d false ≡ marks 0 false = h in let v : d ≡ 0 = cc in eq-eqb d 0 v)
closes_run d true (b ∷ text) h = closes_run d false text h
closes_run d false (b ∷ text) h =
    elim (cases_Bool (eqb b 40)) [
      | inl opens ↦ rw opens (closes_run (suc d) false text (ap (λ (c : Bool). run (if c then marks (suc d) false else if eqb b 41 then closed_one d else marks d (eqb b 92)) text) (sym opens) ∙ h))
      | inr shut ↦ (
          let g : run (if eqb b 41 then closed_one d else marks d (eqb b 92)) text ≡ marks 0 false = ap (λ (c : Bool). run (if c then marks (suc d) false else if eqb b 41 then closed_one d else marks d (eqb b 92)) text) (sym shut) ∙ h in
          elim (cases_Bool (eqb b 41)) [
            | inl is ↦ rw (shut, is) (closes_less d text (ap (λ (c : Bool). run (if c then closed_one d else marks d (eqb b 92)) text) (sym is) ∙ g) (λ e k. closes_run e false text k))
            | inr other ↦ rw (shut, other) (closes_run d (eqb b 92) text (ap (λ (c : Bool). run (if c then closed_one d else marks d (eqb b 92)) text) (sym other) ∙ g))
          ])
    ]

pub run_closes : (d : ℕ) (paired : Bool) (text : Bytes) → closes d paired text ≡ true → run (marks d paired) text ≡ marks 0 false
run_closes d true [] h = absurd (both_ways false refl h)
run_closes d false [] h = ap (λ (n : ℕ). marks n false) (eqb-true d 0 h)
run_closes d true (b ∷ text) h = run_closes d false text h
run_closes d false (b ∷ text) h =
    elim (cases_Bool (eqb b 40)) [
      | inl opens ↦ rw opens (run_closes (suc d) false text (ap (λ (c : Bool). if c then closes (suc d) false text else if eqb b 41 then ltb 0 d && closes (d - 1) false text else closes d (eqb b 92) text) (sym opens) ∙ h))
      | inr shut ↦ (
          let g : (if eqb b 41 then ltb 0 d && closes (d - 1) false text else closes d (eqb b 92) text) ≡ true = ap (λ (c : Bool). if c then closes (suc d) false text else if eqb b 41 then ltb 0 d && closes (d - 1) false text else closes d (eqb b 92) text) (sym shut) ∙ h in
          elim (cases_Bool (eqb b 41)) [
            | inl is ↦ rw (shut, is) (run_less d text (ap (λ (c : Bool). if c then ltb 0 d && closes (d - 1) false text else closes d (eqb b 92) text) (sym is) ∙ g) (λ e k. run_closes e false text k))
            | inr other ↦ rw (shut, other) (run_closes d (eqb b 92) text (ap (λ (c : Bool). if c then ltb 0 d && closes (d - 1) false text else closes d (eqb b 92) text) (sym other) ∙ g))
          ])
    ]

-- ---- trimming and quotes

-- white space before a text, and what is left
record FirstSpaces (text : Bytes) : Type 0 where
  spaces : Bytes
  is : text ≡ spaces ++ without_first_spaces text
  all : list_all is_space spaces ≡ true

first_spaces : (text : Bytes) → FirstSpaces text
first_spaces [] = record { spaces = []; is = refl; all = refl }
first_spaces (b ∷ text) =
    let f = first_spaces text in
    elim (cases_Bool (is_space b)) [
      | inl is ↦ record { spaces = b ∷ f.spaces; is = ap (λ (t : Bytes). b ∷ t) f.is ∙ ap (λ (c : Bool). (b ∷ f.spaces) ++ (if c then without_first_spaces text else b ∷ text)) (sym is); all = and_from (is_space b) (list_all is_space f.spaces) is f.all }
      | inr other ↦ record { spaces = []; is = ap (λ (c : Bool). if c then without_first_spaces text else b ∷ text) (sym other); all = refl }
    ]

record LastParts (rest text : Bytes) : Type 0 where
  spaces : Bytes
  is : text ≡ rest ++ spaces
  all : list_all is_space spaces ≡ true

before_last : (b : ℕ) (text rest spaces : Bytes) → text ≡ rest ++ spaces → list_all is_space spaces ≡ true → LastParts (before_text b rest) (b ∷ text)
before_last b text [] spaces e all =
    elim (cases_Bool (is_space b)) [
      | inl is ↦ record { spaces = b ∷ spaces; is = ap (λ (t : Bytes). b ∷ t) e ∙ ap (λ (c : Bool). (if c then [] else b ∷ []) ++ (b ∷ spaces)) (sym is); all = and_from (is_space b) (list_all is_space spaces) is all }
      | inr other ↦ record { spaces = spaces; is = ap (λ (t : Bytes). b ∷ t) e ∙ ap (λ (c : Bool). (if c then [] else b ∷ []) ++ spaces) (sym other); all = all }
    ]
before_last b text (c ∷ rest) spaces e all = record { spaces = spaces; is = ap (λ (t : Bytes). b ∷ t) e; all = all }

last_spaces : (text : Bytes) → LastParts (without_last_spaces text) text
last_spaces [] = record { spaces = []; is = refl; all = refl }
last_spaces (b ∷ text) = (let l = last_spaces text in before_last b text (without_last_spaces text) l.spaces l.is l.all)

space_flat : (b : ℕ) → is_space b ≡ true → (is_flat b ≡ true) × (eqb b 92 ≡ false)
space_flat b h = (
    let d = apart is_space b in
    (rw (d 40 h refl, d 41 h refl) refl, d 92 h refl))

spaces_flat : (text : Bytes) → list_all is_space text ≡ true → list_all is_flat text ≡ true
spaces_flat [] h = refl
spaces_flat (b ∷ text) h = (let p = and_parts (is_space b) (list_all is_space text) h in and_from (is_flat b) (list_all is_flat text) (space_flat b p.0).0 (spaces_flat text p.1))

spaces_pass : (d : ℕ) (spaces text : Bytes) → list_all is_space spaces ≡ true → run (marks d false) (spaces ++ text) ≡ run (marks d false) text
spaces_pass d [] text h = refl
spaces_pass d (b ∷ spaces) text h =
    let p = and_parts (is_space b) (list_all is_space spaces) h in
    let f = space_flat b p.0 in
    flat_on d b (spaces ++ text) f.0 f.1 ∙ spaces_pass d spaces text p.1

trimmed_depth : (d : ℕ) (text : Bytes) → depth (run (marks d false) text) ≡ depth (run (marks d false) (trimmed text))
trimmed_depth d text =
    let f = first_spaces text in
    let inner = without_first_spaces text in
    let l = last_spaces inner in
    ap (λ (t : Bytes). depth (run (marks d false) t)) f.is ∙ ap depth (spaces_pass d f.spaces inner f.all)
    ∙ ap (λ (t : Bytes). depth (run (marks d false) t)) l.is ∙ ap depth (run-append (marks d false) (trimmed text) l.spaces)
    ∙ depth-run (run (marks d false) (trimmed text)) l.spaces (spaces_flat l.spaces l.all)

last_split : (q : ℕ) (text : Bytes) → last_is q text ≡ true → text ≡ without_last text ++ q ∷ []
last_split q [] h = absurd (both_ways false refl h)
last_split q (b ∷ []) h = ap (λ (c : ℕ). c ∷ []) (eqb-true b q h)
last_split q (b ∷ c ∷ text) h = ap (λ (t : Bytes). b ∷ t) (last_split q (c ∷ text) h)

quote_flat : (b : ℕ) → is_quote b ≡ true → (is_flat b ≡ true) × (eqb b 92 ≡ false)
quote_flat b h = (
    let d = apart is_quote b in
    (rw (d 40 h refl, d 41 h refl) refl, d 92 h refl))

unquoted_depth : (d : ℕ) (text : Bytes) → depth (run (marks d false) text) ≡ depth (run (marks d false) (unquoted text))
unquoted_depth d [] = refl
unquoted_depth d (b ∷ text) =
    elim (cases_Bool (is_quote b && last_is b text)) [
      | inl is ↦ (
          let p = and_parts (is_quote b) (last_is b text) is in
          let f = quote_flat b p.0 in
          let inner = without_last text in
          ap depth (flat_on d b text f.0 f.1) ∙ ap (λ (t : Bytes). depth (run (marks d false) t)) (last_split b text p.1) ∙ ap depth (run-append (marks d false) inner (b ∷ []))
          ∙ depth-move (run (marks d false) inner) b f.0 ∙ ap (λ (c : Bool). depth (run (marks d false) (if c then inner else b ∷ text))) (sym is))
      | inr other ↦ ap (λ (c : Bool). depth (run (marks d false) (if c then without_last text else b ∷ text))) (sym other)
    ]

-- ---- patterns

flags_flat : (text : Bytes) → are_flags text ≡ true → list_all is_flat text ≡ true
flags_flat [] h = refl
flags_flat (b ∷ text) h =
    let p = and_parts (holds_byte b (codes "imsu") && not (holds_byte b text)) (are_flags text) h in
    let q = and_parts (holds_byte b (codes "imsu")) (not (holds_byte b text)) p.0 in
    let d = apart (λ c. holds_byte c (codes "imsu")) b in
    and_from (is_flat b) (list_all is_flat text) (rw (d 40 q.0 refl, d 41 q.0 refl) refl) (flags_flat text p.1)

-- between slashes
slashed_depth : (d : ℕ) (body flags : Bytes) → are_flags flags ≡ true → depth (run (marks d false) (47 ∷ (body ++ 47 ∷ flags))) ≡ depth (run (marks d false) body)
slashed_depth d body flags h =
    ap depth (run-append (marks d false) body (47 ∷ flags)) ∙ depth-run (run (marks d false) body) (47 ∷ flags) (flags_flat flags h)

-- no `\` that begins a pair stands last
abbrev Unpaired : Mark → Type 0
Unpaired failed = Unit {0}
Unpaired (marks d paired) = paired ≡ false

closed_unpaired : (d : ℕ) → Unpaired (closed_one d)
closed_unpaired zero = tt
closed_unpaired (suc d) = refl

mark_cond : (c : Bool) (x y : Mark) → Unpaired x → Unpaired y → Unpaired (if c then x else y)
mark_cond true x y h g = h
mark_cond false x y h g = g

unpaired_move : (d b : ℕ) → eqb b 92 ≡ false → Unpaired (move (marks d false) b)
unpaired_move d b h = mark_cond (eqb b 40) _ _ refl (mark_cond (eqb b 41) _ _ (closed_unpaired d) h)

unslashed_step : (m : Mark) (text : Bytes) → Unpaired m → ((d : ℕ) → run (marks d false) (unslashed false text) ≡ run (marks d false) text) → run m (unslashed false text) ≡ run m text
unslashed_step failed text h more = run_failed (unslashed false text) ∙ sym (run_failed text)
unslashed_step (marks d paired) text h more =
    ap (λ (c : Bool). run (marks d c) (unslashed false text)) h ∙ more d ∙ ap (λ (c : Bool). run (marks d c) text) (sym h)

unslashed_run : (d : ℕ) (odd : Bool) (text : Bytes) → run (marks d false) (unslashed odd text) ≡ run (marks d odd) text
unslashed_run d true [] = refl
unslashed_run d false [] = refl
unslashed_run d true (b ∷ text) =
    elim (cases_Bool (eqb b 47)) [
      | inl is ↦ (
          let e : b ≡ 47 = eqb-true b 47 is in
          ap (λ (c : Bool). run (marks d false) (if c then b ∷ unslashed false text else 92 ∷ b ∷ unslashed false text)) is
          ∙ ap (λ (c : ℕ). run (marks d false) (c ∷ unslashed false text)) e ∙ unslashed_run d false text)
      | inr other ↦ ap (λ (c : Bool). run (marks d false) (if c then b ∷ unslashed false text else 92 ∷ b ∷ unslashed false text)) other ∙ unslashed_run d false text
    ]
unslashed_run d false (b ∷ text) =
    elim (cases_Bool (eqb b 92)) [
      | inl is ↦ (
          let e : b ≡ 92 = eqb-true b 92 is in
          ap (λ (c : Bool). run (marks d false) (let rest = unslashed c text in if c then rest else b ∷ rest)) is
          ∙ unslashed_run d true text ∙ ap (λ (c : ℕ). run (move (marks d false) c) text) (sym e))
      | inr other ↦ (
          ap (λ (c : Bool). run (marks d false) (let rest = unslashed c text in if c then rest else b ∷ rest)) other
          ∙ unslashed_step (move (marks d false) b) text (unpaired_move d b other) (λ e. unslashed_run e false text))
    ]

abbrev OnPair : Bool → Mark → Type 0
OnPair paired failed = Unit {0}
OnPair paired (marks d p) = p ≡ paired

pair_cond : (c paired : Bool) (x y : Mark) → (c ≡ true → OnPair paired x) → (c ≡ false → OnPair paired y) → OnPair paired (if c then x else y)
pair_cond true paired x y h g = h refl
pair_cond false paired x y h g = g refl

closed_pair : (d : ℕ) (paired : Bool) → paired ≡ false → OnPair paired (closed_one d)
closed_pair zero paired h = tt
closed_pair (suc d) paired h = sym h

pair_move : (d b : ℕ) → OnPair (eqb b 92) (move (marks d false) b)
pair_move d b =
    pair_cond (eqb b 40) (eqb b 92) _ _ (λ is. (let e : b ≡ 40 = eqb-true b 40 is in sym (ap (λ (c : ℕ). eqb c 92) e)))
    (λ other. pair_cond (eqb b 41) (eqb b 92) _ _ (λ is. (let e : b ≡ 41 = eqb-true b 41 is in closed_pair d (eqb b 92) (ap (λ (c : ℕ). eqb c 92) e))) (λ rest. refl))

body_step : (m : Mark) (paired : Bool) (text : Bytes) → OnPair paired m → ((d : ℕ) → run (marks d paired) (body_text paired text) ≡ run (marks d paired) text) → run m (body_text paired text) ≡ run m text
body_step failed paired text h more = run_failed (body_text paired text) ∙ sym (run_failed text)
body_step (marks d p) paired text h more =
    ap (λ (c : Bool). run (marks d c) (body_text paired text)) h ∙ more d ∙ ap (λ (c : Bool). run (marks d c) text) (sym h)

body_run : (d : ℕ) (paired : Bool) (text : Bytes) → run (marks d paired) (body_text paired text) ≡ run (marks d paired) text
body_run d true [] = refl
body_run d false [] = refl
body_run d true (b ∷ text) = body_run d false text
body_run d false (b ∷ text) =
    elim (cases_Bool (eqb b 47)) [
      | inl is ↦ (
          let e : b ≡ 47 = eqb-true b 47 is in
          ap (λ (c : ℕ). run (marks d false) (body_text false (c ∷ text))) e ∙ body_run d false text ∙ ap (λ (c : ℕ). run (marks d false) (c ∷ text)) (sym e))
      | inr other ↦ (
          ap (λ (c : Bool). run (marks d false) ((if c then 92 ∷ b ∷ [] else b ∷ []) ++ body_text (eqb b 92) text)) other
          ∙ body_step (move (marks d false) b) (eqb b 92) text (pair_move d b) (λ e. body_run e (eqb b 92) text))
    ]

-- a body is closed at its end
body_unpaired : (m : Mark) (paired : Bool) (body : Bytes) → OnPair paired m → is_body paired body ≡ true → Unpaired (run m body)
body_unpaired failed paired body h g = subst Unpaired (sym (run_failed body)) tt
body_unpaired (marks d p) true [] h g = absurd (both_ways false refl g)
body_unpaired (marks d p) false [] h g = h
body_unpaired (marks d p) true (b ∷ body) h g =
    subst (λ (c : Bool). Unpaired (run (move (marks d c) b) body)) (sym h) (body_unpaired (marks d false) false body refl (and_parts (not (eqb b 47)) (is_body false body) g).1)
body_unpaired (marks d p) false (b ∷ body) h g =
    subst (λ (c : Bool). Unpaired (run (move (marks d c) b) body)) (sym h) (body_unpaired (move (marks d false) b) (eqb b 92) body (pair_move d b) g)

at_depth : (m : Mark) (d : ℕ) → Unpaired m → depth m ≡ Some d → m ≡ marks d false
at_depth failed d h g = absurd (let w : None ≡ Some d = g in cc)
at_depth (marks e p) d h g = (let f : e ≡ d = (let w : Some e ≡ Some d = g in cc) in ap₂ marks f h)

-- what a text argument that is read as a pattern does to the depth, its body does
pub record ReadBody (text body : Bytes) : Type 0 where
  pub same : (d : ℕ) → depth (run (marks d false) text) ≡ depth (run (marks d false) body)

form_body : (t : Bytes) (p : Slashed) → pattern_form t ≡ Some p → ReadBody t (unslashed false p.body)
form_body [] p h = absurd (let w : None ≡ Some p = h in cc)
form_body (b ∷ text) p h =
    elim (cases_Bool (eqb b 47)) [
      | inl is ↦ (
          let c = closed false true text p (sym (ap (λ (c : Bool). if c then closing false true text else None) is) ∙ h) in
          let e : b ≡ 47 = eqb-true b 47 is in
          record { same = λ d. ap₂ (λ (x : ℕ) (y : Bytes). depth (run (marks d false) (x ∷ y))) e c.is ∙ slashed_depth d p.body p.flags c.flags ∙ ap depth (sym (unslashed_run d false p.body)) })
      | inr other ↦ absurd (let w : None ≡ Some p = sym (ap (λ (c : Bool). if c then closing false true text else None) other) ∙ h in cc)
    ]

abbrev OnBody : Bytes → Arg → Type 0
OnBody text (Literal v) = Unit {0}
OnBody text (Pattern body flags number) = ReadBody text body

on_form : (t : Bytes) (o : Option Slashed) → pattern_form t ≡ o → OnBody t (slashed_or o t)
on_form t None h = tt
on_form t (Some p) h = form_body t p h

widened : (text t : Bytes) (a : Arg) → ((d : ℕ) → depth (run (marks d false) text) ≡ depth (run (marks d false) t)) → OnBody t a → OnBody text a
widened text t (Literal v) h g = tt
widened text t (Pattern body flags number) h g = record { same = λ d. h d ∙ g.same d }

argument_body : (text : Bytes) → OnBody text (text_argument text)
argument_body text =
    let t = unquoted (trimmed text) in
    widened text t (slashed_or (pattern_form t) t) (λ d. trimmed_depth d text ∙ unquoted_depth d (trimmed text)) (on_form t (pattern_form t) refl)

-- ---- canonical texts

flags_pass : (x y z : Bool) (d : ℕ) (rest : Bytes) → run (marks d false) ((47 ∷ (((if x then codes "i" else []) ++ (if y then codes "m" else [])) ++ (if z then codes "s" else []))) ++ rest) ≡ run (marks d false) rest
flags_pass true true true d rest = refl
flags_pass true true false d rest = refl
flags_pass true false true d rest = refl
flags_pass true false false d rest = refl
flags_pass false true true d rest = refl
flags_pass false true false d rest = refl
flags_pass false false true d rest = refl
flags_pass false false false d rest = refl

flags_on : (m : Mark) (flags : ℕ) (rest : Bytes) → Unpaired m → run m ((47 ∷ flags_text flags) ++ rest) ≡ run m rest
flags_on failed flags rest h = run_failed ((47 ∷ flags_text flags) ++ rest) ∙ sym (run_failed rest)
flags_on (marks d p) flags rest h =
    ap (λ (c : Bool). run (marks d c) ((47 ∷ flags_text flags) ++ rest)) h ∙ flags_pass (eqb (flags % 2) 1) (eqb (flags / 2 % 2) 1) (eqb (flags / 4 % 2) 1) d rest ∙ ap (λ (c : Bool). run (marks d c) rest) (sym h)

-- the canonical text of a pattern does what its body does
pattern_run : (d : ℕ) (body : Bytes) (flags number : ℕ) (rest : Bytes) → Unpaired (run (marks d false) body) → run (marks d false) (arg_text (Pattern body flags number) ++ rest) ≡ run (run (marks d false) body) rest
pattern_run d body flags number rest h =
    let inner = body_text false body in
    let f = 47 ∷ flags_text flags in
    ap (λ (t : Bytes). run (marks d false) (t ++ rest)) (pattern_text body flags number)
    ∙ ap (run (marks d false)) (append_assoc inner f rest)
    ∙ run-append (marks d false) inner (f ++ rest)
    ∙ ap (λ (m : Mark). run m (f ++ rest)) (body_run d false body)
    ∙ flags_on (run (marks d false) body) flags rest h

literal_flat : (b : ℕ) → is_marked spelling.Literal b ≡ false → (is_flat b ≡ true) × (eqb b 92 ≡ false)
literal_flat b h = (
    let p = or_parts (eqb b 92 || eqb b 47 || eqb b 34 || eqb b 40) (eqb b 41) h in
    let q = or_parts (eqb b 92 || eqb b 47 || eqb b 34) (eqb b 40) p.0 in
    let r = or_parts (eqb b 92 || eqb b 47) (eqb b 34) q.0 in
    let s = or_parts (eqb b 92) (eqb b 47) r.0 in
    (rw (q.1, p.1) refl, s.0))

letter_pass : (d b : ℕ) (rest : Bytes) → run (marks d false) (letter spelling.Literal b ++ rest) ≡ run (marks d false) rest
letter_pass d b rest =
    literal_cases (λ v. run (marks d false) (v ++ rest) ≡ run (marks d false) rest) b (λ h. refl) (λ h. (let p = literal_flat b h in flat_on d b rest p.0 p.1))

letters_pass : (d : ℕ) (text rest : Bytes) → run (marks d false) (letters spelling.Literal text ++ rest) ≡ run (marks d false) rest
letters_pass d [] rest = refl
letters_pass d (b ∷ text) rest =
    ap (run (marks d false)) (append_assoc (letter spelling.Literal b) (letters spelling.Literal text) rest) ∙ letter_pass d b (letters spelling.Literal text ++ rest) ∙ letters_pass d text rest

literal_run : (d : ℕ) (text rest : Bytes) → run (marks d false) (literal_text text ++ rest) ≡ run (marks d false) rest
literal_run d text rest = ap (run (marks d false)) (append_assoc (letters spelling.Literal text) (34 ∷ []) rest) ∙ letters_pass d text (34 ∷ rest)

-- a text argument
search_run : (a : Arg) → IsArg a → (text : Bytes) → OnBody text a → depth (run (marks 0 false) text) ≡ Some 0 → run (marks 0 false) (arg_text a ++ []) ≡ marks 0 false
search_run (Literal v) h text g e = literal_run 0 v []
search_run (Pattern body flags number) h text g e =
    let u = body_unpaired (marks 0 false) false body refl h.0 in
    pattern_run 0 body flags number [] u ∙ at_depth (run (marks 0 false) body) 0 u (sym (g.same 0) ∙ e)

-- the canonical text of a text argument is balanced where the argument was
pub search_balanced : (text : Bytes) → depth (run (marks 0 false) text) ≡ Some 0 → is_balanced (arg_text (text_argument text)) ≡ true
search_balanced text e =
    let a = text_argument text in
    closes_run 0 false (arg_text a) (ap (run (marks 0 false)) (sym (append-nil (arg_text a))) ∙ search_run a (argument_read text) text (argument_body text) e)

-- ---- pairs

with_front_split : (b : ℕ) (text : Bytes) (o : Option Split) (s : Split) → ((t : Split) → o ≡ Some t → text ≡ t.front ++ t.rest) → with_front b o ≡ Some s → b ∷ text ≡ s.front ++ s.rest
with_front_split b text None s more h = absurd (let w : None ≡ Some s = h in cc)
with_front_split b text (Some t) s more h =
    let e : record { front = b ∷ t.front; rest = t.rest } ≡ s = cc in
    ap (λ (x : Bytes). b ∷ x) (more t refl) ∙ ap (λ (x : Split). x.front ++ x.rest) e

cond_split : (c : Bool) (x y : Option Split) (s : Split) (text : Bytes) → (x ≡ Some s → text ≡ s.front ++ s.rest) → (y ≡ Some s → text ≡ s.front ++ s.rest) → (if c then x else y) ≡ Some s → text ≡ s.front ++ s.rest
cond_split true x y s text h g e = h e
cond_split false x y s text h g e = g e

up_to_split : (q : ℕ) (odd : Bool) (text : Bytes) (s : Split) → up_to q odd text ≡ Some s → text ≡ s.front ++ s.rest
up_to_split q odd [] s h = absurd (let w : None ≡ Some s = h in cc)
up_to_split q odd (b ∷ text) s h =
    cond_split (eqb b q && not odd) (Some (record { front = b ∷ []; rest = text })) (with_front b (up_to q (eqb b 92 && not odd) text)) s (b ∷ text)
    (λ k. (let e : record { front = b ∷ []; rest = text } ≡ s = cc in ap (λ (x : Split). x.front ++ x.rest) e))
    (with_front_split b text (up_to q (eqb b 92 && not odd) text) s (up_to_split q (eqb b 92 && not odd) text)) h

front_behind : (p : ℕ → Bool) (text : Bytes) → text ≡ front p text ++ behind p text
front_behind p [] = refl
front_behind p (b ∷ text) =
    elim (cases_Bool (p b)) [
      | inl yes_byte ↦ ap (λ (t : Bytes). b ∷ t) (front_behind p text) ∙ sym (ap₂ ◌++◌ (ap (λ (c : Bool). if c then b ∷ front p text else []) yes_byte) (ap (λ (c : Bool). if c then behind p text else b ∷ text) yes_byte))
      | inr no_byte ↦ sym (ap₂ ◌++◌ (ap (λ (c : Bool). if c then b ∷ front p text else []) no_byte) (ap (λ (c : Bool). if c then behind p text else b ∷ text) no_byte))
    ]

letters_split : (t : Split) → t.front ++ t.rest ≡ (with_letters t).front ++ (with_letters t).rest
letters_split t = ap (λ (x : Bytes). t.front ++ x) (front_behind is_ascii_alphabetic t.rest) ∙ sym (append_assoc t.front (front is_ascii_alphabetic t.rest) (behind is_ascii_alphabetic t.rest))

abbrev is_not_equals : ℕ → Bool
is_not_equals b = not (eqb b 61)

name_split : (text : Bytes) (s : Split) → name_part text ≡ Some s → text ≡ s.front ++ s.rest
name_split [] s h = absurd (let w : None ≡ Some s = h in cc)
name_split (b ∷ text) s h =
    cond_split (is_quote b) (with_front b (up_to b false text)) _ s (b ∷ text)
    (with_front_split b text (up_to b false text) s (up_to_split b false text))
    (cond_split (eqb b 47) _ _ s (b ∷ text)
    (λ k. (
    let t = then_some (with_front b (up_to 47 false text)) (λ (x : Split). Some (with_letters x)) s k in
    let e : with_letters t.value ≡ s = (let g = t.gives in cc) in
    with_front_split b text (up_to 47 false text) t.value (up_to_split 47 false text) t.is ∙ letters_split t.value ∙ ap (λ (x : Split). x.front ++ x.rest) e))
    (λ k. (let e : record { front = front is_not_equals (b ∷ text); rest = behind is_not_equals (b ∷ text) } ≡ s = cc in front_behind is_not_equals (b ∷ text) ∙ ap (λ (x : Split). x.front ++ x.rest) e))) h

-- what the parts of a pair do to the depth
record GivenRest (rest : Bytes) (a : Arg) : Type 0 where
  value : Bytes
  is : rest ≡ 61 ∷ value
  arg : IsArg a
  body : OnBody value a

abbrev OnGiven : Bytes → Option Arg → Type 0
OnGiven rest None = rest ≡ []
OnGiven rest (Some a) = GivenRest rest a

value_given : (rest : Bytes) (v : Option Arg) → value_part rest ≡ Some v → OnGiven rest v
value_given [] v h = (let e : None ≡ v = cc in subst (OnGiven []) e refl)
value_given (b ∷ text) v h =
    elim (cases_Bool (eqb b 61)) [
      | inl is ↦ (
          let k : ◌≡◌ {A = Option (Option Arg)} (Some (Some (text_argument text))) (Some v) = sym (ap (λ (c : Bool). if c then Some (Some (text_argument text)) else None) is) ∙ h in
          let e : Some (text_argument text) ≡ v = cc in
          subst (OnGiven (b ∷ text)) e (record { value = text; is = ap (λ (c : ℕ). c ∷ text) (eqb-true b 61 is); arg = argument_read text; body = argument_body text }))
      | inr other ↦ absurd (let w : None ≡ Some v = sym (ap (λ (c : Bool). if c then Some (Some (text_argument text)) else None) other) ∙ h in cc)
    ]

-- the mark before a value, whatever stands before its sign
equals_move : (m : Mark) (d : ℕ) → depth m ≡ Some d → move m 61 ≡ marks d false
equals_move failed d h = absurd (let w : None ≡ Some d = h in cc)
equals_move (marks e true) d h = (let f : e ≡ d = (let w : Some e ≡ Some d = h in cc) in ap (λ (n : ℕ). marks n false) f)
equals_move (marks e false) d h = (let f : e ≡ d = (let w : Some e ≡ Some d = h in cc) in ap (λ (n : ℕ). marks n false) f)

record HasDepth (m : Mark) : Type 0 where
  d : ℕ
  is : depth m ≡ Some d

has_depth : (m : Mark) (text : Bytes) (e : ℕ) → depth (run m text) ≡ Some e → HasDepth m
has_depth failed text e h = absurd (let w : None ≡ Some e = sym (ap depth (run_failed text)) ∙ h in cc)
has_depth (marks d p) text e h = record { d = d; is = refl }

pair_run : (n : Arg) (v : Option Arg) (front rest : Bytes) → IsArg n → OnBody front n → OnGiven rest v → pair_balance n v ≡ true → depth (run (marks 0 false) (front ++ rest)) ≡ Some 0
    → run (marks 0 false) (arg_text n ++ given_text v) ≡ marks 0 false
pair_run (Literal t) None front rest hn gn gv balance e = literal_run 0 t []
pair_run (Literal t) (Some (Literal u)) front rest hn gn gv balance e = literal_run 0 t (61 ∷ literal_text u) ∙ ap (λ (x : Bytes). run (marks 0 false) x) (sym (append-nil (literal_text u))) ∙ literal_run 0 u []
pair_run (Literal t) (Some (Pattern body flags number)) front rest hn gn gv balance e =
    let r = run_closes 0 false body balance in
    literal_run 0 t (61 ∷ arg_text (Pattern body flags number)) ∙ ap (λ (x : Bytes). run (marks 0 false) x) (sym (append-nil (arg_text (Pattern body flags number))))
    ∙ pattern_run 0 body flags number [] (subst Unpaired (sym r) refl) ∙ r
pair_run (Pattern body flags number) None front rest hn gn gv balance e =
    let u = body_unpaired (marks 0 false) false body refl hn.0 in
    let whole : depth (run (marks 0 false) front) ≡ Some 0 = ap (λ (x : Bytes). depth (run (marks 0 false) x)) (sym (append-nil front) ∙ ap (λ (x : Bytes). front ++ x) (sym gv)) ∙ e in
    pattern_run 0 body flags number [] u ∙ at_depth (run (marks 0 false) body) 0 u (sym (gn.same 0) ∙ whole)
pair_run (Pattern body flags number) (Some (Literal t)) front rest hn gn gv balance e =
    let r = run_closes 0 false body balance in
    pattern_run 0 body flags number (61 ∷ literal_text t) (subst Unpaired (sym r) refl) ∙ ap (λ (m : Mark). run m (61 ∷ literal_text t)) r
    ∙ ap (λ (x : Bytes). run (marks 0 false) x) (sym (append-nil (literal_text t))) ∙ literal_run 0 t []
pair_run (Pattern body flags number) (Some (Pattern other more m)) front rest hn gn gv balance e =
    let u = body_unpaired (marks 0 false) false body refl hn.0 in
    let first = run (marks 0 false) front in
    let value = gv.value in
    let all : depth (run first (61 ∷ value)) ≡ Some 0 = ap depth (sym (run-append (marks 0 false) front (61 ∷ value))) ∙ ap (λ (x : Bytes). depth (run (marks 0 false) (front ++ x))) (sym gv.is) ∙ e in
    let d = has_depth first (61 ∷ value) 0 all in
    let behind : depth (run (marks d.d false) value) ≡ Some 0 = ap (λ (z : Mark). depth (run z value)) (sym (equals_move first d.d d.is)) ∙ all in
    let one : run (marks 0 false) body ≡ marks d.d false = at_depth (run (marks 0 false) body) d.d u (sym (gn.same 0) ∙ d.is) in
    let w = body_unpaired (marks d.d false) false other refl gv.arg.0 in
    let two : run (marks d.d false) other ≡ marks 0 false = at_depth (run (marks d.d false) other) 0 w (sym (gv.body.same d.d) ∙ behind) in
    pattern_run 0 body flags number (61 ∷ arg_text (Pattern other more m)) u ∙ ap (λ (z : Mark). run z (61 ∷ arg_text (Pattern other more m))) one
    ∙ ap (λ (x : Bytes). run (marks d.d false) x) (sym (append-nil (arg_text (Pattern other more m)))) ∙ pattern_run d.d other more m [] w ∙ two

lower_body : (text : Bytes) (a : Arg) → OnBody text a → OnBody text (lower_name a)
lower_body text (Literal v) h = tt
lower_body text (Pattern body flags number) h = h

lower_arg : (a : Arg) → IsArg a → IsArg (lower_name a)
lower_arg (Literal v) h = tt
lower_arg (Pattern body flags number) h = h

pub sought_same : (a b : Arg) → sought a ≡ Some b → a ≡ b
sought_same (Literal []) b h = absurd (let w : None ≡ Some b = h in cc)
sought_same (Literal (c ∷ text)) b h = cc
sought_same (Pattern body flags number) b h = cc

-- the canonical text of a pair is balanced where the argument was, and where a pattern beside a literal is balanced in itself
pub pair_balanced : (text : Bytes) (p : Pair) → attribute_pair text ≡ Some p → pair_balance p.name p.value ≡ true → depth (run (marks 0 false) text) ≡ Some 0 → is_balanced (arg_text p.name ++ given_text p.value) ≡ true
pair_balanced text p h balance e =
    let t = then_some (name_part (trimmed text)) (λ (s : Split). option_and_then (λ (n : Arg). option_and_then (λ (v : Option Arg). Some (record { name = lower_name n; value = v })) (value_part s.rest)) (sought (text_argument s.front))) p h in
    let u = then_some (sought (text_argument t.value.front)) (λ (n : Arg). option_and_then (λ (v : Option Arg). Some (record { name = lower_name n; value = v })) (value_part t.value.rest)) p t.gives in
    let w = then_some (value_part t.value.rest) (λ (v : Option Arg). Some (record { name = lower_name u.value; value = v })) p u.gives in
    let n : text_argument t.value.front ≡ u.value = sought_same (text_argument t.value.front) u.value u.is in
    let same : record { name = lower_name u.value; value = w.value } ≡ p = (let g = w.gives in cc) in
    let whole : depth (run (marks 0 false) (t.value.front ++ t.value.rest)) ≡ Some 0 =
    ap (λ (x : Bytes). depth (run (marks 0 false) x)) (sym (name_split (trimmed text) t.value t.is)) ∙ sym (trimmed_depth 0 text) ∙ e in
    let arg : IsArg u.value = subst IsArg n (argument_read t.value.front) in
    let body : OnBody t.value.front u.value = subst (OnBody t.value.front) n (argument_body t.value.front) in
    closes_run 0 false (arg_text p.name ++ given_text p.value) (
    subst (λ (q : Pair). run (marks 0 false) (arg_text q.name ++ given_text q.value) ≡ marks 0 false) same
    (pair_run (lower_name u.value) w.value t.value.front t.value.rest (lower_arg u.value arg) (lower_body t.value.front u.value body) (value_given t.value.rest w.value w.is)
    (ap (λ (q : Pair). pair_balance q.name q.value) same ∙ balance) whole))
