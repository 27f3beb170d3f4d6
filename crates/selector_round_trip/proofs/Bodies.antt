-- Bodies of patterns: their canonical text is read as the body, and what is read as a body has such a text.
use Rattle.std.proofs.Common.{◌≡◌, ℕ, ◌+◌, ◌<◌, Bool, true, false, not, eqb, ◌&&◌, [], ◌∷◌, ◌++◌, codes, Option, Some, None, if◌then◌else◌, refl, sym, ap, subst, ◌∙◌, arith, inl, inr}
use Rattle.std.proofs.lemmas.Bool.{agree_below_at, cases_Bool, eqb-true, not-true, both_ways, and_parts, and_from, and_left, and_right}
use Rattle.std.proofs.Math.Bool.{and-true, and-false}
use Rattle.selector_tree.specs.Letters.{body_text, flags_text}
use Rattle.selector_spelling.specs.Bytes.{Bytes, is_empty}
use Rattle.selector_spelling.specs.Arguments.{Slashed, with_body, closing, unescaped, is_slash, are_flags, flags_of, holds_byte, up_to, Split, with_front}

-- `\/` becomes `/`, read in pairs from the left
abbrev pub unslashed : Bool → Bytes → Bytes
unslashed = unescaped is_slash

-- a body that a text can stand for: no pair of `\` and `/` is in it, and none has begun at its end
abbrev pub is_body : Bool → Bytes → Bool
is_body paired [] = not paired
is_body true (b ∷ text) = not (eqb b 47) && is_body false text
is_body false (b ∷ text) = is_body (eqb b 92) text

-- what is dropped from the text of a body was put there
abbrev with_pair : Bool → Bytes → Bytes
with_pair true text = 92 ∷ text
with_pair false text = text

unslashed-true : (b : ℕ) (text : Bytes) → eqb b 47 ≡ false → unslashed true (b ∷ text) ≡ 92 ∷ b ∷ unslashed false text
unslashed-true b text h = rw h refl

body_text-slash : (b : ℕ) (text : Bytes) → eqb b 47 ≡ true → body_text false (b ∷ text) ≡ 92 ∷ 47 ∷ body_text false text
body_text-slash b text h = let e : b ≡ 47 = eqb-true b 47 h in ap (λ (c : ℕ). body_text false (c ∷ text)) e

body_text-other : (b : ℕ) (text : Bytes) → eqb b 47 ≡ false → body_text false (b ∷ text) ≡ b ∷ body_text (eqb b 92) text
body_text-other b text h = ap (λ (c : Bool). (if c then 92 ∷ b ∷ [] else b ∷ []) ++ body_text (eqb b 92) text) h

unslashed-other : (paired : Bool) (b : ℕ) (text more : Bytes) → eqb b 92 ≡ paired → unslashed paired text ≡ with_pair paired more → unslashed false (b ∷ text) ≡ b ∷ more
unslashed-other true b text more h e = rw h (e ∙ ap (λ (c : ℕ). c ∷ more) (sym (eqb-true b 92 h)))
unslashed-other false b text more h e = rw h (ap (λ (t : Bytes). b ∷ t) e)

pub unslashed_again : (paired : Bool) (body : Bytes) → is_body paired body ≡ true → unslashed paired (body_text paired body) ≡ with_pair paired body
unslashed_again true [] h = absurd (both_ways false refl h)
unslashed_again false [] h = refl
unslashed_again true (b ∷ body) h =
    let p = and_parts (not (eqb b 47)) (is_body false body) h in
    unslashed-true b (body_text false body) (not-true (eqb b 47) p.0) ∙ ap (λ (t : Bytes). 92 ∷ b ∷ t) (unslashed_again false body p.1)
unslashed_again false (b ∷ body) h =
    elim (cases_Bool (eqb b 47)) [
      | inl is ↦ (
          let e : b ≡ 47 = eqb-true b 47 is in
          let k : is_body false body ≡ true = ap (λ (c : ℕ). is_body (eqb c 92) body) (sym e) ∙ h in
          ap (unslashed false) (body_text-slash b body is) ∙ ap (λ (t : Bytes). 47 ∷ t) (unslashed_again false body k) ∙ ap (λ (c : ℕ). c ∷ body) (sym e))
      | inr other ↦ ap (unslashed false) (body_text-other b body other) ∙ unslashed-other (eqb b 92) b (body_text (eqb b 92) body) body refl (unslashed_again (eqb b 92) body h)
    ]

-- ---- the slash that closes

-- no odd run of `\` stands at the end
abbrev pub is_even : Bool → Bytes → Bool
is_even odd [] = not odd
is_even odd (b ∷ text) = is_even (eqb b 92 && not odd) text

even_true : (b : ℕ) (text : Bytes) → is_even true (b ∷ text) ≡ is_even false text
even_true b text = ap (λ (c : Bool). is_even c text) (and-false (eqb b 92))

even_false : (b : ℕ) (text : Bytes) → is_even false (b ∷ text) ≡ is_even (eqb b 92) text
even_false b text = ap (λ (c : Bool). is_even c text) (and-true (eqb b 92))

pub body_even : (paired : Bool) (body : Bytes) → is_body paired body ≡ true → is_even paired (body_text paired body) ≡ true
body_even true [] h = absurd (both_ways false refl h)
body_even false [] h = refl
body_even true (b ∷ body) h = even_true b (body_text false body) ∙ body_even false body (and_parts (not (eqb b 47)) (is_body false body) h).1
body_even false (b ∷ body) h =
    elim (cases_Bool (eqb b 47)) [
      | inl is ↦ (
          let e : b ≡ 47 = eqb-true b 47 is in
          let k : is_body false body ≡ true = ap (λ (c : ℕ). is_body (eqb c 92) body) (sym e) ∙ h in
          ap (is_even false) (body_text-slash b body is) ∙ body_even false body k)
      | inr other ↦ ap (is_even false) (body_text-other b body other) ∙ even_false b (body_text (eqb b 92) body) ∙ body_even (eqb b 92) body h
    ]

no_flags : (text flags : Bytes) → are_flags (text ++ 47 ∷ flags) ≡ false
no_flags [] flags = refl
no_flags (b ∷ text) flags = and_right (holds_byte b (codes "imsu") && not (holds_byte b (text ++ 47 ∷ flags))) (are_flags (text ++ 47 ∷ flags)) (no_flags text flags)

abbrev slashed : Bytes → Bytes → Option Slashed
slashed body flags = Some (record { body = body; flags = flags })

closing-here : (flags : Bytes) → are_flags flags ≡ true → closing false false (47 ∷ flags) ≡ slashed [] flags
closing-here flags h = rw h refl

closing-on : (odd first : Bool) (b : ℕ) (text : Bytes) → are_flags text ≡ false → closing odd first (b ∷ text) ≡ with_body b (closing (eqb b 92 && not odd) false text)
closing-on odd first b text h = ap (λ (c : Bool). if c then slashed [] text else with_body b (closing (eqb b 92 && not odd) false text)) (and_right (eqb b 47 && not odd && not first) (are_flags text) h)

closing_later : (odd : Bool) (text flags : Bytes) → are_flags flags ≡ true → is_even odd text ≡ true → closing odd false (text ++ 47 ∷ flags) ≡ slashed text flags
closing_later true [] flags h e = absurd (both_ways false refl e)
closing_later false [] flags h e = closing-here flags h
closing_later odd (b ∷ text) flags h e =
    closing-on odd false b (text ++ 47 ∷ flags) (no_flags text flags) ∙ ap (with_body b) (closing_later (eqb b 92 && not odd) text flags h e)

-- the last slash closes, where something stands before it and no odd run of `\`
pub closing_again : (text flags : Bytes) → is_empty text ≡ false → are_flags flags ≡ true → is_even false text ≡ true → closing false true (text ++ 47 ∷ flags) ≡ slashed text flags
closing_again [] flags some h e = absurd (both_ways true some refl)
closing_again (b ∷ text) flags some h e =
    closing-on false true b (text ++ 47 ∷ flags) (no_flags text flags) ∙ ap (with_body b) (closing_later (eqb b 92 && not false) text flags h e)

-- ---- what is closed

pub record Closed (odd first : Bool) (text : Bytes) (p : Slashed) : Type 0 where
  pub is : text ≡ p.body ++ 47 ∷ p.flags
  pub flags : are_flags p.flags ≡ true
  pub even : is_even odd p.body ≡ true
  pub some : first ≡ true → is_empty p.body ≡ false

closed_more : (odd first : Bool) (b : ℕ) (text : Bytes) (o : Option Slashed) (p : Slashed) → with_body b o ≡ Some p
    → ((q : Slashed) → o ≡ Some q → Closed (eqb b 92 && not odd) false text q) → Closed odd first (b ∷ text) p
closed_more odd first b text None p h more = absurd (let w : None ≡ Some p = h in cc)
closed_more odd first b text (Some q) p h more =
    let e : record { body = b ∷ q.body; flags = q.flags } ≡ p = cc in
    let c = more q refl in
    subst (Closed odd first (b ∷ text)) e (record { is = ap (λ (t : Bytes). b ∷ t) c.is; flags = c.flags; even = c.even; some = λ h. refl })

closed_here : (odd first : Bool) (b : ℕ) (text : Bytes) (p : Slashed) → slashed [] text ≡ Some p → (eqb b 47 && not odd && not first && are_flags text) ≡ true → Closed odd first (b ∷ text) p
closed_here odd first b text p h t =
    let x = and_parts (eqb b 47 && not odd && not first) (are_flags text) t in
    let y = and_parts (eqb b 47 && not odd) (not first) x.0 in
    let z = and_parts (eqb b 47) (not odd) y.0 in
    let e : record { body = []; flags = text } ≡ p = cc in
    let is : b ≡ 47 = eqb-true b 47 z.0 in
    subst (Closed odd first (b ∷ text)) e (record { is = ap (λ (c : ℕ). c ∷ text) is; flags = x.1; even = z.1; some = λ (f : first ≡ true). absurd (both_ways first (not-true first y.1) f) })

closed_by : (odd first : Bool) (b : ℕ) (text : Bytes) (p : Slashed) (c : Bool) → (eqb b 47 && not odd && not first && are_flags text) ≡ c
    → (if c then slashed [] text else with_body b (closing (eqb b 92 && not odd) false text)) ≡ Some p
    → ((q : Slashed) → closing (eqb b 92 && not odd) false text ≡ Some q → Closed (eqb b 92 && not odd) false text q) → Closed odd first (b ∷ text) p
closed_by odd first b text p true t h more = closed_here odd first b text p h t
closed_by odd first b text p false t h more = closed_more odd first b text (closing (eqb b 92 && not odd) false text) p h more

pub closed : (odd first : Bool) (text : Bytes) (p : Slashed) → closing odd first text ≡ Some p → Closed odd first text p
closed odd first [] p h = absurd (let w : None ≡ Some p = h in cc)
closed odd first (b ∷ text) p h = closed_by odd first b text p (eqb b 47 && not odd && not first && are_flags text) refl h (closed (eqb b 92 && not odd) false text)

unslashed_cond : (c : Bool) (b : ℕ) (x y : Bytes) → (c ≡ true → is_body false x ≡ true) → (c ≡ false → is_body false y ≡ true) → is_body false (if c then x else y) ≡ true
unslashed_cond true b x y h g = h refl
unslashed_cond false b x y h g = g refl

-- what is read as a body is one
pub unslashed_body : (odd : Bool) (text : Bytes) → is_even odd text ≡ true → is_body false (unslashed odd text) ≡ true
unslashed_body true [] h = absurd (both_ways false refl h)
unslashed_body false [] h = refl
unslashed_body true (b ∷ text) h =
    let more = unslashed_body false text (sym (even_true b text) ∙ h) in
    unslashed_cond (eqb b 47) b (b ∷ unslashed false text) (92 ∷ b ∷ unslashed false text)
    (λ is. ap (λ (c : ℕ). is_body (eqb c 92) (unslashed false text)) (eqb-true b 47 is) ∙ more)
    (λ other. and_from (not (eqb b 47)) (is_body false (unslashed false text)) (ap not other) more)
unslashed_body false (b ∷ text) h =
    let more = unslashed_body (eqb b 92) text (sym (even_false b text) ∙ h) in
    unslashed_cond (eqb b 92) b (unslashed (eqb b 92) text) (b ∷ unslashed (eqb b 92) text)
    (λ is. more)
    (λ other. ap (λ (c : Bool). is_body c (unslashed (eqb b 92) text)) other ∙ more)

empty_cond : (c : Bool) (x y : Bytes) → is_empty x ≡ false → is_empty y ≡ false → is_empty (if c then x else y) ≡ false
empty_cond true x y h g = h
empty_cond false x y h g = g

unslashed_true_some : (text : Bytes) → is_empty (unslashed true text) ≡ false
unslashed_true_some [] = refl
unslashed_true_some (b ∷ text) = empty_cond (eqb b 47) (b ∷ unslashed false text) (92 ∷ b ∷ unslashed false text) refl refl

pub unslashed_some : (text : Bytes) → is_empty text ≡ false → is_empty (unslashed false text) ≡ false
unslashed_some [] h = absurd (both_ways true h refl)
unslashed_some (b ∷ text) h =
    elim (cases_Bool (eqb b 92)) [
      | inl is ↦ rw is (unslashed_true_some text)
      | inr other ↦ rw other refl
    ]

pub body_text_some : (body : Bytes) → is_empty body ≡ false → is_empty (body_text false body) ≡ false
body_text_some [] h = absurd (both_ways true h refl)
body_text_some (b ∷ body) h =
    elim (cases_Bool (eqb b 47)) [
      | inl is ↦ ap is_empty (body_text-slash b body is)
      | inr other ↦ ap is_empty (body_text-other b body other)
    ]

-- ---- flags

abbrev flags_agree : ℕ → Bool
flags_agree f = are_flags (flags_text f) && eqb (flags_of (flags_text f)) f

pub flags_again : (f : ℕ) → f < 8 → (are_flags (flags_text f) ≡ true) × (flags_of (flags_text f) ≡ f)
flags_again f low =
    let all : flags_agree f ≡ true = agree_below_at flags_agree (λ k. true) 8 f refl low in
    let p = and_parts (are_flags (flags_text f)) (eqb (flags_of (flags_text f)) f) all in
    (p.0, eqb-true _ _ p.1)

few : (x y z : Bool) → (if x then 1 else 0) + (if y then 2 else 0) + (if z then 4 else 0) < 8
few true true true = omega arith
few true true false = omega arith
few true false true = omega arith
few true false false = omega arith
few false true true = omega arith
few false true false = omega arith
few false false true = omega arith
few false false false = omega arith

pub flags_few : (text : Bytes) → flags_of text < 8
flags_few text = few (holds_byte 105 text) (holds_byte 109 text) (holds_byte 115 text)

-- ---- the name part of `:matches-attr` between slashes

abbrev split : Bytes → Bytes → Option Split
split front rest = Some (record { front = front; rest = rest })

up_to-on : (q b : ℕ) (odd : Bool) (text : Bytes) → (eqb b q && not odd) ≡ false → up_to q odd (b ∷ text) ≡ with_front b (up_to q (eqb b 92 && not odd) text)
up_to-on q b odd text h = ap (λ (c : Bool). if c then split (b ∷ []) text else with_front b (up_to q (eqb b 92 && not odd) text)) h

pub up_to-paired : (q b : ℕ) (text : Bytes) → up_to q true (b ∷ text) ≡ with_front b (up_to q false text)
up_to-paired q b text = up_to-on q b true text (and-false (eqb b q)) ∙ ap (λ (c : Bool). with_front b (up_to q c text)) (and-false (eqb b 92))

pub up_to-plain : (q b : ℕ) (text : Bytes) → eqb b q ≡ false → up_to q false (b ∷ text) ≡ with_front b (up_to q (eqb b 92) text)
up_to-plain q b text h = up_to-on q b false text (and_left (eqb b q) (not false) h) ∙ ap (λ (c : Bool). with_front b (up_to q c text)) (and-true (eqb b 92))

pub up_to_slash : (paired : Bool) (body rest : Bytes) → is_body paired body ≡ true → up_to 47 paired (body_text paired body ++ 47 ∷ rest) ≡ split (body_text paired body ++ 47 ∷ []) rest
up_to_slash true [] rest h = absurd (both_ways false refl h)
up_to_slash false [] rest h = refl
up_to_slash true (b ∷ body) rest h =
    up_to-paired 47 b (body_text false body ++ 47 ∷ rest) ∙ ap (with_front b) (up_to_slash false body rest (and_parts (not (eqb b 47)) (is_body false body) h).1)
up_to_slash false (b ∷ body) rest h =
    elim (cases_Bool (eqb b 47)) [
      | inl is ↦ (
          let e : b ≡ 47 = eqb-true b 47 is in
          let k : is_body false body ≡ true = ap (λ (c : ℕ). is_body (eqb c 92) body) (sym e) ∙ h in
          ap (λ (t : Bytes). up_to 47 false (t ++ 47 ∷ rest)) (body_text-slash b body is)
          ∙ ap (λ (o : Option Split). with_front 92 (with_front 47 o)) (up_to_slash false body rest k)
          ∙ ap (λ (t : Bytes). split (t ++ 47 ∷ []) rest) (sym (body_text-slash b body is)))
      | inr other ↦ (
          ap (λ (t : Bytes). up_to 47 false (t ++ 47 ∷ rest)) (body_text-other b body other)
          ∙ up_to-plain 47 b (body_text (eqb b 92) body ++ 47 ∷ rest) other
          ∙ ap (with_front b) (up_to_slash (eqb b 92) body rest h)
          ∙ ap (λ (t : Bytes). split (t ++ 47 ∷ []) rest) (sym (body_text-other b body other)))
    ]
