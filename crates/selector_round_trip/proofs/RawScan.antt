-- A scan through a raw argument that is balanced in itself.
use Rattle.std.proofs.Common.{◌≡◌, ℕ, zero, suc, ◌+◌, ◌-◌, Bool, true, false, not, eqb, ltb, ◌&&◌, ◌||◌, List, [], ◌∷◌, ◌++◌, length, take, drop, Option, Some, if◌then◌else◌, refl, sym, ap, subst, ◌∙◌, arith, inl, inr}
use Rattle.std.specs.Char.{is_ascii_hexdigit}
use Rattle.std.proofs.lemmas.Bool.{cases_Bool, or_left, or_right, eqb-true, both_ways, and_parts, and_from, and_right}
use Rattle.cos_source.specs.Spaces.{is_space}
use Rattle.selector_spelling.specs.declared.open.Open.{Open}
use Rattle.selector_spelling.specs.declared.open.Open.TheVariants.{Raw, Round}
use Rattle.selector_spelling.specs.Bytes.{Bytes, front}
use Rattle.selector_spelling.specs.Names.{letter_length, escape, space_length}
use Rattle.selector_spelling.specs.Scan.{Scan, standing, at_least_one, innermost, closes_wrongly, in_raw, behind_backslash, inside, step}
use Rattle.selector_round_trip.specs.Balanced.{closes, is_balanced}
use Rattle.selector_round_trip.proofs.Scanned.{over, is_other, is_kept, IsKept}
use Rattle.selector_round_trip.proofs.Classes.{apart}

-- a byte that an escape by a number may take
abbrev pub is_skippable : ℕ → Bool
is_skippable b = is_ascii_hexdigit b || is_space b

abbrev pub are_skippable : ℕ → Bytes → Bool
are_skippable zero text = true
are_skippable (suc n) [] = true
are_skippable (suc n) (b ∷ text) = is_skippable b && are_skippable n text

space_skippable : (text : Bytes) → are_skippable (space_length text) text ≡ true
space_skippable [] = refl
space_skippable (b ∷ text) =
    elim (cases_Bool (is_space b)) [
      | inl is ↦ subst (λ (n : ℕ). are_skippable n (b ∷ text) ≡ true) (sym (ap (λ (c : Bool). if c then 1 else 0) is)) (and_from (is_skippable b) true (or_right (is_ascii_hexdigit b) (is_space b) is) refl)
      | inr other ↦ subst (λ (n : ℕ). are_skippable n (b ∷ text) ≡ true) (sym (ap (λ (c : Bool). if c then 1 else 0) other)) refl
    ]

abbrev pub number_length : ℕ → Bytes → ℕ
number_length n text = (let digits = front is_ascii_hexdigit (take n text) in length digits + space_length (drop (length digits) text))

none_length : (text : Bytes) → are_skippable (0 + space_length text) text ≡ true
none_length text = (let e : 0 + space_length text ≡ space_length text = omega arith in ap (λ (m : ℕ). are_skippable m text) e ∙ space_skippable text)

number_skippable : (n : ℕ) (text : Bytes) → are_skippable (number_length n text) text ≡ true
number_skippable zero text = none_length text
number_skippable (suc n) [] = refl
number_skippable (suc n) (b ∷ text) =
    elim (cases_Bool (is_ascii_hexdigit b)) [
      | inl hex ↦ (
          let digits = front is_ascii_hexdigit (take n text) in
          let e : number_length (suc n) (b ∷ text) ≡ suc (number_length n text) =
          ap (λ (c : Bool). length (if c then b ∷ digits else []) + space_length (drop (length (if c then b ∷ digits else [])) (b ∷ text))) hex ∙ omega arith in
          ap (λ (m : ℕ). are_skippable m (b ∷ text)) e ∙ and_from (is_skippable b) (are_skippable (number_length n text) text) (or_left (is_ascii_hexdigit b) (is_space b) hex) (number_skippable n text))
      | inr other ↦ (
          let digits = front is_ascii_hexdigit (take n text) in
          let e : number_length (suc n) (b ∷ text) ≡ 0 + space_length (b ∷ text) =
          ap (λ (c : Bool). length (if c then b ∷ digits else []) + space_length (drop (length (if c then b ∷ digits else [])) (b ∷ text))) other in
          ap (λ (m : ℕ). are_skippable m (b ∷ text)) e ∙ none_length (b ∷ text))
    ]

-- how far a scan skips behind `\`: one byte, and then none but digits and white space
pub record Skips (text : Bytes) : Type 0 where
  pub more : ℕ
  pub is : at_least_one (letter_length (escape text)) ≡ suc more
  pub skippable : are_skippable more (drop 1 text) ≡ true

skips_one : (text : Bytes) → at_least_one (letter_length (escape text)) ≡ 1 → Skips text
skips_one text h = record { more = 0; is = h; skippable = refl }

pub skips : (text : Bytes) → Skips text
skips [] = skips_one [] refl
skips (b ∷ text) =
    elim (cases_Bool (is_ascii_hexdigit b)) [
      | inl hex ↦ (
          let digits = front is_ascii_hexdigit (take 5 text) in
          let n = number_length 5 text in
          let e : letter_length (escape (b ∷ text)) ≡ suc n = rw hex (omega arith) in
          record { more = n; is = ap at_least_one e; skippable = number_skippable 5 text })
      | inr other ↦ skips_one (b ∷ text) (rw other refl)
    ]

-- ---- the scan

-- so many brackets are open within the argument
abbrev pub raws : ℕ → List Open
raws zero = Raw ∷ []
raws (suc d) = Raw ∷ raws d

abbrev pub within_raws : ℕ → ℕ → Scan
within_raws d skip = record { stack = raws d; skip = skip; next = Round }

pub raws_other : (d : ℕ) → innermost (raws d) ≡ Some Raw
raws_other zero = refl
raws_other (suc d) = refl

-- the second byte of a pair is skipped, and what may be skipped behind it
pub record Skipping (skip : ℕ) (text : Bytes) : Type 0 where
  pub more : ℕ
  pub is : skip ≡ suc more
  pub skippable : are_skippable more (drop 1 text) ≡ true

abbrev pub Stands : Bool → ℕ → Bytes → Type 0
Stands false skip text = are_skippable skip text ≡ true
Stands true skip text = Skipping skip text

record Goes (d skip : ℕ) (used rest : Bytes) : Type 0 where
  kept : is_kept (within_raws d skip) used rest ≡ true
  ends : over (within_raws d skip) used rest ≡ standing (Raw ∷ [])

pub skippable_apart : (b n : ℕ) → is_skippable b ≡ true → is_skippable n ≡ false → eqb b n ≡ false
skippable_apart b n h g = apart is_skippable b n h g

closes-plain : (d b : ℕ) (text : Bytes) → eqb b 40 ≡ false → eqb b 41 ≡ false → closes d false (b ∷ text) ≡ closes d (eqb b 92) text
closes-plain d b text x y = rw (x, y) refl

closes-open : (d b : ℕ) (text : Bytes) → eqb b 40 ≡ true → closes d false (b ∷ text) ≡ closes (suc d) false text
closes-open d b text x = rw x refl

closes-close : (d b : ℕ) (text : Bytes) → eqb b 40 ≡ false → eqb b 41 ≡ true → closes d false (b ∷ text) ≡ (ltb 0 d && closes (d - 1) false text)
closes-close d b text x y = rw (x, y) refl

-- one step, and the rest
goes_on : (d skip d2 skip2 b : ℕ) (used rest : Bytes) → step (within_raws d skip) b (used ++ rest) ≡ within_raws d2 skip2 → Goes d2 skip2 used rest → Goes d skip (b ∷ used) rest
goes_on d skip d2 skip2 b used rest e g =
    let o : (is_other (innermost (raws d)) && not (eqb skip 0 && closes_wrongly (innermost (raws d)) b)) ≡ true =
    ap (λ (i : Option Open). is_other i && not (eqb skip 0 && closes_wrongly i b)) (raws_other d) ∙ ap not (and_right (eqb skip 0) false refl) in
    record {
      kept = and_from (is_other (innermost (raws d)) && not (eqb skip 0 && closes_wrongly (innermost (raws d)) b)) (is_kept (step (within_raws d skip) b (used ++ rest)) used rest) o (ap (λ (s : Scan). is_kept s used rest) e ∙ g.kept);
      ends = ap (λ (s : Scan). over s used rest) e ∙ g.ends;
    }

pub raw-step : (d b : ℕ) (text : Bytes) → eqb b 92 ≡ false → step (within_raws d 0) b text ≡ in_raw (within_raws d 0) b
raw-step d b text h =
    ap (λ (c : Bool). if c then behind_backslash (raws d) text else inside (innermost (raws d)) (within_raws d 0) b text) h
    ∙ ap (λ (i : Option Open). inside i (within_raws d 0) b text) (raws_other d)

goes_close : (used rest : Bytes) (d b : ℕ) → eqb b 92 ≡ false → eqb b 40 ≡ false → eqb b 41 ≡ true → (ltb 0 d && closes (d - 1) false used) ≡ true
    → ((e : ℕ) → closes e false used ≡ true → Goes e 0 used (41 ∷ rest)) → Goes d 0 (b ∷ used) (41 ∷ rest)
goes_close used rest zero b plain shut closing h more = absurd (both_ways false refl h)
goes_close used rest (suc d) b plain shut closing h more =
    let n : suc d - 1 ≡ d = omega arith in
    let k : closes d false used ≡ true = ap (λ (m : ℕ). closes m false used) (sym n) ∙ (and_parts (ltb 0 (suc d)) (closes (suc d - 1) false used) h).1 in
    let f : step (within_raws (suc d) 0) b (used ++ 41 ∷ rest) ≡ within_raws d 0 = raw-step (suc d) b (used ++ 41 ∷ rest) plain ∙ rw (shut, closing) refl in
    goes_on (suc d) 0 d 0 b used (41 ∷ rest) f (more d k)

goes : (used rest : Bytes) (d skip : ℕ) (paired : Bool) → closes d paired used ≡ true → Stands paired skip (used ++ 41 ∷ rest) → Goes d skip used (41 ∷ rest)
goes [] rest d skip true h s = absurd (both_ways false refl h)
goes [] rest d zero false h s =
    let e : d ≡ 0 = eqb-true d 0 h in
    subst (λ (n : ℕ). Goes n 0 [] (41 ∷ rest)) (sym e) (record { kept = refl; ends = refl })
goes [] rest d (suc skip) false h s = absurd (both_ways false refl s)
goes (b ∷ used) rest d skip true h s =
    subst (λ (n : ℕ). Goes d n (b ∷ used) (41 ∷ rest)) (sym s.is) (goes_on d (suc s.more) d s.more b used (41 ∷ rest) refl (goes used rest d s.more false h s.skippable))
goes (b ∷ used) rest d (suc skip) false h s =
    let p = and_parts (is_skippable b) (are_skippable skip (used ++ 41 ∷ rest)) s in
    let x = skippable_apart b 40 p.0 refl in
    let y = skippable_apart b 41 p.0 refl in
    let z = skippable_apart b 92 p.0 refl in
    let k : closes d false used ≡ true = ap (λ (c : Bool). closes d c used) (sym z) ∙ sym (closes-plain d b used x y) ∙ h in
    goes_on d (suc skip) d skip b used (41 ∷ rest) refl (goes used rest d skip false k p.1)
goes (b ∷ used) rest d zero false h s =
    let text = used ++ 41 ∷ rest in
    elim (cases_Bool (eqb b 92)) [
      | inl is ↦ (
          let w = skips text in
          let e : b ≡ 92 = eqb-true b 92 is in
          let x : eqb b 40 ≡ false = ap (λ (c : ℕ). eqb c 40) e in
          let y : eqb b 41 ≡ false = ap (λ (c : ℕ). eqb c 41) e in
          let k : closes d true used ≡ true = ap (λ (c : Bool). closes d c used) (sym is) ∙ sym (closes-plain d b used x y) ∙ h in
          let n = at_least_one (letter_length (escape text)) in
          let f : step (within_raws d 0) b text ≡ within_raws d n = ap (λ (c : Bool). if c then behind_backslash (raws d) text else inside (innermost (raws d)) (within_raws d 0) b text) is in
          goes_on d 0 d n b used (41 ∷ rest) f (goes used rest d n true k (record { more = w.more; is = w.is; skippable = w.skippable })))
      | inr plain ↦ elim (cases_Bool (eqb b 40)) [
        | inl opens ↦ (
            let f : step (within_raws d 0) b text ≡ within_raws (suc d) 0 = raw-step d b text plain ∙ rw opens refl in
            goes_on d 0 (suc d) 0 b used (41 ∷ rest) f (goes used rest (suc d) 0 false (sym (closes-open d b used opens) ∙ h) refl))
        | inr shut ↦ elim (cases_Bool (eqb b 41)) [
          | inl closing ↦ goes_close used rest d b plain shut closing (sym (closes-close d b used shut closing) ∙ h) (λ e k. goes used rest e 0 false k refl)
          | inr other ↦ (
              let f : step (within_raws d 0) b text ≡ within_raws d 0 = raw-step d b text plain ∙ rw (shut, other) refl in
              let k : closes d false used ≡ true = ap (λ (c : Bool). closes d c used) (sym plain) ∙ sym (closes-plain d b used shut other) ∙ h in
              goes_on d 0 d 0 b used (41 ∷ rest) f (goes used rest d 0 false k refl))
        ]
      ]
    ]

-- a raw argument that is balanced in itself is what stands before the bracket that closes it
pub balanced_raw : (text rest : Bytes) → is_balanced text ≡ true → IsKept (Raw ∷ []) text (41 ∷ rest)
balanced_raw text rest h = (let g = goes text rest 0 0 false h refl in record { kept = g.kept; ends = g.ends })
