-- A piece `:name(..)`, and a piece `:name`: how it is scanned, and how it is read.
use Rattle.std.proofs.Common.{◌≡◌, ℕ, suc, ◌+◌, ◌-◌, ◌<◌, Bool, true, false, not, eqb, leb, ◌&&◌, ◌||◌, [], ◌∷◌, ◌++◌, length, length-append, drop, Option, Some, Result, Ok, if◌then◌else◌, refl, sym, ap, ap₂, subst, ◌∙◌, append_assoc, arith, inl, inr}
use Rattle.std.specs.List.{list_all}
use Rattle.std.specs.Str.{str_to_ascii_lowercase}
use Rattle.std.proofs.lemmas.List.{drop_at}
use Rattle.std.proofs.lemmas.Bool.{cases_Bool, or_cases, eqb-true, both_ways, and_parts, and_from, and_left, and_right, lt-leb, not-true, ne_eqb}
use Rattle.selector_tree.specs.Letters.{is_name_byte}
use Rattle.selector_spelling.specs.declared.finding.Cause.TheVariants as cause
use Rattle.selector_spelling.specs.declared.finding.Finding.{Finding}
use Rattle.selector_spelling.specs.declared.open.Open.{Open}
use Rattle.selector_spelling.specs.declared.open.Open.TheVariants.{Selector, Raw, Round, Square, DoubleQuote, SingleQuote}
use Rattle.selector_spelling.specs.declared.reading.Reading.{Reading}
use Rattle.selector_spelling.specs.declared.reading.Chains.{Chains}
use Rattle.selector_spelling.specs.declared.reading.Setting.{Setting}
use Rattle.selector_spelling.specs.Bytes.{Bytes, begins_with, front, behind, is_empty, is_pseudo_byte, colon}
use Rattle.selector_spelling.specs.Names.{begins_name}
use Rattle.selector_spelling.specs.Operators.{operator_of}
use Rattle.selector_spelling.specs.Scan.{Scan, is_selector, standing, bare, opens, step, within, is_closed, behind_name, behind_colon}
use Rattle.selector_spelling.specs.Pieces.{◌>>=◌, Piece, by_operator, with_argument, without_argument, pseudo_class, piece}
use Rattle.selector_spelling.specs.declared.operator.Operator.{Operator}
use Rattle.selector_spelling.specs.Pieces as spelled
use Rattle.selector_round_trip.proofs.Scanned.{is_deep, over, over-append, is_other, is_sound, is_uncut, sound-append, uncut-append, IsSound, IsClosed, IsClosed-nil, IsClosed-append, IsKept, closed_by, kept_sound, kept_uncut, sound-lift, uncut-lift, over-lift, lift}
use Rattle.selector_round_trip.proofs.NameScans.{is_calm, calm_closed}
use Rattle.selector_round_trip.proofs.Classes.{apart}
use Rattle.selector_round_trip.proofs.Names.{Ends}
use Rattle.selector_round_trip.proofs.Attributes.{ends_nil, ends_before}

-- what may stand behind a piece
abbrev pub is_end : ℕ → Bool
is_end b = eqb b 46 || eqb b 35 || eqb b 91 || eqb b 58 || eqb b 41 || eqb b 44 || eqb b 32

pub end_in : (P : ℕ → Type 0) → P 46 → P 35 → P 91 → P 58 → P 41 → P 44 → P 32 → (b : ℕ) → is_end b ≡ true → P b
end_in P t u v w x y z b h =
    elim (or_cases (eqb b 46 || eqb b 35 || eqb b 91 || eqb b 58 || eqb b 41 || eqb b 44) (eqb b 32) h) [
      | inr is ↦ subst P (sym (eqb-true b 32 is)) z
      | inl h ↦ elim (or_cases (eqb b 46 || eqb b 35 || eqb b 91 || eqb b 58 || eqb b 41) (eqb b 44) h) [
        | inr is ↦ subst P (sym (eqb-true b 44 is)) y
        | inl h ↦ elim (or_cases (eqb b 46 || eqb b 35 || eqb b 91 || eqb b 58) (eqb b 41) h) [
          | inr is ↦ subst P (sym (eqb-true b 41 is)) x
          | inl h ↦ elim (or_cases (eqb b 46 || eqb b 35 || eqb b 91) (eqb b 58) h) [
            | inr is ↦ subst P (sym (eqb-true b 58 is)) w
            | inl h ↦ elim (or_cases (eqb b 46 || eqb b 35) (eqb b 91) h) [
              | inr is ↦ subst P (sym (eqb-true b 91 is)) v
              | inl h ↦ elim (or_cases (eqb b 46) (eqb b 35) h) [
                | inr is ↦ subst P (sym (eqb-true b 35 is)) u
                | inl is ↦ subst P (sym (eqb-true b 46 is)) t
              ]
            ]
          ]
        ]
      ]
    ]

abbrev pub ends_piece : Bytes → Bool
ends_piece [] = true
ends_piece (b ∷ rest) = is_end b

-- ---- the name of a pseudo-class

-- no name of a pseudo-class goes on into the text
abbrev pub stops : Bytes → Bool
stops [] = true
stops (b ∷ rest) = not (is_pseudo_byte b)

front_stops : (rest : Bytes) → stops rest ≡ true → (front is_pseudo_byte rest ≡ []) × (behind is_pseudo_byte rest ≡ rest)
front_stops [] h = (refl, refl)
front_stops (b ∷ rest) h = (
    let e : is_pseudo_byte b ≡ false = not-true (is_pseudo_byte b) h in
    (ap (λ (c : Bool). if c then b ∷ front is_pseudo_byte rest else []) e, ap (λ (c : Bool). if c then behind is_pseudo_byte rest else b ∷ rest) e))

pub front_name : (n rest : Bytes) → list_all is_pseudo_byte n ≡ true → stops rest ≡ true → (front is_pseudo_byte (n ++ rest) ≡ n) × (behind is_pseudo_byte (n ++ rest) ≡ rest)
front_name [] rest h g = front_stops rest g
front_name (b ∷ n) rest h g =
    let p = and_parts (is_pseudo_byte b) (list_all is_pseudo_byte n) h in
    let more = front_name n rest p.1 g in (
      ap (λ (c : Bool). if c then b ∷ front is_pseudo_byte (n ++ rest) else []) p.0 ∙ ap (λ (t : Bytes). b ∷ t) more.0,
      ap (λ (c : Bool). if c then behind is_pseudo_byte (n ++ rest) else b ∷ (n ++ rest)) p.0 ∙ more.1,
    )

-- a name of a pseudo-class in its one spelling
pub record IsPseudo (n : Bytes) : Type 0 where
  pub bytes : list_all is_pseudo_byte n ≡ true
  pub begins : begins_name n ≡ true
  pub lower : str_to_ascii_lowercase n ≡ n
  pub some : is_empty n ≡ false

no_colon : (n rest : Bytes) → list_all is_pseudo_byte n ≡ true → is_empty n ≡ false → begins_with colon (n ++ rest) ≡ false
no_colon [] rest h some = absurd (both_ways true some refl)
no_colon (b ∷ n) rest h some = apart is_pseudo_byte b 58 (and_parts (is_pseudo_byte b) (list_all is_pseudo_byte n) h).0 refl

colon-name : (n rest : Bytes) → IsPseudo n → stops rest ≡ true → behind_colon [] (n ++ rest) ≡ behind_name [] n rest
colon-name n rest h g =
    let e = front_name n rest h.bytes g in
    ap (λ (c : Bool). if c then record { stack = []; skip = 1; next = Round } else behind_name [] (front is_pseudo_byte (n ++ rest)) (behind is_pseudo_byte (n ++ rest))) (no_colon n rest h.bytes h.some)
    ∙ ap₂ (behind_name []) e.0 e.1

-- ---- the scan of a name

abbrev skipping : Bytes → Open → Scan
skipping n o = record { stack = []; skip = length n; next = o }

skipped_over : (n rest : Bytes) (o : Open) → over (skipping n o) n rest ≡ skipping [] o
skipped_over [] rest o = refl
skipped_over (b ∷ n) rest o = skipped_over n rest o

skips : (n : ℕ) → eqb (suc n) 0 ≡ false
skips n = ne_eqb (suc n) 0 (λ e. omega arith)

skipped_sound : (k : ℕ) (n rest : Bytes) (o : Open) → is_sound k (skipping n o) n rest ≡ true
skipped_sound k [] rest o = refl
skipped_sound k (b ∷ n) rest o = (let e = skips (length n) in rw e (skipped_sound k n rest o))

skipped_uncut : (n rest : Bytes) (o : Open) → is_uncut (skipping n o) n rest ≡ true
skipped_uncut [] rest o = refl
skipped_uncut (b ∷ n) rest o = (let e = skips (length n) in rw e (skipped_uncut n rest o))

-- ---- the scan of a whole piece

abbrev pub operator_text : Bytes → Bytes → Bytes
operator_text n argument = 58 ∷ (n ++ 40 ∷ (argument ++ 41 ∷ []))

abbrev behind_operator : Bytes → Bytes → Bytes
behind_operator argument rest = (argument ++ 41 ∷ []) ++ rest

colon-operator : (n argument rest : Bytes) → IsPseudo n → behind_colon [] ((n ++ 40 ∷ (argument ++ 41 ∷ [])) ++ rest) ≡ skipping n (opens n (argument ++ 41 ∷ rest))
colon-operator n argument rest h =
    let e : (n ++ 40 ∷ (argument ++ 41 ∷ [])) ++ rest ≡ n ++ 40 ∷ (argument ++ 41 ∷ rest) = append_assoc n (40 ∷ (argument ++ 41 ∷ [])) rest ∙ ap (λ (t : Bytes). n ++ 40 ∷ t) (append_assoc argument (41 ∷ []) rest) in
    ap (behind_colon []) e ∙ colon-name n (40 ∷ (argument ++ 41 ∷ rest)) h refl
    ∙ ap (λ (m : Bytes). record { stack = []; skip = length n; next = opens m (argument ++ 41 ∷ rest) }) h.lower

-- the `:` of a piece whose argument is not too deep
shallow_step : (k : ℕ) (text : Bytes) (n : Bytes) (o : Open) → behind_colon [] text ≡ skipping n o → (leb 16 (k + 0) && is_selector o) ≡ false → is_deep k bare 58 text ≡ false
shallow_step k text n o e h =
    let x : is_selector (behind_colon [] text).next ≡ is_selector o = ap (λ (s : Scan). is_selector s.next) e in
    elim (cases_Bool (leb 16 (k + 0))) [
      | inl deep ↦ (
          let y : is_selector o ≡ false = sym (ap (λ (c : Bool). c && is_selector o) deep) ∙ h in
          and_right (leb 16 (k + 0) && true) (is_selector (behind_colon [] text).next) (x ∙ y))
      | inr low ↦ and_left (leb 16 (k + 0) && true) (is_selector (behind_colon [] text).next) (and_left (leb 16 (k + 0)) true low)
    ]

-- where the name and what is behind it are passed over from `skipping`, the whole is closed
closed_from : (k : ℕ) (n argument rest : Bytes) (o : Open) → IsPseudo n → opens n (argument ++ 41 ∷ rest) ≡ o
    → (leb 16 (k + 0) && is_selector o) ≡ false
    → is_sound k (standing (o ∷ [])) (argument ++ 41 ∷ []) rest ≡ true
    → is_uncut (standing (o ∷ [])) (argument ++ 41 ∷ []) rest ≡ true
    → over (standing (o ∷ [])) (argument ++ 41 ∷ []) rest ≡ bare
    → IsClosed k (operator_text n argument) rest
closed_from k n argument rest o h opened shallow sound uncut ends =
    let body = 40 ∷ (argument ++ 41 ∷ []) in
    let next : step bare 58 ((n ++ body) ++ rest) ≡ skipping n o = colon-operator n argument rest h ∙ ap (skipping n) opened in
    let passed : over (skipping n o) n (body ++ rest) ≡ skipping [] o = skipped_over n (body ++ rest) o in
    let s : is_sound k (skipping n o) (n ++ body) rest ≡ true = sound-append k (skipping n o) n body rest (skipped_sound k n (body ++ rest) o) (ap (λ (t : Scan). is_sound k t body rest) passed ∙ sound) in
    let u : is_uncut (skipping n o) (n ++ body) rest ≡ true = uncut-append (skipping n o) n body rest (skipped_uncut n (body ++ rest) o) (ap (λ (t : Scan). is_uncut t body rest) passed ∙ uncut) in
    let deep : is_deep k bare 58 ((n ++ body) ++ rest) ≡ false = shallow_step k ((n ++ body) ++ rest) n o (colon-operator n argument rest h ∙ ap (skipping n) opened) shallow in
    record {
      sound = and_from (not (is_deep k bare 58 ((n ++ body) ++ rest))) (is_sound k (step bare 58 ((n ++ body) ++ rest)) (n ++ body) rest) (ap not deep) (ap (λ (t : Scan). is_sound k t (n ++ body) rest) next ∙ s);
      uncut = ap (λ (t : Scan). is_uncut t (n ++ body) rest) next ∙ u;
      ends = ap (λ (t : Scan). over t (n ++ body) rest) next ∙ over-append (skipping n o) n body rest ∙ ap (λ (t : Scan). over t body rest) passed ∙ ends;
    }

-- a round bracket closes it
abbrev pub closes : Open → Bool
closes Selector = true
closes Raw = true
closes Round = true
closes Square = false
closes DoubleQuote = false
closes SingleQuote = false

last_step : (k : ℕ) (o : Open) (rest : Bytes) → closes o ≡ true → (is_sound k (standing (o ∷ [])) (41 ∷ []) rest ≡ true) × (is_uncut (standing (o ∷ [])) (41 ∷ []) rest ≡ true) × (over (standing (o ∷ [])) (41 ∷ []) rest ≡ bare)
last_step k Selector rest h = (refl, refl, refl)
last_step k Raw rest h = (refl, refl, refl)
last_step k Round rest h = (refl, refl, refl)
last_step k Square rest h = absurd (both_ways false refl h)
last_step k DoubleQuote rest h = absurd (both_ways false refl h)
last_step k SingleQuote rest h = absurd (both_ways false refl h)

other_shallow : (k : ℕ) (o : Open) → is_other (Some o) ≡ true → (leb 16 (k + 0) && is_selector o) ≡ false
other_shallow k Selector h = absurd (both_ways false refl h)
other_shallow k Raw h = and_right (leb 16 (k + 0)) false refl
other_shallow k Round h = and_right (leb 16 (k + 0)) false refl
other_shallow k Square h = and_right (leb 16 (k + 0)) false refl
other_shallow k DoubleQuote h = and_right (leb 16 (k + 0)) false refl
other_shallow k SingleQuote h = and_right (leb 16 (k + 0)) false refl

-- an argument that is no selector
pub operator_closed : (k : ℕ) (n argument rest : Bytes) (o : Open) → IsPseudo n → opens n (argument ++ 41 ∷ rest) ≡ o → is_other (Some o) ≡ true
    → IsKept (o ∷ []) argument (41 ∷ rest) → closes o ≡ true → IsClosed k (operator_text n argument) rest
operator_closed k n argument rest o h opened other kept closing =
    let s = sound-append k (standing (o ∷ [])) argument (41 ∷ []) rest (kept_sound k (standing (o ∷ [])) argument (41 ∷ rest) kept.kept) (ap (λ (t : Scan). is_sound k t (41 ∷ []) rest) kept.ends ∙ (last_step k o rest closing).0) in
    let u = uncut-append (standing (o ∷ [])) argument (41 ∷ []) rest (kept_uncut (standing (o ∷ [])) argument (41 ∷ rest) kept.kept) (ap (λ (t : Scan). is_uncut t (41 ∷ []) rest) kept.ends ∙ (last_step k o rest closing).1) in
    let e = over-append (standing (o ∷ [])) argument (41 ∷ []) rest ∙ ap (λ (t : Scan). over t (41 ∷ []) rest) kept.ends ∙ (last_step k o rest closing).2 in
    closed_from k n argument rest o h opened (other_shallow k o other) s u e

-- an argument that is one
pub selector_closed : (k : ℕ) (n argument rest : Bytes) → IsPseudo n → opens n (argument ++ 41 ∷ rest) ≡ Selector → k < 16 → IsSound (k + 1) argument (41 ∷ rest) → IsClosed k (operator_text n argument) rest
selector_closed k n argument rest h opened room inner =
    let from = standing (Selector ∷ []) in
    let behind : over from argument (41 ∷ rest) ≡ from = over-lift (k + 1) bare argument (41 ∷ rest) inner.sound ∙ ap lift inner.ends in
    let last = last_step k Selector rest refl in
    let s = sound-append k from argument (41 ∷ []) rest (sound-lift k bare argument (41 ∷ rest) inner.sound) (ap (λ (t : Scan). is_sound k t (41 ∷ []) rest) behind ∙ last.0) in
    let u = uncut-append from argument (41 ∷ []) rest (uncut-lift (k + 1) bare argument (41 ∷ rest) inner.sound) (ap (λ (t : Scan). is_uncut t (41 ∷ []) rest) behind ∙ last.1) in
    let e = over-append from argument (41 ∷ []) rest ∙ ap (λ (t : Scan). over t (41 ∷ []) rest) behind ∙ last.2 in
    let low : leb 16 (k + 0) ≡ false = lt-leb 16 (k + 0) (omega arith) in
    closed_from k n argument rest Selector h opened (and_left (leb 16 (k + 0)) true low) s u e

-- what may stand behind a piece is none of its name, and opens no argument
end_apart : (b : ℕ) → is_end b ≡ true → (is_pseudo_byte b ≡ false) × (eqb b 40 ≡ false) × (is_name_byte b ≡ false) × (eqb b 92 ≡ false)
end_apart b h =
    let p : ℕ → Type 0 = λ (c : ℕ). (is_pseudo_byte c ≡ false) × (eqb c 40 ≡ false) × (is_name_byte c ≡ false) × (eqb c 92 ≡ false) in
    end_in p (refl, refl, refl, refl) (refl, refl, refl, refl) (refl, refl, refl, refl) (refl, refl, refl, refl) (refl, refl, refl, refl) (refl, refl, refl, refl) (refl, refl, refl, refl) b h

pub end_stops : (rest : Bytes) → ends_piece rest ≡ true → stops rest ≡ true
end_stops [] h = refl
end_stops (b ∷ rest) h = ap not (end_apart b h).0

pub end_ends : (rest : Bytes) → ends_piece rest ≡ true → Ends rest
end_ends [] h = ends_nil
end_ends (b ∷ rest) h = (let e = end_apart b h in ends_before b rest e.2 e.3)

name-ends : (n rest : Bytes) → ends_piece rest ≡ true → behind_name [] n rest ≡ bare
name-ends n [] h = refl
name-ends n (b ∷ rest) h = ap (λ (c : Bool). if c then record { stack = []; skip = length n; next = opens (str_to_ascii_lowercase n) rest } else bare) (end_apart b h).1

colon_closed : (k : ℕ) (n rest : Bytes) → IsPseudo n → ends_piece rest ≡ true → IsClosed k (58 ∷ []) (n ++ rest)
colon_closed k n rest h ends =
    let e : behind_colon [] (n ++ rest) ≡ bare = colon-name n rest h (end_stops rest ends) ∙ name-ends n rest ends in
    let x : is_selector (behind_colon [] (n ++ rest)).next ≡ false = ap (λ (s : Scan). is_selector s.next) e in
    record {
      sound = ap (λ (c : Bool). not c && true) (and_right (leb 16 (k + 0) && true) (is_selector (behind_colon [] (n ++ rest)).next) x);
      uncut = refl;
      ends = e;
    }

pseudo_name_byte : (b : ℕ) → is_pseudo_byte b ≡ true → is_calm b ≡ true
pseudo_name_byte b h =
    let d = apart is_pseudo_byte b in
    rw (d 92 h refl, d 58 h refl, d 40 h refl, d 91 h refl, d 34 h refl, d 39 h refl, d 41 h refl, d 93 h refl, d 44 h refl, d 62 h refl, d 43 h refl, d 126 h refl, d 32 h refl, d 9 h refl, d 12 h refl, d 13 h refl) refl

pub pseudo_closed : (k : ℕ) (n rest : Bytes) → list_all is_pseudo_byte n ≡ true → IsClosed k n rest
pseudo_closed k [] rest h = IsClosed-nil k rest
pseudo_closed k (b ∷ n) rest h =
    let p = and_parts (is_pseudo_byte b) (list_all is_pseudo_byte n) h in
    IsClosed-append k (b ∷ []) n rest (calm_closed k b (n ++ rest) (pseudo_name_byte b p.0)) (pseudo_closed k n rest p.1)

-- a piece without an argument
pub plain_closed : (k : ℕ) (n rest : Bytes) → IsPseudo n → ends_piece rest ≡ true → IsClosed k (58 ∷ n) rest
plain_closed k n rest h ends =
    IsClosed-append k (58 ∷ []) n rest (colon_closed k n rest h ends) (pseudo_closed k n rest h.bytes)

-- ---- reading

behind_argument : (argument rest : Bytes) → drop (length argument + 1) (argument ++ 41 ∷ rest) ≡ rest
behind_argument argument rest =
    let e : argument ++ 41 ∷ rest ≡ (argument ++ 41 ∷ []) ++ rest = sym (append_assoc argument (41 ∷ []) rest) in
    let n : length argument + 1 ≡ length (argument ++ 41 ∷ []) = (omega (arith, length-append argument (41 ∷ []))) in
    ap (drop (length argument + 1)) e ∙ drop_at (argument ++ 41 ∷ []) rest (length argument + 1) (sym n)

-- what stands in a bracket that is closed is read
pub where_closed_is : {A : Type 0} (at : ℕ) (opened : Open) (text : Bytes) (read : Result A Finding) → is_closed (standing (opened ∷ [])) text ≡ true → spelled.where_closed at opened text read ≡ read
where_closed_is at opened text read h = ap (λ (c : Bool). if c then read else spelled.bad cause.Unbalanced at) h

module _ (inner : Bool → ℕ → Bytes → Result Chains Finding) (setting : Setting) (first : Bool) where
  abbrev op_piece : ℕ → ℕ → Bytes → Result Reading Finding → Result Piece Finding
  op_piece at from argument r = r >>= λ x. Ok (record { length = from - at + length argument + 1; reading = x })

  pub operator_again : (at : ℕ) (n argument rest : Bytes) (o : Operator) (r : Reading) → IsPseudo n → operator_of n ≡ Some o
      → within (standing (opens n (argument ++ 41 ∷ rest) ∷ [])) (argument ++ 41 ∷ rest) ≡ argument
      → by_operator inner setting first (is_empty rest) at (at + 1 + length n + 1) argument (Some o) ≡ Ok r
      → piece inner setting first at 58 ((n ++ 40 ∷ (argument ++ 41 ∷ [])) ++ rest) ≡ Ok (record { length = length (operator_text n argument); reading = r })
  operator_again at n argument rest o r h named inside read =
      let text = argument ++ 41 ∷ rest in
      let from = at + 1 + length n + 1 in
      let e : (n ++ 40 ∷ (argument ++ 41 ∷ [])) ++ rest ≡ n ++ 40 ∷ text = append_assoc n (40 ∷ (argument ++ 41 ∷ [])) rest ∙ ap (λ (t : Bytes). n ++ 40 ∷ t) (append_assoc argument (41 ∷ []) rest) in
      let f = front_name n (40 ∷ text) h.bytes refl in
      let left : drop (length argument + 1) text ≡ rest = behind_argument argument rest in
      let size : from - at + length argument + 1 ≡ length (operator_text n argument) = omega (arith, length-append n (40 ∷ (argument ++ 41 ∷ [])), length-append argument (41 ∷ [])) in
      ap (piece inner setting first at 58) e
      ∙ ap (λ (c : Bool). if c then spelled.pseudo_element at (drop 1 (n ++ 40 ∷ text)) else pseudo_class inner setting first at (n ++ 40 ∷ text)) (no_colon n (40 ∷ text) h.bytes h.some)
      ∙ ap₂ (λ (x y : Bytes). if begins_name x then spelled.behind_name inner setting first at (str_to_ascii_lowercase x) (at + 1 + length x) y else spelled.bad cause.BadName at) f.0 f.1
      ∙ ap (λ (c : Bool). if c then spelled.behind_name inner setting first at (str_to_ascii_lowercase n) (at + 1 + length n) (40 ∷ text) else spelled.bad cause.BadName at) h.begins
      ∙ ap (λ (m : Bytes). with_argument inner setting first at m from text) h.lower
      ∙ where_closed_is at (opens n text) text _ (closed_by (opens n text) 41 argument rest inside)
      ∙ ap (λ (a : Bytes). op_piece at from a (by_operator inner setting first (is_empty (drop (length a + 1) text)) at from a (operator_of n))) inside
      ∙ ap₂ (λ (t : Bytes) (q : Option Operator). op_piece at from argument (by_operator inner setting first (is_empty t) at from argument q)) left named
      ∙ ap (op_piece at from argument) read
      ∙ ap (λ (m : ℕ). Ok (record { length = m; reading = r })) size

  no_argument : (at : ℕ) (n : Bytes) (from : ℕ) (rest : Bytes) → ends_piece rest ≡ true → spelled.behind_name inner setting first at n from rest ≡ without_argument at n from
  no_argument at n from [] h = refl
  no_argument at n from (b ∷ rest) h = ap (λ (c : Bool). if c then with_argument inner setting first at n (from + 1) rest else without_argument at n from) (end_apart b h).1

  pub plain_again : (at : ℕ) (n rest : Bytes) (r : Reading) → IsPseudo n → ends_piece rest ≡ true → spelled.without_argument_reading at n ≡ Ok r
      → piece inner setting first at 58 (n ++ rest) ≡ Ok (record { length = length (58 ∷ n); reading = r })
  plain_again at n rest r h ends read =
      let f = front_name n rest h.bytes (end_stops rest ends) in
      let size : at + 1 + length n - at ≡ length (58 ∷ n) = omega arith in
      ap (λ (c : Bool). if c then spelled.pseudo_element at (drop 1 (n ++ rest)) else pseudo_class inner setting first at (n ++ rest)) (no_colon n rest h.bytes h.some)
      ∙ ap₂ (λ (x y : Bytes). if begins_name x then spelled.behind_name inner setting first at (str_to_ascii_lowercase x) (at + 1 + length x) y else spelled.bad cause.BadName at) f.0 f.1
      ∙ ap (λ (c : Bool). if c then spelled.behind_name inner setting first at (str_to_ascii_lowercase n) (at + 1 + length n) rest else spelled.bad cause.BadName at) h.begins
      ∙ ap (λ (m : Bytes). spelled.behind_name inner setting first at m (at + 1 + length n) rest) h.lower
      ∙ no_argument at n (at + 1 + length n) rest ends
      ∙ ap (λ (x : Result Reading Finding). x >>= λ y. Ok (record { length = at + 1 + length n - at; reading = y })) read
      ∙ ap (λ (m : ℕ). Ok (record { length = m; reading = r })) size
