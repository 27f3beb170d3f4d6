-- A scan through a front of a text: what it meets on the way, and how it stands behind it.
use Rattle.std.proofs.Common.{◌≡◌, ℕ, zero, suc, ◌+◌, Bool, true, false, not, eqb, leb, ◌&&◌, ◌||◌, List, [], ◌∷◌, ◌++◌, length, length-append, Option, Some, None, if◌then◌else◌, refl, sym, ap, ◌∙◌, append_assoc, append-nil, arith, inl, inr}
use Rattle.std.specs.List.{list_all}
use Rattle.std.proofs.lemmas.Bool.{cases_Bool, and_parts, and_from, and_left, and_right, not-true, or_parts, lt-ltb}
use Rattle.cos_source.specs.Spaces.{is_space}
use Rattle.selector_spelling.specs.declared.open.Open.{Open}
use Rattle.selector_spelling.specs.declared.open.Open.TheVariants.{Selector, Raw, Round, Square, DoubleQuote, SingleQuote}
use Rattle.selector_spelling.specs.Bytes.{Bytes, begins_with, front, behind, is_empty, is_pseudo_byte, is_quote, colon, backslash, round_open, round_close, square_open, square_close}
use Rattle.selector_spelling.specs.Scan.{Scan, standing, bare, is_bare, innermost, closes_wrongly, is_wrong, is_selector, behind_name, behind_colon, in_pieces, inside, step, within, is_closed, unbalanced, too_nested, is_too_deep, unless_skipped}
use Rattle.selector_spelling.specs.Cuts.{is_comma, is_sign}

-- the scan behind a front of a text
abbrev pub over : Scan → Bytes → Bytes → Scan
over s [] rest = s
over s (b ∷ used) rest = over (step s b (used ++ rest)) used rest

pub over-append : (s : Scan) (a b rest : Bytes) → over s (a ++ b) rest ≡ over (over s a (b ++ rest)) b rest
over-append s [] b rest = refl
over-append s (c ∷ a) b rest =
    ap (λ (t : Bytes). over (step s c t) (a ++ b) rest) (append_assoc a b rest) ∙ over-append (step s c (a ++ (b ++ rest))) a b rest

-- ---- balance and depth

-- a piece whose argument is a selector at level 17, where k levels are around the text
abbrev pub is_deep : ℕ → Scan → ℕ → Bytes → Bool
is_deep k s b text =
    eqb s.skip 0 && eqb b colon && leb 16 (k + length s.stack) && list_all is_selector s.stack && is_selector (behind_colon s.stack text).next

-- neither balance nor depth fails in the front
abbrev pub is_sound : ℕ → Scan → Bytes → Bytes → Bool
is_sound k s [] rest = true
is_sound k s (b ∷ used) rest = not (is_wrong s b) && not (is_deep k s b (used ++ rest)) && is_sound k (step s b (used ++ rest)) used rest

pub sound-append : (k : ℕ) (s : Scan) (a b rest : Bytes) → is_sound k s a (b ++ rest) ≡ true → is_sound k (over s a (b ++ rest)) b rest ≡ true → is_sound k s (a ++ b) rest ≡ true
sound-append k s [] b rest h g = g
sound-append k s (c ∷ a) b rest h g =
    let here : Bytes → Bool = λ (t : Bytes). not (is_wrong s c) && not (is_deep k s c t) in
    let q = and_parts (here (a ++ (b ++ rest))) (is_sound k (step s c (a ++ (b ++ rest))) a (b ++ rest)) h in
    and_from (here ((a ++ b) ++ rest)) (is_sound k (step s c ((a ++ b) ++ rest)) (a ++ b) rest)
    (ap here (append_assoc a b rest) ∙ q.0)
    (ap (λ (t : Bytes). is_sound k (step s c t) (a ++ b) rest) (append_assoc a b rest) ∙ sound-append k (step s c (a ++ (b ++ rest))) a b rest q.1 g)

-- ---- cuts

-- a comma, a sign, or white space
abbrev pub is_cut : ℕ → Bool
is_cut b = is_comma b || is_sign b || is_space b

-- no bare byte of the front is one
abbrev pub is_uncut : Scan → Bytes → Bytes → Bool
is_uncut s [] rest = true
is_uncut s (b ∷ used) rest = not (is_bare s && is_cut b) && is_uncut (step s b (used ++ rest)) used rest

pub uncut-append : (s : Scan) (a b rest : Bytes) → is_uncut s a (b ++ rest) ≡ true → is_uncut (over s a (b ++ rest)) b rest ≡ true → is_uncut s (a ++ b) rest ≡ true
uncut-append s [] b rest h g = g
uncut-append s (c ∷ a) b rest h g =
    let here : Bool = not (is_bare s && is_cut c) in
    let q = and_parts here (is_uncut (step s c (a ++ (b ++ rest))) a (b ++ rest)) h in
    and_from here (is_uncut (step s c ((a ++ b) ++ rest)) (a ++ b) rest) q.0
    (ap (λ (t : Bytes). is_uncut (step s c t) (a ++ b) rest) (append_assoc a b rest) ∙ uncut-append (step s c (a ++ (b ++ rest))) a b rest q.1 g)

-- ---- fronts that leave nothing open

-- before this rest, a front with k levels around it is balanced, not too deep, and leaves nothing open
pub record IsSound (k : ℕ) (used rest : Bytes) : Type 0 where
  pub sound : is_sound k bare used rest ≡ true
  pub ends : over bare used rest ≡ bare

-- and it isn't cut
pub record IsClosed (k : ℕ) (used rest : Bytes) : Type 0 where
  pub sound : is_sound k bare used rest ≡ true
  pub uncut : is_uncut bare used rest ≡ true
  pub ends : over bare used rest ≡ bare

pub closed_sound : (k : ℕ) (used rest : Bytes) → IsClosed k used rest → IsSound k used rest
closed_sound k used rest c = record { sound = c.sound; ends = c.ends }

pub IsSound-append : (k : ℕ) (a b rest : Bytes) → IsSound k a (b ++ rest) → IsSound k b rest → IsSound k (a ++ b) rest
IsSound-append k a b rest x y = record {
  sound = sound-append k bare a b rest x.sound (ap (λ (s : Scan). is_sound k s b rest) x.ends ∙ y.sound);
  ends = over-append bare a b rest ∙ ap (λ (s : Scan). over s b rest) x.ends ∙ y.ends;
}

pub IsClosed-append : (k : ℕ) (a b rest : Bytes) → IsClosed k a (b ++ rest) → IsClosed k b rest → IsClosed k (a ++ b) rest
IsClosed-append k a b rest x y = record {
  sound = sound-append k bare a b rest x.sound (ap (λ (s : Scan). is_sound k s b rest) x.ends ∙ y.sound);
  uncut = uncut-append bare a b rest x.uncut (ap (λ (s : Scan). is_uncut s b rest) x.ends ∙ y.uncut);
  ends = over-append bare a b rest ∙ ap (λ (s : Scan). over s b rest) x.ends ∙ y.ends;
}

pub IsSound-nil : (k : ℕ) (rest : Bytes) → IsSound k [] rest
IsSound-nil k rest = record { sound = refl; ends = refl }

pub IsClosed-nil : (k : ℕ) (rest : Bytes) → IsClosed k [] rest
IsClosed-nil k rest = record { sound = refl; uncut = refl; ends = refl }

-- ---- inside an argument that is no selector

abbrev pub is_other : Option Open → Bool
is_other None = false
is_other (Some Selector) = false
is_other (Some Raw) = true
is_other (Some Round) = true
is_other (Some Square) = true
is_other (Some DoubleQuote) = true
is_other (Some SingleQuote) = true

-- something but a selector is open before each byte of the front, and no bracket closes wrongly
abbrev pub is_kept : Scan → Bytes → Bytes → Bool
is_kept s [] rest = true
is_kept s (b ∷ used) rest = is_other (innermost s.stack) && not (is_wrong s b) && is_kept (step s b (used ++ rest)) used rest

pub kept-append : (s : Scan) (a b rest : Bytes) → is_kept s a (b ++ rest) ≡ true → is_kept (over s a (b ++ rest)) b rest ≡ true → is_kept s (a ++ b) rest ≡ true
kept-append s [] b rest h g = g
kept-append s (c ∷ a) b rest h g =
    let here : Bool = is_other (innermost s.stack) && not (is_wrong s c) in
    let q = and_parts here (is_kept (step s c (a ++ (b ++ rest))) a (b ++ rest)) h in
    and_from here (is_kept (step s c ((a ++ b) ++ rest)) (a ++ b) rest) q.0
    (ap (λ (t : Bytes). is_kept (step s c t) (a ++ b) rest) (append_assoc a b rest) ∙ kept-append (step s c (a ++ (b ++ rest))) a b rest q.1 g)

-- before this rest, a front within such brackets leaves them open, and nothing else
pub record IsKept (stack : List Open) (used rest : Bytes) : Type 0 where
  pub kept : is_kept (standing stack) used rest ≡ true
  pub ends : over (standing stack) used rest ≡ standing stack

pub IsKept-append : (stack : List Open) (a b rest : Bytes) → IsKept stack a (b ++ rest) → IsKept stack b rest → IsKept stack (a ++ b) rest
IsKept-append stack a b rest x y = record {
  kept = kept-append (standing stack) a b rest x.kept (ap (λ (s : Scan). is_kept s b rest) x.ends ∙ y.kept);
  ends = over-append (standing stack) a b rest ∙ ap (λ (s : Scan). over s b rest) x.ends ∙ y.ends;
}

pub IsKept-nil : (stack : List Open) (rest : Bytes) → IsKept stack [] rest
IsKept-nil stack rest = record { kept = refl; ends = refl }

other_not_bare : (stack : List Open) → is_other (innermost stack) ≡ true → is_empty stack ≡ false
other_not_bare [] h = sym h
other_not_bare (o ∷ others) h = refl

other_no_selectors : (stack : List Open) → is_other (innermost stack) ≡ true → list_all is_selector stack ≡ false
other_no_selectors [] h = sym h
other_no_selectors (Selector ∷ others) h = cc
other_no_selectors (Raw ∷ others) h = refl
other_no_selectors (Round ∷ others) h = refl
other_no_selectors (Square ∷ others) h = refl
other_no_selectors (DoubleQuote ∷ others) h = refl
other_no_selectors (SingleQuote ∷ others) h = refl

pub not_deep : (k : ℕ) (s : Scan) (b : ℕ) (text : Bytes) → list_all is_selector s.stack ≡ false → is_deep k s b text ≡ false
not_deep k s b text h =
    and_left (eqb s.skip 0 && eqb b colon && leb 16 (k + length s.stack) && list_all is_selector s.stack) (is_selector (behind_colon s.stack text).next)
    (and_right (eqb s.skip 0 && eqb b colon && leb 16 (k + length s.stack)) (list_all is_selector s.stack) h)

pub kept_sound : (k : ℕ) (s : Scan) (used rest : Bytes) → is_kept s used rest ≡ true → is_sound k s used rest ≡ true
kept_sound k s [] rest h = refl
kept_sound k s (b ∷ used) rest h =
    let q = and_parts (is_other (innermost s.stack) && not (is_wrong s b)) (is_kept (step s b (used ++ rest)) used rest) h in
    let p = and_parts (is_other (innermost s.stack)) (not (is_wrong s b)) q.0 in
    and_from (not (is_wrong s b) && not (is_deep k s b (used ++ rest))) (is_sound k (step s b (used ++ rest)) used rest)
    (and_from (not (is_wrong s b)) (not (is_deep k s b (used ++ rest))) p.1 (ap not (not_deep k s b (used ++ rest) (other_no_selectors s.stack p.0))))
    (kept_sound k (step s b (used ++ rest)) used rest q.1)

pub kept_uncut : (s : Scan) (used rest : Bytes) → is_kept s used rest ≡ true → is_uncut s used rest ≡ true
kept_uncut s [] rest h = refl
kept_uncut s (b ∷ used) rest h =
    let q = and_parts (is_other (innermost s.stack) && not (is_wrong s b)) (is_kept (step s b (used ++ rest)) used rest) h in
    let p = and_parts (is_other (innermost s.stack)) (not (is_wrong s b)) q.0 in
    let e : is_bare s ≡ false = and_left (is_empty s.stack) (eqb s.skip 0) (other_not_bare s.stack p.0) in
    and_from (not (is_bare s && is_cut b)) (is_uncut (step s b (used ++ rest)) used rest)
    (ap not (and_left (is_bare s) (is_cut b) e))
    (kept_uncut (step s b (used ++ rest)) used rest q.1)

other_at : (s : Scan) (used rest : Bytes) → is_kept s used rest ≡ true → is_other (innermost (over s used rest).stack) ≡ true → is_other (innermost s.stack) ≡ true
other_at s [] rest h g = g
other_at s (b ∷ used) rest h g =
    (and_parts (is_other (innermost s.stack)) (not (is_wrong s b))
    (and_parts (is_other (innermost s.stack) && not (is_wrong s b)) (is_kept (step s b (used ++ rest)) used rest) h).0).0

within-step : (s : Scan) (b : ℕ) (text : Bytes) → is_bare (step s b text) ≡ false → within s (b ∷ text) ≡ b ∷ within (step s b text) text
within-step s b text h = rw h refl

-- what stands before the closing bracket goes on through the front
within-kept : (s : Scan) (used rest : Bytes) → is_kept s used rest ≡ true → is_other (innermost (over s used rest).stack) ≡ true → within s (used ++ rest) ≡ used ++ within (over s used rest) rest
within-kept s [] rest h g = refl
within-kept s (b ∷ used) rest h g =
    let next = step s b (used ++ rest) in
    let q = and_parts (is_other (innermost s.stack) && not (is_wrong s b)) (is_kept next used rest) h in
    let e : is_bare next ≡ false = and_left (is_empty next.stack) (eqb next.skip 0) (other_not_bare next.stack (other_at next used rest q.1 g)) in
    within-step s b (used ++ rest) e ∙ ap (λ (t : Bytes). b ∷ t) (within-kept next used rest q.1 g)

-- an argument is what stands before the bracket that closes it
pub within_argument : (o : Open) (close : ℕ) (used rest : Bytes) → is_other (Some o) ≡ true → IsKept (o ∷ []) used (close ∷ rest) → is_bare (step (standing (o ∷ [])) close rest) ≡ true
    → within (standing (o ∷ [])) (used ++ close ∷ rest) ≡ used
within_argument o close used rest other kept closes =
    let last : within (standing (o ∷ [])) (close ∷ rest) ≡ [] = rw closes refl in
    within-kept (standing (o ∷ [])) used (close ∷ rest) kept.kept (ap (λ (s : Scan). is_other (innermost s.stack)) kept.ends ∙ other)
    ∙ ap (λ (s : Scan). used ++ within s (close ∷ rest)) kept.ends
    ∙ ap (λ (t : Bytes). used ++ t) last
    ∙ append-nil used

-- and a bracket closes it
pub closed_by : (o : Open) (close : ℕ) (used rest : Bytes) → within (standing (o ∷ [])) (used ++ close ∷ rest) ≡ used → is_closed (standing (o ∷ [])) (used ++ close ∷ rest) ≡ true
closed_by o close used rest inside = lt-ltb _ _ (omega (arith, ap length inside, length-append used (close ∷ rest)))

-- ---- inside a selector argument

abbrev pub lift : Scan → Scan
lift s = record { stack = s.stack ++ Selector ∷ []; skip = s.skip; next = s.next }

pub pushed : {A B : Type 0} (f : A → B) (c : Bool) (x y : A) (u v : B) → f x ≡ u → f y ≡ v → f (if c then x else y) ≡ (if c then u else v)
pushed f true x y u v h g = h
pushed f false x y u v h g = g

name-lift : (stack : List Open) (name text : Bytes) → lift (behind_name stack name text) ≡ behind_name (stack ++ Selector ∷ []) name text
name-lift stack name [] = refl
name-lift stack name (b ∷ text) = pushed lift (eqb b round_open) _ _ _ _ refl refl

colon-lift : (stack : List Open) (text : Bytes) → lift (behind_colon stack text) ≡ behind_colon (stack ++ Selector ∷ []) text
colon-lift stack text = pushed lift (begins_with colon text) _ _ _ _ refl (name-lift stack (front is_pseudo_byte text) (behind is_pseudo_byte text))

closing_apart : (b : ℕ) (x y : Scan) → (eqb b round_close || eqb b square_close) ≡ false → lift (if eqb b round_close || eqb b square_close then x else standing []) ≡ (if eqb b round_close || eqb b square_close then y else standing (Selector ∷ []))
closing_apart b x y h = rw h refl

pieces-lift-nil : (next : Open) (b : ℕ) (text : Bytes) → (eqb b round_close || eqb b square_close) ≡ false
    → lift (in_pieces (record { stack = []; skip = 0; next = next }) b text) ≡ in_pieces (record { stack = Selector ∷ []; skip = 0; next = next }) b text
pieces-lift-nil next b text h =
    pushed lift (eqb b colon) _ _ _ _ (colon-lift [] text)
    (pushed lift (eqb b round_open) _ _ _ _ refl
    (pushed lift (eqb b square_open) _ _ _ _ refl
    (pushed lift (is_quote b) _ _ _ _ refl
    (closing_apart b (standing []) (standing []) h))))

pieces-lift : (o : Open) (stack : List Open) (next : Open) (b : ℕ) (text : Bytes)
    → lift (in_pieces (record { stack = o ∷ stack; skip = 0; next = next }) b text) ≡ in_pieces (record { stack = o ∷ (stack ++ Selector ∷ []); skip = 0; next = next }) b text
pieces-lift o stack next b text =
    pushed lift (eqb b colon) _ _ _ _ (colon-lift (o ∷ stack) text)
    (pushed lift (eqb b round_open) _ _ _ _ refl
    (pushed lift (eqb b square_open) _ _ _ _ refl
    (pushed lift (is_quote b) _ _ _ _ refl
    (pushed lift (eqb b round_close || eqb b square_close) _ _ _ _ refl refl))))

inside-lift : (stack : List Open) (next : Open) (b : ℕ) (text : Bytes) → closes_wrongly (innermost stack) b ≡ false
    → lift (inside (innermost stack) (record { stack = stack; skip = 0; next = next }) b text)
    ≡ inside (innermost (stack ++ Selector ∷ [])) (record { stack = stack ++ Selector ∷ []; skip = 0; next = next }) b text
inside-lift [] next b text h = pieces-lift-nil next b text h
inside-lift (Selector ∷ stack) next b text h = pieces-lift Selector stack next b text
inside-lift (Round ∷ stack) next b text h = pieces-lift Round stack next b text
inside-lift (Raw ∷ stack) next b text h = pushed lift (eqb b round_open) _ _ _ _ refl (pushed lift (eqb b round_close) _ _ _ _ refl refl)
inside-lift (Square ∷ stack) next b text h = pushed lift (is_quote b) _ _ _ _ refl (pushed lift (eqb b square_close) _ _ _ _ refl refl)
inside-lift (DoubleQuote ∷ stack) next b text h = pushed lift (eqb b 34) _ _ _ _ refl refl
inside-lift (SingleQuote ∷ stack) next b text h = pushed lift (eqb b 39) _ _ _ _ refl refl

step-lift-at : (stack : List Open) (skip : ℕ) (next : Open) (b : ℕ) (text : Bytes) → (eqb skip 0 && closes_wrongly (innermost stack) b) ≡ false
    → lift (unless_skipped skip (record { stack = stack; skip = skip; next = next }) b text) ≡ unless_skipped skip (record { stack = stack ++ Selector ∷ []; skip = skip; next = next }) b text
step-lift-at stack (suc n) next b text h = refl
step-lift-at stack zero next b text h = pushed lift (eqb b backslash) _ _ _ _ refl (inside-lift stack next b text h)

pub step-lift : (s : Scan) (b : ℕ) (text : Bytes) → is_wrong s b ≡ false → lift (step s b text) ≡ step (lift s) b text
step-lift s b text h = step-lift-at s.stack s.skip s.next b text h

wrong-lift-at : (stack : List Open) (b : ℕ) → closes_wrongly (innermost stack) b ≡ false → closes_wrongly (innermost (stack ++ Selector ∷ [])) b ≡ false
wrong-lift-at [] b h = (or_parts (eqb b round_close) (eqb b square_close) h).1
wrong-lift-at (o ∷ stack) b h = h

unskipped : (x y : Bool) → y ≡ true → (x && y) ≡ false → x ≡ false
unskipped true y h g = sym h ∙ g
unskipped false y h g = refl

wrong-lift : (s : Scan) (b : ℕ) → is_wrong s b ≡ false → is_wrong (lift s) b ≡ false
wrong-lift s b h =
    elim (cases_Bool (closes_wrongly (innermost s.stack) b)) [
      | inl wrong ↦ and_left (eqb s.skip 0) (closes_wrongly (innermost (s.stack ++ Selector ∷ [])) b) (unskipped (eqb s.skip 0) (closes_wrongly (innermost s.stack) b) wrong h)
      | inr right ↦ and_right (eqb s.skip 0) (closes_wrongly (innermost (s.stack ++ Selector ∷ [])) b) (wrong-lift-at s.stack b right)
    ]

all-lift : (stack : List Open) → list_all is_selector (stack ++ Selector ∷ []) ≡ list_all is_selector stack
all-lift [] = refl
all-lift (o ∷ stack) = ap (λ (x : Bool). is_selector o && x) (all-lift stack)

deep-lift : (k : ℕ) (s : Scan) (b : ℕ) (text : Bytes) → is_deep k (lift s) b text ≡ is_deep (k + 1) s b text
deep-lift k s b text =
    let n : k + length (s.stack ++ Selector ∷ []) ≡ k + 1 + length s.stack = omega (arith, length-append s.stack (Selector ∷ [])) in
    ap (λ (m : ℕ). eqb s.skip 0 && eqb b colon && leb 16 m && list_all is_selector (s.stack ++ Selector ∷ []) && is_selector (behind_colon (s.stack ++ Selector ∷ []) text).next) n
    ∙ ap (λ (x : Bool). eqb s.skip 0 && eqb b colon && leb 16 (k + 1 + length s.stack) && x && is_selector (behind_colon (s.stack ++ Selector ∷ []) text).next) (all-lift s.stack)
    ∙ ap (λ (t : Scan). eqb s.skip 0 && eqb b colon && leb 16 (k + 1 + length s.stack) && list_all is_selector s.stack && is_selector t.next) (sym (colon-lift s.stack text))

pub sound-lift : (k : ℕ) (s : Scan) (used rest : Bytes) → is_sound (k + 1) s used rest ≡ true → is_sound k (lift s) used rest ≡ true
sound-lift k s [] rest h = refl
sound-lift k s (b ∷ used) rest h =
    let text = used ++ rest in
    let q = and_parts (not (is_wrong s b) && not (is_deep (k + 1) s b text)) (is_sound (k + 1) (step s b text) used rest) h in
    let p = and_parts (not (is_wrong s b)) (not (is_deep (k + 1) s b text)) q.0 in
    let right : is_wrong s b ≡ false = not-true (is_wrong s b) p.0 in
    and_from (not (is_wrong (lift s) b) && not (is_deep k (lift s) b text)) (is_sound k (step (lift s) b text) used rest)
    (and_from (not (is_wrong (lift s) b)) (not (is_deep k (lift s) b text)) (ap not (wrong-lift s b right)) (ap not (deep-lift k s b text) ∙ p.1))
    (ap (λ (t : Scan). is_sound k t used rest) (sym (step-lift s b text right)) ∙ sound-lift k (step s b text) used rest q.1)

pub over-lift : (k : ℕ) (s : Scan) (used rest : Bytes) → is_sound k s used rest ≡ true → over (lift s) used rest ≡ lift (over s used rest)
over-lift k s [] rest h = refl
over-lift k s (b ∷ used) rest h =
    let text = used ++ rest in
    let q = and_parts (not (is_wrong s b) && not (is_deep k s b text)) (is_sound k (step s b text) used rest) h in
    let p = and_parts (not (is_wrong s b)) (not (is_deep k s b text)) q.0 in
    ap (λ (t : Scan). over t used rest) (sym (step-lift s b text (not-true (is_wrong s b) p.0))) ∙ over-lift k (step s b text) used rest q.1

lift_not_empty : (stack : List Open) → is_empty (stack ++ Selector ∷ []) ≡ false
lift_not_empty [] = refl
lift_not_empty (o ∷ stack) = refl

lift_not_bare : (s : Scan) → is_bare (lift s) ≡ false
lift_not_bare s = and_left (is_empty (s.stack ++ Selector ∷ [])) (eqb s.skip 0) (lift_not_empty s.stack)

pub uncut-lift : (k : ℕ) (s : Scan) (used rest : Bytes) → is_sound k s used rest ≡ true → is_uncut (lift s) used rest ≡ true
uncut-lift k s [] rest h = refl
uncut-lift k s (b ∷ used) rest h =
    let text = used ++ rest in
    let q = and_parts (not (is_wrong s b) && not (is_deep k s b text)) (is_sound k (step s b text) used rest) h in
    let p = and_parts (not (is_wrong s b)) (not (is_deep k s b text)) q.0 in
    and_from (not (is_bare (lift s) && is_cut b)) (is_uncut (step (lift s) b text) used rest)
    (ap not (and_left (is_bare (lift s)) (is_cut b) (lift_not_bare s)))
    (ap (λ (t : Scan). is_uncut t used rest) (sym (step-lift s b text (not-true (is_wrong s b) p.0))) ∙ uncut-lift k (step s b text) used rest q.1)

within-lift : (k : ℕ) (s : Scan) (used rest : Bytes) → is_sound k s used rest ≡ true → within (lift s) (used ++ rest) ≡ used ++ within (lift (over s used rest)) rest
within-lift k s [] rest h = refl
within-lift k s (b ∷ used) rest h =
    let text = used ++ rest in
    let q = and_parts (not (is_wrong s b) && not (is_deep k s b text)) (is_sound k (step s b text) used rest) h in
    let p = and_parts (not (is_wrong s b)) (not (is_deep k s b text)) q.0 in
    let e = step-lift s b text (not-true (is_wrong s b) p.0) in
    let f : is_bare (step (lift s) b text) ≡ false = ap is_bare (sym e) ∙ lift_not_bare (step s b text) in
    within-step (lift s) b text f ∙ ap (λ (t : Scan). b ∷ within t text) (sym e) ∙ ap (λ (t : Bytes). b ∷ t) (within-lift k (step s b text) used rest q.1)

-- a selector argument is what stands before the bracket that closes it
pub within_selector : (k : ℕ) (used rest : Bytes) → IsSound k used (round_close ∷ rest) → within (standing (Selector ∷ [])) (used ++ round_close ∷ rest) ≡ used
within_selector k used rest h =
    within-lift k bare used (round_close ∷ rest) h.sound ∙ ap (λ (s : Scan). used ++ within (lift s) (round_close ∷ rest)) h.ends ∙ append-nil used

-- ---- whole texts

pub balanced : (k : ℕ) (s : Scan) (used : Bytes) (outermost place : ℕ) → is_sound k s used [] ≡ true → is_bare (over s used []) ≡ true → unbalanced s outermost place used ≡ None
balanced k s [] outermost place h ends = rw ends refl
balanced k s (b ∷ used) outermost place h ends =
    let e : used ++ [] ≡ used = append-nil used in
    let q = and_parts (not (is_wrong s b) && not (is_deep k s b (used ++ []))) (is_sound k (step s b (used ++ [])) used []) h in
    let p = and_parts (not (is_wrong s b)) (not (is_deep k s b (used ++ []))) q.0 in
    let right : is_wrong s b ≡ false = not-true (is_wrong s b) p.0 in
    rw right (balanced k (step s b used) used (if is_bare s then place else outermost) (place + 1)
    (ap (λ (t : Bytes). is_sound k (step s b t) used []) (sym e) ∙ q.1) (ap (λ (t : Bytes). is_bare (over (step s b t) used [])) (sym e) ∙ ends))

swapped : (x y : Bool) → (x && y) ≡ (y && x)
swapped true true = refl
swapped true false = refl
swapped false true = refl
swapped false false = refl

pub not_too_nested : (s : Scan) (used : Bytes) (place : ℕ) → is_sound 0 s used [] ≡ true → too_nested s place used ≡ None
not_too_nested s [] place h = refl
not_too_nested s (b ∷ used) place h =
    let e : used ++ [] ≡ used = append-nil used in
    let q = and_parts (not (is_wrong s b) && not (is_deep 0 s b (used ++ []))) (is_sound 0 (step s b (used ++ [])) used []) h in
    let p = and_parts (not (is_wrong s b)) (not (is_deep 0 s b (used ++ []))) q.0 in
    let zero_more : 0 + length s.stack ≡ length s.stack = omega arith in
    let right : is_too_deep s b used ≡ false =
    ap (λ (x : Bool). x && leb 16 (length s.stack) && list_all is_selector s.stack && is_selector (behind_colon s.stack used).next) (swapped (eqb b colon) (eqb s.skip 0))
    ∙ ap (λ (n : ℕ). eqb s.skip 0 && eqb b colon && leb 16 n && list_all is_selector s.stack && is_selector (behind_colon s.stack used).next) (sym zero_more)
    ∙ ap (is_deep 0 s b) (sym e) ∙ not-true (is_deep 0 s b (used ++ [])) p.1 in
    rw right (not_too_nested (step s b used) used (place + 1) (ap (λ (t : Bytes). is_sound 0 (step s b t) used []) (sym e) ∙ q.1))
