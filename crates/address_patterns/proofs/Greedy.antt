-- The first place where a piece of a pattern fits is as good as any other: what is left of the address behind it is longest.
use Rattle.std.proofs.Common.{◌≡◌, ◌∙◌, ◌++◌, ◌==◌, ◌||◌, ◌+◌, ℕ, suc, Bool, true, false, cond, List, [], ◌∷◌, Option, Some, None, option_and_then, length, refl, ap, sym, subst, arith, length-append, true≢false}
use Rattle.std.specs.Char.{to_ascii_lowercase}
use Rattle.std.specs.List.{list_any}
use Rattle.std.specs.Option.{option_or}
use Rattle.address_patterns.specs.Patterns.{is_border, may_end}
use Rattle.address_patterns.specs.Pieces.{first_of, piece_of, starts_by, step, tails}

-- ---- the pattern from one place on

-- whether the rest of a pattern fits behind one step
abbrev pub behind_step : (List ℕ → Bool) → Option (List ℕ) → Bool
behind_step fits None = false
behind_step fits (Some rest) = fits rest

-- the pattern fits the front of an address, where a run may take any bytes
abbrev pub fits_from : Bool → List ℕ → List ℕ → Bool
fits_from at_end [] address = may_end at_end address
fits_from at_end (item ∷ pattern) address =
    cond (item == 42) (list_any (fits_from at_end pattern) (tails address)) (behind_step (fits_from at_end pattern) (step item address))

-- what is left behind a piece: nothing of the pattern, or a run, and then the rest of the pattern anywhere
abbrev pub verdict : Bool → Option (List ℕ × List ℕ) → Bool
verdict at_end None = false
verdict at_end (Some left) = elim left.0 as (λ _. Bool) [ [] ↦ true | item ∷ pattern ↦ list_any (fits_from at_end pattern) (tails left.1) ]

pub by_piece : (at_end : Bool) (pattern address : List ℕ) → fits_from at_end pattern address ≡ verdict at_end (piece_of at_end pattern address)
by_piece at_end [] address = go (may_end at_end address)
  where
    go : (t : Bool) → t ≡ verdict at_end (cond t (Some ([], address)) None)
    go true = refl
    go false = refl
by_piece at_end (item ∷ pattern) address = go (λ rest. by_piece at_end pattern rest) (item == 42) (step item address)
  where
    go : ((rest : List ℕ) → fits_from at_end pattern rest ≡ verdict at_end (piece_of at_end pattern rest)) → (t : Bool) (o : Option (List ℕ))
        → cond t (list_any (fits_from at_end pattern) (tails address)) (behind_step (fits_from at_end pattern) o)
        ≡ verdict at_end (cond t (Some (item ∷ pattern, address)) (option_and_then (piece_of at_end pattern) o))
    go more true o = refl
    go more false None = refl
    go more false (Some rest) = more rest

-- ---- rests of rests

-- u is what is left of t behind some front
abbrev pub IsRest : List ℕ → List ℕ → Type 0
IsRest u t = (front : List ℕ) × (t ≡ front ++ u)

rest_behind : (b : ℕ) (u : List ℕ) (c : ℕ) (t : List ℕ) → IsRest (b ∷ u) (c ∷ t) → IsRest u t
rest_behind b u c t ([], e) = ([], cc)
rest_behind b u c t (d ∷ front, e) = (front ++ b ∷ [], go front (b ∷ u) cc)
  where
    go : (f : List ℕ) (v : List ℕ) → t ≡ f ++ (b ∷ u) → t ≡ (f ++ b ∷ []) ++ u
    go f v same = same ∙ sym (join f)
      where
        join : (l : List ℕ) → (l ++ b ∷ []) ++ u ≡ l ++ (b ∷ u)
        join [] = refl
        join (x ∷ l) = ap (λ r. x ∷ r) (join l)

no_rest : (b : ℕ) (u : List ℕ) → IsRest (b ∷ u) [] → ⊥
no_rest b u (front, e) = omega (arith, ap length e, length-append front (b ∷ u))

empty_rest : (t : List ℕ) → IsRest [] t
empty_rest t = (t, go t)
  where
    go : (l : List ℕ) → l ≡ l ++ []
    go [] = refl
    go (x ∷ l) = ap (λ r. x ∷ r) (go l)

-- what passes at a rest of u passes at a rest of t
any_rest : (p : List ℕ → Bool) (u front : List ℕ) → list_any p (tails u) ≡ true → list_any p (tails (front ++ u)) ≡ true
any_rest p u [] e = e
any_rest p u (b ∷ front) e = go (p (b ∷ (front ++ u))) (any_rest p u front e)
  where
    go : (t : Bool) → list_any p (tails (front ++ u)) ≡ true → (t || list_any p (tails (front ++ u))) ≡ true
    go true f = refl
    go false f = f

-- ---- one step, and a piece

step_rest : (item : ℕ) (t u t' u' : List ℕ) → IsRest u t → step item t ≡ Some t' → step item u ≡ Some u' → IsRest u' t'
step_rest item [] [] t' u' r e f = go (item == 94) e f
  where
    go : (b : Bool) → cond b (Some []) None ≡ Some t' → cond b (Some []) None ≡ Some u' → IsRest u' t'
    go true e f = ([], cc)
    go false e f = cc
step_rest item [] (c ∷ u) t' u' r e f = absurd (no_rest c u r)
step_rest item (b ∷ t) [] t' u' r e f = go (item == 94) f
  where
    go : (c : Bool) → cond c (Some []) None ≡ Some u' → IsRest u' t'
    go true f = let none : [] ≡ u' = cc in subst (λ l. IsRest l t') none (empty_rest t')
    go false f = cc
step_rest item (b ∷ t) (c ∷ u) t' u' r e f = go (cond (item == 94) (is_border b) (to_ascii_lowercase b == item)) (cond (item == 94) (is_border c) (to_ascii_lowercase c == item)) e f
  where
    go : (v w : Bool) → cond v (Some t) None ≡ Some t' → cond w (Some u) None ≡ Some u' → IsRest u' t'
    go true true e f =
        let one : t ≡ t' = cc in
        let other : u ≡ u' = cc in
        subst (λ l. IsRest l t') other (subst (λ l. IsRest u l) one (rest_behind c u b t r))
    go false w e f = cc
    go true false e f = cc

-- a piece that fits at two places leaves the same of the pattern, and behind the later place a rest of what it leaves behind
-- the earlier one
record IsLater (first later : List ℕ × List ℕ) : Type 0 where
  same : later.0 ≡ first.0
  rest : IsRest later.1 first.1

piece_rest : (at_end : Bool) (pattern t u : List ℕ) (first later : List ℕ × List ℕ) → IsRest u t
    → piece_of at_end pattern t ≡ Some first → piece_of at_end pattern u ≡ Some later → IsLater first later
piece_rest at_end [] t u first later r e f = go (may_end at_end t) (may_end at_end u) e f
  where
    go : (a b : Bool) → cond a (Some ([], t)) None ≡ Some first → cond b (Some ([], u)) None ≡ Some later → IsLater first later
    go true true e f =
        let one : ([], t) ≡ first = cc in
        let other : ([], u) ≡ later = cc in
        subst (λ l. IsLater first l) other (subst (λ l. IsLater l ([], u)) one (record { same = refl; rest = r }))
    go false b e f = cc
    go true false e f = cc
piece_rest at_end (item ∷ pattern) t u first later r e f =
    go (λ t' u' r' g h. piece_rest at_end pattern t' u' first later r' g h) (item == 42) (step item t) refl (step item u) refl e f
  where
    go : ((t' u' : List ℕ) → IsRest u' t' → piece_of at_end pattern t' ≡ Some first → piece_of at_end pattern u' ≡ Some later → IsLater first later)
        → (run : Bool) (o : Option (List ℕ)) → step item t ≡ o → (p : Option (List ℕ)) → step item u ≡ p
        → cond run (Some (item ∷ pattern, t)) (option_and_then (piece_of at_end pattern) o) ≡ Some first
        → cond run (Some (item ∷ pattern, u)) (option_and_then (piece_of at_end pattern) p) ≡ Some later → IsLater first later
    go more true o g p h e f =
        let one : (item ∷ pattern, t) ≡ first = cc in
        let other : (item ∷ pattern, u) ≡ later = cc in
        subst (λ l. IsLater first l) other (subst (λ l. IsLater l (item ∷ pattern, u)) one (record { same = refl; rest = r }))
    go more false None g p h e f = cc
    go more false (Some t') g None h e f = cc
    go more false (Some t') g (Some u') h e f = more t' u' (step_rest item t u t' u' r g h) e f

-- ---- the first place of several

-- each later one is a rest of the earlier ones
abbrev pub AreRestsOf : List ℕ → List (List ℕ) → Type 0
AreRestsOf t [] = Unit {0}
AreRestsOf t (u ∷ rests) = IsRest u t × AreRestsOf t rests

abbrev pub AreShorter : List (List ℕ) → Type 0
AreShorter [] = Unit {0}
AreShorter (t ∷ rests) = AreRestsOf t rests × AreShorter rests

-- where the earliest place fails in the end, a later one does
later_fails : (at_end : Bool) (first later : List ℕ × List ℕ) → IsLater first later → verdict at_end (Some first) ≡ false → verdict at_end (Some later) ≡ false
later_fails at_end ([], t) later is e = absurd (true≢false e)
later_fails at_end (item ∷ pattern, t) later is e = subst (λ l. verdict at_end (Some l) ≡ false) pair (go is.rest.0 is.rest.1 (list_any (fits_from at_end pattern) (tails later.1)) refl)
  where
    pair : (item ∷ pattern, later.1) ≡ later
    pair = ap (λ l. (l, later.1)) (sym is.same)

    go : (front : List ℕ) → t ≡ front ++ later.1 → (b : Bool) → list_any (fits_from at_end pattern) (tails later.1) ≡ b → list_any (fits_from at_end pattern) (tails later.1) ≡ false
    go front cut false f = f
    go front cut true f = absurd (true≢false (sym (any_rest (fits_from at_end pattern) later.1 front f) ∙ ap (λ l. list_any (fits_from at_end pattern) (tails l)) (sym cut) ∙ e))

none_later : (at_end : Bool) (pattern t : List ℕ) (first : List ℕ × List ℕ) → piece_of at_end pattern t ≡ Some first → verdict at_end (Some first) ≡ false
    → (rests : List (List ℕ)) → AreRestsOf t rests → list_any (fits_from at_end pattern) rests ≡ false
none_later at_end pattern t first e fails [] r = refl
none_later at_end pattern t first e fails (u ∷ rests) r =
    ap (λ b. b || list_any (fits_from at_end pattern) rests) (by_piece at_end pattern u ∙ go (piece_of at_end pattern u) refl)
    ∙ none_later at_end pattern t first e fails rests r.1
  where
    go : (o : Option (List ℕ × List ℕ)) → piece_of at_end pattern u ≡ o → verdict at_end (piece_of at_end pattern u) ≡ false
    go None f = ap (verdict at_end) f
    go (Some later) f = ap (verdict at_end) f ∙ later_fails at_end first later (piece_rest at_end pattern t u first later r.0 e f) fails

-- the pattern fits from one of these rests on exactly where it does so from the first one where its first piece fits
pub greedy : (at_end : Bool) (pattern : List ℕ) (rests : List (List ℕ)) → AreShorter rests
    → list_any (fits_from at_end pattern) rests ≡ verdict at_end (first_of at_end pattern rests)
greedy at_end pattern [] r = refl
greedy at_end pattern (t ∷ rests) r =
    ap (λ b. b || list_any (fits_from at_end pattern) rests) (by_piece at_end pattern t) ∙ go (greedy at_end pattern rests r.1) (piece_of at_end pattern t) refl
  where
    go : list_any (fits_from at_end pattern) rests ≡ verdict at_end (first_of at_end pattern rests) → (o : Option (List ℕ × List ℕ)) → piece_of at_end pattern t ≡ o
        → (verdict at_end (piece_of at_end pattern t) || list_any (fits_from at_end pattern) rests) ≡ verdict at_end (option_or (piece_of at_end pattern t) (first_of at_end pattern rests))
    go more None e = rw e more
    go more (Some first) e = rw e (by_verdict (verdict at_end (Some first)) refl)
      where
        by_verdict : (b : Bool) → verdict at_end (Some first) ≡ b → (verdict at_end (Some first) || list_any (fits_from at_end pattern) rests) ≡ verdict at_end (Some first)
        by_verdict true f = rw f refl
        by_verdict false f = rw (f, none_later at_end pattern t first e f rests r.0) refl

-- ---- the rests of an address, and those at places that pass

rests_more : (b : ℕ) (t : List ℕ) (rests : List (List ℕ)) → AreRestsOf t rests → AreRestsOf (b ∷ t) rests
rests_more b t [] r = tt
rests_more b t (u ∷ rests) r = ((b ∷ r.0.0, ap (λ l. b ∷ l) r.0.1), rests_more b t rests r.1)

tails_rests : (t : List ℕ) → AreRestsOf t (tails t)
tails_rests [] = (([], refl), tt)
tails_rests (b ∷ t) = (([], refl), rests_more b t (tails t) (tails_rests t))

pub tails_shorter : (t : List ℕ) → AreShorter (tails t)
tails_shorter [] = (tt, tt)
tails_shorter (b ∷ t) = (rests_more b t (tails t) (tails_rests t), tails_shorter t)

starts_rests : (passes : ℕ → Bool) (place : ℕ) (t : List ℕ) → AreRestsOf t (starts_by passes place t)
starts_rests passes place [] = go (passes place)
  where
    go : (b : Bool) → AreRestsOf [] (cond b ([] ∷ []) [])
    go true = (([], refl), tt)
    go false = tt
starts_rests passes place (c ∷ t) = go (starts_rests passes (place + 1) t) (passes place)
  where
    go : AreRestsOf t (starts_by passes (place + 1) t) → (b : Bool) → AreRestsOf (c ∷ t) (cond b ((c ∷ t) ∷ starts_by passes (place + 1) t) (starts_by passes (place + 1) t))
    go more true = (([], refl), rests_more c t (starts_by passes (place + 1) t) more)
    go more false = rests_more c t (starts_by passes (place + 1) t) more

pub starts_shorter : (passes : ℕ → Bool) (place : ℕ) (t : List ℕ) → AreShorter (starts_by passes place t)
starts_shorter passes place [] = go (passes place)
  where
    go : (b : Bool) → AreShorter (cond b ([] ∷ []) [])
    go true = (tt, tt)
    go false = tt
starts_shorter passes place (c ∷ t) = go (starts_shorter passes (place + 1) t) (passes place)
  where
    go : AreShorter (starts_by passes (place + 1) t) → (b : Bool) → AreShorter (cond b ((c ∷ t) ∷ starts_by passes (place + 1) t) (starts_by passes (place + 1) t))
    go more true = (rests_more c t (starts_by passes (place + 1) t) (starts_rests passes (place + 1) t), more)
    go more false = more

-- what is left behind the first piece that fits after a run
pub after_run : (at_end : Bool) (item : ℕ) (pattern address : List ℕ)
    → verdict at_end (Some (item ∷ pattern, address)) ≡ verdict at_end (first_of at_end pattern (tails address))
after_run at_end item pattern address = greedy at_end pattern (tails address) (tails_shorter address)
