-- A pattern fits an address by cuts exactly where it does so byte by byte.
use Rattle.std.proofs.Common.{◌≡◌, ◌∙◌, ◌++◌, ◌==◌, ◌&&◌, ◌||◌, ◌+◌, ℕ, suc, zero, Bool, true, false, cond, List, [], ◌∷◌, map, Option, Some, None, length, refl, ap, ap₂, sym, subst, arith, eqb-true, true≢false}
use Rattle.std.specs.Char.{to_ascii_lowercase}
use Rattle.std.specs.List.{list_any}
use Rattle.std.specs.Str.{bytes_eq, str_to_ascii_lowercase}
use Rattle.address_patterns.specs.declared.page.Page.{Page}
use Rattle.address_patterns.specs.declared.pattern.AddressPattern.{AddressPattern}
use Rattle.address_patterns.specs.Patterns.{Item, run, border, byte, cuts, fits, is_border, is_empty, item_fits, item_of, matches, may_begin, may_end}
use Rattle.address_patterns.specs.Pieces.{first_of, starts_by, step, tails}
use Rattle.address_patterns.proofs.Greedy.{behind_step, fits_from, greedy, starts_shorter, verdict}

-- ---- cuts

both : (a b : Bool) → (a ≡ true → b ≡ true) → (b ≡ true → a ≡ true) → a ≡ b
both true true f g = refl
both true false f g = sym (f refl)
both false true f g = g refl
both false false f g = refl

and_parts : (a b : Bool) → (a && b) ≡ true → (a ≡ true) × (b ≡ true)
and_parts true true e = (refl, refl)
and_parts true false e = (refl, e)
and_parts false b e = absurd (true≢false (sym e))

and_true : (a b : Bool) → a ≡ true → b ≡ true → (a && b) ≡ true
and_true a b e f = rw (e, f) refl

any_map : {A B : Type 0} (p : B → Bool) (f : A → B) (xs : List A) → list_any p (map f xs) ≡ list_any (λ x. p (f x)) xs
any_map p f [] = refl
any_map p f (x ∷ xs) = ap (λ b. p (f x) || b) (any_map p f xs)

any_same : {A : Type 0} (p q : A → Bool) → ((x : A) → p x ≡ q x) → (xs : List A) → list_any p xs ≡ list_any q xs
any_same p q e [] = refl
any_same p q e (x ∷ xs) = ap (λ b. b || list_any p xs) (e x) ∙ ap (λ b. q x || b) (any_same p q e xs)

-- a cut that passes
cut_of : (p : List ℕ × List ℕ → Bool) (text : List ℕ) → list_any p (cuts text) ≡ true → (front : List ℕ) × (rest : List ℕ) × (text ≡ front ++ rest) × (p (front, rest) ≡ true)
cut_of p [] e = go (p ([], [])) refl e
  where
    go : (t : Bool) → p ([], []) ≡ t → (t || false) ≡ true → (front : List ℕ) × (rest : List ℕ) × ([] ≡ front ++ rest) × (p (front, rest) ≡ true)
    go true f e = ([], [], refl, f)
    go false f e = absurd (true≢false (sym e))
cut_of p (b ∷ text) e = go (λ f. cut_of (λ cut. p (b ∷ cut.0, cut.1)) text f) (p ([], b ∷ text)) refl e
  where
    go : (list_any (λ cut. p (b ∷ cut.0, cut.1)) (cuts text) ≡ true → (front : List ℕ) × (rest : List ℕ) × (text ≡ front ++ rest) × (p (b ∷ front, rest) ≡ true))
        → (t : Bool) → p ([], b ∷ text) ≡ t → (t || list_any p (map (λ cut. (b ∷ cut.0, cut.1)) (cuts text))) ≡ true
        → (front : List ℕ) × (rest : List ℕ) × ((b ∷ text) ≡ front ++ rest) × (p (front, rest) ≡ true)
    go rec true f e = ([], b ∷ text, refl, f)
    go rec false f e =
        let more = rec (sym (any_map p (λ cut. (b ∷ cut.0, cut.1)) (cuts text)) ∙ e) in
        (b ∷ more.0, more.1, ap (λ l. b ∷ l) more.2, more.3)

has_cut : (p : List ℕ × List ℕ → Bool) (front rest : List ℕ) → p (front, rest) ≡ true → list_any p (cuts (front ++ rest)) ≡ true
has_cut p [] [] e = rw e refl
has_cut p [] (b ∷ rest) e = rw e refl
has_cut p (b ∷ front) rest e =
    go (p ([], b ∷ (front ++ rest))) (any_map p (λ cut. (b ∷ cut.0, cut.1)) (cuts (front ++ rest)) ∙ has_cut (λ cut. p (b ∷ cut.0, cut.1)) front rest e)
  where
    go : (t : Bool) → list_any p (map (λ cut. (b ∷ cut.0, cut.1)) (cuts (front ++ rest))) ≡ true → (t || list_any p (map (λ cut. (b ∷ cut.0, cut.1)) (cuts (front ++ rest)))) ≡ true
    go true f = refl
    go false f = f

tail_of : (p : List ℕ → Bool) (text : List ℕ) → list_any p (tails text) ≡ true → (front : List ℕ) × (rest : List ℕ) × (text ≡ front ++ rest) × (p rest ≡ true)
tail_of p [] e = go (p []) refl e
  where
    go : (t : Bool) → p [] ≡ t → (t || false) ≡ true → (front : List ℕ) × (rest : List ℕ) × ([] ≡ front ++ rest) × (p rest ≡ true)
    go true f e = ([], [], refl, f)
    go false f e = absurd (true≢false (sym e))
tail_of p (b ∷ text) e = go (λ f. tail_of p text f) (p (b ∷ text)) refl e
  where
    go : (list_any p (tails text) ≡ true → (front : List ℕ) × (rest : List ℕ) × (text ≡ front ++ rest) × (p rest ≡ true)) → (t : Bool) → p (b ∷ text) ≡ t → (t || list_any p (tails text)) ≡ true → (front : List ℕ) × (rest : List ℕ) × ((b ∷ text) ≡ front ++ rest) × (p rest ≡ true)
    go rec true f e = ([], b ∷ text, refl, f)
    go rec false f e = let more = rec e in (b ∷ more.0, more.1, ap (λ l. b ∷ l) more.2, more.3)

has_tail : (p : List ℕ → Bool) (front rest : List ℕ) → p rest ≡ true → list_any p (tails (front ++ rest)) ≡ true
has_tail p [] [] e = rw e refl
has_tail p [] (b ∷ rest) e = rw e refl
has_tail p (b ∷ front) rest e = go (p (b ∷ (front ++ rest))) (has_tail p front rest e)
  where
    go : (t : Bool) → list_any p (tails (front ++ rest)) ≡ true → (t || list_any p (tails (front ++ rest))) ≡ true
    go true f = refl
    go false f = f

-- ---- the first item of a pattern, and the others

append_behind : (a b c : List ℕ) → (a ++ b) ++ c ≡ a ++ (b ++ c)
append_behind [] b c = refl
append_behind (x ∷ a) b c = ap (λ l. x ∷ l) (append_behind a b c)

empty_is : (text : List ℕ) → is_empty text ≡ true → text ≡ []
empty_is [] e = refl
empty_is (b ∷ text) e = absurd (omega (arith, eqb-true (length (b ∷ text)) 0 e))

-- a piece that an item and others fit is cut into one for it and one for them
first_cut : (item : Item) (items : List Item) (piece : List ℕ) (at_end : Bool) → fits (item ∷ items) piece at_end ≡ true
    → (front : List ℕ) × (rest : List ℕ) × (piece ≡ front ++ rest) × (item_fits item front (at_end && is_empty rest) ≡ true) × (fits items rest at_end ≡ true)
first_cut item items piece at_end e =
    let cut = cut_of (λ c. elim (item_fits item c.0 (at_end && is_empty c.1)) [ true ↦ fits items c.1 at_end | false ↦ false ]) piece e in
    go cut.0 cut.1 cut.2 (item_fits item cut.0 (at_end && is_empty cut.1)) refl cut.3
  where
    go : (front rest : List ℕ) → piece ≡ front ++ rest → (t : Bool) → item_fits item front (at_end && is_empty rest) ≡ t
        → (elim t as (λ _. Bool) [ true ↦ fits items rest at_end | false ↦ false ]) ≡ true
        → (f : List ℕ) × (r : List ℕ) × (piece ≡ f ++ r) × (item_fits item f (at_end && is_empty r) ≡ true) × (fits items r at_end ≡ true)
    go front rest same true f g = (front, rest, same, f, g)
    go front rest same false f g = absurd (true≢false (sym g))

has_first_cut : (item : Item) (items : List Item) (front rest : List ℕ) (at_end : Bool) → item_fits item front (at_end && is_empty rest) ≡ true → fits items rest at_end ≡ true
    → fits (item ∷ items) (front ++ rest) at_end ≡ true
has_first_cut item items front rest at_end e f =
    has_cut (λ c. elim (item_fits item c.0 (at_end && is_empty c.1)) [ true ↦ fits items c.1 at_end | false ↦ false ]) front rest (go (item_fits item front (at_end && is_empty rest)) e)
  where
    go : (t : Bool) → t ≡ true → (elim t as (λ _. Bool) [ true ↦ fits items rest at_end | false ↦ false ]) ≡ true
    go true e = f
    go false e = absurd (true≢false (sym e))

-- ---- by cuts, then byte by byte

-- one item fits a front, and the others the rest, so the pattern fits from there on
by_front : (closes : Bool) (b : ℕ) (pattern front rest : List ℕ) → item_fits (item_of b) front (is_empty rest) ≡ true → fits_from closes pattern rest ≡ true
    → fits_from closes (b ∷ pattern) (front ++ rest) ≡ true
by_front closes b pattern front rest e f = go (b == 42) (b == 94) refl e
  where
    go : (t u : Bool) → (b == 94) ≡ u → item_fits (cond t run (cond u border (byte b))) front (is_empty rest) ≡ true
        → cond t (list_any (fits_from closes pattern) (tails (front ++ rest))) (behind_step (fits_from closes pattern) (step b (front ++ rest))) ≡ true
    go true u s e = has_tail (fits_from closes pattern) front rest f
    go false true s e = at_border front e
      where
        at_border : (l : List ℕ) → item_fits border l (is_empty rest) ≡ true → behind_step (fits_from closes pattern) (step b (l ++ rest)) ≡ true
        at_border [] e = let none : rest ≡ [] = empty_is rest e in rw (none, s) (ap (fits_from closes pattern) (sym none) ∙ f)
        at_border (c ∷ []) e = rw (s, e) f
        at_border (c ∷ d ∷ l) e = absurd (true≢false (sym e))
    go false false s e = at_byte front e
      where
        at_byte : (l : List ℕ) → bytes_eq (str_to_ascii_lowercase l) (b ∷ []) ≡ true → behind_step (fits_from closes pattern) (step b (l ++ rest)) ≡ true
        at_byte [] e = absurd (true≢false (sym e))
        at_byte (c ∷ []) e = rw (s, (and_parts (to_ascii_lowercase c == b) true e).0) f
        at_byte (c ∷ d ∷ l) e = absurd (true≢false (sym (and_parts (to_ascii_lowercase c == b) false e).1))

not_empty : (b : ℕ) (text : List ℕ) → is_empty (b ∷ text) ≡ false
not_empty b text = go (is_empty (b ∷ text)) refl
  where
    go : (t : Bool) → is_empty (b ∷ text) ≡ t → t ≡ false
    go true e = absurd (omega (arith, eqb-true (length (b ∷ text)) 0 e))
    go false e = refl

and_empty : (a b : List ℕ) → (is_empty b && is_empty a) ≡ is_empty (a ++ b)
and_empty [] b = go (is_empty b)
  where
    go : (t : Bool) → (t && true) ≡ t
    go true = refl
    go false = refl
and_empty (x ∷ a) b = rw (not_empty x a, not_empty x (a ++ b)) (go (is_empty b))
  where
    go : (t : Bool) → (t && false) ≡ false
    go true = refl
    go false = refl

by_cuts : (closes : Bool) (pattern v w : List ℕ) → fits (map item_of pattern) v (is_empty w) ≡ true → may_end closes w ≡ true → fits_from closes pattern (v ++ w) ≡ true
by_cuts closes [] v w e f = subst (λ l. fits_from closes [] (l ++ w) ≡ true) (sym (empty_is v e)) f
by_cuts closes (b ∷ pattern) v w e f =
    let cut = first_cut (item_of b) (map item_of pattern) v (is_empty w) e in
    let rest = by_cuts closes pattern cut.1 w cut.4 f in
    subst (λ l. fits_from closes (b ∷ pattern) l ≡ true) (sym (append_behind cut.0 cut.1 w) ∙ ap (λ l. l ++ w) (sym cut.2))
    (by_front closes b pattern cut.0 (cut.1 ++ w) (subst (λ t. item_fits (item_of b) cut.0 t ≡ true) (and_empty cut.1 w) cut.3) rest)

-- ---- byte by byte, then by cuts

record FitsBy (closes : Bool) (items : List Item) (text : List ℕ) : Type 0 where
  front : List ℕ
  rest : List ℕ
  same : text ≡ front ++ rest
  fit : fits items front (is_empty rest) ≡ true
  ends : may_end closes rest ≡ true

-- a front for one item before a piece for the others
with_front : (closes : Bool) (item : Item) (items : List Item) (front text : List ℕ) → item_fits item front (is_empty text) ≡ true → FitsBy closes items text → FitsBy closes (item ∷ items) (front ++ text)
with_front closes item items front text e by = record {
  front = front ++ by.front;
  rest = by.rest;
  same = ap (λ l. front ++ l) by.same ∙ sym (append_behind front by.front by.rest);
  fit = has_first_cut item items front by.front (is_empty by.rest)
      (subst (λ t. item_fits item front t ≡ true) (ap is_empty by.same ∙ sym (and_empty by.front by.rest)) e) by.fit;
  ends = by.ends;
}

to_cuts : (closes : Bool) (pattern text : List ℕ) → fits_from closes pattern text ≡ true → FitsBy closes (map item_of pattern) text
to_cuts closes [] text e = record { front = []; rest = text; same = refl; fit = refl; ends = e }
to_cuts closes (b ∷ pattern) text e = go (λ l f. to_cuts closes pattern l f) (b == 42) (b == 94) refl e
  where
    go : ((l : List ℕ) → fits_from closes pattern l ≡ true → FitsBy closes (map item_of pattern) l) → (t u : Bool) → (b == 94) ≡ u
        → cond t (list_any (fits_from closes pattern) (tails text)) (behind_step (fits_from closes pattern) (step b text)) ≡ true
        → FitsBy closes (cond t run (cond u border (byte b)) ∷ map item_of pattern) text
    go rec true u s e =
        let tail = tail_of (fits_from closes pattern) text e in
        subst (FitsBy closes (run ∷ map item_of pattern)) (sym tail.2) (with_front closes run (map item_of pattern) tail.0 tail.1 refl (rec tail.1 tail.3))
    go rec false true s e = at_border text e
      where
        at_border : (l : List ℕ) → behind_step (fits_from closes pattern) (step b l) ≡ true → FitsBy closes (border ∷ map item_of pattern) l
        at_border [] e =
            with_front closes border (map item_of pattern) [] [] refl (rec [] (sym (ap (λ t. behind_step (fits_from closes pattern) (cond t (Some []) None)) s) ∙ e))
        at_border (c ∷ l) e = by (is_border c) refl (sym (ap (λ t. behind_step (fits_from closes pattern) (cond (cond t (is_border c) (to_ascii_lowercase c == b)) (Some l) None)) s) ∙ e)
          where
            by : (v : Bool) → is_border c ≡ v → behind_step (fits_from closes pattern) (cond v (Some l) None) ≡ true → FitsBy closes (border ∷ map item_of pattern) (c ∷ l)
            by true f e = with_front closes border (map item_of pattern) (c ∷ []) l f (rec l e)
            by false f e = absurd (true≢false (sym e))
    go rec false false s e = at_byte text e
      where
        at_byte : (l : List ℕ) → behind_step (fits_from closes pattern) (step b l) ≡ true → FitsBy closes (byte b ∷ map item_of pattern) l
        at_byte [] e = absurd (true≢false (sym (sym (ap (λ t. behind_step (fits_from closes pattern) (cond t (Some []) None)) s) ∙ e)))
        at_byte (c ∷ l) e = by (to_ascii_lowercase c == b) refl (sym (ap (λ t. behind_step (fits_from closes pattern) (cond (cond t (is_border c) (to_ascii_lowercase c == b)) (Some l) None)) s) ∙ e)
          where
            by : (v : Bool) → (to_ascii_lowercase c == b) ≡ v → behind_step (fits_from closes pattern) (cond v (Some l) None) ≡ true → FitsBy closes (byte b ∷ map item_of pattern) (c ∷ l)
            by true f e = with_front closes (byte b) (map item_of pattern) (c ∷ []) l (and_true (to_ascii_lowercase c == b) true f refl) (rec l e)
            by false f e = absurd (true≢false (sym e))

cuts_are : (closes : Bool) (pattern text : List ℕ)
    → list_any (λ part. fits (map item_of pattern) part.0 (is_empty part.1) && may_end closes part.1) (cuts text) ≡ fits_from closes pattern text
cuts_are closes pattern text = both _ _ forward back
  where
    forward : list_any (λ part. fits (map item_of pattern) part.0 (is_empty part.1) && may_end closes part.1) (cuts text) ≡ true → fits_from closes pattern text ≡ true
    forward e =
        let cut = cut_of (λ part. fits (map item_of pattern) part.0 (is_empty part.1) && may_end closes part.1) text e in
        let parts = and_parts (fits (map item_of pattern) cut.0 (is_empty cut.1)) (may_end closes cut.1) cut.3 in
        subst (λ l. fits_from closes pattern l ≡ true) (sym cut.2) (by_cuts closes pattern cut.0 cut.1 parts.0 parts.1)

    back : fits_from closes pattern text ≡ true → list_any (λ part. fits (map item_of pattern) part.0 (is_empty part.1) && may_end closes part.1) (cuts text) ≡ true
    back e =
        let by = to_cuts closes pattern text e in
        subst (λ l. list_any (λ part. fits (map item_of pattern) part.0 (is_empty part.1) && may_end closes part.1) (cuts l) ≡ true) (sym by.same)
        (has_cut (λ part. fits (map item_of pattern) part.0 (is_empty part.1) && may_end closes part.1) by.front by.rest
        (and_true (fits (map item_of pattern) by.front (is_empty by.rest)) (may_end closes by.rest) by.fit by.ends))

-- ---- the places where a match may begin

zero_more : (place : ℕ) → place + 0 ≡ place
zero_more place = omega arith

starts_are : (passes : ℕ → Bool) (r : List ℕ → Bool) (place : ℕ) (text : List ℕ)
    → list_any (λ cut. passes (place + length cut.0) && r cut.1) (cuts text) ≡ list_any r (starts_by passes place text)
starts_are passes r place [] = ap (λ (n : ℕ). (passes n && r []) || false) (zero_more place) ∙ go (passes place)
  where
    go : (t : Bool) → ((t && r []) || false) ≡ list_any r (cond t ([] ∷ []) [])
    go true = refl
    go false = refl
starts_are passes r place (b ∷ text) =
    ap (λ (n : ℕ). (passes n && r (b ∷ text)) || list_any (λ (cut : List ℕ × List ℕ). passes (place + length cut.0) && r cut.1) (map (λ (cut : List ℕ × List ℕ). (b ∷ cut.0, cut.1)) (cuts text))) (zero_more place)
    ∙ ap (λ more. (passes place && r (b ∷ text)) || more)
    (any_map (λ (cut : List ℕ × List ℕ). passes (place + length cut.0) && r cut.1) (λ (cut : List ℕ × List ℕ). (b ∷ cut.0, cut.1)) (cuts text)
    ∙ any_same (λ (cut : List ℕ × List ℕ). passes (place + length (b ∷ cut.0)) && r cut.1) (λ (cut : List ℕ × List ℕ). passes ((place + 1) + length cut.0) && r cut.1)
    (λ (cut : List ℕ × List ℕ). ap (λ n. passes n && r cut.1) (moved (length cut.0))) (cuts text)
    ∙ starts_are passes r (place + 1) text)
    ∙ go (passes place)
  where
    moved : (n : ℕ) → place + suc n ≡ (place + 1) + n
    moved n = omega arith

    go : (t : Bool) → ((t && r (b ∷ text)) || list_any r (starts_by passes (place + 1) text)) ≡ list_any r (cond t ((b ∷ text) ∷ starts_by passes (place + 1) text) (starts_by passes (place + 1) text))
    go true = refl
    go false = refl

none_more : (n : ℕ) → n ≡ 0 + n
none_more n = omega arith

-- a pattern matches an address exactly where it fits from the first place on where its first piece does
pub matches_is : (pattern : AddressPattern) (page : Page)
    → matches pattern page ≡ verdict pattern.at_end (first_of pattern.at_end pattern.body (starts_by (may_begin pattern.begin page) 0 page.address))
matches_is pattern page =
    any_same (λ cut. may_begin pattern.begin page (length cut.0) && list_any (λ part. fits (map item_of pattern.body) part.0 (is_empty part.1) && may_end pattern.at_end part.1) (cuts cut.1))
    (λ cut. may_begin pattern.begin page (0 + length cut.0) && fits_from pattern.at_end pattern.body cut.1)
    (λ cut. ap₂ (λ (n : ℕ) (b : Bool). may_begin pattern.begin page n && b) (none_more (length cut.0)) (cuts_are pattern.at_end pattern.body cut.1)) (cuts page.address)
    ∙ starts_are (may_begin pattern.begin page) (fits_from pattern.at_end pattern.body) 0 page.address
    ∙ greedy pattern.at_end pattern.body (starts_by (may_begin pattern.begin page) 0 page.address) (starts_shorter (may_begin pattern.begin page) 0 page.address)
