-- Texts against wanted ones, letter case ignored or not.
use Rattle.std.proofs.Common.{◌≡◌, ◌↔◌, ℕ, ◌+◌, ◌-◌, ◌<◌, ◌==◌, nat_eq, ◌||◌, ◌&&◌, Bool, true, false, List, [], ◌∷◌, ◌++◌, map, length, take, drop, get_or, refl, sym, ◌∙◌, ap, ap₂, inl, inr, arith, if◌then◌else◌}
use Rattle.std.proofs.lemmas.Bool.{cases_lt, lt-ltb, le-ltb, lt-leb, eq-eqb, ne_eqb, or_cases, or_left, or_right}
use Rattle.std.proofs.lemmas.Bool.Decides.{nat_tests}
use Rattle.std.proofs.lemmas.Grind.{common_steps}
use Rattle.std.proofs.lemmas.List.{get_or-map, map-append, take-map, drop-map, take-append-drop, length-drop, take_all}
use Rattle.std.proofs.Math.Seq.{take-append_seam}
use Rattle.std.proofs.lemmas.Slice.Eq.{bytes_eq-Decides}
use Rattle.std.specs.Char.{is_ascii_whitespace, to_ascii_lowercase}
use Rattle.std.specs.List.{list_any, starts_with, ends_with}
use Rattle.std.specs.Str.{bytes_eq}
use Rattle.std.specs.Str.Iter.{HasSubslice}
use Rattle.page_tree.specs.Words.{words, words_from, kept}
use Rattle.selector_meaning.specs.Texts.{spelled, has_part, is_empty}

same_text : (xs ys : List ℕ) → bytes_eq xs ys ≡ true → xs ≡ ys
same_text xs ys h = (bytes_eq-Decides xs ys).0 h

text_same : (xs ys : List ℕ) → xs ≡ ys → bytes_eq xs ys ≡ true
text_same xs ys h = (bytes_eq-Decides xs ys).1 h

pub same_by_iff : (a b : Bool) → (a ≡ true → b ≡ true) → (b ≡ true → a ≡ true) → a ≡ b
same_by_iff true b f g = sym (f refl)
same_by_iff false true f g = g refl
same_by_iff false false f g = refl

pub bytes_eq-sym : (xs ys : List ℕ) → bytes_eq xs ys ≡ bytes_eq ys xs
bytes_eq-sym xs ys =
    same_by_iff (bytes_eq xs ys) (bytes_eq ys xs)
    (λ h. text_same ys xs (sym (same_text xs ys h))) (λ h. text_same xs ys (sym (same_text ys xs h)))

-- ---- spelled alike

pub length-spelled : (i : Bool) (v : List ℕ) → length (spelled i v) ≡ length v
length-spelled true v = grind (arith, common_steps)
length-spelled false v = refl

take-spelled : (i : Bool) (n : ℕ) (v : List ℕ) → take n (spelled i v) ≡ spelled i (take n v)
take-spelled true n v = take-map to_ascii_lowercase n v
take-spelled false n v = refl

drop-spelled : (i : Bool) (n : ℕ) (v : List ℕ) → drop n (spelled i v) ≡ spelled i (drop n v)
drop-spelled true n v = drop-map to_ascii_lowercase n v
drop-spelled false n v = refl

pub is_empty-spelled : (i : Bool) (v : List ℕ) → is_empty (spelled i v) ≡ is_empty v
is_empty-spelled true [] = refl
is_empty-spelled true (c ∷ v) = refl
is_empty-spelled false v = refl

pub is_empty-length : (v : List ℕ) (b : Bool) → (b ≡ true → length v ≡ 0) → (b ≡ false → length v ≡ 0 → ⊥) → b ≡ is_empty v
is_empty-length [] true f g = refl
is_empty-length [] false f g = absurd (g refl refl)
is_empty-length (c ∷ v) true f g = absurd (omega (arith, f refl))
is_empty-length (c ∷ v) false f g = refl

-- ---- fronts and ends

module _ (i : Bool) (v w : List ℕ) where
  pub begins_by : (r : Bool) → r ≡ bytes_eq (spelled i w) (spelled i (take (length w) v)) → r ≡ starts_with nat_eq (spelled i v) (spelled i w)
  begins_by r h =
      h ∙ ap (bytes_eq (spelled i w)) (sym (take-spelled i (length w) v))
      ∙ ap (λ n. bytes_eq (spelled i w) (take n (spelled i v))) (sym (length-spelled i w))

  pub ends_by : (r : Bool) → r ≡ bytes_eq (spelled i w) (spelled i (take (length v - (length v - length w)) (drop (length v - length w) v))) →
      r ≡ ends_with nat_eq (spelled i v) (spelled i w)
  ends_by r h =
      h ∙ ap (λ (u : List ℕ). bytes_eq (spelled i w) (spelled i u)) (take_all (length v - (length v - length w)) (drop (length v - length w) v) (omega (arith, length-drop (length v - length w) v)))
      ∙ ap (bytes_eq (spelled i w)) (sym (drop-spelled i (length v - length w) v))
      ∙ ap₂ (λ m n. bytes_eq (spelled i w) (drop (m - n) (spelled i v))) (sym (length-spelled i v)) (sym (length-spelled i w))

-- ---- a dash behind

and_both : (a b c : Bool) → (a && (b && c)) ≡ ((a && b) && c)
and_both true b c = refl
and_both false b c = refl

and_true : (a : Bool) → (a && true) ≡ a
and_true true = refl
and_true false = refl

dash_law : (d : ℕ) (w v : List ℕ) → length w < length v → starts_with nat_eq v (w ++ d ∷ []) ≡ (starts_with nat_eq v w && (d == get_or v (length w) 0))
dash_law d w [] h = absurd (omega arith)
dash_law d [] (c ∷ cs) h = and_true (d == c)
dash_law d (a ∷ w) (c ∷ cs) h =
    ap (λ b. (a == c) && b) (dash_law d w cs (omega arith)) ∙ and_both (a == c) (starts_with nat_eq cs w) (d == get_or cs (length w) 0)

lower_dash : (c : ℕ) → (45 == to_ascii_lowercase c) ≡ (c == 45)
lower_dash c =
    elim (cases_lt c 65) [
      | inl l ↦ rw (lt-ltb c 65 l) (grind (arith, nat_tests))
      | inr l ↦ elim (cases_lt c 91) [
        | inl m ↦ rw (le-ltb c 65 l, lt-ltb c 91 m, ne_eqb 45 (c + 32) (λ e. omega (arith, e)), ne_eqb c 45 (λ e. omega (arith, e))) refl
        | inr m ↦ rw (le-ltb c 65 l, le-ltb c 91 m) (grind (arith, nat_tests))
      ]
    ]

byte_spelled : (i : Bool) (v : List ℕ) (n : ℕ) → n < length v → (45 == get_or (spelled i v) n 0) ≡ (get_or v n 0 == 45)
byte_spelled true v n h = ap (λ c. 45 == c) (get_or-map to_ascii_lowercase v n 0 0 h) ∙ lower_dash (get_or v n 0)
byte_spelled false v n h = turned 45 (get_or v n 0)
  where
    turned : (x y : ℕ) → (x == y) ≡ (y == x)
    turned x y = grind (arith, nat_tests)

module _ (i : Bool) (v w : List ℕ) (c : ℕ) (long : length w < length v) (at : c ≡ get_or v (length w) 0) where
  goes_on_law : starts_with nat_eq (spelled i v) (spelled i w ++ 45 ∷ []) ≡ (starts_with nat_eq (spelled i v) (spelled i w) && (c == 45))
  goes_on_law =
      dash_law 45 (spelled i w) (spelled i v) (omega (arith, length-spelled i v, length-spelled i w))
      ∙ ap (λ n. starts_with nat_eq (spelled i v) (spelled i w) && (45 == get_or (spelled i v) n 0)) (length-spelled i w)
      ∙ ap (λ b. starts_with nat_eq (spelled i v) (spelled i w) && b) (byte_spelled i v (length w) long ∙ ap (λ n. n == 45) (sym at))

  pub goes_on_dash : c ≡ 45 → (r : Bool) → r ≡ starts_with nat_eq (spelled i v) (spelled i w) → r ≡ starts_with nat_eq (spelled i v) (spelled i w ++ 45 ∷ [])
  goes_on_dash e r h = h ∙ sym (goes_on_law ∙ ap (λ b. starts_with nat_eq (spelled i v) (spelled i w) && b) (eq-eqb c 45 e) ∙ and_true (starts_with nat_eq (spelled i v) (spelled i w)))

  pub goes_on_other : (c ≡ 45 → ⊥) → false ≡ starts_with nat_eq (spelled i v) (spelled i w ++ 45 ∷ [])
  goes_on_other ne = sym (goes_on_law ∙ ap (λ b. starts_with nat_eq (spelled i v) (spelled i w) && b) (ne_eqb c 45 ne) ∙ and_false (starts_with nat_eq (spelled i v) (spelled i w)))
    where
      and_false : (a : Bool) → (a && false) ≡ false
      and_false true = refl
      and_false false = refl

-- ---- parts

pub part_here : (w s : List ℕ) → starts_with nat_eq s w ≡ true → has_part w s ≡ true
part_here w [] h = h
part_here w (c ∷ s) h = or_left (starts_with nat_eq (c ∷ s) w) (has_part w s) h

pub part_from : (w s : List ℕ) → has_part w s ≡ true → HasSubslice s w
part_from w [] h = ([], drop (length w) [], front_from w [] h)
  where
    front_from : (w s : List ℕ) → starts_with nat_eq s w ≡ true → s ≡ w ++ drop (length w) s
    front_from w s h = sym (ap (λ (x : List ℕ). x ++ drop (length w) s) (same_text w (take (length w) s) h) ∙ take-append-drop (length w) s)
part_from w (c ∷ s) h =
    elim (or_cases (starts_with nat_eq (c ∷ s) w) (has_part w s) h) [
      | inl e ↦ ([], drop (length w) (c ∷ s), sym (ap (λ (x : List ℕ). x ++ drop (length w) (c ∷ s)) (same_text w (take (length w) (c ∷ s)) e) ∙ take-append-drop (length w) (c ∷ s)))
      | inr e ↦ let r = part_from w s e in (c ∷ r.0, r.1, ap (λ (x : List ℕ). c ∷ x) r.2)
    ]

pub part_at : (w a b : List ℕ) → has_part w (a ++ (w ++ b)) ≡ true
part_at w [] b = part_here w (w ++ b) (text_same w (take (length w) (w ++ b)) (sym (take-append_seam w b)))
part_at w (c ∷ a) b = or_right (starts_with nat_eq (c ∷ (a ++ (w ++ b))) w) (has_part w (a ++ (w ++ b))) (part_at w a b)

pub part_is : (w s : List ℕ) (r : Bool) → ((r ≡ true) ↔ HasSubslice s w) → r ≡ has_part w s
part_is w s r h =
    same_by_iff r (has_part w s)
    (λ e. let p = h.0 e in ap (has_part w) p.2 ∙ part_at w p.0 p.1)
    (λ e. h.1 (part_from w s e))

-- ---- words

any-map : {X Y : Type 0} (f : X → Y) (p : Y → Bool) (xs : List X) → list_any p (map f xs) ≡ list_any (λ x. p (f x)) xs
any-map f p [] = refl
any-map f p (x ∷ xs) = ap (λ b. p (f x) || b) (any-map f p xs)

abbrev lower : List ℕ → List ℕ
lower = map to_ascii_lowercase

space_lower : (c : ℕ) → is_ascii_whitespace (to_ascii_lowercase c) ≡ is_ascii_whitespace c
space_lower c =
    elim (cases_lt c 65) [
      | inl l ↦ rw (lt-ltb c 65 l) refl
      | inr l ↦ elim (cases_lt c 91) [
        | inl m ↦ rw (le-ltb c 65 l, lt-ltb c 91 m) (above_space (c + 32) (omega arith) ∙ sym (above_space c (omega arith)))
        | inr m ↦ rw (le-ltb c 65 l, le-ltb c 91 m) refl
      ]
    ]
  where
    above_space : (d : ℕ) → 32 < d → is_ascii_whitespace d ≡ false
    above_space d h = rw (lt-leb d 10 (omega arith), lt-leb d 13 (omega arith), lt-leb d 32 h) (grind arith)

kept-lower : (front : List ℕ) (ws : List (List ℕ)) → kept (lower front) (map lower ws) ≡ map lower (kept front ws)
kept-lower [] ws = refl
kept-lower (c ∷ front) ws = refl

words-lower : (front s : List ℕ) → words_from (lower front) (lower s) ≡ map lower (words_from front s)
words-lower front [] = kept-lower front []
words-lower front (c ∷ s) =
    ap (λ b. if b then kept (lower front) (words_from [] (lower s)) else words_from (lower front ++ to_ascii_lowercase c ∷ []) (lower s)) (space_lower c)
    ∙ by_kind (is_ascii_whitespace c) (words-lower [] s) (words-lower (front ++ c ∷ []) s)
  where
    by_kind : (b : Bool) → words_from [] (lower s) ≡ map lower (words_from [] s) → words_from (lower (front ++ c ∷ [])) (lower s) ≡ map lower (words_from (front ++ c ∷ []) s) →
        (if b then kept (lower front) (words_from [] (lower s)) else words_from (lower front ++ to_ascii_lowercase c ∷ []) (lower s))
        ≡ map lower (if b then kept front (words_from [] s) else words_from (front ++ c ∷ []) s)
    by_kind true here more = ap (kept (lower front)) here ∙ kept-lower front (words_from [] s)
    by_kind false here more = ap (λ (f : List ℕ). words_from f (lower s)) (sym (map-append to_ascii_lowercase front (c ∷ []))) ∙ more

words-spelled : (i : Bool) (s : List ℕ) → words (spelled i s) ≡ map (spelled i) (words s)
words-spelled true s = words-lower [] s
words-spelled false s = sym (same (words s))
  where
    same : (ws : List (List ℕ)) → map (λ w. w) ws ≡ ws
    same [] = refl
    same (w ∷ ws) = ap (λ (more : List (List ℕ)). w ∷ more) (same ws)

pub word_spelled : (i : Bool) (w s : List ℕ) →
    list_any (λ piece. bytes_eq (spelled i piece) w) (words s) ≡ list_any (λ piece. bytes_eq piece w) (words (spelled i s))
word_spelled i w s =
    sym (ap (list_any (λ piece. bytes_eq piece w)) (words-spelled i s) ∙ any-map (spelled i) (λ piece. bytes_eq piece w) (words s))

-- some word of the value is the class
pub class_word : (v : List ℕ) (ws : List (List ℕ)) → list_any (λ piece. bytes_eq piece v) ws ≡ list_any (bytes_eq v) ws
class_word v [] = refl
class_word v (w ∷ ws) = ap₂ ◌||◌ (bytes_eq-sym w v) (class_word v ws)
