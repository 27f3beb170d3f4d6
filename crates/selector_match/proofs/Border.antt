-- Where a part stands in texts that follow each other.
use Rattle.std.proofs.Common.{◌≡◌, ℕ, zero, suc, min, ◌+◌, ◌-◌, ◌≤◌, nat_eq, ◌||◌, Bool, true, false, List, [], ◌∷◌, ◌++◌, length, take, drop, Option, None, Some, refl, sym, ◌∙◌, ap, ap₂, inl, inr, arith, append_assoc}
use Rattle.std.proofs.lemmas.Bool.{cases_lt, or_right, false_from_ne_true}
use Rattle.std.proofs.lemmas.List.{take-append-drop, take-append-le, length-append, length-take-le, length-drop, take_all, take_min, drop_min}
use Rattle.std.specs.List.{starts_with}
use Rattle.std.proofs.Math.Seq.{take-append_seam, drop-append_seam}
use Rattle.std.specs.Option.{is_some}
use Rattle.std.specs.Str.{bytes_eq}
use Rattle.std.specs.Str.Iter.{HasSubslice}
use Rattle.memchr.specs.Find.{FindsNeedle}
use Rattle.memchr.proofs.lemmas.MatchLemmas.{OccursAt-from_part, OccursAt-split}
use Rattle.selector_meaning.specs.Texts.{has_part}
use Rattle.selector_match.specs.Asked.{end_of}
use Rattle.selector_match.proofs.Values.{part_from, part_at}

or_known : (x y : Bool) → (x ≡ true → y ≡ true) → y ≡ (x || y)
or_known true y f = f refl
or_known false y f = refl

or_turned : (x y : Bool) → (x || y) ≡ (y || x)
or_turned true true = refl
or_turned true false = refl
or_turned false true = refl
or_turned false false = refl

or_both : (x y z : Bool) → (x || (y || z)) ≡ ((x || y) || z)
or_both true y z = refl
or_both false y z = refl

module _ (w : List ℕ) where
  -- it stands in each longer text
  behind_it : (a b : List ℕ) → has_part w a ≡ true → has_part w (a ++ b) ≡ true
  behind_it a b h =
      let p = part_from w a h in
      ap (λ (s : List ℕ). has_part w (s ++ b)) p.2
      ∙ ap (has_part w) (append_assoc p.0 (w ++ p.1) b ∙ ap (λ (s : List ℕ). p.0 ++ s) (append_assoc w p.1 b))
      ∙ part_at w p.0 (p.1 ++ b)

  before_it : (a b : List ℕ) → has_part w b ≡ true → has_part w (a ++ b) ≡ true
  before_it [] b h = h
  before_it (c ∷ a) b h = or_right (starts_with nat_eq (c ∷ (a ++ b)) w) (has_part w (a ++ b)) (before_it a b h)

  pub in_text : (pending text later : List ℕ) → has_part w text ≡ true → has_part w (pending ++ (text ++ later)) ≡ true
  in_text pending text later h = before_it pending (text ++ later) (behind_it text later h)

  begins_alike : (s b : List ℕ) → length w ≤ length s → starts_with nat_eq (s ++ b) w ≡ starts_with nat_eq s w
  begins_alike s b h = ap (bytes_eq w) (take-append-le (length w) s b h)

  -- where the middle is nearly as long as the part, the part doesn't reach over it
  across : (a m b : List ℕ) → length w ≤ suc (length m) → has_part w (a ++ (m ++ b)) ≡ (has_part w (a ++ m) || has_part w (m ++ b))
  across [] m b h = or_known (has_part w m) (has_part w (m ++ b)) (behind_it m b)
  across (c ∷ a) m b h =
      ap₂ ◌||◌
      (ap (λ (s : List ℕ). starts_with nat_eq (c ∷ s) w) (sym (append_assoc a m b)) ∙ begins_alike (c ∷ (a ++ m)) b (omega (arith, h, length-append a m)))
      (across a m b h)
      ∙ or_both (starts_with nat_eq (c ∷ (a ++ m)) w) (has_part w (a ++ m)) (has_part w (m ++ b))

  module _ (n : ℕ) (h : length w ≤ suc n) where
    -- the first bytes of a text suffice behind what was pending
    by_window : (pending text : List ℕ) → has_part w (pending ++ text) ≡ (has_part w text || has_part w (pending ++ take n text))
    by_window pending text =
        elim (cases_lt n (length text)) [
          | inl l ↦
              ap (λ (s : List ℕ). has_part w (pending ++ s)) (sym (take-append-drop n text))
              ∙ across pending (take n text) (drop n text) (omega (arith, h, length-take-le n text (omega arith)))
              ∙ ap (λ (s : List ℕ). has_part w (pending ++ take n text) || has_part w s) (take-append-drop n text)
              ∙ or_turned (has_part w (pending ++ take n text)) (has_part w text)
          | inr l ↦
              or_known (has_part w text) (has_part w (pending ++ text)) (before_it pending text)
              ∙ ap (λ (s : List ℕ). has_part w text || has_part w (pending ++ s)) (sym (take_all n text (omega arith)))
        ]

    -- and the last ones before what comes
    by_end : (pending later : List ℕ) → has_part w (pending ++ later) ≡ (has_part w pending || has_part w (end_of n pending ++ later))
    by_end pending later =
        elim (cases_lt n (length pending)) [
          | inl l ↦
              ap (λ (s : List ℕ). has_part w (s ++ later)) (sym whole)
              ∙ ap (has_part w) (append_assoc (take (length pending - n) pending) (end_of n pending) later)
              ∙ across (take (length pending - n) pending) (end_of n pending) later (omega (arith, h, length-drop (length pending - n) pending))
              ∙ ap (λ (s : List ℕ). has_part w s || has_part w (end_of n pending ++ later)) whole
          | inr l ↦
              or_known (has_part w pending) (has_part w (pending ++ later)) (behind_it pending later)
              ∙ ap (λ k. has_part w pending || has_part w (drop k pending ++ later)) (none (omega arith))
        ]
      where
        whole : take (length pending - n) pending ++ end_of n pending ≡ pending
        whole = take-append-drop (length pending - n) pending

        none : length pending ≤ n → 0 ≡ length pending - n
        none l = omega (arith, l)

-- a text goes by, whose front was put behind what was pending
module _ (w pending text front rest later window : List ℕ) (n m k : ℕ) (h : length w ≤ suc n) (wide : length w ≤ suc m) (first : front ≡ take k text) (last : rest ≡ drop k text)
    (behind : window ≡ pending ++ front) where
  whole_text : front ++ rest ≡ text
  whole_text = ap₂ ◌++◌ first last ∙ take-append-drop k text

  all_bytes : window ++ rest ≡ pending ++ text
  all_bytes = ap (λ (s : List ℕ). s ++ rest) behind ∙ append_assoc pending front rest ∙ ap (λ (s : List ℕ). pending ++ s) whole_text

  apart : has_part w (pending ++ (text ++ later)) ≡ has_part w ((pending ++ text) ++ later)
  apart = ap (has_part w) (sym (append_assoc pending text later))

  -- the first bytes suffice
  module _ (enough : k ≡ min m (length text)) (lacks : has_part w text ≡ false) where
    in_both : has_part w (pending ++ text) ≡ has_part w window
    in_both =
        by_window w m wide pending text ∙ ap (λ b. b || has_part w (pending ++ take m text)) lacks
        ∙ ap (has_part w) (sym (behind ∙ ap (λ (s : List ℕ). pending ++ s) (first ∙ ap (λ j. take j text) enough ∙ take_min m text)))

    pub in_window : has_part w window ≡ true → has_part w (pending ++ (text ++ later)) ≡ true
    in_window e = apart ∙ behind_it w (pending ++ text) later (in_both ∙ e)

    pub not_yet : has_part w window ≡ false → (kept : List ℕ) → kept ≡ end_of n (window ++ rest) →
        has_part w (pending ++ (text ++ later)) ≡ has_part w (kept ++ later)
    not_yet none kept e =
        apart ∙ by_end w n h (pending ++ text) later
        ∙ ap (λ c. c || has_part w (end_of n (pending ++ text) ++ later)) (in_both ∙ none)
        ∙ ap (λ (s : List ℕ). has_part w (s ++ later)) (sym (e ∙ ap (end_of n) all_bytes))

-- a search for a needle tells whether it stands there
pub found_is : (hay w : List ℕ) (o : Option ℕ) (r : Bool) → FindsNeedle hay w 0 o → r ≡ is_some o → r ≡ has_part w hay
found_is hay w None r finds e = e ∙ sym (false_from_ne_true (has_part w hay) (λ h. nowhere (part_from w hay h)))
  where
    nowhere : HasSubslice hay w → ⊥
    nowhere p =
        let long : length hay ≡ length p.0 + length (w ++ p.1) = ap length p.2 ∙ length-append p.0 (w ++ p.1) in
        finds (length p.0) (omega arith) (omega (arith, long))
        (OccursAt-from_part hay w (length p.0) (omega (arith, long, length-append w p.1))
        (ap (λ (s : List ℕ). take (length w) (drop (length p.0) s)) p.2
        ∙ ap (take (length w)) (drop-append_seam p.0 (w ++ p.1)) ∙ take-append_seam w p.1))
found_is hay w (Some k) r finds e =
    e
    ∙ sym (ap (has_part w) (sym (take-append-drop k hay) ∙ ap (λ (s : List ℕ). take k hay ++ s) (OccursAt-split hay w k finds.1))
    ∙ part_at w (take k hay) (drop (k + length w) hay))

drop_both : (n : ℕ) (a b : List ℕ) → drop n (a ++ b) ≡ drop n a ++ drop (n - length a) b
drop_both zero a b = let e : 0 ≡ 0 - length a = omega arith in ap (λ k. a ++ drop k b) e
drop_both (suc n) [] b = let e : suc n ≡ suc n - 0 = omega arith in ap (λ k. drop k b) e
drop_both (suc n) (c ∷ a) b =
    let e : n - length a ≡ suc n - suc (length a) = omega arith in drop_both n a b ∙ ap (λ k. drop n a ++ drop k b) e

-- the last bytes of two texts together, where so many of the first are dropped
pub end_of_both : (n : ℕ) (a b : List ℕ) (spare gone : ℕ) → spare ≡ length a + length b - n → gone ≡ min spare (length a) →
    drop gone a ++ drop (spare - gone) b ≡ end_of n (a ++ b)
end_of_both n a b spare gone s g =
    let total : spare ≡ length (a ++ b) - n = omega (arith, s, length-append a b) in
    let left : spare - gone ≡ spare - length a = omega (arith, g) in
    ap₂ ◌++◌ (ap (λ k. drop k a) g ∙ drop_min spare a) (ap (λ k. drop k b) left)
    ∙ sym (drop_both spare a b)
    ∙ ap (λ k. drop k (a ++ b)) total
