-- Steps that lead from an element to what stands in a relation to it, and that keep what passes a test.
use Rattle.std.proofs.Common.{◌≡◌, ℕ, Bool, true, false, ◌&&◌, ◌||◌, ◌==◌, List, [], ◌∷◌, ◌++◌, filter, refl, sym, ap, subst, ◌∙◌}
use Rattle.std.specs.List.{list_any}
use Rattle.std.proofs.lemmas.Bool.{eqb-true}
use Rattle.page_tree.specs.Directions.{head_is, is_in}
use Rattle.page_tree.specs.Forest.{Tree}
use Rattle.page_tree.specs.Standings.{all}
use Rattle.selector_meaning.specs.Meaning.{from_some}
use Rattle.sensor_meaning.specs.Sensors.{Sensors}
use Rattle.sensor_laws.specs.Frame.{Event, Frame}
use Rattle.sensor_laws.proofs.Any.{never_true, same_by_iff, and-true, and_parts, or-left, here, any-made, any-found, any-same, is_in-filter}
use Rattle.sensor_laws.proofs.Quiet.{quiet-join}
use Rattle.sensor_laws.proofs.Laws.{quiet, Alike, TestLaw}

pub and-both : (a b c d : Bool) → (b ≡ true → a ≡ c) → b ≡ d → (a && b) ≡ (c && d)
and-both a true c d f e = ap (λ k. k && true) (f refl) ∙ ap (λ k. c && k) e
and-both a false c d f e = off a ∙ sym (off c) ∙ ap (λ k. c && k) e
  where
    off : (k : Bool) → (k && false) ≡ false
    off true = refl
    off false = refl

pub or-off : (a : Bool) → (a || false) ≡ a
or-off true = refl
or-off false = refl

-- a question with two answers
pub cases : {X : Type 0} (a : Bool) → (a ≡ true → X) → (a ≡ false → X) → X
cases true f g = f refl
cases false f g = g refl

pub alone : (x y : ℕ) → is_in (x ∷ []) y ≡ true → x ≡ y
alone x y h = eqb-true x y (sym (or-off (x == y)) ∙ h)

-- ---- being the first of a list, a member of it, or the first that passes
pub head-in : (l : List ℕ) (x : ℕ) → head_is l x ≡ true → is_in l x ≡ true
head-in [] x h = never_true h
head-in (y ∷ l) x h = or-left (y == x) (is_in l x) h

module _ (t : Tree) where
  pub in-from : (r : ℕ → ℕ → Bool) (s : List ℕ) (x : ℕ) →
      is_in (from_some t r s) x ≡ (list_any (λ y. r y x) s && is_in (all t) x)
  in-from r s x = is_in-filter (λ z. list_any (λ y. r y z) s) x (all t)

  pub in-from_one : (r : ℕ → ℕ → Bool) (x z : ℕ) → is_in (from_some t r (x ∷ [])) z ≡ (r x z && is_in (all t) z)
  in-from_one r x z = in-from r (x ∷ []) z ∙ ap (λ k. k && is_in (all t) z) (or-off (r x z))

  pub linear-from : (r : ℕ → ℕ → Bool) (s : List ℕ) (x : ℕ) →
      is_in (from_some t r s) x ≡ list_any (λ y. is_in (from_some t r (y ∷ [])) x) s
  linear-from r s x = same_by_iff _ _
      (λ h. let k = and_parts (list_any (λ y. r y x) s) (is_in (all t) x) (sym (in-from r s x) ∙ h) in
      let f = any-found (λ y. r y x) s k.0 in
      any-made (λ y. is_in (from_some t r (y ∷ [])) x) s f.0 f.1 (in-from_one r f.0 x ∙ and-true _ _ f.2 k.1))
      (λ h. let f = any-found (λ y. is_in (from_some t r (y ∷ [])) x) s h in
      let k = and_parts (r f.0 x) (is_in (all t) x) (sym (in-from_one r f.0 x) ∙ f.2) in
      in-from r s x ∙ and-true _ _ (any-made (λ y. r y x) s f.0 f.1 k.0) k.1)

pub linear-filter : (p : ℕ → Bool) (s : List ℕ) (x : ℕ) → is_in (filter p s) x ≡ list_any (λ y. is_in (filter p (y ∷ [])) x) s
linear-filter p s x = same_by_iff _ _
    (λ h. let k = and_parts (p x) (is_in s x) (sym (is_in-filter p x s) ∙ h) in
    any-made (λ y. is_in (filter p (y ∷ [])) x) s x k.1 (is_in-filter p x (x ∷ []) ∙ and-true _ _ k.0 (here x [])))
    (λ h. let f = any-found (λ y. is_in (filter p (y ∷ [])) x) s h in
    let k = and_parts (p x) (is_in (f.0 ∷ []) x) (sym (is_in-filter p x (f.0 ∷ [])) ∙ f.2) in
    is_in-filter p x s ∙ and-true _ _ k.0 (subst (λ z. is_in s z ≡ true) (alone f.0 x k.1) f.1))

module _ (e : Event) (frame : Frame e) where
  -- ---- membership
  module _ (r r2 : Sensors) (s v : List ℕ) (alike : Alike e frame r s v) where
    pub member-filter : (p q : ℕ → Bool) (w : Sensors) → TestLaw e frame p q w → Alike e frame (r ++ w) (filter p s) (filter q v)
    member-filter p q w law = record {
      of_before = λ y h. alike.of_before y (and_parts (p y) (is_in s y) (sym (is_in-filter p y s) ∙ h)).1;
      of_after = λ y h. alike.of_after y (and_parts (q y) (is_in v y) (sym (is_in-filter q y v) ∙ h)).1;
      same = λ y m h. let parts = quiet-join e.new e.seen e.places r w y h in
          is_in-filter p y s
          ∙ and-both (p y) (is_in s y) (q y) (is_in v y) (λ n. law y m (alike.of_before y n) parts.1) (alike.same y m parts.0)
          ∙ sym (is_in-filter q y v);
    }

    module _ where
      pub member-from : (f g : ℕ → ℕ → Bool) →
          ((x y : ℕ) → e.moved x ≡ false → is_in (all e.old) x ≡ true → quiet e frame r2 x → (f y x && is_in s y) ≡ (g y x && is_in v y)) →
          Alike e frame r2 (from_some e.old f s) (from_some e.new g v)
      member-from f g each = record {
        of_before = λ x h. (and_parts (list_any (λ y. f y x) s) (is_in (all e.old) x) (sym (in-from e.old f s x) ∙ h)).1;
        of_after = λ x h. (and_parts (list_any (λ y. g y x) v) (is_in (all e.new) x) (sym (in-from e.new g v x) ∙ h)).1;
        same = λ x m h.
            in-from e.old f s x
            ∙ and-both (list_any (λ y. f y x) s) (is_in (all e.old) x) (list_any (λ y. g y x) v) (is_in (all e.new) x)
            (λ n. any-same (λ y. f y x) (λ y. g y x) s v (λ y. each x y m n h)) (frame.stays x m)
            ∙ sym (in-from e.new g v x);
      }

  -- ---- leading on
  module _ (k l : ℕ → Bool) (x : ℕ) where
    pub leads-from : (f g : ℕ → ℕ → Bool) →
        ((z : ℕ) → ((f x z && is_in (all e.old) z) ≡ (g x z && is_in (all e.new) z)) × ((g x z && is_in (all e.new) z) ≡ true → k z ≡ l z)) →
        list_any k (from_some e.old f (x ∷ [])) ≡ list_any l (from_some e.new g (x ∷ []))
    leads-from f g each = any-same k l _ _
        (λ z. ap (λ b. k z && b) (in-from_one e.old f x z ∙ (each z).0)
        ∙ and-both (k z) (g x z && is_in (all e.new) z) (l z) (g x z && is_in (all e.new) z) (each z).1 refl
        ∙ ap (λ b. l z && b) (sym (in-from_one e.new g x z)))

    pub leads-filter : (p q : ℕ → Bool) → p x ≡ q x → k x ≡ l x → list_any k (filter p (x ∷ [])) ≡ list_any l (filter q (x ∷ []))
    leads-filter p q a b = any-same k l _ _
        (λ z. ap (λ c. k z && c) (is_in-filter p z (x ∷ []))
        ∙ and-both (k z) (p z && is_in (x ∷ []) z) (l z) (q z && is_in (x ∷ []) z)
        (λ h. subst (λ y. k y ≡ l y) (alone x z (and_parts (p z) (is_in (x ∷ []) z) h).1) b)
        (and-both (p z) (is_in (x ∷ []) z) (q z) (is_in (x ∷ []) z) (λ h. subst (λ y. p y ≡ q y) (alone x z h) a) refl)
        ∙ ap (λ c. l z && c) (sym (is_in-filter q z (x ∷ []))))
