-- The laws of each step, from the facts of a change alone.
use Rattle.std.proofs.Common.{◌≡◌, ℕ, Bool, true, false, ◌&&◌, ◌||◌, ◌==◌, inl, inr, List, [], ◌∷◌, ◌++◌, find, Option, Some, cond, slice_get, refl, sym, ap, ap₂, subst, ◌∙◌}
use Rattle.std.specs.List.{list_any}
use Rattle.std.proofs.lemmas.Bool.{eqb-true}
use Rattle.page_tree.specs.Directions.{head_is, is_in, numbers_of}
use Rattle.page_tree.specs.Forest.{Tree}
use Rattle.page_tree.specs.Standings.{above, all, before}
use Rattle.selector_meaning.specs.Meaning.{option_is}
use Rattle.sensor_meaning.specs.Dirty.{comes}
use Rattle.sensor_meaning.specs.Sensors.{Sensors, one, via}
use Rattle.sensor_meaning.specs.declared.sensor.Observes.TheVariants.{Children}
use Rattle.sensor_meaning.specs.declared.sensor.Way.{Way}
use Rattle.sensor_meaning.specs.declared.sensor.Way.TheVariants.{ToAbove, ToBelow, ToChild}
use Rattle.sensor_laws.specs.Frame.{Event, Frame, IsBelowPlace, IsSound}
use Rattle.sensor_laws.proofs.Any.{never_true, same_by_iff, and-true, and_parts, or_parts, or-left, or-right, here, no, both, and-same}
use Rattle.sensor_laws.proofs.Quiet.{quiet-via, inside}
use Rattle.sensor_laws.proofs.Laws.{quiet, Alike, TestLaw, in_after, in_before, far, not_below, go-below, go-above}
use Rattle.sensor_laws.proofs.Relations.{and-both, cases}

pub get-in : (l : List ℕ) (i x : ℕ) → option_is (slice_get l i) x ≡ true → is_in l x ≡ true
get-in [] i x h = never_true h
get-in (y ∷ l) Rattle.std.specs.Prelude.zero x h = or-left (y == x) (is_in l x) h
get-in (y ∷ l) (Rattle.std.specs.Prelude.suc i) x h = or-right (y == x) (is_in l x) (get-in l i x h)

found_or : (p : Bool) (y x : ℕ) (o : Option ℕ) (b : Bool) → (option_is o x ≡ true → b ≡ true) → option_is (cond p (Some y) o) x ≡ true → ((y == x) || b) ≡ true
found_or true y x o b f h = or-left (y == x) b h
found_or false y x o b f h = or-right (y == x) b (f h)

pub find-in : (p : ℕ → Bool) (l : List ℕ) (x : ℕ) → option_is (find p l) x ≡ true → is_in l x ≡ true
find-in p [] x h = never_true h
find-in p (y ∷ l) x h = found_or (p y) y x (find p l) (is_in l x) (find-in p l x) h

found_same : (a b : Bool) (y x : ℕ) (m n : Option ℕ) → a ≡ b → option_is m x ≡ option_is n x → option_is (cond a (Some y) m) x ≡ option_is (cond b (Some y) n) x
found_same true true y x m n is so = refl
found_same false false y x m n is so = so
found_same true false y x m n is so = never_true (sym is)
found_same false true y x m n is so = never_true is

-- the first that passes is the same where those that count for it pass alike
pub find-same : (p q : ℕ → Bool) (l : List ℕ) → ((z : ℕ) → is_in l z ≡ true → p z ≡ q z) → find p l ≡ find q l
find-same p q [] f = refl
find-same p q (y ∷ l) f =
    ap₂ (λ a o. cond a (Some y) o) (f y (here y l)) (find-same p q l (λ z h. f z (or-right (y == z) (is_in l z) h)))

module _ (u : Tree) (sound : IsSound u) (p q : ℕ → Bool) (x : ℕ) (same : p x ≡ q x)
    (same_up : (z : ℕ) → is_in (all u) z ≡ true → is_in (above u z) x ≡ true → p z ≡ q z) where
  -- x is the first that passes in both, or in neither: what passes above it doesn't count
  pub nearest : (l : List ℕ) (w : ℕ) → l ≡ above u w → option_is (find p l) x ≡ option_is (find q l) x
  nearest [] w is = refl
  nearest (z ∷ more) w is =
      cases (is_in (z ∷ more) x)
      (λ h. found_same (p z) (q z) z x (find p more) (find q more)
      (elim (or_parts (z == x) (is_in more x) h) [
        | inl n ↦ subst (λ y. p y ≡ q y) (sym (eqb-true z x n)) same
        | inr n ↦ same_up z (sound.inside w z (subst (λ a. is_in a z ≡ true) is (here z more)))
            (subst (λ a. is_in a x ≡ true) (sound.climbs w z more (sym is)) n)
      ])
      (nearest more z (sound.climbs w z more (sym is))))
      (λ h. no _ (λ n. both _ (find-in p (z ∷ more) x n) h) ∙ sym (no _ (λ n. both _ (find-in q (z ∷ more) x n) h)))

module _ (e : Event) (frame : Frame e) (r : Sensors) where
  -- ---- what an element that stays is reached from
  module _ (s v : List ℕ) (alike : Alike e frame r s v) (x y : ℕ) (m : e.moved x ≡ false) (h : is_in (all e.old) x ≡ true) where
    stays_in : is_in (all e.new) x ≡ true
    stays_in = in_after e frame x m h

    -- from above, by what picks one from the list of its ancestors
    module _ (pick : List ℕ → ℕ → Bool) (picks : (l : List ℕ) (z : ℕ) → pick l z ≡ true → is_in l z ≡ true) (d : Way)
        (go : pick (above e.new x) y ≡ true → comes e.new d y x ≡ true) where
      pub from-above : quiet e frame (via d r) x → (pick (above e.old x) y && is_in s y) ≡ (pick (above e.new x) y && is_in v y)
      from-above q =
          ap (λ l. pick l y && is_in s y) (frame.same_above x m h)
          ∙ and-same (pick (above e.new x) y) (is_in s y) (is_in v y)
          (λ n. alike.same y (frame.stays_above x y m h (picks (above e.old x) y (ap (λ l. pick l y) (frame.same_above x m h) ∙ n)))
          (quiet-via e.new e.seen e.places d r x y (inside e.new e.seen e.places x stays_in) (go n) q))

    -- from beside, by what picks one from the list of its earlier siblings
    module _ (pick : List ℕ → ℕ → Bool) (picks : (l : List ℕ) (z : ℕ) → pick l z ≡ true → is_in l z ≡ true) (d : Way)
        (go : pick (numbers_of (before e.new x)) y ≡ true → comes e.new d y x ≡ true) where
      pub from-beside : quiet e frame (via d r) x → quiet e frame (one Children (ToChild ∷ [])) x →
          (pick (numbers_of (before e.old x)) y && is_in s y) ≡ (pick (numbers_of (before e.new x)) y && is_in v y)
      from-beside q c = elim (frame.same_beside x m h) [
        | inr b ↦ absurd (not_below e frame x stays_in c b)
        | inl same ↦
            ap (λ l. pick (numbers_of l) y && is_in s y) same.0
            ∙ and-same (pick (numbers_of (before e.new x)) y) (is_in s y) (is_in v y)
            (λ n. let n2 = picks (numbers_of (before e.old x)) y (ap (λ l. pick (numbers_of l) y) same.0 ∙ n) in
            alike.same y
            (no (e.moved y) (λ k. not_below e frame x stays_in c
            (frame.beside_before x y m k h (frame.sound_before.shared y x n2).0 (inl n2))))
            (quiet-via e.new e.seen e.places d r x y (inside e.new e.seen e.places x stays_in) (go n) q))
      ]

    -- from ToBelow, by what picks x from the ancestors of y
    module _ (pick other : List ℕ → ℕ → Bool) (picks : (l : List ℕ) (z : ℕ) → pick l z ≡ true → is_in l z ≡ true)
        (others : (l : List ℕ) (z : ℕ) → other l z ≡ true → is_in l z ≡ true)
        (agree : is_in (all e.new) y ≡ true → pick (above e.new y) x ≡ other (above e.new y) x) where
      pub from-below : quiet e frame (via ToAbove r) x → quiet e frame (one Children []) x → quiet e frame (one Children (ToAbove ∷ [])) x →
          (pick (above e.old y) x && is_in s y) ≡ (other (above e.new y) x && is_in v y)
      from-below q c1 c2 =
          cases (e.moved y)
          (λ k. no _ (λ n. let g = and_parts (pick (above e.old y) x) (is_in s y) n in
          far e frame x stays_in Children c1 c2 (frame.below_before x y m k (alike.of_before y g.1) (picks (above e.old y) x g.0)))
          ∙ sym (no _ (λ n. let g = and_parts (other (above e.new y) x) (is_in v y) n in
          far e frame x stays_in Children c1 c2 (frame.below_after x y m k (alike.of_after y g.1) (others (above e.new y) x g.0)))))
          (λ k. same_by_iff _ _
          (λ n. let g = and_parts (pick (above e.old y) x) (is_in s y) n in
          let i = alike.of_before y g.1 in let j = in_after e frame y k i in
          let a : pick (above e.new y) x ≡ true = ap (λ l. pick l x) (sym (frame.same_above y k i)) ∙ g.0 in
          and-true _ _ (sym (agree j) ∙ a) (sym (alike.same y k (calm j (picks (above e.new y) x a) q)) ∙ g.1))
          (λ n. let g = and_parts (other (above e.new y) x) (is_in v y) n in
          let j = alike.of_after y g.1 in let i = in_before e frame y k j in
          and-true _ _ (ap (λ l. pick l x) (frame.same_above y k i) ∙ agree j ∙ g.0)
          (alike.same y k (calm j (others (above e.new y) x g.0) q) ∙ g.1)))
        where
          calm : is_in (all e.new) y ≡ true → is_in (above e.new y) x ≡ true → quiet e frame (via ToAbove r) x → quiet e frame r y
          calm j a q2 = quiet-via e.new e.seen e.places ToAbove r x y (inside e.new e.seen e.places x stays_in) (go-above e frame x y j a) q2

  -- ---- what an element that stays leads to
  module _ (k l : ℕ → Bool) (law : TestLaw e frame k l r) (x z : ℕ) (m : e.moved x ≡ false) (h : is_in (all e.old) x ≡ true) where
    abbrev Leads : Bool → Bool → Type 0
    Leads a b = ((a && is_in (all e.old) z) ≡ (b && is_in (all e.new) z)) × ((b && is_in (all e.new) z) ≡ true → k z ≡ l z)

    stays_here : is_in (all e.new) x ≡ true
    stays_here = in_after e frame x m h

    -- down, by what picks x from the ancestors of z
    module _ (pick : List ℕ → ℕ → Bool) (picks : (l : List ℕ) (w : ℕ) → pick l w ≡ true → is_in l w ≡ true) (d : Way)
        (go : is_in (all e.new) z ≡ true → pick (above e.new z) x ≡ true → comes e.new d z x ≡ true)
        (not_before : e.moved z ≡ true → is_in (all e.old) z ≡ true → pick (above e.old z) x ≡ true → ⊥)
        (not_after : e.moved z ≡ true → is_in (all e.new) z ≡ true → pick (above e.new z) x ≡ true → ⊥) where
      pub to-below : quiet e frame (via d r) x → Leads (pick (above e.old z) x) (pick (above e.new z) x)
      to-below q = (
        cases (e.moved z)
            (λ k. no _ (λ n. let g = and_parts (pick (above e.old z) x) (is_in (all e.old) z) n in not_before k g.1 g.0)
            ∙ sym (no _ (λ n. let g = and_parts (pick (above e.new z) x) (is_in (all e.new) z) n in not_after k g.1 g.0)))
            (λ k. and-both (pick (above e.old z) x) (is_in (all e.old) z) (pick (above e.new z) x) (is_in (all e.new) z)
            (λ i. ap (λ a. pick a x) (frame.same_above z k i)) (frame.stays z k)),
        λ n. let g = and_parts (pick (above e.new z) x) (is_in (all e.new) z) n in
            let k = no (e.moved z) (λ k. not_after k g.1 g.0) in
            law z k (in_before e frame z k g.1) (quiet-via e.new e.seen e.places d r x z (inside e.new e.seen e.places x stays_here) (go g.1 g.0) q),
      )

    -- up, by what picks z from the ancestors of x
    module _ (pick other : List ℕ → ℕ → Bool) (others : (l : List ℕ) (w : ℕ) → other l w ≡ true → is_in l w ≡ true)
        (agree : pick (above e.new x) z ≡ other (above e.new x) z) where
      pub to-above : quiet e frame (via ToBelow r) x → Leads (pick (above e.old x) z) (other (above e.new x) z)
      to-above q = (
        ap (λ a. pick a z && is_in (all e.old) z) (frame.same_above x m h)
            ∙ ap (λ a. a && is_in (all e.old) z) agree
            ∙ and-same (other (above e.new x) z) (is_in (all e.old) z) (is_in (all e.new) z) (λ n. frame.stays z (stay n)),
        λ n. let g = and_parts (other (above e.new x) z) (is_in (all e.new) z) n in
            law z (stay g.0) (in_before e frame z (stay g.0) g.1)
            (quiet-via e.new e.seen e.places ToBelow r x z (inside e.new e.seen e.places x stays_here) (go-below e frame x z stays_here (others (above e.new x) z g.0)) q),
      )
        where
          stay : other (above e.new x) z ≡ true → e.moved z ≡ false
          stay n = frame.stays_above x z m h (ap (λ a. is_in a z) (frame.same_above x m h) ∙ others (above e.new x) z n)

    -- on, by what picks x from the earlier siblings of z
    module _ (pick : List ℕ → ℕ → Bool) (picks : (l : List ℕ) (w : ℕ) → pick l w ≡ true → is_in l w ≡ true) (d : Way)
        (go : pick (numbers_of (before e.new z)) x ≡ true → comes e.new d z x ≡ true) where
      pub to-beside : quiet e frame (via d r) x → quiet e frame (one Children (ToChild ∷ [])) x →
          Leads (pick (numbers_of (before e.old z)) x) (pick (numbers_of (before e.new z)) x)
      to-beside q c = (
        same_by_iff _ _
            (λ n. let g = and_parts (pick (numbers_of (before e.old z)) x) (is_in (all e.old) z) n in
            let a = picks (numbers_of (before e.old z)) x g.0 in
            let k = no (e.moved z) (λ k. refused (frame.beside_before x z m k h g.1 (inr a))) in
            and-true _ _ (ap (λ b. pick (numbers_of b) x) (sym (beside k g.1 (sym (frame.sound_before.shared x z a).1 ∙ frame.same_above x m h))) ∙ g.0) (in_after e frame z k g.1))
            (λ n. let g = and_parts (pick (numbers_of (before e.new z)) x) (is_in (all e.new) z) n in
            let a = picks (numbers_of (before e.new z)) x g.0 in
            let k = no (e.moved z) (λ k. refused (frame.beside_after x z m k stays_here g.1 (inr a))) in
            let i = in_before e frame z k g.1 in
            and-true _ _ (ap (λ b. pick (numbers_of b) x) (beside k i (frame.same_above z k i ∙ sym (frame.sound_after.shared x z a).1)) ∙ g.0) i),
        λ n. let g = and_parts (pick (numbers_of (before e.new z)) x) (is_in (all e.new) z) n in
            let a = picks (numbers_of (before e.new z)) x g.0 in
            let k = no (e.moved z) (λ k. refused (frame.beside_after x z m k stays_here g.1 (inr a))) in
            law z k (in_before e frame z k g.1) (quiet-via e.new e.seen e.places d r x z (inside e.new e.seen e.places x stays_here) (go g.0) q),
      )
        where
          refused : IsBelowPlace e x → ⊥
          refused b = not_below e frame x stays_here c b

          beside : e.moved z ≡ false → is_in (all e.old) z ≡ true → above e.old z ≡ above e.new x → before e.old z ≡ before e.new z
          beside k i up = elim (frame.same_beside z k i) [
            | inl same ↦ same.0
            | inr b ↦ absurd (refused (record {
              holder = b.holder;
              is_holder = ap (λ a. head_is (a ++ 0 ∷ []) b.holder) (sym up ∙ frame.same_above z k i) ∙ b.is_holder;
              is_place = b.is_place;
            }))
          ]
