-- The facts of a change, from what it does to the list of elements with what stands around each.
use Rattle.std.proofs.Common.{◌≡◌, ℕ, Bool, true, false, ◌||◌, ◌==◌, ◌⊎◌, inl, inr, List, [], ◌∷◌, ◌++◌, map, find, Option, Some, None, cond, option_map, unwrap_or, refl, sym, ap, ap₂, subst, ◌∙◌}
use Rattle.std.specs.List.{list_any}
use Rattle.std.proofs.lemmas.Bool.{eqb-true, eq-eqb}
use Rattle.page_tree.specs.Directions.{head_is, is_in, numbers_of}
use Rattle.page_tree.specs.Facts.{is_blank, texts}
use Rattle.page_tree.specs.Forest.{Tree, value_at}
use Rattle.page_tree.specs.Standings.{Standing, above, after, all, attrs, before, elements, inner, name, standing}
use Rattle.selector_meaning.specs.Texts.{Bytes}
use Rattle.sensor_meaning.specs.declared.sensor.Observes.TheVariants.{AnyAttr, Attr, Children, Path, Text}
use Rattle.sensor_laws.specs.Frame.{Event, Frame, IsBelowPlace, IsDistinct, IsNear, IsSound, above_place, at_place, touched}
use Rattle.sensor_laws.proofs.Any.{never_true, same_by_iff, or_parts, both, here}
use Rattle.sensor_laws.proofs.Sound.{In, view, known, in_all, above_is, before_is, sound}

module _ (e : Event) where
  -- an element that stays, before and after
  pub record Kept (s r : Standing) : Type 0 where
    pub number : s.number ≡ r.number
    pub name : s.name ≡ r.name
    pub above : s.above ≡ r.above
    pub beside : ((s.before ≡ r.before) × (s.after ≡ r.after)) ⊎ ((p : ℕ) × (head_is (r.above ++ 0 ∷ []) p ≡ true) × (touched e Children p ≡ true))
    pub attr : (key : Bytes) → touched e (Attr key) s.number ≡ false → value_at key s.attrs ≡ value_at key r.attrs
    pub attrs : touched e AnyAttr s.number ≡ false → s.attrs ≡ r.attrs
    pub blank : touched e Text s.number ≡ false → is_blank s.inner ≡ is_blank r.inner
    pub said : (texts s.inner ≡ texts r.inner) ⊎ IsNear e Text s.number

  -- a moved element stands below a place, or below a moved element
  abbrev pub Hangs : Standing → Type 0
  Hangs s =
      ((p : ℕ) × (head_is (s.above ++ 0 ∷ []) p ≡ true) × (touched e Children p ≡ true) × (e.moved p ≡ false))
      ⊎ ((y : ℕ) × (more : List ℕ) × (s.above ≡ y ∷ more) × (e.moved y ≡ true))

  -- what is shown of each kind of change
  pub record Facts : Type 0 where
    pub distinct_before : IsDistinct (all e.old)
    pub distinct_after : IsDistinct (all e.new)
    pub lone_before : is_in (all e.old) 0 ≡ false
    pub lone_after : is_in (all e.new) 0 ≡ false
    pub kept : (s : Standing) → In s (elements e.old) → e.moved s.number ≡ false → (r : Standing) × In r (elements e.new) × Kept s r
    pub known_before : (r : Standing) → In r (elements e.new) → e.moved r.number ≡ false → is_in (all e.old) r.number ≡ true
    pub hangs_before : (s : Standing) → In s (elements e.old) → e.moved s.number ≡ true → Hangs s
    pub hangs_after : (r : Standing) → In r (elements e.new) → e.moved r.number ≡ true → Hangs r
    pub all_below : (s : Standing) → In s (elements e.old) → e.moved s.number ≡ false → (z : ℕ) → is_in s.above z ≡ true → e.moved z ≡ false
    pub some_place : (z : ℕ) → e.moved z ≡ true → (p : ℕ) × (touched e Children p ≡ true)
    pub same_path : touched e Path 0 ≡ false → e.old_path ≡ e.new_path

module _ (t : Tree) (distinct : IsDistinct (all t)) (lone : is_in (all t) 0 ≡ false) where
  -- an element of the tree with what stands around it
  pub stands : (x : ℕ) → is_in (all t) x ≡ true → (s : Standing) × In s (elements t) × (s.number ≡ x)
  stands x h = elim (view (elements t) x) [
    | inl n ↦ absurd (both (is_in (all t) x) h (absent (elements t) x n))
    | inr v ↦ (v.0, v.1, v.2)
  ]
    where
      absent_at : (b : Bool) (y : Standing) (o : Option Standing) → cond b (Some y) o ≡ None → (b ≡ false) × (o ≡ None)
      absent_at true y o h = never_true (ap (λ (k : Option Standing). Rattle.std.specs.Prelude.is_some k) (sym h))
      absent_at false y o h = (refl, h)

      absent : (xs : List Standing) (x : ℕ) → find (λ r. r.number == x) xs ≡ None → is_in (map (λ r. r.number) xs) x ≡ false
      absent [] x n = refl
      absent (y ∷ xs) x n = let k = absent_at (y.number == x) y (find (λ r. r.number == x) xs) n in ap₂ ◌||◌ k.0 (absent xs x k.1)

  module _ (x : ℕ) (s : Standing) (i : In s (elements t)) (is : s.number ≡ x) where
    here_it_is : standing t x ≡ Some s
    here_it_is = ap (standing t) (sym is) ∙ known t distinct lone s i

    pub after_is : after t x ≡ s.after
    after_is = ap (λ o. unwrap_or (option_map (λ r. r.after) o) []) here_it_is

    pub name_is : name t x ≡ s.name
    name_is = ap (λ o. unwrap_or (option_map (λ r. r.name) o) []) here_it_is

    pub attrs_are : attrs t x ≡ s.attrs
    attrs_are = ap (λ o. unwrap_or (option_map (λ r. r.attrs) o) []) here_it_is

    pub inner_is : inner t x ≡ s.inner
    inner_is = ap (λ o. unwrap_or (option_map (λ r. r.inner) o) Rattle.page_tree.specs.Forest.empty) here_it_is

module _ (e : Event) (facts : Facts e) where
  sound_old : IsSound e.old
  sound_old = sound e.old facts.distinct_before facts.lone_before

  pub sound_new : IsSound e.new
  sound_new = sound e.new facts.distinct_after facts.lone_after

  -- an element that stays, with its standings
  pub record Both (x : ℕ) : Type 0 where
    pub s : Standing
    pub r : Standing
    pub s_in : In s (elements e.old)
    pub r_in : In r (elements e.new)
    pub s_is : s.number ≡ x
    pub r_is : r.number ≡ x
    pub kept : Kept e s r

  both_of : (x : ℕ) → e.moved x ≡ false → is_in (all e.old) x ≡ true → Both x
  both_of x m h =
      let s = stands e.old facts.distinct_before facts.lone_before x h in
      let r = facts.kept s.0 s.1 (ap e.moved s.2 ∙ m) in
      record { s = s.0; r = r.0; s_in = s.1; r_in = r.1; s_is = s.2; r_is = sym r.2.number ∙ s.2; kept = r.2 }

  old_above : (x : ℕ) (b : Both x) → above e.old x ≡ b.s.above
  old_above x b = above_is e.old facts.distinct_before facts.lone_before x b.s b.s_in b.s_is

  new_above : (x : ℕ) (b : Both x) → above e.new x ≡ b.r.above
  new_above x b = above_is e.new facts.distinct_after facts.lone_after x b.r b.r_in b.r_is

  f_stays : (x : ℕ) → e.moved x ≡ false → is_in (all e.old) x ≡ is_in (all e.new) x
  f_stays x m = same_by_iff _ _
      (λ h. let b = both_of x m h in in_all e.new facts.distinct_after facts.lone_after x b.r b.r_in b.r_is)
      (λ h. let r = stands e.new facts.distinct_after facts.lone_after x h in
      ap (is_in (all e.old)) (sym r.2) ∙ facts.known_before r.0 r.1 (ap e.moved r.2 ∙ m))

  f_above : (x : ℕ) → e.moved x ≡ false → is_in (all e.old) x ≡ true → above e.old x ≡ above e.new x
  f_above x m h = let b = both_of x m h in old_above x b ∙ b.kept.above ∙ sym (new_above x b)

  f_stays_above : (x z : ℕ) → e.moved x ≡ false → is_in (all e.old) x ≡ true → is_in (above e.old x) z ≡ true → e.moved z ≡ false
  f_stays_above x z m h a =
      let s = stands e.old facts.distinct_before facts.lone_before x h in
      facts.all_below s.0 s.1 (ap e.moved s.2 ∙ m) z (ap (λ l. is_in l z) (sym (above_is e.old facts.distinct_before facts.lone_before x s.0 s.1 s.2)) ∙ a)

  below_place : (x p : ℕ) (l : List ℕ) → above e.new x ≡ l → head_is (l ++ 0 ∷ []) p ≡ true → touched e Children p ≡ true → IsBelowPlace e x
  below_place x p l is h place = record { holder = p; is_holder = ap (λ k. head_is (k ++ 0 ∷ []) p) is ∙ h; is_place = place }

  f_beside : (x : ℕ) → e.moved x ≡ false → is_in (all e.old) x ≡ true → ((before e.old x ≡ before e.new x) × (after e.old x ≡ after e.new x)) ⊎ IsBelowPlace e x
  f_beside x m h =
      let b = both_of x m h in
      elim b.kept.beside [
        | inl same ↦ inl (
          before_is e.old facts.distinct_before facts.lone_before x b.s b.s_in b.s_is ∙ same.0 ∙ sym (before_is e.new facts.distinct_after facts.lone_after x b.r b.r_in b.r_is),
          after_is e.old facts.distinct_before facts.lone_before x b.s b.s_in b.s_is ∙ same.1 ∙ sym (after_is e.new facts.distinct_after facts.lone_after x b.r b.r_in b.r_is),
        )
        | inr p ↦ inr (below_place x p.0 b.r.above (new_above x b) p.1 p.2)
      ]

  -- the head of a list that isn't empty
  head_of : (l : List ℕ) (x p : ℕ) → head_is l x ≡ true → head_is (l ++ 0 ∷ []) p ≡ true → p ≡ x
  head_of [] x p h k = never_true h
  head_of (y ∷ l) x p h k = sym (eqb-true y p k) ∙ eqb-true y x h

  -- in one of the two trees
  module _ (t : Tree) (distinct : IsDistinct (all t)) (lone : is_in (all t) 0 ≡ false)
      (hangs : (s : Standing) → In s (elements t) → e.moved s.number ≡ true → Hangs e s)
      (to_new : (x : ℕ) → e.moved x ≡ false → is_in (all t) x ≡ true → (is_in (all e.new) x ≡ true) × (above t x ≡ above e.new x))
      (calm : (x z : ℕ) → e.moved x ≡ false → is_in (all t) x ≡ true → is_in (above t x) z ≡ true → e.moved z ≡ false) where
    snd : IsSound t
    snd = sound t distinct lone

    hangs_at : (z : ℕ) → e.moved z ≡ true → is_in (all t) z ≡ true →
        ((p : ℕ) × (head_is (above t z ++ 0 ∷ []) p ≡ true) × (touched e Children p ≡ true) × (e.moved p ≡ false))
        ⊎ ((y : ℕ) × (more : List ℕ) × (above t z ≡ y ∷ more) × (e.moved y ≡ true))
    hangs_at z m h =
        let s = stands t distinct lone z h in
        let up = above_is t distinct lone z s.0 s.1 s.2 in
        elim (hangs s.0 s.1 (ap e.moved s.2 ∙ m)) [
          | inl p ↦ inl (p.0, ap (λ l. head_is (l ++ 0 ∷ []) p.0) up ∙ p.1, p.2, p.3)
          | inr y ↦ inr (y.0, y.1, up ∙ y.2, y.3)
        ]

    g_child : (x z : ℕ) → e.moved x ≡ false → e.moved z ≡ true → is_in (all t) z ≡ true → head_is (above t z) x ≡ true → touched e Children x ≡ true
    g_child x z m mz h a = elim (hangs_at z mz h) [
      | inl p ↦ ap (touched e Children) (sym (head_of (above t z) x p.0 a p.1)) ∙ p.2
      | inr y ↦ absurd (both (e.moved y.0) y.3 (ap e.moved (eqb-true y.0 x (ap (λ l. head_is l x) (sym y.2) ∙ a)) ∙ m))
    ]

    g_beside : (x z : ℕ) → e.moved x ≡ false → e.moved z ≡ true → is_in (all t) x ≡ true → is_in (all t) z ≡ true →
        (is_in (numbers_of (before t x)) z ≡ true) ⊎ (is_in (numbers_of (before t z)) x ≡ true) → IsBelowPlace e x
    g_beside x z m mz hx hz near =
        let same : above t x ≡ above t z = elim near [ inl a ↦ sym (snd.shared z x a).1 | inr a ↦ (snd.shared x z a).1 ] in
        elim (hangs_at z mz hz) [
          | inl p ↦ below_place x p.0 (above t z) (sym (to_new x m hx).1 ∙ same) p.1 p.2
          | inr y ↦ absurd (both (e.moved y.0) y.3 (calm x y.0 m hx (ap (λ l. is_in l y.0) (same ∙ y.2) ∙ here y.0 y.1)))
        ]

    -- by steps up from z
    pub near_above : (l : List ℕ) (x z : ℕ) → above t z ≡ l → e.moved x ≡ false → e.moved z ≡ true → is_in (all t) z ≡ true → is_in l x ≡ true → IsNear e Children x
    near_above [] x z is m mz h a = never_true a
    near_above (w ∷ l) x z is m mz h a =
        let w_in = snd.inside z w (ap (λ k. is_in k w) is ∙ here w l) in
        let w_up = snd.climbs z w l is in
        elim (hangs_at z mz h) [
          | inl p ↦ (
              let w_p : w ≡ p.0 = eqb-true w p.0 (ap (λ k. head_is (k ++ 0 ∷ []) p.0) (sym is) ∙ p.1) in
              let w_stays : e.moved w ≡ false = ap e.moved w_p ∙ p.3 in
              let w_new = to_new w w_stays w_in in
              elim (or_parts (w == x) (is_in l x) a) [
                | inl n ↦ at_place (ap (touched e Children) (sym (eqb-true w x n) ∙ w_p) ∙ p.2)
                | inr n ↦ above_place w (ap (touched e Children) w_p ∙ p.2) w_new.0 (ap (λ k. is_in k x) (sym w_new.1 ∙ sym w_up) ∙ n)
              ])
          | inr y ↦ (
              let w_y : w ≡ y.0 = eqb-true w y.0 (ap (λ k. head_is k y.0) (sym is ∙ y.2) ∙ eq-eqb y.0 y.0 refl) in
              let w_moved : e.moved w ≡ true = ap e.moved w_y ∙ y.3 in
              elim (or_parts (w == x) (is_in l x) a) [
                | inl n ↦ absurd (both (e.moved w) w_moved (ap e.moved (eqb-true w x n) ∙ m))
                | inr n ↦ near_above l x w (sym w_up) m w_moved w_in n
              ])
        ]

    g_below : (x z : ℕ) → e.moved x ≡ false → e.moved z ≡ true → is_in (all t) z ≡ true → is_in (above t z) x ≡ true → IsNear e Children x
    g_below x z m mz h a = near_above (above t z) x z refl m mz h a

  to_new_old : (x : ℕ) → e.moved x ≡ false → is_in (all e.old) x ≡ true → (is_in (all e.new) x ≡ true) × (above e.old x ≡ above e.new x)
  to_new_old x m h = (sym (f_stays x m) ∙ h, f_above x m h)

  to_new_new : (x : ℕ) → e.moved x ≡ false → is_in (all e.new) x ≡ true → (is_in (all e.new) x ≡ true) × (above e.new x ≡ above e.new x)
  to_new_new x m h = (h, refl)

  calm_new : (x z : ℕ) → e.moved x ≡ false → is_in (all e.new) x ≡ true → is_in (above e.new x) z ≡ true → e.moved z ≡ false
  calm_new x z m h a = let k = f_stays x m ∙ h in f_stays_above x z m k (ap (λ l. is_in l z) (f_above x m k) ∙ a)

  pub frame_of : Frame e
  frame_of = record {
    sound_before = sound_old;
    sound_after = sound_new;
    stays = f_stays;
    same_above = f_above;
    stays_above = f_stays_above;
    same_beside = f_beside;
    beside_before = g_beside e.old facts.distinct_before facts.lone_before facts.hangs_before to_new_old f_stays_above;
    beside_after = g_beside e.new facts.distinct_after facts.lone_after facts.hangs_after to_new_new calm_new;
    child_before = g_child e.old facts.distinct_before facts.lone_before facts.hangs_before to_new_old f_stays_above;
    child_after = g_child e.new facts.distinct_after facts.lone_after facts.hangs_after to_new_new calm_new;
    below_before = g_below e.old facts.distinct_before facts.lone_before facts.hangs_before to_new_old f_stays_above;
    below_after = g_below e.new facts.distinct_after facts.lone_after facts.hangs_after to_new_new calm_new;
    some_place = facts.some_place;
    same_name = λ x m h. let b = both_of x m h in
        name_is e.old facts.distinct_before facts.lone_before x b.s b.s_in b.s_is ∙ b.kept.name ∙ sym (name_is e.new facts.distinct_after facts.lone_after x b.r b.r_in b.r_is);
    same_attr = λ key x m h q. let b = both_of x m h in
        ap (value_at key) (attrs_are e.old facts.distinct_before facts.lone_before x b.s b.s_in b.s_is)
        ∙ b.kept.attr key (ap (touched e (Attr key)) b.s_is ∙ q)
        ∙ ap (value_at key) (sym (attrs_are e.new facts.distinct_after facts.lone_after x b.r b.r_in b.r_is));
    same_attrs = λ x m h q. let b = both_of x m h in
        attrs_are e.old facts.distinct_before facts.lone_before x b.s b.s_in b.s_is
        ∙ b.kept.attrs (ap (touched e AnyAttr) b.s_is ∙ q)
        ∙ sym (attrs_are e.new facts.distinct_after facts.lone_after x b.r b.r_in b.r_is);
    same_blank = λ x m h q. let b = both_of x m h in
        ap is_blank (inner_is e.old facts.distinct_before facts.lone_before x b.s b.s_in b.s_is)
        ∙ b.kept.blank (ap (touched e Text) b.s_is ∙ q)
        ∙ ap is_blank (sym (inner_is e.new facts.distinct_after facts.lone_after x b.r b.r_in b.r_is));
    same_text = λ x m h. let b = both_of x m h in elim b.kept.said [
      | inl same ↦ inl (
          ap texts (inner_is e.old facts.distinct_before facts.lone_before x b.s b.s_in b.s_is) ∙ same
          ∙ ap texts (sym (inner_is e.new facts.distinct_after facts.lone_after x b.r b.r_in b.r_is)))
      | inr near ↦ inr (subst (λ y. IsNear e Text y) b.s_is near)
    ];
    same_path = facts.same_path;
  }
