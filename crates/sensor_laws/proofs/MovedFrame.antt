-- The facts of a change that moves a node with what is below it.
use Rattle.std.proofs.Common.{◌≡◌, ℕ, Bool, true, false, ◌&&◌, ◌==◌, not, inl, inr, List, [], ◌∷◌, ◌++◌, map, refl, sym, ap, subst, ◌∙◌}
use Rattle.std.proofs.lemmas.Bool.{eqb-true}
use Rattle.page_tree.specs.Directions.{head_is, is_in}
use Rattle.page_tree.specs.Edits.{pruned}
use Rattle.page_tree.specs.Forest.{Tree, value_at}
use Rattle.page_tree.specs.Standings.{Standing, all, elements, standings}
use Rattle.selector_meaning.specs.Texts.{Bytes}
use Rattle.sensor_meaning.specs.Changes.{observes}
use Rattle.sensor_meaning.specs.declared.change.Change.TheVariants.{Moved}
use Rattle.sensor_meaning.specs.declared.sensor.Observes.{Observes}
use Rattle.sensor_meaning.specs.declared.sensor.Observes.TheVariants.{Children, Text}
use Rattle.sensor_laws.specs.Frame.{Event, Frame, IsNear, above_place, at_place, touched}
use Rattle.sensor_laws.proofs.Events.{IsNumbered, IsPart, cut, event_of}
use Rattle.sensor_laws.proofs.Any.{never_true, and-true, no, both, here, or-right}
use Rattle.sensor_laws.proofs.Sound.{In, in_named, above_is}
use Rattle.sensor_laws.proofs.Facts.{Kept, Facts, frame_of}
use Rattle.sensor_laws.proofs.PartFrames.{in_left, twin, from, hangs_all, below_all}

-- the same part, under p before and under q after, and all else is the same
module _ (n : ℕ) (top gone : ℕ → Bool) (p q : ℕ) (t u : Tree) (path : Bytes) (old_tree : IsNumbered t) (new_tree : IsNumbered u)
    (old_part : IsPart top gone p t) (new_part : IsPart top gone q u) (rest_same : pruned gone t.nodes ≡ pruned gone u.nodes) where
  abbrev ev : Event
  ev = event_of (Moved n p q) gone t path u path

  same : elements (cut 0 gone t) ≡ elements (cut 0 gone u)
  unfolding elements
  same = ap (standings [] []) rest_same

  same_all : all (cut 0 gone t) ≡ all (cut 0 gone u)
  same_all = ap (map (λ s. s.number)) same

  old_place : (o : Observes) → observes o (Moved n p q) ≡ true → touched ev o p ≡ true
  unfolding touched
  old_place o h = and-true _ _ h (here p (q ∷ []))

  new_place : (o : Observes) → observes o (Moved n p q) ≡ true → touched ev o q ≡ true
  unfolding touched
  new_place o h = and-true _ _ h (or-right (p == q) (is_in (q ∷ []) q) (here q []))

  not_place : (x : ℕ) → touched ev Text x ≡ false → ((x == p) ≡ false) × ((x == q) ≡ false)
  not_place x h = (
    no (x == p) (λ e. both (touched ev Text p) (old_place Text refl) (ap (touched ev Text) (sym (eqb-true x p e)) ∙ h)),
    no (x == q) (λ e. both (touched ev Text q) (new_place Text refl) (ap (touched ev Text) (sym (eqb-true x q e)) ∙ h)),
  )

  -- a place that stands in the rest, below x
  near_by : (w x : ℕ) → touched ev Text w ≡ true → (k : Standing) → In k (elements (cut 0 gone u)) → k.number ≡ w → is_in k.above x ≡ true → IsNear ev Text x
  near_by w x h k i num a =
      let f = from 0 top gone q u new_tree new_part k i in
      let is : f.0.number ≡ w = f.2.number ∙ num in
      above_place w h (ap (is_in (all u)) (sym is) ∙ in_named f.0 (elements u) f.1)
      (ap (λ l. is_in l x) (above_is u new_tree.distinct new_tree.lone w f.0 f.1 is ∙ f.2.above) ∙ a)

  kept : (s : Standing) → In s (elements t) → gone s.number ≡ false → (r : Standing) × In r (elements u) × Kept ev s r
  kept s i m =
      let a = twin 0 top gone p t old_tree old_part s i m in
      let a_in : In a.0 (elements (cut 0 gone u)) = subst (λ (l : List Standing). In a.0 l) same a.1 in
      let b = from 0 top gone q u new_tree new_part a.0 a_in in (
        b.0,
        b.1,
        record {
          number = a.2.number ∙ sym b.2.number;
          name = a.2.name ∙ sym b.2.name;
          above = a.2.above ∙ sym b.2.above;
          beside = elim a.2.beside [
            | inr h ↦ inr (p, ap (λ l. head_is (l ++ 0 ∷ []) p) b.2.above ∙ h, old_place Children refl)
            | inl x ↦ elim b.2.beside [
              | inr h ↦ inr (q, ap (λ l. head_is (l ++ 0 ∷ []) q) b.2.above ∙ h, new_place Children refl)
              | inl y ↦ inl (x.0 ∙ sym y.0, x.1 ∙ sym y.1)
            ]
          ];
          attr = λ key h. ap (value_at key) (a.2.attrs ∙ sym b.2.attrs);
          attrs = λ h. a.2.attrs ∙ sym b.2.attrs;
          blank = λ h.
              let apart = not_place s.number h in
              a.2.blank apart.0 ∙ sym (b.2.blank (ap (λ x. x == q) (b.2.number ∙ sym a.2.number) ∙ apart.1));
          said = elim a.2.said [
            | inr near ↦ inr (elim near [
              | inl is ↦ at_place (ap (touched ev Text) is ∙ old_place Text refl)
              | inr k ↦ near_by p s.number (old_place Text refl) k.0 (subst (λ (l : List Standing). In k.0 l) same k.1) k.2 k.3
            ])
            | inl x ↦ elim b.2.said [
              | inl y ↦ inl (x ∙ sym y)
              | inr near ↦ inr (elim near [
                | inl is ↦ at_place (ap (touched ev Text) (a.2.number ∙ sym b.2.number ∙ is) ∙ new_place Text refl)
                | inr k ↦ near_by q s.number (new_place Text refl) k.0 k.1 k.2 (ap (is_in k.0.above) (a.2.number ∙ sym b.2.number) ∙ k.3)
              ])
            ]
          ];
        },
      )

  facts : Facts ev
  facts = record {
    distinct_before = old_tree.distinct;
    distinct_after = new_tree.distinct;
    lone_before = old_tree.lone;
    lone_after = new_tree.lone;
    kept = kept;
    known_before = λ r i m.
        let k : is_in (all (cut 0 gone u)) r.number ≡ true = in_left 0 top gone q u new_tree new_part r.number ∙ and-true _ _ (ap not m) (in_named r (elements u) i) in
        and_second (not (gone r.number)) (is_in (all t) r.number) (sym (in_left 0 top gone p t old_tree old_part r.number) ∙ ap (λ l. is_in l r.number) same_all ∙ k);
    hangs_before = λ s i m. elim (hangs_all 0 top gone p t old_tree old_part s i m) [
      | inl h ↦ inl (p, h.0, old_place Children refl, old_part.place_stays)
      | inr h ↦ inr h
    ];
    hangs_after = λ s i m. elim (hangs_all 0 top gone q u new_tree new_part s i m) [
      | inl h ↦ inl (q, h.0, new_place Children refl, new_part.place_stays)
      | inr h ↦ inr h
    ];
    all_below = below_all 0 top gone p t old_tree old_part;
    some_place = λ z m. (p, old_place Children refl);
    same_path = λ h. refl;
  }
    where
      and_second : (a b : Bool) → (a && b) ≡ true → b ≡ true
      and_second true b h = h
      and_second false b h = never_true h

  pub moved_frame : Frame (event_of (Moved n p q) gone t path u path)
  moved_frame = frame_of ev facts
