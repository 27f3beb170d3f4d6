-- The facts of a change that takes children of a place out, and of one that brings them.
use Rattle.std.proofs.Common.{◌≡◌, ℕ, Bool, true, false, ◌&&◌, ◌==◌, not, ◌⊎◌, inl, inr, List, [], ◌∷◌, ◌++◌, filter, find, Some, unwrap_or, refl, sym, ap, subst, ◌∙◌}
use Rattle.std.proofs.lemmas.Bool.{eqb-true, eq-eqb}
use Rattle.page_tree.specs.Directions.{head_is, is_in}
use Rattle.page_tree.specs.Edits.{pruned}
use Rattle.page_tree.specs.Forest.{Forest, Tree, comment, document, element, empty, node, text, value_at}
use Rattle.page_tree.specs.Standings.{Sibling, Standing, all, attrs, elements, name, standings}
use Rattle.selector_meaning.specs.Texts.{Bytes}
use Rattle.sensor_meaning.specs.Changes.{observes}
use Rattle.sensor_meaning.specs.declared.change.Change.{Change}
use Rattle.sensor_meaning.specs.declared.sensor.Observes.{Observes}
use Rattle.sensor_meaning.specs.declared.sensor.Observes.TheVariants.{Children, Text}
use Rattle.sensor_laws.specs.Frame.{Event, Frame, IsDistinct, above_place, at_place, touched}
use Rattle.sensor_laws.proofs.Events.{IsNumbered, Hung, IsPart, cut, part_event}
use Rattle.sensor_laws.proofs.Any.{never_true, and-true, and_parts, or_parts, no, both, here, is_in-filter}
use Rattle.sensor_laws.proofs.Relations.{cases}
use Rattle.sensor_laws.proofs.Sound.{In, in-either, in_named, lookup, above_is}
use Rattle.sensor_laws.proofs.Facts.{Hangs, Facts, frame_of, stands}
use Rattle.sensor_laws.proofs.Pruned.{all_gone, distinct-filter, names_cut, Twin, twin_in}

module _ (top gone : ℕ → Bool) (p : ℕ) where
  abbrev pub Hangs_at : Standing → Type 0
  Hangs_at s = ((head_is (s.above ++ 0 ∷ []) p ≡ true) × (top s.number ≡ true)) ⊎ ((y : ℕ) × (more : List ℕ) × (s.above ≡ y ∷ more) × (gone y ≡ true))

  hangs_up : (up : List ℕ) (h : ℕ) → gone 0 ≡ false → head_is (up ++ 0 ∷ []) h ≡ true → gone h ≡ true →
      (y : ℕ) × (more : List ℕ) × (up ≡ y ∷ more) × (gone y ≡ true)
  hangs_up [] h z head g = absurd (both (gone h) g (ap gone (sym (eqb-true 0 h head)) ∙ z))
  hangs_up (y ∷ more) h z head g = (y, more, refl, ap gone (eqb-true y h head) ∙ g)

  hangs_in : (f : Forest) (h : ℕ) (up : List ℕ) (seen : List Sibling) → Hung top gone p h f → gone 0 ≡ false → head_is (up ++ 0 ∷ []) h ≡ true →
      (s : Standing) → In s (standings up seen f) → gone s.number ≡ true → Hangs_at s
  hangs_in empty h up seen w z head s i g = absurd i
  hangs_in (node n (text b) kids rest) h up seen w z head s i g = hangs_in rest h up seen w.3 z head s i g
  hangs_in (node n document kids rest) h up seen w z head s i g = hangs_in rest h up seen w.3 z head s i g
  hangs_in (node n (comment b) kids rest) h up seen w z head s i g = hangs_in rest h up seen w.3 z head s i g
  hangs_in (node n (element name attrs) kids rest) h up seen w z head s (inl is) g =
      subst Hangs_at is
      (elim (w.0 (ap (λ (r : Standing). gone r.number) is ∙ g)) [
        | inl e ↦ inl (ap (head_is (up ++ 0 ∷ [])) (sym e.0) ∙ head, e.1)
        | inr k ↦ inr (hangs_up up h z head k)
      ])
  hangs_in (node n (element name attrs) kids rest) h up seen w z head s (inr i) g =
      elim (in-either s (standings (n ∷ up) [] kids) (standings up (record { number = n; name = name } ∷ seen) rest) i) [
        | inl j ↦ hangs_in kids n (n ∷ up) [] w.2 z (eq-eqb n n refl) s j g
        | inr j ↦ hangs_in rest h up (record { number = n; name = name } ∷ seen) w.3 z head s j g
      ]

  below_in : (f : Forest) (h : ℕ) (up : List ℕ) (seen : List Sibling) → Hung top gone p h f → ((z : ℕ) → is_in up z ≡ true → gone z ≡ false) →
      (s : Standing) → In s (standings up seen f) → gone s.number ≡ false → (z : ℕ) → is_in s.above z ≡ true → gone z ≡ false
  below_in empty h up seen w calm s i g z a = absurd i
  below_in (node n (text b) kids rest) h up seen w calm s i g z a = below_in rest h up seen w.3 calm s i g z a
  below_in (node n document kids rest) h up seen w calm s i g z a = below_in rest h up seen w.3 calm s i g z a
  below_in (node n (comment b) kids rest) h up seen w calm s i g z a = below_in rest h up seen w.3 calm s i g z a
  below_in (node n (element name attrs) kids rest) h up seen w calm s (inl is) g z a = calm z (ap (λ (r : Standing). is_in r.above z) is ∙ a)
  below_in (node n (element name attrs) kids rest) h up seen w calm s (inr i) g z a =
      elim (in-either s (standings (n ∷ up) [] kids) (standings up (record { number = n; name = name } ∷ seen) rest) i) [
        | inl j ↦ cases (gone n)
            (λ k. absurd (both (gone s.number) (all_gone top gone p kids n (n ∷ up) [] s w.2 k j) g))
            (λ k. below_in kids n (n ∷ up) [] w.2
            (λ y m. elim (or_parts (n == y) (is_in up y) m) [ inl e ↦ ap gone (sym (eqb-true n y e)) ∙ k | inr o ↦ calm y o ]) s j g z a)
        | inr j ↦ below_in rest h up (record { number = n; name = name } ∷ seen) w.3 calm s j g z a
      ]

-- a tree with its part, and without it
module _ (next : ℕ) (top gone : ℕ → Bool) (p : ℕ) (t : Tree) (tree : IsNumbered t) (part : IsPart top gone p t) where
  small : Tree
  small = cut next gone t

  pub left : all (cut next gone t) ≡ filter (λ x. not (gone x)) (all t)
  unfolding elements
  left = names_cut top gone p t.nodes 0 [] [] [] [] part.hung

  pub in_left : (x : ℕ) → is_in (all (cut next gone t)) x ≡ (not (gone x) && is_in (all t) x)
  in_left x = ap (λ l. is_in l x) left ∙ is_in-filter (λ y. not (gone y)) x (all t)

  pub small_tree : IsNumbered (cut next gone t)
  small_tree = record {
    distinct = subst IsDistinct (sym left) (distinct-filter (λ x. not (gone x)) (all t) tree.distinct);
    lone = no _ (λ h. both (is_in (all t) 0) (and_parts (not (gone 0)) (is_in (all t) 0) (sym (in_left 0) ∙ h)).1 tree.lone);
  }

  pub off : (a : Bool) → not a ≡ true → a ≡ false
  off true h = never_true h
  off false h = refl

  pub twin : (s : Standing) → In s (elements t) → gone s.number ≡ false →
      (r : Standing) × In r (elements (cut next gone t)) × Twin top gone p part.place_stays (elements (cut next gone t)) s r
  unfolding elements
  twin s i g =
      twin_in top gone p part.place_stays (standings [] [] (pruned gone t.nodes)) t.nodes 0 [] [] [] part.hung part.document_stays refl (inl refl) (λ q m. m) s i g

  pub unmoved : (s : Standing) → In s (elements (cut next gone t)) → (not (gone s.number) ≡ true) × (is_in (all t) s.number ≡ true)
  unmoved s i = and_parts (not (gone s.number)) (is_in (all t) s.number) (sym (in_left s.number) ∙ in_named s (elements (cut next gone t)) i)

  one_some : (r s : Standing) → Some r ≡ Some s → r ≡ s
  one_some r s e = ap (λ o. unwrap_or o s) e

  -- each element of the smaller tree comes from one of the greater
  pub from : (s : Standing) → In s (elements (cut next gone t)) →
      (f : Standing) × In f (elements t) × Twin top gone p part.place_stays (elements (cut next gone t)) f s
  from s i =
      let k = unmoved s i in
      let f = stands t tree.distinct tree.lone s.number k.1 in
      let r = twin f.0 f.1 (ap gone f.2 ∙ off (gone s.number) k.0) in
      let same : r.0.number ≡ s.number = sym r.2.number ∙ f.2 in
      let is : r.0 ≡ s = one_some r.0 s
      (sym (lookup (elements (cut next gone t)) small_tree.distinct r.0 r.1)
      ∙ ap (λ x. find (λ (q : Standing). q.number == x) (elements (cut next gone t))) same
      ∙ lookup (elements (cut next gone t)) small_tree.distinct s i) in
      (f.0, f.1, subst (λ (z : Standing). Twin top gone p part.place_stays (elements (cut next gone t)) f.0 z) is r.2)

  pub hangs_all : (s : Standing) → In s (elements t) → gone s.number ≡ true → Hangs_at top gone p s
  unfolding elements
  hangs_all s i g = hangs_in top gone p t.nodes 0 [] [] part.hung part.document_stays refl s i g

  pub below_all : (s : Standing) → In s (elements t) → gone s.number ≡ false → (z : ℕ) → is_in s.above z ≡ true → gone z ≡ false
  unfolding elements
  below_all s i g z a = below_in top gone p t.nodes 0 [] [] part.hung (λ y m. never_true m) s i g z a

  module _ (change : Change) (sees_children : observes Children change ≡ true) (sees_text : observes Text change ≡ true) (path : Bytes) where
    module _ (t1 u1 : Tree) where
      abbrev ev : Event
      ev = part_event change gone p t1 u1 path

      place_of : (o : Observes) → observes o change ≡ true → touched ev o p ≡ true
      unfolding touched
      place_of o h = and-true _ _ h (here p [])

      not_place : (x : ℕ) → touched ev Text x ≡ false → (x == p) ≡ false
      unfolding touched
      not_place x h = no (x == p) (λ e. both (observes Text change && is_in (p ∷ []) x) (and-true _ _ sees_text (ap (is_in (p ∷ [])) (eqb-true x p e) ∙ here p [])) h)

      hangs_ev : (s : Standing) → Hangs_at top gone p s → Hangs ev s
      hangs_ev s (inl h) = inl (p, h.0, place_of Children sees_children, part.place_stays)
      hangs_ev s (inr h) = inr h

    -- the part comes
    went : Event
    went = part_event change gone p t (cut next gone t) path

    went_facts : Facts (part_event change gone p t (cut next gone t) path)
    went_facts = record {
      distinct_before = tree.distinct;
      distinct_after = small_tree.distinct;
      lone_before = tree.lone;
      lone_after = small_tree.lone;
      kept = λ s i m. let r = twin s i m in (
        r.0,
        r.1,
        record {
          number = r.2.number;
          name = r.2.name;
          above = r.2.above;
          beside = elim r.2.beside [ inl same ↦ inl same | inr h ↦ inr (p, h, place_of t (cut next gone t) Children sees_children) ];
          attr = λ key h. ap (value_at key) r.2.attrs;
          attrs = λ h. r.2.attrs;
          blank = λ h. r.2.blank (not_place t (cut next gone t) s.number h);
          said = elim r.2.said [
            | inl same ↦ inl same
            | inr near ↦ inr (elim near [
              | inl e ↦ at_place (ap (touched (part_event change gone p t (cut next gone t) path) Text) e ∙ place_of t (cut next gone t) Text sees_text)
              | inr q ↦ above_place p (place_of t (cut next gone t) Text sees_text)
                  (ap (is_in (all (cut next gone t))) (sym q.2) ∙ in_named q.0 (elements (cut next gone t)) q.1)
                  (ap (λ l. is_in l s.number) (above_is (cut next gone t) small_tree.distinct small_tree.lone p q.0 q.1 q.2) ∙ q.3)
            ])
          ];
        },
      );
      known_before = λ r i m. (unmoved r i).1;
      hangs_before = λ s i m. hangs_ev t (cut next gone t) s (hangs_all s i m);
      hangs_after = λ r i m. absurd (both (gone r.number) m (off (gone r.number) (unmoved r i).0));
      all_below = below_all;
      some_place = λ z m. (p, place_of t (cut next gone t) Children sees_children);
      same_path = λ h. refl;
    }

    pub went_frame : Frame (part_event change gone p t (cut next gone t) path)
    went_frame = frame_of (part_event change gone p t (cut next gone t) path) went_facts

    -- the part comes
    came_facts : Facts (part_event change gone p (cut next gone t) t path)
    came_facts = record {
      distinct_before = small_tree.distinct;
      distinct_after = tree.distinct;
      lone_before = small_tree.lone;
      lone_after = tree.lone;
      kept = λ s i m. let r = from s i in (
        r.0,
        r.1,
        record {
          number = sym r.2.number;
          name = sym r.2.name;
          above = sym r.2.above;
          beside = elim r.2.beside [
            | inl same ↦ inl (sym same.0, sym same.1)
            | inr h ↦ inr (p, ap (λ l. head_is (l ++ 0 ∷ []) p) r.2.above ∙ h, place_of (cut next gone t) t Children sees_children)
          ];
          attr = λ key h. ap (value_at key) (sym r.2.attrs);
          attrs = λ h. sym r.2.attrs;
          blank = λ h. sym (r.2.blank (ap (λ x. x == p) r.2.number ∙ not_place (cut next gone t) t s.number h));
          said = elim r.2.said [
            | inl same ↦ inl (sym same)
            | inr near ↦ inr (elim near [
              | inl e ↦ at_place (ap (touched (part_event change gone p (cut next gone t) t path) Text) (sym r.2.number ∙ e) ∙ place_of (cut next gone t) t Text sees_text)
              | inr q ↦ (let f = from q.0 q.1 in above_place p (place_of (cut next gone t) t Text sees_text)
                  (ap (is_in (all t)) (sym (f.2.number ∙ q.2)) ∙ in_named f.0 (elements t) f.1)
                  (ap (λ l. is_in l s.number) (above_is t tree.distinct tree.lone p f.0 f.1 (f.2.number ∙ q.2) ∙ f.2.above) ∙ ap (is_in q.0.above) (sym r.2.number) ∙ q.3))
            ])
          ];
        },
      );
      known_before = λ r i m. in_left r.number ∙ and-true _ _ (ap not m) (in_named r (elements t) i);
      hangs_before = λ s i m. absurd (both (gone s.number) m (off (gone s.number) (unmoved s i).0));
      hangs_after = λ r i m. hangs_ev (cut next gone t) t r (hangs_all r i m);
      all_below = λ s i m z a. let r = from s i in below_all r.0 r.1 (ap gone r.2.number ∙ m) z (ap (λ l. is_in l z) r.2.above ∙ a);
      some_place = λ z m. (p, place_of (cut next gone t) t Children sees_children);
      same_path = λ h. refl;
    }

    pub came_frame : Frame (part_event change gone p (cut next gone t) t path)
    came_frame = frame_of (part_event change gone p (cut next gone t) t path) came_facts
