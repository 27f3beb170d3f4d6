-- What is to be shown of each step and test, and what the facts of a change give in the form that is used.
use Rattle.std.proofs.Common.{◌≡◌, ℕ, Bool, true, false, ◌==◌, not, List, [], ◌∷◌, ◌++◌, sym, ap, ◌∙◌}
use Rattle.std.specs.List.{list_any}
use Rattle.std.proofs.lemmas.Bool.{eqb-true}
use Rattle.page_tree.specs.Directions.{head_is, holders, is_in}
use Rattle.page_tree.specs.Standings.{above, all}
use Rattle.selector_meaning.specs.Meaning.{StepMeaning}
use Rattle.sensor_meaning.specs.Dirty.{comes, hit}
use Rattle.sensor_meaning.specs.Nested.{Depth}
use Rattle.sensor_meaning.specs.Sensors.{Sensors, StepSensors, one}
use Rattle.sensor_meaning.specs.declared.sensor.Observes.{Observes}
use Rattle.sensor_meaning.specs.declared.sensor.Observes.TheVariants.{Children}
use Rattle.sensor_meaning.specs.declared.sensor.Way.TheVariants.{ToAbove, ToBelow, ToChild, ToParent, Whole}
use Rattle.sensor_laws.specs.Frame.{Event, Frame, IsBelowPlace, IsNear, above_place, at_place, touched}
use Rattle.sensor_laws.proofs.Any.{never_true, and-true, or-left, any-append, no, both}
use Rattle.sensor_laws.proofs.Quiet.{quiet-via, quiet-one, inside}

module _ (e : Event) (frame : Frame e) where
  abbrev pub quiet : Sensors → ℕ → Type 0
  quiet r x = hit e.new e.seen e.places r x ≡ false

  -- lists of elements with the same members, but for what moved and what a sensor hits
  pub record Alike (r : Sensors) (s v : List ℕ) : Type 0 where
    pub of_before : (y : ℕ) → is_in s y ≡ true → is_in (all e.old) y ≡ true
    pub of_after : (y : ℕ) → is_in v y ≡ true → is_in (all e.new) y ≡ true
    pub same : (y : ℕ) → e.moved y ≡ false → quiet r y → is_in s y ≡ is_in v y

  -- of membership
  abbrev pub MemberLaw : StepMeaning → StepMeaning → StepSensors → Type 0
  MemberLaw m n z = (r : Sensors) (s v : List ℕ) → Alike r s v → Alike (z.member r) (m.push s) (n.push v)

  -- of a question asked of an element that stays
  abbrev pub TestLaw : (ℕ → Bool) → (ℕ → Bool) → Sensors → Type 0
  TestLaw p q r = (x : ℕ) → e.moved x ≡ false → is_in (all e.old) x ≡ true → quiet r x → p x ≡ q x

  -- of leading on
  abbrev pub LeadsLaw : StepMeaning → StepMeaning → StepSensors → Type 0
  LeadsLaw m n z =
      (r : Sensors) (k l : ℕ → Bool) → TestLaw k l r → TestLaw (λ x. list_any k (m.push (x ∷ []))) (λ x. list_any l (n.push (x ∷ []))) (z.leads r)

  abbrev pub IsLinear : StepMeaning → Type 0
  IsLinear m = (s : List ℕ) (x : ℕ) → is_in (m.push s) x ≡ list_any (λ y. is_in (m.push (y ∷ [])) x) s

  pub record Laws (m n : StepMeaning) (z : StepSensors) (others : Depth) : Type 0 where
    pub cut_before : m.goes_up ≡ z.goes_up
    pub cut_after : n.goes_up ≡ z.goes_up
    pub within : others.any ≡ false → others.within ≡ false
    pub member : others.within ≡ false → MemberLaw m n z
    pub leads : others.any ≡ false → LeadsLaw m n z
    pub linear_before : others.any ≡ false → IsLinear m
    pub linear_after : others.any ≡ false → IsLinear n

  -- ---- the facts of a change, where no sensor is hit
  pub in_after : (x : ℕ) → e.moved x ≡ false → is_in (all e.old) x ≡ true → is_in (all e.new) x ≡ true
  in_after x m h = sym (frame.stays x m) ∙ h

  pub in_before : (x : ℕ) → e.moved x ≡ false → is_in (all e.new) x ≡ true → is_in (all e.old) x ≡ true
  in_before x m h = frame.stays x m ∙ h

  pub not_zero : (x : ℕ) → is_in (all e.new) x ≡ true → not (x == 0) ≡ true
  not_zero x h = ap not (no (x == 0) (λ is. both (is_in (all e.new) 0) (ap (is_in (all e.new)) (sym (eqb-true x 0 is)) ∙ h) frame.sound_after.lone))

  head-append : (l r : List ℕ) (x : ℕ) → head_is l x ≡ true → head_is (l ++ r) x ≡ true
  head-append [] r x h = never_true h
  head-append (y ∷ l) r x h = h

  in-append : (l r : List ℕ) (x : ℕ) → is_in l x ≡ true → is_in (l ++ r) x ≡ true
  in-append l r x h = any-append (λ y. y == x) l r ∙ or-left (is_in l x) (is_in r x) h

  -- the directions between elements, in the tree after the change
  module _ (x y : ℕ) (stays : is_in (all e.new) x ≡ true) where
    pub go-child : head_is (above e.new x) y ≡ true → comes e.new ToChild y x ≡ true
    unfolding comes
    go-child h = and-true _ _ (not_zero x stays) (head-append (above e.new x) _ y h)

    pub go-below : is_in (above e.new x) y ≡ true → comes e.new ToBelow y x ≡ true
    unfolding comes
    go-below h = and-true _ _ (not_zero x stays) (in-append (above e.new x) _ y h)

    pub go-holder : head_is (holders e.new x) y ≡ true → comes e.new ToChild y x ≡ true
    unfolding comes
    go-holder h = and-true _ _ (not_zero x stays) h

    pub go-whole : comes e.new Whole y x ≡ true
    unfolding comes
    go-whole = not_zero x stays

  module _ (x y : ℕ) (stays : is_in (all e.new) y ≡ true) where
    pub go-parent : head_is (above e.new y) x ≡ true → comes e.new ToParent y x ≡ true
    unfolding comes
    go-parent h = and-true _ _ (not_zero y stays) (head-append (above e.new y) _ x h)

    pub go-above : is_in (above e.new y) x ≡ true → comes e.new ToAbove y x ≡ true
    unfolding comes
    go-above h = and-true _ _ (not_zero y stays) (in-append (above e.new y) _ x h)

  module _ (x : ℕ) (stays : is_in (all e.new) x ≡ true) where
    pub untouched : (o : Observes) (y : ℕ) → quiet (one o []) y → touched e o y ≡ false
    unfolding touched
    untouched o y h = quiet-one e.new e.seen e.places o y h

    -- no place of what o observes is here or ToBelow
    pub far : (o : Observes) → quiet (one o []) x → quiet (one o (ToAbove ∷ [])) x → IsNear e o x → ⊥
    far o here up_quiet (at_place h) = both _ h (untouched o x here)
    far o here up_quiet (above_place y h m up) =
        both _ h (untouched o y (quiet-via e.new e.seen e.places ToAbove (one o []) x y (inside e.new e.seen e.places x stays) (go-above x y m up) up_quiet))

    pub not_below : quiet (one Children (ToChild ∷ [])) x → IsBelowPlace e x → ⊥
    not_below h b = both _ b.is_place
        (untouched Children b.holder (quiet-via e.new e.seen e.places ToChild (one Children []) x b.holder (inside e.new e.seen e.places x stays) (go-holder x b.holder stays b.is_holder) h))

    pub none_moved : quiet (one Children (Whole ∷ [])) x → (z : ℕ) → e.moved z ≡ false
    none_moved h z = no (e.moved z) (λ m. let p = frame.some_place z m in
        both _ p.1 (untouched Children p.0 (quiet-via e.new e.seen e.places Whole (one Children []) x p.0 (inside e.new e.seen e.places x stays) (go-whole x p.0 stays) h)))
