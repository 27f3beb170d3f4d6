-- The three laws together, by induction over the operators.
use Rattle.std.proofs.Common.{◌≡◌, ℕ, Bool, true, false, ◌||◌, not, List, [], ◌∷◌, ◌++◌, map, find, refl, sym, ap, ap₂, subst, ◌∙◌}
use Rattle.std.specs.List.{list_any, flat_map}
use Rattle.selector_tree.specs.declared.selector.Place.{Place}
use Rattle.selector_tree.specs.declared.selector.Place.TheVariants.{After, Child, Descendant, Next}
use Rattle.selector_tree.specs.declared.selector.Step.{Step, fold-Step}
use Rattle.selector_tree.specs.declared.selector.Step.TheFolds.{fold-roll-Step, fold-roll-Test, ind-Step, ind-Test, map-Step, map-Test}
use Rattle.selector_tree.specs.declared.selector.Step.TheOpen.{Step-F, Test-F}
use Rattle.selector_tree.specs.declared.selector.Step.TheViews.{roll-Step, roll-Test}
use Rattle.selector_tree.specs.declared.selector.Test.{Test, fold-Test}
use Rattle.page_tree.specs.Directions.{head_is, is_in, numbers_of}
use Rattle.page_tree.specs.Standings.{above, before}
use Rattle.selector_meaning.specs.Meaning.{StepMeaning, TestMeaning, ancestor, from_some, gives, holds, is_there, option_is, run, selected_by, step_meaning, step_of, test_meaning}
use Rattle.selector_meaning.specs.Texts.{Bytes, is_empty}
use Rattle.sensor_meaning.specs.Dirty.{comes}
use Rattle.sensor_meaning.specs.Nested.{Depth, others_in_step, others_in_test, some_any, step_others, test_others}
use Rattle.sensor_meaning.specs.Sensors.{Sensors, StepSensors, leads, of_selector, one, step_sensors, test_sensors, via}
use Rattle.sensor_meaning.specs.declared.sensor.Observes.TheVariants.{Children}
use Rattle.sensor_meaning.specs.declared.sensor.Way.TheVariants.{ToAbove, ToAfter, ToBefore, ToBelow, ToChild, ToNext, ToParent, ToPrevious}
use Rattle.sensor_laws.specs.Frame.{Event, Frame}
use Rattle.sensor_laws.proofs.Any.{never_true, no, both}
use Rattle.sensor_laws.proofs.Quiet.{quiet-join, quiet-via, inside}
use Rattle.sensor_laws.proofs.Laws.{TestLaw, Laws, in_after, go-child, go-below, go-parent, go-above, far, untouched}
use Rattle.sensor_laws.proofs.Relations.{head-in, member-filter, member-from, leads-filter, leads-from, linear-filter, linear-from}
use Rattle.sensor_laws.proofs.Steps.{get-in, find-in, find-same, nearest, from-above, from-beside, from-below, to-below, to-above, to-beside}
use Rattle.sensor_laws.proofs.Tests.{law-Any, law-Tag, law-Id, law-Class, law-Attr, law-Root, law-Empty, law-Nth, law-Only, law-HasText, law-MinText, law-MatchesPath, law-MatchesAttr, law-WatchAttr, member-others}
use Rattle.sensor_laws.proofs.Chains.{all_freed, selected, some_gives, some_leads}

module _ (e : Event) (frame : Frame e) (found : Bytes → ℕ → Bytes → Bool) where
  abbrev old_step : Step-F StepMeaning TestMeaning → StepMeaning
  old_step = step_meaning found e.old e.old_path

  abbrev new_step : Step-F StepMeaning TestMeaning → StepMeaning
  new_step = step_meaning found e.new e.new_path

  abbrev old_test : Test-F StepMeaning TestMeaning → TestMeaning
  old_test = test_meaning found e.old e.old_path

  abbrev new_test : Test-F StepMeaning TestMeaning → TestMeaning
  new_test = test_meaning found e.new e.new_path

  -- ---- each step's laws
  law-Keep : (p q : TestMeaning) (w : Sensors) (b : Bool) → (b ≡ false → TestLaw e frame p q w) →
      Laws e frame (old_step (Step-F.Keep p)) (new_step (Step-F.Keep q)) (step_sensors (Step-F.Keep w)) (others_in_step (Step-F.Keep b))
  law-Keep p q w b law = record {
    cut_before = refl;
    cut_after = refl;
    within = λ h. h;
    member = λ f r s v a. member-filter e frame r [] s v a p q w (law f);
    leads = λ f r k l same x m h quiet_x.
        let two = quiet-join e.new e.seen e.places r w x quiet_x in
        leads-filter e frame k l x p q (law f x m h two.1) (same x m h two.0);
    linear_before = λ f. linear-filter p;
    linear_after = λ f. linear-filter q;
  }

  law-Child : Laws e frame (old_step (Step-F.Move Child)) (new_step (Step-F.Move Child)) (step_sensors (Step-F.Move Child)) (others_in_step (Step-F.Move Child))
  law-Child = record {
    cut_before = refl;
    cut_after = refl;
    within = λ h. h;
    member = λ f r s v a. member-from e frame r (via ToChild r) s v a (is_there e.old Child) (is_there e.new Child)
        (λ x y m h q. from-above e frame r s v a x y m h head_is head-in ToChild (go-child e frame x y (in_after e frame x m h))
        q);
    leads = λ f r k l same x m h q.
        let two = quiet-join e.new e.seen e.places (via ToParent r) (one Children []) x q in
        let here = untouched e frame x (in_after e frame x m h) Children x two.1 in
        leads-from e frame k l x (is_there e.old Child) (is_there e.new Child)
        (λ z. to-below e frame r k l same x z m h head_is head-in ToParent (λ i. go-parent e frame x z i)
        (λ mz i a. both _ (frame.child_before x z m mz i a) here) (λ mz i a. both _ (frame.child_after x z m mz i a) here) two.0);
    linear_before = λ f. linear-from e.old (is_there e.old Child);
    linear_after = λ f. linear-from e.new (is_there e.new Child);
  }

  law-Descendant : Laws e frame (old_step (Step-F.Move Descendant)) (new_step (Step-F.Move Descendant)) (step_sensors (Step-F.Move Descendant)) (others_in_step (Step-F.Move Descendant))
  law-Descendant = record {
    cut_before = refl;
    cut_after = refl;
    within = λ h. h;
    member = λ f r s v a. member-from e frame r (via ToBelow r) s v a (is_there e.old Descendant) (is_there e.new Descendant)
        (λ x y m h q. from-above e frame r s v a x y m h is_in (λ l z i. i) ToBelow (go-below e frame x y (in_after e frame x m h))
        q);
    leads = λ f r k l same x m h q.
        let two = quiet-join e.new e.seen e.places (via ToAbove r ++ one Children []) (one Children (ToAbove ∷ [])) x q in
        let more = quiet-join e.new e.seen e.places (via ToAbove r) (one Children []) x two.0 in
        leads-from e frame k l x (is_there e.old Descendant) (is_there e.new Descendant)
        (λ z. to-below e frame r k l same x z m h is_in (λ l z i. i) ToAbove (λ i. go-above e frame x z i)
        (λ mz i a. far e frame x (in_after e frame x m h) Children more.1 two.1 (frame.below_before x z m mz i a))
        (λ mz i a. far e frame x (in_after e frame x m h) Children more.1 two.1 (frame.below_after x z m mz i a)) more.0);
    linear_before = λ f. linear-from e.old (is_there e.old Descendant);
    linear_after = λ f. linear-from e.new (is_there e.new Descendant);
  }

  go-next : (x y : ℕ) → head_is (numbers_of (before e.new x)) y ≡ true → comes e.new ToNext y x ≡ true
  unfolding comes
  go-next x y h = h

  go-previous : (x z : ℕ) → head_is (numbers_of (before e.new z)) x ≡ true → comes e.new ToPrevious z x ≡ true
  unfolding comes
  go-previous x z h = h

  go-after : (x y : ℕ) → is_in (numbers_of (before e.new x)) y ≡ true → comes e.new ToAfter y x ≡ true
  unfolding comes
  go-after x y h = h

  go-before : (x z : ℕ) → is_in (numbers_of (before e.new z)) x ≡ true → comes e.new ToBefore z x ≡ true
  unfolding comes
  go-before x z h = h

  law-Next : Laws e frame (old_step (Step-F.Move Next)) (new_step (Step-F.Move Next)) (step_sensors (Step-F.Move Next)) (others_in_step (Step-F.Move Next))
  law-Next = record {
    cut_before = refl;
    cut_after = refl;
    within = λ h. h;
    member = λ f r s v a. member-from e frame r (via ToNext r ++ one Children (ToChild ∷ [])) s v a (is_there e.old Next) (is_there e.new Next)
        (λ x y m h q.
        let two = quiet-join e.new e.seen e.places (via ToNext r) (one Children (ToChild ∷ [])) x q in
        from-beside e frame r s v a x y m h head_is head-in ToNext (go-next x y) two.0 two.1);
    leads = λ f r k l same x m h q.
        let two = quiet-join e.new e.seen e.places (via ToPrevious r) (one Children (ToChild ∷ [])) x q in
        leads-from e frame k l x (is_there e.old Next) (is_there e.new Next)
        (λ z. to-beside e frame r k l same x z m h head_is head-in ToPrevious (go-previous x z) two.0 two.1);
    linear_before = λ f. linear-from e.old (is_there e.old Next);
    linear_after = λ f. linear-from e.new (is_there e.new Next);
  }

  law-After : Laws e frame (old_step (Step-F.Move After)) (new_step (Step-F.Move After)) (step_sensors (Step-F.Move After)) (others_in_step (Step-F.Move After))
  law-After = record {
    cut_before = refl;
    cut_after = refl;
    within = λ h. h;
    member = λ f r s v a. member-from e frame r (via ToAfter r ++ one Children (ToChild ∷ [])) s v a (is_there e.old After) (is_there e.new After)
        (λ x y m h q.
        let two = quiet-join e.new e.seen e.places (via ToAfter r) (one Children (ToChild ∷ [])) x q in
        from-beside e frame r s v a x y m h is_in (λ l z i. i) ToAfter (go-after x y) two.0 two.1);
    leads = λ f r k l same x m h q.
        let two = quiet-join e.new e.seen e.places (via ToBefore r) (one Children (ToChild ∷ [])) x q in
        leads-from e frame k l x (is_there e.old After) (is_there e.new After)
        (λ z. to-beside e frame r k l same x z m h is_in (λ l z i. i) ToBefore (go-before x z) two.0 two.1);
    linear_before = λ f. linear-from e.old (is_there e.old After);
    linear_after = λ f. linear-from e.new (is_there e.new After);
  }

  law-Move : (place : Place) → Laws e frame (old_step (Step-F.Move place)) (new_step (Step-F.Move place)) (step_sensors (Step-F.Move place)) (others_in_step (Step-F.Move place))
  law-Move Child = law-Child
  law-Move Descendant = law-Descendant
  law-Move Next = law-Next
  law-Move After = law-After

  abbrev pick : ℕ → List ℕ → ℕ → Bool
  pick n l x = option_is (ancestor n l) x

  picks : (n : ℕ) (l : List ℕ) (x : ℕ) → pick n l x ≡ true → is_in l x ≡ true
  picks Rattle.std.specs.Prelude.zero l x h = never_true h
  picks (Rattle.std.specs.Prelude.suc n) l x h = get-in l n x h

  law-Upward : (n : ℕ) → Laws e frame (old_step (Step-F.Upward n)) (new_step (Step-F.Upward n)) (step_sensors (Step-F.Upward n)) (others_in_step (Step-F.Upward n))
  law-Upward n = record {
    cut_before = refl;
    cut_after = refl;
    within = λ h. h;
    member = λ f r s v a. member-from e frame r (via ToAbove r ++ one Children [] ++ one Children (ToAbove ∷ [])) s v a
        (λ y x. pick n (above e.old y) x) (λ y x. pick n (above e.new y) x)
        (λ x y m h q.
        let two = quiet-join e.new e.seen e.places (via ToAbove r ++ one Children []) (one Children (ToAbove ∷ [])) x q in
        let more = quiet-join e.new e.seen e.places (via ToAbove r) (one Children []) x two.0 in
        from-below e frame r s v a x y m h (pick n) (pick n) (picks n) (picks n) (λ i. refl) more.0 more.1 two.1);
    leads = λ f r k l same x m h q. leads-from e frame k l x (λ y z. pick n (above e.old y) z) (λ y z. pick n (above e.new y) z)
        (λ z. to-above e frame r k l same x z m h (pick n) (pick n) (picks n) refl q);
    linear_before = λ f. linear-from e.old (λ y x. pick n (above e.old y) x);
    linear_after = λ f. linear-from e.new (λ y x. pick n (above e.new y) x);
  }

  -- the sensors of UpwardTo, from those of its selector
  abbrev up_sensors : Sensors → StepSensors
  up_sensors w = record {
    goes_up = true;
    member = λ r. via ToAbove r ++ one Children [] ++ one Children (ToAbove ∷ []) ++ w ++ via ToAbove w;
    leads = λ r. via ToBelow r ++ via ToBelow w;
  }

  abbrev first_of : (ℕ → Bool) → List ℕ → ℕ → Bool
  first_of p l x = option_is (find p l) x

  law-UpwardTo : (p q : ℕ → Bool) (w : Sensors) (b : Bool) → (b ≡ false → TestLaw e frame p q w) →
      Laws e frame (record { goes_up = true; push = from_some e.old (λ y x. option_is (find p (above e.old y)) x) })
      (record { goes_up = true; push = from_some e.new (λ y x. option_is (find q (above e.new y)) x) })
      (up_sensors w) (record { any = b; within = b })
  law-UpwardTo p q w b law = record {
    cut_before = refl;
    cut_after = refl;
    within = λ h. h;
    member = λ f r s v a. member-from e frame r (via ToAbove r ++ one Children [] ++ one Children (ToAbove ∷ []) ++ w ++ via ToAbove w) s v a
        (λ y x. first_of p (above e.old y) x) (λ y x. first_of q (above e.new y) x)
        (λ x y m h c.
        let j = in_after e frame x m h in
        let c3 = quiet-join e.new e.seen e.places (via ToAbove r ++ one Children [] ++ one Children (ToAbove ∷ []) ++ w) (via ToAbove w) x c in
        let c2 = quiet-join e.new e.seen e.places (via ToAbove r ++ one Children [] ++ one Children (ToAbove ∷ [])) w x c3.0 in
        let c1 = quiet-join e.new e.seen e.places (via ToAbove r ++ one Children []) (one Children (ToAbove ∷ [])) x c2.0 in
        let c0 = quiet-join e.new e.seen e.places (via ToAbove r) (one Children []) x c1.0 in
        from-below e frame r s v a x y m h (first_of p) (first_of q) (find-in p) (find-in q)
        (λ i. nearest e.new frame.sound_after p q x (law f x m h c2.1)
        (λ z iz up.
        let mz = no (e.moved z) (λ k. far e frame x j Children c0.1 c1.1 (frame.below_after x z m k iz up)) in
        law f z mz (frame.stays z mz ∙ iz) (quiet-via e.new e.seen e.places ToAbove w x z (inside e.new e.seen e.places x j) (go-above e frame x z iz up) c3.1))
        (above e.new y) y refl)
        c0.0 c0.1 c1.1);
    leads = λ f r k l same x m h c.
        let j = in_after e frame x m h in
        let two = quiet-join e.new e.seen e.places (via ToBelow r) (via ToBelow w) x c in
        leads-from e frame k l x (λ y z. first_of p (above e.old y) z) (λ y z. first_of q (above e.new y) z)
        (λ z. to-above e frame r k l same x z m h (first_of p) (first_of q) (find-in q)
        (ap (λ o. option_is o z) (find-same p q (above e.new x)
        (λ y i.
        let i2 = ap (λ a. is_in a y) (frame.same_above x m h) ∙ i in
        law f y (frame.stays_above x y m h i2) (frame.sound_before.inside x y i2)
        (quiet-via e.new e.seen e.places ToBelow w x y (inside e.new e.seen e.places x j) (go-below e frame x y j i) two.1))))
        two.0);
    linear_before = λ f. linear-from e.old (λ y x. first_of p (above e.old y) x);
    linear_after = λ f. linear-from e.new (λ y x. first_of q (above e.new y) x);
  }

  law-Others : Laws e frame (old_step Step-F.Others) (new_step Step-F.Others) (step_sensors Step-F.Others) (others_in_step Step-F.Others)
  law-Others = record {
    cut_before = refl;
    cut_after = refl;
    within = λ h. refl;
    member = λ f r s v a. member-others e frame found r s v a;
    leads = λ f. never_true (sym f);
    linear_before = λ f. never_true (sym f);
    linear_after = λ f. never_true (sym f);
  }

  -- ---- the induction
  abbrev pub of_old : Step → StepMeaning
  of_old = step_of found e.old e.old_path

  abbrev pub of_new : Step → StepMeaning
  of_new = step_of found e.new e.new_path

  abbrev pub holds_old : Test → TestMeaning
  holds_old = holds found e.old e.old_path

  abbrev pub holds_new : Test → TestMeaning
  holds_new = holds found e.new e.new_path

  abbrev pub sensed : Step → StepSensors
  sensed = fold-Step StepSensors Sensors step_sensors test_sensors

  abbrev pub test_sensed : Test → Sensors
  test_sensed = fold-Test StepSensors Sensors step_sensors test_sensors

  abbrev pub StepLaws : Step → Type 0
  StepLaws s = Laws e frame (of_old s) (of_new s) (sensed s) (step_others s)

  abbrev pub TestLaws : Test → Type 0
  TestLaws q = test_others q ≡ false → TestLaw e frame (holds_old q) (holds_new q) (test_sensed q)

  abbrev SomeStep : Type 0
  SomeStep = (s : Step) × StepLaws s

  abbrev SomeTest : Type 0
  SomeTest = (q : Test) × TestLaws q

  abbrev over_step : (C D : Type 0) → (Step → C) → (Test → D) → Step-F SomeStep SomeTest → Step-F C D
  over_step C D f g = map-Step SomeStep SomeTest C D (λ x. f x.0) (λ x. g x.0)

  abbrev over_test : (C D : Type 0) → (Step → C) → (Test → D) → Test-F SomeStep SomeTest → Test-F C D
  over_test C D f g = map-Test SomeStep SomeTest C D (λ x. f x.0) (λ x. g x.0)

  some_any_is : (l : List (List SomeStep)) → some_any (map (map (λ x. step_others x.0)) l) ≡ list_any (λ chain. list_any (λ (x : SomeStep). (step_others x.0).any) chain) l
  some_any_is [] = refl
  some_any_is (chain ∷ l) = ap₂ ◌||◌ (one_chain chain) (some_any_is l)
    where
      one_chain : (c : List SomeStep) → list_any (λ (d : Depth). d.any) (map (λ x. step_others x.0) c) ≡ list_any (λ (x : SomeStep). (step_others x.0).any) c
      one_chain [] = refl
      one_chain (x ∷ c) = ap (λ b. (step_others x.0).any || b) (one_chain c)

  -- the lists of a layer, as `Chains` takes them
  module _ (l : List (List SomeStep)) (free : some_any (map (map (λ x. step_others x.0)) l) ≡ false) where
    free_any : list_any (λ chain. list_any (λ (x : SomeStep). (step_others x.0).any) chain) l ≡ false
    free_any = sym (some_any_is l) ∙ free

    selected_l : TestLaw e frame (selected_by e.old (map (map (λ x. of_old x.0)) l)) (selected_by e.new (map (map (λ x. of_new x.0)) l)) (of_selector (map (map (λ x. sensed x.0)) l))
    selected_l =
        selected e frame SomeStep (λ x. of_old x.0) (λ x. of_new x.0) (λ x. sensed x.0) (λ x. step_others x.0) (λ x. x.1) l
        (all_freed e frame SomeStep (λ x. of_old x.0) (λ x. of_new x.0) (λ x. sensed x.0) (λ x. step_others x.0) (λ x. x.1) l free_any)

    gives_l : TestLaw e frame (λ x. list_any (λ chain. gives e.old chain x) (map (map (λ x. of_old x.0)) l))
        (λ x. list_any (λ chain. gives e.new chain x) (map (map (λ x. of_new x.0)) l)) (flat_map Rattle.sensor_meaning.specs.Sensors.gives (map (map (λ x. sensed x.0)) l))
    gives_l = some_gives e frame SomeStep (λ x. of_old x.0) (λ x. of_new x.0) (λ x. sensed x.0) (λ x. step_others x.0) (λ x. x.1) l free_any

    leads_l : TestLaw e frame (λ x. list_any (λ chain. not (is_empty (run chain (x ∷ [])))) (map (map (λ x. of_old x.0)) l))
        (λ x. list_any (λ chain. not (is_empty (run chain (x ∷ [])))) (map (map (λ x. of_new x.0)) l)) (flat_map leads (map (map (λ x. sensed x.0)) l))
    leads_l = some_leads e frame SomeStep (λ x. of_old x.0) (λ x. of_new x.0) (λ x. sensed x.0) (λ x. step_others x.0) (λ x. x.1) l free_any

  step_layer : (y : Step-F SomeStep SomeTest) →
      Laws e frame (old_step (over_step StepMeaning TestMeaning of_old holds_old y)) (new_step (over_step StepMeaning TestMeaning of_new holds_new y))
      (step_sensors (over_step StepSensors Sensors sensed test_sensed y)) (others_in_step (over_step Depth Bool step_others test_others y))
  step_layer (Step-F.Keep q) = law-Keep (holds_old q.0) (holds_new q.0) (test_sensed q.0) (test_others q.0) q.1
  step_layer (Step-F.Move place) = law-Move place
  step_layer (Step-F.Upward n) = law-Upward n
  step_layer (Step-F.UpwardTo l) =
      law-UpwardTo (selected_by e.old (map (map (λ x. of_old x.0)) l)) (selected_by e.new (map (map (λ x. of_new x.0)) l))
      (of_selector (map (map (λ x. sensed x.0)) l)) (some_any (map (map (λ x. step_others x.0)) l)) (λ f. selected_l l f)
  step_layer Step-F.Others = law-Others

  test_layer : (y : Test-F SomeStep SomeTest) → others_in_test (over_test Depth Bool step_others test_others y) ≡ false →
      TestLaw e frame (old_test (over_test StepMeaning TestMeaning of_old holds_old y)) (new_test (over_test StepMeaning TestMeaning of_new holds_new y))
      (test_sensors (over_test StepSensors Sensors sensed test_sensed y))
  test_layer Test-F.Any f = law-Any e frame found
  test_layer (Test-F.Tag n) f = law-Tag e frame found n
  test_layer (Test-F.Id v) f = law-Id e frame found v
  test_layer (Test-F.Class v) f = law-Class e frame found v
  test_layer (Test-F.Attr key op v i) f = law-Attr e frame found key op v i
  test_layer Test-F.Root f = law-Root e frame found
  test_layer Test-F.Empty f = law-Empty e frame found
  test_layer (Test-F.Nth a b from_end o) f = law-Nth e frame found a b from_end o
  test_layer (Test-F.Only o) f = law-Only e frame found o
  test_layer (Test-F.Is l) f = gives_l l f
  test_layer (Test-F.Not l) f = λ x m h q. ap not (gives_l l f x m h q)
  test_layer (Test-F.Has l) f = leads_l l f
  test_layer (Test-F.HasText arg) f = law-HasText e frame found arg
  test_layer (Test-F.MinText n) f = law-MinText e frame found n
  test_layer (Test-F.MatchesPath arg) f = law-MatchesPath e frame found arg
  test_layer (Test-F.MatchesAttr key v) f = law-MatchesAttr e frame found key v
  test_layer (Test-F.WatchAttr names) f = law-WatchAttr e frame found names

  -- ---- from the layers to the operators
  module _ (C D : Type 0) (f : Step → C) (g : Test → D) where
    twice : (l : List SomeStep) → map f (map (λ x. x.0) l) ≡ map (λ (x : SomeStep). f x.0) l
    twice [] = refl
    twice (x ∷ l) = ap (λ r. f x.0 ∷ r) (twice l)

    twice_all : (l : List (List SomeStep)) → map (map f) (map (map (λ x. x.0)) l) ≡ map (map (λ (x : SomeStep). f x.0)) l
    twice_all [] = refl
    twice_all (c ∷ l) = ap₂ ◌∷◌ (twice c) (twice_all l)

    step_fused : (y : Step-F SomeStep SomeTest) → map-Step Step Test C D f g (map-Step SomeStep SomeTest Step Test (λ x. x.0) (λ x. x.0) y) ≡ over_step C D f g y
    step_fused (Step-F.Keep q) = refl
    step_fused (Step-F.Move place) = refl
    step_fused (Step-F.Upward n) = refl
    step_fused (Step-F.UpwardTo l) = ap Step-F.UpwardTo (twice_all l)
    step_fused Step-F.Others = refl

    test_fused : (y : Test-F SomeStep SomeTest) → map-Test Step Test C D f g (map-Test SomeStep SomeTest Step Test (λ x. x.0) (λ x. x.0) y) ≡ over_test C D f g y
    test_fused (Test-F.Is l) = ap Test-F.Is (twice_all l)
    test_fused (Test-F.Not l) = ap Test-F.Not (twice_all l)
    test_fused (Test-F.Has l) = ap Test-F.Has (twice_all l)
    test_fused Test-F.Any = refl
    test_fused (Test-F.Tag n) = refl
    test_fused (Test-F.Id n) = refl
    test_fused (Test-F.Class n) = refl
    test_fused (Test-F.Attr key op v i) = refl
    test_fused Test-F.Root = refl
    test_fused Test-F.Empty = refl
    test_fused (Test-F.Nth a b k o) = refl
    test_fused (Test-F.Only o) = refl
    test_fused (Test-F.HasText arg) = refl
    test_fused (Test-F.MinText n) = refl
    test_fused (Test-F.MatchesPath arg) = refl
    test_fused (Test-F.MatchesAttr key v) = refl
    test_fused (Test-F.WatchAttr names) = refl

  module _ (C D : Type 0) (layer : Step-F C D → C) (test : Test-F C D → D) where
    abbrev ff : Step → C
    ff = fold-Step C D layer test

    abbrev gg : Test → D
    gg = fold-Test C D layer test

    step_is : (x : Step-F Step Test) (y : Step-F SomeStep SomeTest) → map-Step SomeStep SomeTest Step Test (λ x. x.0) (λ x. x.0) y ≡ x →
        layer (over_step C D ff gg y) ≡ ff (roll-Step x)
    step_is x y is =
        ap layer (sym (step_fused C D ff gg y))
        ∙ ap (λ w. layer (map-Step Step Test C D ff gg w)) is
        ∙ sym (fold-roll-Step C D layer test x)

    test_is : (x : Test-F Step Test) (y : Test-F SomeStep SomeTest) → map-Test SomeStep SomeTest Step Test (λ x. x.0) (λ x. x.0) y ≡ x →
        test (over_test C D ff gg y) ≡ gg (roll-Test x)
    test_is x y is =
        ap test (sym (test_fused C D ff gg y))
        ∙ ap (λ w. test (map-Test Step Test C D ff gg w)) is
        ∙ sym (fold-roll-Test C D layer test x)

  laws_at : (m m2 n n2 : StepMeaning) (z z2 : StepSensors) (d d2 : Depth) → m ≡ m2 → n ≡ n2 → z ≡ z2 → d ≡ d2 → Laws e frame m n z d → Laws e frame m2 n2 z2 d2
  laws_at m m2 n n2 z z2 d d2 p q r s l =
      subst (λ (k : StepMeaning). Laws e frame k n2 z2 d2) p
      (subst (λ (k : StepMeaning). Laws e frame m k z2 d2) q
      (subst (λ (k : StepSensors). Laws e frame m n k d2) r
      (subst (λ (k : Depth). Laws e frame m n z k) s l)))

  test_at : (a a2 b b2 : TestMeaning) (w w2 : Sensors) → a ≡ a2 → b ≡ b2 → w ≡ w2 → TestLaw e frame a b w → TestLaw e frame a2 b2 w2
  test_at a a2 b b2 w w2 p q r l =
      subst (λ (k : TestMeaning). TestLaw e frame k b2 w2) p
      (subst (λ (k : TestMeaning). TestLaw e frame a k w2) q
      (subst (λ (k : Sensors). TestLaw e frame a b k) r l))

  step_case : (x : Step-F Step Test) (y : Step-F SomeStep SomeTest) → map-Step SomeStep SomeTest Step Test (λ x. x.0) (λ x. x.0) y ≡ x → StepLaws (roll-Step x)
  step_case x y is =
      laws_at _ _ _ _ _ _ _ _
      (step_is StepMeaning TestMeaning old_step old_test x y is)
      (step_is StepMeaning TestMeaning new_step new_test x y is)
      (step_is StepSensors Sensors step_sensors test_sensors x y is)
      (step_is Depth Bool others_in_step others_in_test x y is)
      (step_layer y)

  test_case : (x : Test-F Step Test) (y : Test-F SomeStep SomeTest) → map-Test SomeStep SomeTest Step Test (λ x. x.0) (λ x. x.0) y ≡ x → TestLaws (roll-Test x)
  test_case x y is free =
      test_at _ _ _ _ _ _
      (test_is StepMeaning TestMeaning old_step old_test x y is)
      (test_is StepMeaning TestMeaning new_step new_test x y is)
      (test_is StepSensors Sensors step_sensors test_sensors x y is)
      (test_layer y (test_is Depth Bool others_in_step others_in_test x y is ∙ free))

  pub step_laws : (s : Step) → StepLaws s
  step_laws = ind-Step StepLaws TestLaws step_case test_case

  pub test_laws : (q : Test) → TestLaws q
  test_laws = ind-Test StepLaws TestLaws step_case test_case
