-- The laws of chains and selectors, from the laws of their steps.
use Rattle.std.proofs.Common.{◌≡◌, ℕ, Bool, true, false, ◌&&◌, ◌||◌, not, List, [], ◌∷◌, ◌++◌, map, refl, sym, ap, ap₂, subst, ◌∙◌, if◌then◌else◌}
use Rattle.std.specs.List.{list_any, flat_map}
use Rattle.page_tree.specs.Directions.{is_in}
use Rattle.page_tree.specs.Standings.{all}
use Rattle.selector_meaning.specs.Meaning.{StepMeaning, front, gives, rest, run, selected_by}
use Rattle.selector_meaning.specs.Texts.{is_empty}
use Rattle.sensor_meaning.specs.Nested.{Depth}
use Rattle.sensor_meaning.specs.Sensors.{Sensors, StepSensors, leads, members, members_from, of_selector}
use Rattle.sensor_meaning.specs.Sensors as sensors
use Rattle.sensor_laws.specs.Frame.{Event, Frame}
use Rattle.sensor_laws.proofs.Any.{same_by_iff, or_none, any-made, any-found, filled}
use Rattle.sensor_laws.proofs.Quiet.{quiet-join}
use Rattle.sensor_laws.proofs.Laws.{quiet, Alike, TestLaw, IsLinear, Laws}

module _ (e : Event) (frame : Frame e) (X : Type 0) where
  -- a chain leads from a list to something where it does so from some member
  module _ (f : X → StepMeaning) (any : X → Bool) (linear : (x : X) → any x ≡ false → IsLinear e frame (f x)) where
    run_filled : (chain : List X) → list_any any chain ≡ false → (s : List ℕ) →
        not (is_empty (run (map f chain) s)) ≡ list_any (λ w. not (is_empty (run (map f chain) (w ∷ [])))) s
    run_filled [] free s = filled s
    run_filled (step ∷ steps) free s =
        let parts = or_none (any step) (list_any any steps) free in
        let l = linear step parts.0 in
        let P : ℕ → Bool = λ w. not (is_empty (run (map f steps) (w ∷ []))) in
        let push = (f step).push in
        run_filled steps parts.1 (push s)
        ∙ same_by_iff (list_any P (push s)) (list_any (λ y. not (is_empty (run (map f steps) (push (y ∷ []))))) s)
        (λ h. let g = any-found P (push s) h in
        let k = any-found (λ y. is_in (push (y ∷ [])) g.0) s (sym (l s g.0) ∙ g.1) in
        any-made (λ y. not (is_empty (run (map f steps) (push (y ∷ []))))) s k.0 k.1
        (run_filled steps parts.1 (push (k.0 ∷ [])) ∙ any-made P (push (k.0 ∷ [])) g.0 k.2 g.2))
        (λ h. let g = any-found (λ y. not (is_empty (run (map f steps) (push (y ∷ []))))) s h in
        let k = any-found P (push (g.0 ∷ [])) (sym (run_filled steps parts.1 (push (g.0 ∷ []))) ∙ g.2) in
        any-made P (push s) k.0 (l s k.0 ∙ any-made (λ y. is_in (push (y ∷ [])) k.0) s g.0 g.1 k.1) k.2)

  module _ (up : X → Bool) where
    abbrev front_of : List X → List X
    front_of [] = []
    front_of (x ∷ chain) = if up x then [] else x ∷ front_of chain

    abbrev rest_of : List X → List X
    rest_of [] = []
    rest_of (x ∷ chain) = if up x then x ∷ chain else rest_of chain

    free_front : (p : X → Bool) (chain : List X) → list_any p chain ≡ false → list_any p (front_of chain) ≡ false
    free_front p [] h = h
    free_front p (x ∷ chain) h = let k = or_none (p x) (list_any p chain) h in case (up x) k.0 (free_front p chain k.1)
      where
        case : (b : Bool) → p x ≡ false → list_any p (front_of chain) ≡ false → list_any p (if b then [] else x ∷ front_of chain) ≡ false
        case true i j = refl
        case false i j = ap₂ ◌||◌ i j

    free_rest : (p : X → Bool) (chain : List X) → list_any p chain ≡ false → list_any p (rest_of chain) ≡ false
    free_rest p [] h = h
    free_rest p (x ∷ chain) h = case (up x) (free_rest p chain (or_none (p x) (list_any p chain) h).1)
      where
        case : (b : Bool) → list_any p (rest_of chain) ≡ false → list_any p (if b then x ∷ chain else rest_of chain) ≡ false
        case true i = h
        case false i = i

    module _ (f : X → StepMeaning) (same : (x : X) → (f x).goes_up ≡ up x) where
      front_is : (chain : List X) → front (map f chain) ≡ map f (front_of chain)
      front_is [] = refl
      front_is (x ∷ chain) = ap (λ b. if b then [] else f x ∷ front (map f chain)) (same x) ∙ case (up x) (front_is chain)
        where
          case : (b : Bool) → front (map f chain) ≡ map f (front_of chain) → (if b then [] else f x ∷ front (map f chain)) ≡ map f (if b then [] else x ∷ front_of chain)
          case true i = refl
          case false i = ap (λ l. f x ∷ l) i

      rest_is : (chain : List X) → rest (map f chain) ≡ map f (rest_of chain)
      rest_is [] = refl
      rest_is (x ∷ chain) = ap (λ b. if b then f x ∷ map f chain else rest (map f chain)) (same x) ∙ case (up x) (rest_is chain)
        where
          case : (b : Bool) → rest (map f chain) ≡ map f (rest_of chain) → (if b then f x ∷ map f chain else rest (map f chain)) ≡ map f (if b then x ∷ chain else rest_of chain)
          case true i = refl
          case false i = i

    module _ (f : X → StepSensors) (same : (x : X) → (f x).goes_up ≡ up x) where
      sensors_front : (chain : List X) → sensors.front (map f chain) ≡ map f (front_of chain)
      sensors_front [] = refl
      sensors_front (x ∷ chain) = ap (λ b. if b then [] else f x ∷ sensors.front (map f chain)) (same x) ∙ case (up x) (sensors_front chain)
        where
          case : (b : Bool) → sensors.front (map f chain) ≡ map f (front_of chain) → (if b then [] else f x ∷ sensors.front (map f chain)) ≡ map f (if b then [] else x ∷ front_of chain)
          case true i = refl
          case false i = ap (λ l. f x ∷ l) i

      sensors_rest : (chain : List X) → sensors.rest (map f chain) ≡ map f (rest_of chain)
      sensors_rest [] = refl
      sensors_rest (x ∷ chain) = ap (λ b. if b then f x ∷ map f chain else sensors.rest (map f chain)) (same x) ∙ case (up x) (sensors_rest chain)
        where
          case : (b : Bool) → sensors.rest (map f chain) ≡ map f (rest_of chain) → (if b then f x ∷ map f chain else sensors.rest (map f chain)) ≡ map f (if b then x ∷ chain else rest_of chain)
          case true i = refl
          case false i = i

  module _ (m n : X → StepMeaning) (z : X → StepSensors) (d : X → Depth) (laws : (x : X) → Laws e frame (m x) (n x) (z x) (d x)) where
    abbrev any : X → Bool
    any x = (d x).any

    abbrev within : X → Bool
    within x = (d x).within

    pub freed : (chain : List X) → list_any any chain ≡ false → list_any within chain ≡ false
    freed [] h = refl
    freed (x ∷ chain) h = let k = or_none (any x) (list_any any chain) h in ap₂ ◌||◌ ((laws x).within k.0) (freed chain k.1)

    -- membership, from the front
    pub chain_member : (chain : List X) → list_any within chain ≡ false → (r : Sensors) (s v : List ℕ) → Alike e frame r s v →
        Alike e frame (members_from r (map z chain)) (run (map m chain) s) (run (map n chain) v)
    chain_member [] free r s v a = a
    chain_member (x ∷ chain) free r s v a =
        let k = or_none (within x) (list_any within chain) free in
        chain_member chain k.1 ((z x).member r) ((m x).push s) ((n x).push v) ((laws x).member k.0 r s v a)

    all_alike : Alike e frame [] (all e.old) (all e.new)
    all_alike = record { of_before = λ y h. h; of_after = λ y h. h; same = λ y k q. frame.stays y k }

    pub chain_selects : (chain : List X) → list_any within chain ≡ false →
        TestLaw e frame (λ x. is_in (run (map m chain) (all e.old)) x) (λ x. is_in (run (map n chain) (all e.new)) x) (members (map z chain))
    chain_selects chain free x k h q = (chain_member chain free [] (all e.old) (all e.new) all_alike).same x k q

    -- leading on, from the back
    pub chain_leads : (chain : List X) → list_any any chain ≡ false →
        TestLaw e frame (λ x. not (is_empty (run (map m chain) (x ∷ [])))) (λ x. not (is_empty (run (map n chain) (x ∷ [])))) (leads (map z chain))
    chain_leads [] free x k h q = refl
    chain_leads (y ∷ chain) free x k h q =
        let parts = or_none (any y) (list_any any chain) free in
        run_filled m any (λ x. (laws x).linear_before) chain parts.1 ((m y).push (x ∷ []))
        ∙ (laws y).leads parts.0 (leads (map z chain)) (λ w. not (is_empty (run (map m chain) (w ∷ [])))) (λ w. not (is_empty (run (map n chain) (w ∷ []))))
        (chain_leads chain parts.1) x k h q
        ∙ sym (run_filled n any (λ x. (laws x).linear_after) chain parts.1 ((n y).push (x ∷ [])))

    abbrev up : X → Bool
    up x = (z x).goes_up

    module _ where
      -- a chain gives something
      pub chain_gives : (chain : List X) → list_any any chain ≡ false →
          TestLaw e frame (gives e.old (map m chain)) (gives e.new (map n chain)) (sensors.gives (map z chain))
      chain_gives chain free x k h q =
          let f = front_of up chain in
          let r = rest_of up chain in
          let two = quiet-join e.new e.seen e.places (members (map z f)) (leads (map z r)) x
          (subst (λ (w : Sensors). quiet e frame w x)
          (ap₂ (λ a b. members a ++ leads b) (sensors_front up z (λ _. refl) chain) (sensors_rest up z (λ _. refl) chain)) q) in
          ap₂ (λ a b. is_in (run a (all e.old)) x && not (is_empty (run b (x ∷ [])))) (front_is up m (λ x. (laws x).cut_before) chain) (rest_is up m (λ x. (laws x).cut_before) chain)
          ∙ ap₂ ◌&&◌
          (chain_selects f (freed f (free_front up any chain free)) x k h two.0)
          (chain_leads r (free_rest up any chain free) x k h two.1)
          ∙ ap₂ (λ a b. is_in (run a (all e.new)) x && not (is_empty (run b (x ∷ [])))) (sym (front_is up n (λ x. (laws x).cut_after) chain)) (sym (rest_is up n (λ x. (laws x).cut_after) chain))

      -- ---- the chains of a selector together
      abbrev has_any : List (List X) → Bool
      has_any l = list_any (λ chain. list_any any chain) l

      abbrev has_within : List (List X) → Bool
      has_within l = list_any (λ chain. list_any within chain) l

      pub all_freed : (l : List (List X)) → has_any l ≡ false → has_within l ≡ false
      all_freed [] h = refl
      all_freed (chain ∷ l) h = let k = or_none (list_any any chain) (has_any l) h in ap₂ ◌||◌ (freed chain k.0) (all_freed l k.1)

      pub selected : (l : List (List X)) → has_within l ≡ false →
          TestLaw e frame (selected_by e.old (map (map m) l)) (selected_by e.new (map (map n) l)) (of_selector (map (map z) l))
      selected [] free x k h q = refl
      selected (chain ∷ l) free x k h q =
          let parts = or_none (list_any within chain) (has_within l) free in
          let two = quiet-join e.new e.seen e.places (members (map z chain)) (of_selector (map (map z) l)) x q in
          ap₂ ◌||◌ (chain_selects chain parts.0 x k h two.0) (selected l parts.1 x k h two.1)

      pub some_gives : (l : List (List X)) → has_any l ≡ false →
          TestLaw e frame (λ x. list_any (λ chain. gives e.old chain x) (map (map m) l))
          (λ x. list_any (λ chain. gives e.new chain x) (map (map n) l)) (flat_map sensors.gives (map (map z) l))
      some_gives [] free x k h q = refl
      some_gives (chain ∷ l) free x k h q =
          let parts = or_none (list_any any chain) (has_any l) free in
          let two = quiet-join e.new e.seen e.places (sensors.gives (map z chain)) (flat_map sensors.gives (map (map z) l)) x q in
          ap₂ ◌||◌ (chain_gives chain parts.0 x k h two.0) (some_gives l parts.1 x k h two.1)

      pub some_leads : (l : List (List X)) → has_any l ≡ false →
          TestLaw e frame (λ x. list_any (λ chain. not (is_empty (run chain (x ∷ [])))) (map (map m) l))
          (λ x. list_any (λ chain. not (is_empty (run chain (x ∷ [])))) (map (map n) l)) (flat_map leads (map (map z) l))
      some_leads [] free x k h q = refl
      some_leads (chain ∷ l) free x k h q =
          let parts = or_none (list_any any chain) (has_any l) free in
          let two = quiet-join e.new e.seen e.places (leads (map z chain)) (flat_map leads (map (map z) l)) x q in
          ap₂ ◌||◌ (chain_leads chain parts.0 x k h two.0) (some_leads l parts.1 x k h two.1)
