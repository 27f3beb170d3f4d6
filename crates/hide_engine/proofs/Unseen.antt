-- A change that nothing observes, and that brings and moves nothing, makes nothing dirty, and nothing is asked.
use Rattle.std.proofs.Common.{◌≡◌, ◌∙◌, ◌≤◌, ◌+◌, ◌*◌, ℕ, Bool, true, false, ◌&&◌, ◌||◌, List, [], ◌∷◌, length, map, cond, refl, ap, ap₂, arith, zero-mul}
use Rattle.std.specs.Prelude.{is_ok, IsErr, Result, Ok, Err}
use Rattle.std.specs.List.{count_by, list_any, range_with_len}
use Rattle.std.proofs.Math.Bool as bool
use Rattle.std.proofs.lemmas.List.Sums.{sum_by-cons}
use Rattle.page_tree.specs.Standings.{all}
use Rattle.page_tree.specs.Directions.{is_in}
use Rattle.page_tree.specs.Refusals.{Refusal}
use Rattle.procedural_ops.specs.Told.{selector_at}
use Rattle.mutation_script.specs.declared.mutation.Mutation.{Mutation}
use Rattle.mutation_script.specs.declared.page.PageState.{PageState}
use Rattle.mutation_script.specs.Changes.{change}
use Rattle.sensor_meaning.specs.declared.change.Change.{Change}
use Rattle.sensor_meaning.specs.declared.sensor.Sensor.{Sensor}
use Rattle.sensor_meaning.specs.Changes.{observes, places_of}
use Rattle.sensor_meaning.specs.Dirty.{brought, hit, is_reached, spread}
use Rattle.sensor_meaning.specs.Sensors.{Sensors, sensors}
use Rattle.sensor_laws.proofs.Any.{is_in-filter}
use Rattle.retest_laws.specs.Pending.{Pairs, due_at, budget}
use Rattle.cos_patterns.specs.Found.{pattern_found}
use Rattle.selector_tree.specs.declared.filter.Taken.{Taken}
use Rattle.retest.specs.Priced.{price}
use Rattle.engine_meaning.specs.States.{State, mutated, rounded, round_of}
use Rattle.hide_engine.specs.Budgets.{budget_of, carried, event_budget, event_tests, round_budget, round_tests}
use Rattle.hide_engine.specs.Changes.{change_of, dirtied_by, dirtied_without, is_dirty, IsUnseen}

-- what no sensor observes reaches nothing
none_hit : {A : Type 0} (seen leads : A → Bool) (r : List A) → list_any seen r ≡ false → list_any (λ s. seen s && leads s) r ≡ false
none_hit seen leads [] h = refl
none_hit seen leads (s ∷ r) h = by (seen s) (list_any seen r) (leads s) (none_hit seen leads r) h
  where
    by : {rest : Bool} (one others lead : Bool) → (others ≡ false → rest ≡ false) → (one || others) ≡ false → ((one && lead) || rest) ≡ false
    by true others lead more h = absurd (let no : true ≡ false = h in cc)
    by false others lead more h = more h

none_reached : (c : Change) (s : State) (r : Sensors) (x : ℕ) → list_any (λ sensor. observes sensor.observes c) r ≡ false → is_reached c s.page.tree r x ≡ false
unfolding hit
none_reached c s r x h =
    none_hit (λ (sensor : Sensor). observes sensor.observes c) (λ (sensor : Sensor). is_in (spread s.page.tree sensor.route (places_of c s.page.tree)) x) r h

none_dirty : (c : Change) (s : State) → IsUnseen c s → (f x : ℕ) → is_dirty c s f x ≡ false
none_dirty c s unseen f x =
    let r = sensors (selector_at s.filters f) in
    is_in-filter (λ y. is_reached c s.page.tree r y || brought c s.page.tree y) x (all s.page.tree)
    ∙ by (is_reached c s.page.tree r x) (brought c s.page.tree x) (is_in (all s.page.tree) x) (none_reached c s r x (unseen.unobserved f)) (unseen.brings_none x)
  where
    by : (reached came there : Bool) → reached ≡ false → (there ≡ true → came ≡ false) → ((reached || came) && there) ≡ false
    by true came there unreached h = absurd (let e : true ≡ false = unreached in cc)
    by false true true unreached h = h refl
    by false false there unreached h = refl
    by false true false unreached h = refl

-- where nothing is given, nothing is asked
none_due : (n : ℕ) (carries given : Pairs) → ((f x : ℕ) → given f x ≡ false) → (x : ℕ) → due_at n carries given x ≡ 0
none_due n carries given none x = counts (range_with_len 0 n)
  where
    counts : (fs : List ℕ) → count_by (λ f. given f x && carries f x) fs ≡ 0
    counts [] = refl
    counts (f ∷ fs) =
        sum_by-cons (λ f. cond (given f x && carries f x) 1 0) f fs
        ∙ ap₂ (λ b k. cond {A = ℕ} (b && carries f x) 1 0 + k) (none f x) (counts fs)

no_budget : (n : ℕ) (carries given : Pairs) → ((f x : ℕ) → given f x ≡ false) → (elements : List ℕ) → budget n elements carries given ≡ 0
no_budget n carries given none [] = refl
no_budget n carries given none (x ∷ xs) =
    sum_by-cons (due_at n carries given) x xs ∙ ap₂ (λ a b. a + b) (none_due n carries given none x) (no_budget n carries given none xs)

-- the bound of such a mutation is 0
pub unseen_budget : (mutation : Mutation) (s : State) → IsUnseen (change_of mutation s.page.tree) (mutated mutation s) → event_budget mutation s ≡ 0
unseen_budget mutation s unseen =
    no_budget (length s.filters) (carried (mutated mutation s)) (dirtied_by mutation s)
    (λ f x. ap (λ b. is_ok (change mutation s.page) && b) (none_dirty (change_of mutation s.page.tree) (mutated mutation s) unseen f x)
    ∙ bool.and-false (is_ok (change mutation s.page)))
    (all (mutated mutation s).page.tree)

-- so nothing is asked
pub unasked : (mutation : Mutation) (s : State) (was now : ℕ) → IsUnseen (change_of mutation s.page.tree) (mutated mutation s) →
    was ≤ now → now ≤ was + event_budget mutation s → now ≡ was
unasked mutation s was now unseen rises within = by (event_budget mutation s) (unseen_budget mutation s unseen) rises within
  where
    by : (bound : ℕ) → bound ≡ 0 → was ≤ now → now ≤ was + bound → now ≡ was
    by bound none up h = omega arith

-- a refused change asks nothing
pub refused_budget : (mutation : Mutation) (s : State) → IsErr (change mutation s.page) → event_budget mutation s ≡ 0
refused_budget mutation s refused =
    no_budget (length s.filters) (carried (mutated mutation s)) (dirtied_by mutation s)
    (λ f x. ap (λ b. b && is_dirty (change_of mutation s.page.tree) (mutated mutation s) f x) (by (change mutation s.page) refused))
    (all (mutated mutation s).page.tree)
  where
    by : (changed : Result PageState Refusal) → IsErr changed → is_ok changed ≡ false
    by (Ok page) failed = absurd (let e : false ≡ true = failed in cc)
    by (Err refusal) failed = refl

pub refused_tests : (mutation : Mutation) (s : State) → IsErr (change mutation s.page) → event_tests mutation s ≡ 0
refused_tests mutation s refused =
    let cost = price s.filters (mutated mutation s).page.tree in
    ap (λ n. n * cost) (refused_budget mutation s refused) ∙ zero-mul cost

-- a round that takes nothing asks nothing
pub quiet_budget : (s : State) → round_of pattern_found s ≡ [] → round_budget s ≡ 0
quiet_budget s none =
    ap (λ (rows : List Taken). budget_of (rounded pattern_found s) (dirtied_without (map (λ row. row.node) rows) s)) none
    ∙ no_budget (length s.filters) (carried (rounded pattern_found s)) (λ f x. false) (λ f x. refl) (all (rounded pattern_found s).page.tree)

pub quiet_tests : (s : State) → round_of pattern_found s ≡ [] → round_tests s ≡ 0
quiet_tests s none =
    let cost = price s.filters (rounded pattern_found s).page.tree in
    ap (λ n. n * cost) (quiet_budget s none) ∙ zero-mul cost
