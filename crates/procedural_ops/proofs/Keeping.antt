-- A run of tests keeps what all its tests keep, in whatever order they are asked.
use Rattle.std.proofs.Common.{◌≡◌, ℕ, suc, ◌+◌, ◌-◌, ◌<◌, ◌≤◌, Bool, true, false, ◌&&◌, ◌||◌, not, List, [], ◌∷◌, ◌++◌, take, drop, length, get_or, Some, None, refl, sym, ap, ◌∙◌, arith}
use Rattle.std.proofs.lemmas.Bool.{both_ways, and_parts, and_from, false_from_ne_true}
use Rattle.std.proofs.lemmas.List.{take-append-drop, take-take, drop-take, drop-drop, get_or-drop, append_assoc, append-nil, length-drop, take_all}
use Rattle.std.proofs.lemmas.List.Folds.{list_all_more}
use Rattle.std.proofs.Math.Bool as bool
use Rattle.std.specs.List.{list_all}
use Rattle.selector_tree.specs.declared.selector.Arg.TheVariants.{Literal, Pattern}
use Rattle.selector_tree.specs.declared.selector.Step.{Step, out-Step}
use Rattle.selector_tree.specs.declared.selector.Step.TheOpen.{Step-F, Test-F}
use Rattle.selector_tree.specs.declared.selector.Step.TheViews.{roll-Step, roll-out-Step}
use Rattle.selector_tree.specs.declared.selector.Step.TheVariants as step
use Rattle.selector_tree.specs.declared.selector.Test.TheVariants as test
use Rattle.selector_tree.specs.declared.selector.Test.{Test, out-Test}
use Rattle.page_tree.specs.Forest.{Tree}
use Rattle.page_tree.specs.Standings.{all}
use Rattle.page_tree.specs.Directions.{is_in}
use Rattle.page_tree.specs.Trees.{IsTree}
use Rattle.cos_patterns.specs.declared.written.Written.{Written}
use Rattle.cos_patterns.specs.Found.{pattern_found}
use Rattle.selector_meaning.specs.Texts.{Bytes}
use Rattle.selector_meaning.specs.Meaning.{holds}
use Rattle.selector_match.specs.Kinds.{is_single, is_single_at}
use Rattle.proper_filters.specs.Proper.{are_inner}
use Rattle.procedural_ops.specs.declared.runs.Cost.{Cost}
use Rattle.procedural_ops.specs.declared.runs.Cost.TheVariants.{Names, Places, Texts, Patterns}
use Rattle.procedural_ops.specs.Reaching.{reached, leads_from, some_gives, some_leads}
use Rattle.procedural_ops.specs.Once.{many_of}
use Rattle.procedural_ops.specs.Runs.{is_keep, is_keep_at, cost_of, cost_at, is_cost, keeps, keeps_at, single_keeps, nested_holds, nested_keeps, cost_keeps}
use Rattle.procedural_ops.proofs.Steps as laws
use Rattle.procedural_ops.proofs.Weights.{inner_first}

-- ---- lists of truth values

all_two : {X : Type 0} (a b c : X → Bool) → ((x : X) → a x ≡ true → b x ≡ true → c x ≡ true) → (l : List X) → list_all a l ≡ true → list_all b l ≡ true → list_all c l ≡ true
all_two a b c on [] h g = refl
all_two a b c on (x ∷ l) h g =
    let p = and_parts (a x) (list_all a l) h in
    let q = and_parts (b x) (list_all b l) g in
    and_from (c x) (list_all c l) (on x p.0 q.0) (all_two a b c on l p.1 q.1)

all_off : {X : Type 0} (a c : X → Bool) → ((x : X) → c x ≡ true → a x ≡ true) → (l : List X) → list_all a l ≡ false → list_all c l ≡ false
all_off a c on l h = false_from_ne_true (list_all c l) (λ g. both_ways (list_all a l) h (all_two c c a (λ x p q. on x p) l g g))

pub all_end : {X : Type 0} (p : X → Bool) (l : List X) (i : ℕ) → list_all p (take i l) ≡ true → length l ≤ i → list_all p l ≡ true
all_end p l i h few = ap (list_all p) (sym (take_all i l few)) ∙ h

-- ---- what a test costs

-- a test that costs something has no selectors in it
single_layer : (o : Test-F Step Test) (c : Cost) → is_cost (cost_at o) c ≡ true → is_single_at o ≡ true
single_layer Test-F.Any c h = refl
single_layer (Test-F.Tag n) c h = refl
single_layer (Test-F.Id v) c h = refl
single_layer (Test-F.Class v) c h = refl
single_layer (Test-F.Attr key op v i) c h = refl
single_layer Test-F.Root c h = refl
single_layer Test-F.Empty c h = refl
single_layer (Test-F.Nth a b e o) c h = refl
single_layer (Test-F.Only o) c h = refl
single_layer (Test-F.Is l) c h = h
single_layer (Test-F.Not l) c h = h
single_layer (Test-F.Has l) c h = h
single_layer (Test-F.HasText arg) c h = refl
single_layer (Test-F.MinText n) c h = refl
single_layer (Test-F.MatchesPath arg) c h = refl
single_layer (Test-F.MatchesAttr key value) c h = refl
single_layer (Test-F.WatchAttr names) c h = refl

pub single_cost : (q : Test) (c : Cost) → is_cost (cost_of q) c ≡ true → is_single q ≡ true
single_cost q c h = single_layer (out-Test q) c h

-- each test without selectors costs one of the four
four_layer : (o : Test-F Step Test) (h : Bool) → (not (is_cost (cost_at o) Names) || h) ≡ true → (not (is_cost (cost_at o) Places) || h) ≡ true →
    (not (is_cost (cost_at o) Texts) || h) ≡ true → (not (is_cost (cost_at o) Patterns) || h) ≡ true → (not (is_single_at o) || h) ≡ true
four_layer Test-F.Any h a b c d = a
four_layer (Test-F.Tag n) h a b c d = a
four_layer (Test-F.Id v) h a b c d = a
four_layer (Test-F.Class v) h a b c d = a
four_layer (Test-F.Attr key op v i) h a b c d = a
four_layer Test-F.Root h a b c d = a
four_layer Test-F.Empty h a b c d = b
four_layer (Test-F.Nth m n e o) h a b c d = b
four_layer (Test-F.Only o) h a b c d = b
four_layer (Test-F.Is l) h a b c d = refl
four_layer (Test-F.Not l) h a b c d = refl
four_layer (Test-F.Has l) h a b c d = refl
four_layer (Test-F.HasText (Literal v)) h a b c d = c
four_layer (Test-F.HasText (Pattern body flags number)) h a b c d = d
four_layer (Test-F.MinText n) h a b c d = c
four_layer (Test-F.MatchesPath (Literal v)) h a b c d = c
four_layer (Test-F.MatchesPath (Pattern body flags number)) h a b c d = d
four_layer (Test-F.MatchesAttr (Literal v) None) h a b c d = c
four_layer (Test-F.MatchesAttr (Literal v) (Some (Literal w))) h a b c d = c
four_layer (Test-F.MatchesAttr (Literal v) (Some (Pattern body flags number))) h a b c d = d
four_layer (Test-F.MatchesAttr (Pattern body flags number) value) h a b c d = d
four_layer (Test-F.WatchAttr names) h a b c d = a

cost_from : (single cost h : Bool) → (cost ≡ true → single ≡ true) → (not single || h) ≡ true → (not cost || h) ≡ true
cost_from single false h f e = refl
cost_from true true h f e = e
cost_from false true h f e = absurd (both_ways false refl (f refl))

module _ (t : Tree) (path : Bytes) (x : ℕ) where
  four_step : (o : Step-F Step Test) (s : Step) → out-Step s ≡ o → cost_keeps t path Names x s ≡ true → cost_keeps t path Places x s ≡ true → cost_keeps t path Texts x s ≡ true →
      cost_keeps t path Patterns x s ≡ true → single_keeps t path x s ≡ true
  four_step (Step-F.Keep q) s e a b c d =
      rw e (four_layer (out-Test q) (holds pattern_found t path q x) (rw e at a) (rw e at b) (rw e at c) (rw e at d))
  four_step (Step-F.Move place) s e a b c d = rw e refl
  four_step (Step-F.Upward n) s e a b c d = rw e refl
  four_step (Step-F.UpwardTo l) s e a b c d = rw e refl
  four_step Step-F.Others s e a b c d = rw e refl

  -- the tests of the four costs
  pub all_costs : (run : List Step) → list_all (cost_keeps t path Names x) run ≡ true → list_all (cost_keeps t path Places x) run ≡ true →
      list_all (cost_keeps t path Texts x) run ≡ true → list_all (cost_keeps t path Patterns x) run ≡ true → list_all (single_keeps t path x) run ≡ true
  all_costs [] a b c d = refl
  all_costs (s ∷ run) a b c d =
      let p = and_parts (cost_keeps t path Names x s) (list_all (cost_keeps t path Names x) run) a in
      let q = and_parts (cost_keeps t path Places x s) (list_all (cost_keeps t path Places x) run) b in
      let r = and_parts (cost_keeps t path Texts x s) (list_all (cost_keeps t path Texts x) run) c in
      let v = and_parts (cost_keeps t path Patterns x s) (list_all (cost_keeps t path Patterns x) run) d in
      and_from (single_keeps t path x s) (list_all (single_keeps t path x) run) (four_step (out-Step s) s refl p.0 q.0 r.0 v.0) (all_costs run p.1 q.1 r.1 v.1)

  cost_step : (o : Step-F Step Test) (s : Step) (c : Cost) → out-Step s ≡ o → single_keeps t path x s ≡ true → cost_keeps t path c x s ≡ true
  cost_step (Step-F.Keep q) s c e h = rw e (cost_from (is_single q) (is_cost (cost_of q) c) (holds pattern_found t path q x) (single_cost q c) (rw e at h))
  cost_step (Step-F.Move place) s c e h = rw e refl
  cost_step (Step-F.Upward n) s c e h = rw e refl
  cost_step (Step-F.UpwardTo l) s c e h = rw e refl
  cost_step Step-F.Others s c e h = rw e refl

  pub cost_fails : (run : List Step) (c : Cost) → list_all (cost_keeps t path c x) run ≡ false → list_all (single_keeps t path x) run ≡ false
  cost_fails run c h = all_off (cost_keeps t path c x) (single_keeps t path x) (λ s e. cost_step (out-Step s) s c refl e) run h

  -- tests without selectors and tests with some
  both_bools : (single h : Bool) → (not single || h) ≡ true → (single || h) ≡ true → h ≡ true
  both_bools true h a b = a
  both_bools false h a b = b

  either_bools : (single h : Bool) → h ≡ true → ((not single || h) ≡ true) × ((single || h) ≡ true)
  either_bools true true e = (refl, refl)
  either_bools false true e = (refl, refl)
  either_bools single false e = absurd (both_ways false refl e)

  both_step : (o : Step-F Step Test) (s : Step) → out-Step s ≡ o → single_keeps t path x s ≡ true → nested_keeps t path x s ≡ true → keeps t path x s ≡ true
  both_step (Step-F.Keep q) s e a b = rw e (both_bools (is_single q) (holds pattern_found t path q x) (rw e at a) (rw e at b))
  both_step (Step-F.Move place) s e a b = rw e refl
  both_step (Step-F.Upward n) s e a b = rw e refl
  both_step (Step-F.UpwardTo l) s e a b = rw e refl
  both_step Step-F.Others s e a b = rw e refl

  either_step : (o : Step-F Step Test) (s : Step) → out-Step s ≡ o → keeps t path x s ≡ true → (single_keeps t path x s ≡ true) × (nested_keeps t path x s ≡ true)
  either_step (Step-F.Keep q) s e a = rw e (either_bools (is_single q) (holds pattern_found t path q x) (rw e at a))
  either_step (Step-F.Move place) s e a = rw e (refl, refl)
  either_step (Step-F.Upward n) s e a = rw e (refl, refl)
  either_step (Step-F.UpwardTo l) s e a = rw e (refl, refl)
  either_step Step-F.Others s e a = rw e (refl, refl)

  pub all_both : (run : List Step) → list_all (single_keeps t path x) run ≡ true → list_all (nested_keeps t path x) run ≡ true → list_all (keeps t path x) run ≡ true
  all_both run a b = all_two (single_keeps t path x) (nested_keeps t path x) (keeps t path x) (λ s p q. both_step (out-Step s) s refl p q) run a b

  pub single_fails : (run : List Step) → list_all (single_keeps t path x) run ≡ false → list_all (keeps t path x) run ≡ false
  single_fails run h = all_off (single_keeps t path x) (keeps t path x) (λ s e. (either_step (out-Step s) s refl e).0) run h

  pub nested_fails : (run : List Step) → list_all (nested_keeps t path x) run ≡ false → list_all (keeps t path x) run ≡ false
  nested_fails run h = all_off (nested_keeps t path x) (keeps t path x) (λ s e. (either_step (out-Step s) s refl e).1) run h

  -- where those without selectors hold
  pub nested_all : (run : List Step) → list_all (single_keeps t path x) run ≡ true → list_all (nested_keeps t path x) run ≡ list_all (keeps t path x) run
  nested_all run h = by (list_all (nested_keeps t path x) run) refl
    where
      by : (b : Bool) → list_all (nested_keeps t path x) run ≡ b → list_all (nested_keeps t path x) run ≡ list_all (keeps t path x) run
      by true e = e ∙ sym (all_both run h e)
      by false e = e ∙ sym (nested_fails run e)

  -- ---- tests with selectors in them

  pub nested_is : (q : Test) (l : List (List Step)) → q ≡ test.Is l → nested_holds t path q x ≡ some_gives t path l x
  nested_is q l e = ap (λ b. b || holds pattern_found t path q x) (ap is_single e ∙ ap is_single_at (test.outs-Is l)) ∙ laws.is_is t path q l x e

  pub nested_not : (q : Test) (l : List (List Step)) → q ≡ test.Not l → nested_holds t path q x ≡ not (some_gives t path l x)
  nested_not q l e = ap (λ b. b || holds pattern_found t path q x) (ap is_single e ∙ ap is_single_at (test.outs-Not l)) ∙ laws.not_is t path q l x e

  pub nested_has : (q : Test) (l : List (List Step)) → q ≡ test.Has l → nested_holds t path q x ≡ some_leads t path l x
  nested_has q l e = ap (λ b. b || holds pattern_found t path q x) (ap is_single e ∙ ap is_single_at (test.outs-Has l)) ∙ laws.has_is t path q l x e

-- ---- runs

keep_layer : (o : Step-F Step Test) → is_keep_at o ≡ true → (q : Test) × (o ≡ Step-F.Keep q)
keep_layer (Step-F.Keep q) h = (q, refl)
keep_layer (Step-F.Move place) h = absurd (both_ways false refl h)
keep_layer (Step-F.Upward n) h = absurd (both_ways false refl h)
keep_layer (Step-F.UpwardTo l) h = absurd (both_ways false refl h)
keep_layer Step-F.Others h = absurd (both_ways false refl h)

keep_is : (s : Step) → is_keep s ≡ true → (q : Test) × (s ≡ step.Keep q)
keep_is s h = let k = keep_layer (out-Step s) h in (k.0, sym (roll-out-Step s) ∙ ap roll-Step k.1 ∙ step.rolls-Keep k.0)

pub is_keep-Keep : (s : Step) (q : Test) → s ≡ step.Keep q → is_keep s ≡ true
is_keep-Keep s q e = ap is_keep e ∙ ap is_keep_at (step.outs-Keep q)

module _ (t : Tree) (path : Bytes) where
  pub keeps_is : (x : ℕ) (s : Step) (q : Test) → s ≡ step.Keep q → holds pattern_found t path q x ≡ keeps t path x s
  keeps_is x s q e = sym (ap (keeps t path x) e ∙ ap (keeps_at t path x) (step.outs-Keep q))

  joined : (a b c : Bool) → ((a && b) && c) ≡ (a && (b && c))
  joined true b c = refl
  joined false b c = refl

  -- steps and a run behind them
  pub reached_run : (run front : List Step) (x : ℕ) → list_all is_keep run ≡ true → is_in (reached t path (front ++ run)) x ≡ (is_in (reached t path front) x && list_all (keeps t path x) run)
  reached_run [] front x h = ap (λ (l : List Step). is_in (reached t path l) x) (append-nil front) ∙ sym (bool.and-true (is_in (reached t path front) x))
  reached_run (s ∷ run) front x h =
      let p = and_parts (is_keep s) (list_all is_keep run) h in
      let k = keep_is s p.0 in
      ap (λ (l : List Step). is_in (reached t path l) x) (sym (append_assoc front (s ∷ []) run))
      ∙ reached_run run (front ++ s ∷ []) x p.1
      ∙ ap (λ b. b && list_all (keeps t path x) run) (laws.keep_law t path (front ++ s ∷ []) front s x refl k.0 k.1)
      ∙ ap (λ b. (is_in (reached t path front) x && b) && list_all (keeps t path x) run) (keeps_is x s k.0 k.1)
      ∙ joined (is_in (reached t path front) x) (keeps t path x s) (list_all (keeps t path x) run)

  -- a run and steps behind it
  pub leads_run : IsTree t → (patterns : List Written) (run more : List Step) (x : ℕ) → list_all is_keep run ≡ true → are_inner patterns (run ++ more) ≡ true → is_in (all t) x ≡ true →
      leads_from t path (run ++ more) x ≡ (list_all (keeps t path x) run && leads_from t path more x)
  leads_run tree patterns [] more x h inner x_is = refl
  leads_run tree patterns (s ∷ run) more x h inner x_is =
      let p = and_parts (is_keep s) (list_all is_keep run) h in
      let k = keep_is s p.0 in
      let i = inner_first patterns (s ∷ (run ++ more)) (run ++ more) s refl inner in
      laws.keep_front t path tree patterns (s ∷ (run ++ more)) (run ++ more) s x refl i.1 x_is k.0 k.1
      ∙ ap (λ b. b && leads_from t path (run ++ more) x) (keeps_is x s k.0 k.1)
      ∙ ap (λ b. keeps t path x s && b) (leads_run tree patterns run more x p.1 i.1 x_is)
      ∙ sym (joined (keeps t path x s) (list_all (keeps t path x) run) (leads_from t path more x))

  -- a run that begins the steps, with n tests behind the first
  pub leads_front : IsTree t → (patterns : List Written) (steps more : List Step) (first : Step) (x : ℕ) → steps ≡ first ∷ more → are_inner patterns steps ≡ true → is_in (all t) x ≡ true →
      (q : Test) → first ≡ step.Keep q → (n : ℕ) → list_all is_keep (take n more) ≡ true →
      leads_from t path steps x ≡ (list_all (keeps t path x) (take (n + 1) steps) && leads_from t path (drop (n + 1) steps) x)
  leads_front tree patterns steps more first x is inner x_is q keep n h =
      let e : n + 1 ≡ suc n = omega arith in
      let whole : take (n + 1) steps ++ drop (n + 1) steps ≡ steps = take-append-drop (n + 1) steps in
      let tests : list_all is_keep (take (n + 1) steps) ≡ true =
      ap (λ (k : ℕ). list_all is_keep (take k steps)) e ∙ ap (λ (s : List Step). list_all is_keep (take (suc n) s)) is
      ∙ and_from (is_keep first) (list_all is_keep (take n more)) (is_keep-Keep first q keep) h in
      ap (λ (s : List Step). leads_from t path s x) (sym whole)
      ∙ leads_run tree patterns (take (n + 1) steps) (drop (n + 1) steps) x tests (ap (are_inner patterns) whole ∙ inner) x_is

-- ---- where a run stands in a chain

many_append : (f : Step-F Step Test → ℕ) (xs ys : List Step) → many_of f (xs ++ ys) ≡ many_of f xs + many_of f ys
many_append f [] ys = omega arith
many_append f (x ∷ xs) ys = let r : many_of f (xs ++ ys) ≡ many_of f xs + many_of f ys = many_append f xs ys in omega (arith, r)

many_none : (f : Step-F Step Test → ℕ) → ((q : Test) → f (Step-F.Keep q) ≡ 0) → (run : List Step) → list_all is_keep run ≡ true → many_of f run ≡ 0
many_none f none [] h = refl
many_none f none (s ∷ run) h =
    let p = and_parts (is_keep s) (list_all is_keep run) h in
    let k = keep_layer (out-Step s) p.0 in
    let z : f (out-Step s) ≡ 0 = ap f k.1 ∙ none k.0 in
    let r : many_of f run ≡ 0 = many_none f none run p.1 in
    omega (arith, z, r)

take_cut : (k m : ℕ) (l : List Step) → take (k + m) l ≡ take k l ++ take m (drop k l)
take_cut k m l =
    sym (take-append-drop k (take (k + m) l))
    ∙ ap (λ (f : List Step). f ++ drop k (take (k + m) l)) (take-take k (k + m) l (omega arith))
    ∙ ap (λ (r : List Step). take k l ++ r) (drop-take k m l)

-- the run from k on that ends with i steps
module _ (steps : List Step) (k i : ℕ) (within : k ≤ i - 1) (some : 0 < i) (few : i ≤ length steps) where
  abbrev run : List Step
  run = take (i - k) (drop k steps)

  pub run_cut : take i steps ≡ take k steps ++ run
  run_cut =
      let e : k + (i - k) ≡ i = omega (arith, within, some) in
      ap (λ (n : ℕ). take n steps) (sym e) ∙ take_cut k (i - k) steps

  pub run_drop : drop k steps ≡ run ++ drop i steps
  run_drop =
      let e : k + (i - k) ≡ i = omega (arith, within, some) in
      sym (take-append-drop (i - k) (drop k steps)) ∙ ap (λ (r : List Step). run ++ r) (drop-drop (i - k) k steps ∙ ap (λ (n : ℕ). drop n steps) e)

  module _ (last : Step) (is : last ≡ get_or steps (i - 1) last) (q : Test) (keep : last ≡ step.Keep q) (before : list_all is_keep (drop k (take (i - 1) steps)) ≡ true) where
    pub run_keeps : list_all is_keep run ≡ true
    run_keeps =
        let e : k + ((i - 1) - k) ≡ i - 1 = omega (arith, within) in
        let n : ((i - 1) - k) + 1 ≡ i - k = omega (arith, within, some) in
        let short : (i - 1) - k < length (drop k steps) = omega (arith, length-drop k steps, within, some, few) in
        let front : drop k (take (i - 1) steps) ≡ take ((i - 1) - k) (drop k steps) =
        ap (λ (m : ℕ). drop k (take m steps)) (sym e) ∙ drop-take k ((i - 1) - k) steps in
        let end : get_or (drop k steps) ((i - 1) - k) last ≡ last = get_or-drop k steps ((i - 1) - k) last ∙ ap (λ (m : ℕ). get_or steps m last) e ∙ sym is in
        ap (λ (m : ℕ). list_all is_keep (take m (drop k steps))) (sym n)
        ∙ list_all_more is_keep (drop k steps) ((i - 1) - k) last short
        ∙ and_from (list_all is_keep (take ((i - 1) - k) (drop k steps))) (is_keep (get_or (drop k steps) ((i - 1) - k) last))
        (ap (list_all is_keep) (sym front) ∙ before) (ap is_keep end ∙ is_keep-Keep last q keep)

    -- none of its steps leads anywhere else
    pub run_stays : (f : Step-F Step Test → ℕ) → ((p : Test) → f (Step-F.Keep p) ≡ 0) → many_of f (drop k steps) ≡ many_of f (drop i steps)
    run_stays f none =
        let z : many_of f run ≡ 0 = many_none f none run run_keeps in
        let e : many_of f (drop k steps) ≡ many_of f run + many_of f (drop i steps) = ap (many_of f) run_drop ∙ many_append f run (drop i steps) in
        omega (arith, z, e)
