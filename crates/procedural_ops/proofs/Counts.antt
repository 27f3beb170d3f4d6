-- A search that climbs asks each test at most once of each element.
use Rattle.std.proofs.Common.{◌≡◌, ℕ, zero, suc, ◌+◌, ◌-◌, ◌*◌, ◌<◌, ◌≤◌, ◌==◌, Bool, true, false, ◌&&◌, ◌||◌, not, cond, List, [], ◌∷◌, ◌++◌, take, drop, length, get_or, Option, Some, None, refl, sym, ap, ◌∙◌, inl, inr, ◌⊎◌, arith}
use Rattle.std.specs.Prelude.{nat_lt}
use Rattle.std.proofs.lemmas.Bool.{both_ways, and_parts, and_from, or_cases, or_left, or_right, eqb-true, eq-eqb, ltb-true, lt-ltb, false_from_ne_true}
use Rattle.std.proofs.lemmas.List.{take-append-drop, length-take, length-take-le, length-drop}
use Rattle.std.specs.List.{list_all}
use Rattle.selector_tree.specs.declared.selector.Step.{Step}
use Rattle.page_tree.specs.Forest.{Tree}
use Rattle.page_tree.specs.Standings.{all}
use Rattle.page_tree.specs.Directions.{is_in}
use Rattle.selector_meaning.specs.Texts.{Bytes}
use Rattle.procedural_ops.specs.Climbing.{at_next}
use Rattle.procedural_ops.specs.Once.{to_child, to_next, left_at_sibling_of, level, most_left, children_behind, nexts_behind, rank, IsPast, IsFurther, GoesFurther}
use Rattle.procedural_ops.specs.Standing.{left_at_sibling, StandsAt}
use Rattle.procedural_ops.specs.declared.climb.Point.{Point}
use Rattle.procedural_ops.specs.Count.{asks, many_asked, many_passing, still, is_past, unasked, unasked_at, unasked_in}
use Rattle.procedural_ops.specs.declared.climb.Climb.{Climb}
use Rattle.procedural_ops.specs.Climbing.{retreated, advanced}
use Rattle.procedural_ops.specs.Once.{IsLevelAt}
use Rattle.procedural_ops.specs.Runs.{is_keep}
use Rattle.page_tree.specs.Trees.{IsTree}
use Rattle.selector_tree.specs.declared.selector.Place.{Place}
use Rattle.selector_tree.specs.declared.selector.Step.TheVariants as step
use Rattle.selector_tree.specs.declared.selector.Test.{Test}
use Rattle.procedural_ops.proofs.Keeping.{run_drop, run_stays}
use Rattle.procedural_ops.proofs.Climbs.{tests_stand}
use Rattle.procedural_ops.proofs.Asking.{many_less, run_far, retreat_further, move_further}

-- ---- counts

one : (a b : Bool) → (a ≡ true → b ≡ true) → cond a 1 0 ≤ cond b 1 0
one true true on = omega arith
one true false on = absurd (both_ways false refl (on refl))
one false true on = omega arith
one false false on = omega arith

pub passing_le : (p q : ℕ → Bool) → ((z : ℕ) → p z ≡ true → q z ≡ true) → (l : List ℕ) → many_passing p l ≤ many_passing q l
passing_le p q on [] = omega arith
passing_le p q on (x ∷ l) = omega (arith, one (p x) (q x) (on x), passing_le p q on l)

pub passing_less : (p q : ℕ → Bool) → ((z : ℕ) → p z ≡ true → q z ≡ true) → (l : List ℕ) (w : ℕ) → is_in l w ≡ true → p w ≡ false → q w ≡ true →
    many_passing p l + 1 ≤ many_passing q l
passing_less p q on [] w h left right = absurd (both_ways false refl h)
passing_less p q on (x ∷ l) w h left right =
    elim (or_cases (x == w) (is_in l w) h) [
      | inl e ↦
          let same : x ≡ w = eqb-true x w e in
          let a : cond {A = ℕ} (p x) 1 0 ≡ 0 = ap (λ (v : Bool). cond {A = ℕ} v 1 0) (ap p same ∙ left) in
          let b : cond {A = ℕ} (q x) 1 0 ≡ 1 = ap (λ (v : Bool). cond {A = ℕ} v 1 0) (ap q same ∙ right) in
          omega (arith, a, b, passing_le p q on l)
      | inr e ↦ omega (arith, one (p x) (q x) (on x), passing_less p q on l w e left right)
    ]

pub passing_few : (p : ℕ → Bool) (l : List ℕ) → many_passing p l ≤ length l
passing_few p [] = omega arith
passing_few p (x ∷ l) = omega (arith, one (p x) true (λ e. refl), passing_few p l)

-- ---- what is still to be asked

pub flip : (a b : Bool) → (a ≡ true → b ≡ true) → not b ≡ true → not a ≡ true
flip true true on h = h
flip true false on h = absurd (both_ways false refl (on refl))
flip false b on h = refl

still_append : (past : ℕ → ℕ → Bool) (l : List ℕ) (xs ys : List Step) (k : ℕ) → still past l (xs ++ ys) k ≡ still past l xs k + still past l ys (length xs + k)
still_append past l [] ys k =
    let e : k ≡ length {A = Step} [] + k = omega arith in
    let f : still past l ys k ≡ still past l ys (length {A = Step} [] + k) = ap (still past l ys) e in
    omega (arith, f)
still_append past l (x ∷ xs) ys k =
    let r : still past l (xs ++ ys) (suc k) ≡ still past l xs (suc k) + still past l ys (length xs + suc k) = still_append past l xs ys (suc k) in
    let e : length xs + suc k ≡ length (x ∷ xs) + k = omega arith in
    let f : still past l ys (length xs + suc k) ≡ still past l ys (length (x ∷ xs) + k) = ap (still past l ys) e in
    omega (arith, r, f)

-- p before, q after
module _ (p q : ℕ → ℕ → Bool) (l : List ℕ) (on : (k z : ℕ) → p k z ≡ true → q k z ≡ true) where
  each_le : (b : Bool) (k : ℕ) → cond b (many_passing (λ z. not (q k z)) l) 0 ≤ cond b (many_passing (λ z. not (p k z)) l) 0
  each_le true k = passing_le (λ z. not (q k z)) (λ z. not (p k z)) (λ z h. flip (p k z) (q k z) (on k z) h) l
  each_le false k = omega arith

  still_le : (steps : List Step) (k : ℕ) → still q l steps k ≤ still p l steps k
  still_le [] k = omega arith
  still_le (s ∷ steps) k = omega (arith, each_le (asks s) (suc k), still_le steps (suc k))

  each_less : (b : Bool) (k w : ℕ) → is_in l w ≡ true → p k w ≡ false → q k w ≡ true →
      cond b (many_passing (λ z. not (q k z)) l) 0 + cond b 1 0 ≤ cond b (many_passing (λ z. not (p k z)) l) 0
  each_less true k w h left right = passing_less (λ z. not (q k z)) (λ z. not (p k z)) (λ z e. flip (p k z) (q k z) (on k z) e) l w h (ap not right) (ap not left)
  each_less false k w h left right = omega arith

  -- steps that are all asked of w
  still_run : (run : List Step) (k w : ℕ) → is_in l w ≡ true → ((j : ℕ) → k < j → j ≤ length run + k → (p j w ≡ false) × (q j w ≡ true)) →
      still q l run k + many_asked run ≤ still p l run k
  still_run [] k w h now = omega arith
  still_run (s ∷ run) k w h now =
      let n = now (suc k) (omega arith) (omega arith) in
      let r = still_run run (suc k) w h (λ j a b. now j (omega (arith, a)) (omega (arith, b))) in
      omega (arith, each_less (asks s) (suc k) w h n.0 n.1, r)

still_few : (past : ℕ → ℕ → Bool) (l : List ℕ) (steps : List Step) (k : ℕ) → still past l steps k ≤ many_asked steps * length l
still_few past l [] k = omega arith
still_few past l (s ∷ steps) k =
    let r : still past l steps (suc k) ≤ many_asked steps * length l = still_few past l steps (suc k) in
    by_asked (asks s) (still past l steps (suc k)) (many_asked steps) r
  where
    by_asked : (b : Bool) (more many : ℕ) → more ≤ many * length l →
        cond b (many_passing (λ z. not (past (suc k) z)) l) 0 + more ≤ (cond b 1 0 + many) * length l
    by_asked true more many r =
        let e : (1 + many) * length l ≡ length l + many * length l = grind arith in
        omega (arith, e, passing_few (λ z. not (past (suc k) z)) l, r)
    by_asked false more many r = omega (arith, r)

-- ---- what is past, as a truth value

past_yes : (t : Tree) (steps : List Step) (c : Climb) (k z : ℕ) → IsPast t steps c k z → is_past t steps c k z ≡ true
past_yes t steps c k z (inl h) = or_left (nat_lt (level t steps c.here.left c.here.at) (level t steps k z)) _ (lt-ltb _ _ h)
past_yes t steps c k z (inr (e, h)) =
    or_right (nat_lt (level t steps c.here.left c.here.at) (level t steps k z)) _
    (and_from (level t steps c.here.left c.here.at == level t steps k z) _ (eq-eqb _ _ e) (inner h))
  where
    last : (rank t steps c.here.left c.here.at < rank t steps k z) ⊎ ((rank t steps c.here.left c.here.at ≡ rank t steps k z) × (c.here.left < k)) →
        (nat_lt (rank t steps c.here.left c.here.at) (rank t steps k z) || ((rank t steps c.here.left c.here.at == rank t steps k z) && nat_lt c.here.left k)) ≡ true
    last (inl a) = or_left (nat_lt (rank t steps c.here.left c.here.at) (rank t steps k z)) _ (lt-ltb _ _ a)
    last (inr (a, b)) =
        or_right (nat_lt (rank t steps c.here.left c.here.at) (rank t steps k z)) _
        (and_from (rank t steps c.here.left c.here.at == rank t steps k z) (nat_lt c.here.left k) (eq-eqb _ _ a) (lt-ltb _ _ b))

    inner : (most_left t steps c < k) ⊎ ((children_behind t steps c.here.left ≡ children_behind t steps k)
        × ((rank t steps c.here.left c.here.at < rank t steps k z) ⊎ ((rank t steps c.here.left c.here.at ≡ rank t steps k z) × (c.here.left < k)))) →
        (nat_lt (most_left t steps c) k || ((children_behind t steps c.here.left == children_behind t steps k)
        && (nat_lt (rank t steps c.here.left c.here.at) (rank t steps k z) || ((rank t steps c.here.left c.here.at == rank t steps k z) && nat_lt c.here.left k)))) ≡ true
    inner (inl a) = or_left (nat_lt (most_left t steps c) k) _ (lt-ltb _ _ a)
    inner (inr (a, b)) =
        or_right (nat_lt (most_left t steps c) k) _
        (and_from (children_behind t steps c.here.left == children_behind t steps k) _ (eq-eqb _ _ a) (last b))

past_is : (t : Tree) (steps : List Step) (c : Climb) (k z : ℕ) → is_past t steps c k z ≡ true → IsPast t steps c k z
past_is t steps c k z h =
    elim (or_cases (nat_lt (level t steps c.here.left c.here.at) (level t steps k z)) _ h) [
      | inl a ↦ inl (ltb-true _ _ a)
      | inr a ↦
          let p = and_parts (level t steps c.here.left c.here.at == level t steps k z) _ a in
          inr (
            eqb-true _ _ p.0,
            elim (or_cases (nat_lt (most_left t steps c) k) _ p.1) [
              | inl b ↦ inl (ltb-true _ _ b)
              | inr b ↦
                  let q = and_parts (children_behind t steps c.here.left == children_behind t steps k) _ b in
                  inr (
                    eqb-true _ _ q.0,
                    elim (or_cases (nat_lt (rank t steps c.here.left c.here.at) (rank t steps k z)) _ q.1) [
                      | inl d ↦ inl (ltb-true _ _ d)
                      | inr d ↦ let r = and_parts (rank t steps c.here.left c.here.at == rank t steps k z) (nat_lt c.here.left k) d in inr (eqb-true _ _ r.0, ltb-true _ _ r.1)
                    ],
                  )
            ],
          )
    ]

-- ---- one turn

module _ (t : Tree) (path : Bytes) (steps : List Step) where
  abbrev Before : Climb → ℕ → ℕ → Bool
  Before = is_past t steps

  further_less : (c d : Climb) → IsFurther t steps c d → unasked t steps d ≤ unasked t steps c
  further_less c d f = still_le (Before c) (Before d) (all t) (λ k z h. past_yes t steps d k z (f.stays k z (past_is t steps c k z h))) steps 0

  at_most : (d : Climb) (n : ℕ) → (0 < d.here.left → unasked t steps d ≤ n) → unasked_at t steps d ≤ n
  at_most d n h = by_left (d.here.left == 0) refl
    where
      zero_or : (a : ℕ) → (a ≡ 0) ⊎ (0 < a)
      zero_or zero = inl refl
      zero_or (suc a) = inr (omega arith)

      by_left : (b : Bool) → (d.here.left == 0) ≡ b → cond b 0 (unasked t steps d) ≤ n
      by_left true e = omega arith
      by_left false e = h (elim (zero_or d.here.left) [ inl z ↦ absurd (both_ways (d.here.left == 0) e (eq-eqb _ _ z)) | inr m ↦ m ])

  -- the search goes on
  pub goes_less : (c : Climb) (o : Option Climb) → GoesFurther t steps c o → unasked_in t steps o ≤ unasked t steps c
  goes_less c None f = omega arith
  goes_less c (Some d) f = at_most d (unasked t steps c) (λ some. further_less c d (f some))

  pub at_most_now : (c : Climb) → unasked_at t steps c ≤ unasked t steps c
  at_most_now c = at_most c (unasked t steps c) (λ some. omega arith)

  -- the run of tests from k on was asked where the search stands
  pub run_less : (c : Climb) → StandsAt t path steps c → (k : ℕ) → k < c.here.left → IsFurther t steps c (at_next c.sibling c.ancestor k c.here.at) →
      (run : List Step) → drop k steps ≡ run ++ drop c.here.left steps → length run + k ≡ c.here.left →
      children_behind t steps k ≡ children_behind t steps c.here.left → nexts_behind t steps k ≡ nexts_behind t steps c.here.left →
      unasked t steps (at_next c.sibling c.ancestor k c.here.at) + many_asked run ≤ unasked t steps c
  run_less c st k less far run cut long kids nexts =
      let d : Climb = at_next c.sibling c.ancestor k c.here.at in
      let on : (j z : ℕ) → Before c j z ≡ true → Before d j z ≡ true = λ j z h. past_yes t steps d j z (far.stays j z (past_is t steps c j z h)) in
      let front : length (take k steps) ≡ k = length-take-le k steps (omega (arith, less, st.few, st.fewer)) in
      let split : steps ≡ take k steps ++ (run ++ drop c.here.left steps) = sym (take-append-drop k steps) ∙ ap (λ (r : List Step). take k steps ++ r) cut in
      let whole : (past : ℕ → ℕ → Bool) → still past (all t) steps 0
      ≡ still past (all t) (take k steps) 0 + (still past (all t) run k + still past (all t) (drop c.here.left steps) (length run + k)) =
      λ past. ap (λ (l : List Step). still past (all t) l 0) split ∙ still_append past (all t) (take k steps) (run ++ drop c.here.left steps) 0
      ∙ ap (λ n. still past (all t) (take k steps) 0 + still past (all t) (run ++ drop c.here.left steps) n) (omega (arith, front))
      ∙ ap (λ n. still past (all t) (take k steps) 0 + n) (still_append past (all t) run (drop c.here.left steps) k) in
      omega (
        arith,
        whole (Before c),
        whole (Before d),
        still_le (Before c) (Before d) (all t) on (take k steps) 0,
        still_run (Before c) (Before d) (all t) on run k c.here.at st.element now,
        still_le (Before c) (Before d) (all t) on (drop c.here.left steps) (length run + k),
      )
    where
      few : (o : Option Point) → c.here.left ≤ left_at_sibling t path steps o c.here.left → c.here.left ≤ left_at_sibling_of o c.here.left
      few None h = omega arith
      few (Some q) h = h

      same_kids : (j : ℕ) → k < j → j ≤ length run + k → children_behind t steps c.here.left ≡ children_behind t steps j
      same_kids j a b = omega (arith, kids, many_less to_child steps k j (omega (arith, a)), many_less to_child steps j c.here.left (omega (arith, b, long)))

      same_nexts : (j : ℕ) → k < j → j ≤ length run + k → nexts_behind t steps c.here.left ≡ nexts_behind t steps j
      same_nexts j a b = omega (arith, nexts, many_less to_next steps k j (omega (arith, a)), many_less to_next steps j c.here.left (omega (arith, b, long)))

      not_yet : (j : ℕ) → k < j → j ≤ length run + k → IsPast t steps c j c.here.at → ⊥
      not_yet j a b (inl h) = omega (arith, h, same_kids j a b)
      not_yet j a b (inr (e, inl h)) = omega (arith, h, b, long, few c.sibling st.few)
      not_yet j a b (inr (e, inr (f, inl h))) = omega (arith, h, same_nexts j a b)
      not_yet j a b (inr (e, inr (f, inr (g, h)))) = omega (arith, h, b, long)

      now : (j : ℕ) → k < j → j ≤ length run + k → (Before c j c.here.at ≡ false) × (Before (at_next c.sibling c.ancestor k c.here.at) j c.here.at ≡ true)
      now j a b = (
        false_from_ne_true (Before c j c.here.at) (λ h. not_yet j a b (past_is t steps c j c.here.at h)),
        past_yes t steps (at_next c.sibling c.ancestor k c.here.at) j c.here.at
            (inr (omega (arith, kids, same_kids j a b), inr (kids ∙ same_kids j a b, inr (omega (arith, nexts, same_nexts j a b), a)))),
      )

-- ---- one turn at a run of tests, the last of the steps left

module _ (t : Tree) (tree : IsTree t) (path : Bytes) (steps : List Step) (c : Climb) (st : StandsAt t path steps c) (flat : IsLevelAt t steps c)
    (some : 0 < c.here.left) (last : Step) (is : last ≡ get_or steps (c.here.left - 1) last) where
  module _ (q : Test) (keep : last ≡ step.Keep q) (k : ℕ) (short : k ≤ length (take (c.here.left - 1) steps)) (before : list_all is_keep (drop k (take (c.here.left - 1) steps)) ≡ true) where
    abbrev tests : List Step
    tests = take (c.here.left - k) (drop k steps)

    abbrev dropped : Climb
    dropped = at_next c.sibling c.ancestor k c.here.at

    within : k ≤ c.here.left - 1
    within = omega (arith, short, length-take (c.here.left - 1) steps)

    few : c.here.left ≤ length steps
    few = omega (arith, st.few, st.fewer)

    far : IsFurther t steps c dropped
    far = run_far t tree path steps c st flat some last is q keep k within before

    long : length tests + k ≡ c.here.left
    long = omega (arith, length-take (c.here.left - k) (drop k steps), length-drop k steps, within, few, some)

    tests_asked : unasked t steps dropped + many_asked tests ≤ unasked t steps c
    tests_asked =
        run_less t path steps c st k (omega (arith, within, some)) far tests (run_drop steps k c.here.left within some few) long
        (run_stays steps k c.here.left within some few last is q keep before to_child (λ p. refl))
        (run_stays steps k c.here.left within some few last is q keep before to_next (λ p. refl))

    pub descend_asked : unasked_at t steps dropped + many_asked tests ≤ unasked t steps c
    descend_asked = omega (arith, tests_asked, at_most_now t path steps dropped)

    pub retreat_asked : unasked_in t steps (retreated t c) + many_asked tests ≤ unasked t steps c
    retreat_asked =
        omega (
          arith,
          tests_asked,
          goes_less t path steps dropped (retreated t c)
              (retreat_further t tree path steps dropped (tests_stand t tree path steps c st some last is q keep k short before) far.level),
        )

  pub move_asked : (place : Place) → last ≡ step.Move place → unasked_in t steps (advanced t place c) ≤ unasked t steps c
  move_asked place e = goes_less t path steps c (advanced t place c) (move_further t tree path steps c st flat some last is place e)

-- nothing was asked yet
pub all_unasked : (t : Tree) (steps : List Step) (c : Climb) → unasked_at t steps c ≤ many_asked steps * length (all t)
all_unasked t steps c = by_left (c.here.left == 0)
  where
    by_left : (b : Bool) → cond b 0 (unasked t steps c) ≤ many_asked steps * length (all t)
    by_left true = omega arith
    by_left false = still_few (is_past t steps c) (all t) steps 0
