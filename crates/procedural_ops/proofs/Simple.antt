-- How much a run of tests asks, and chains without selectors in their tests.
use Rattle.std.proofs.Common.{◌≡◌, ℕ, zero, suc, ◌+◌, ◌*◌, ◌<◌, ◌≤◌, Bool, true, ◌&&◌, ◌||◌, not, cond, List, [], ◌∷◌, take, drop, length, get_or, Some, None, refl, sym, ap, ◌∙◌, arith}
use Rattle.std.proofs.lemmas.Bool.{and_parts}
use Rattle.std.proofs.lemmas.List.{take-append-drop}
use Rattle.std.specs.List.{list_all}
use Rattle.selector_tree.specs.declared.selector.Arg.TheVariants.{Literal, Pattern}
use Rattle.selector_tree.specs.declared.selector.Step.{Step, out-Step}
use Rattle.selector_tree.specs.declared.selector.Step.TheOpen.{Step-F, Test-F}
use Rattle.selector_tree.specs.declared.selector.Test.{Test, out-Test}
use Rattle.page_tree.specs.Forest.{Tree}
use Rattle.cos_patterns.specs.Found.{pattern_found}
use Rattle.selector_meaning.specs.Texts.{Bytes}
use Rattle.selector_meaning.specs.Meaning.{holds}
use Rattle.selector_match.specs.Kinds.{is_single, is_single_at}
use Rattle.procedural_ops.specs.declared.runs.Cost.{Cost}
use Rattle.procedural_ops.specs.declared.runs.Cost.TheVariants.{Names, Places, Texts, Patterns}
use Rattle.procedural_ops.specs.Runs.{cost_at, is_cost, keeps, single_keeps}
use Rattle.procedural_ops.specs.Count.{asks_at, many_asked, costs, costs_at, many_costing, is_plain_step}
use Rattle.procedural_ops.proofs.Weights.{all-append}

-- ---- each test without selectors costs one of the four

one_cost : (o : Test-F Step Test) → cond (is_cost (cost_at o) Names) 1 0 + cond (is_cost (cost_at o) Places) 1 0 + cond (is_cost (cost_at o) Texts) 1 0 + cond (is_cost (cost_at o) Patterns) 1 0
    ≡ cond (is_single_at o) 1 0
one_cost Test-F.Any = refl
one_cost (Test-F.Tag n) = refl
one_cost (Test-F.Id v) = refl
one_cost (Test-F.Class v) = refl
one_cost (Test-F.Attr key op v i) = refl
one_cost Test-F.Root = refl
one_cost Test-F.Empty = refl
one_cost (Test-F.Nth m n e o) = refl
one_cost (Test-F.Only o) = refl
one_cost (Test-F.Is l) = refl
one_cost (Test-F.Not l) = refl
one_cost (Test-F.Has l) = refl
one_cost (Test-F.HasText (Literal v)) = refl
one_cost (Test-F.HasText (Pattern body flags number)) = refl
one_cost (Test-F.MinText n) = refl
one_cost (Test-F.MatchesPath (Literal v)) = refl
one_cost (Test-F.MatchesPath (Pattern body flags number)) = refl
one_cost (Test-F.MatchesAttr (Literal v) None) = refl
one_cost (Test-F.MatchesAttr (Literal v) (Some (Literal w))) = refl
one_cost (Test-F.MatchesAttr (Literal v) (Some (Pattern body flags number))) = refl
one_cost (Test-F.MatchesAttr (Pattern body flags number) value) = refl
one_cost (Test-F.WatchAttr names) = refl

abbrev one_of : Bool → ℕ
one_of b = cond b 1 0

step_cost : (o : Step-F Step Test) → one_of (costs_at Names o) + one_of (costs_at Places o) + one_of (costs_at Texts o) + one_of (costs_at Patterns o) ≡ one_of (asks_at o)
step_cost (Step-F.Keep q) = one_cost (out-Test q)
step_cost (Step-F.Move place) = refl
step_cost (Step-F.Upward n) = refl
step_cost (Step-F.UpwardTo l) = refl
step_cost Step-F.Others = refl

pub all_costs_asked : (run : List Step) → many_costing Names run + many_costing Places run + many_costing Texts run + many_costing Patterns run ≡ many_asked run
all_costs_asked [] = refl
all_costs_asked (s ∷ run) = omega (arith, step_cost (out-Step s), all_costs_asked run)

pub costing_more : (cost : Cost) (run : List Step) (i : ℕ) (s : Step) → i < length run → s ≡ get_or run i s →
    many_costing cost (take (i + 1) run) ≡ many_costing cost (take i run) + one_of (costs cost s)
costing_more cost [] i s h e = absurd (omega (arith, h))
costing_more cost (r ∷ run) zero s h e = let z : one_of (costs cost s) ≡ one_of (costs cost r) = ap (λ (v : Step). one_of (costs cost v)) e in omega (arith, z)
costing_more cost (r ∷ run) (suc i) s h e =
    let m = costing_more cost run i s (omega (arith, h)) e in
    let n : suc i + 1 ≡ suc (i + 1) = omega arith in
    let f = ap (λ (k : ℕ). many_costing cost (take k (r ∷ run))) n in
    omega (arith, m, f)

pub costing_few : (cost : Cost) (run : List Step) (i : ℕ) → many_costing cost (take i run) ≤ many_costing cost run
costing_few cost [] zero = omega arith
costing_few cost [] (suc i) = omega arith
costing_few cost (r ∷ run) zero = omega arith
costing_few cost (r ∷ run) (suc i) = omega (arith, costing_few cost run i)

-- ---- plain steps

pub plain_slice : (i k : ℕ) (steps : List Step) → list_all is_plain_step steps ≡ true → list_all is_plain_step (take i (drop k steps)) ≡ true
plain_slice i k steps h =
    (and_parts (list_all is_plain_step (take i (drop k steps))) (list_all is_plain_step (drop i (drop k steps)))
    (sym (all-append is_plain_step (take i (drop k steps)) (drop i (drop k steps))) ∙ ap (list_all is_plain_step) (take-append-drop i (drop k steps))
    ∙ (and_parts (list_all is_plain_step (take k steps)) (list_all is_plain_step (drop k steps))
    (sym (all-append is_plain_step (take k steps) (drop k steps)) ∙ ap (list_all is_plain_step) (take-append-drop k steps) ∙ h)).1)).0

module _ (t : Tree) (path : Bytes) (x : ℕ) where
  plain_keep : (o : Step-F Step Test) (s : Step) → out-Step s ≡ o → is_plain_step s ≡ true → single_keeps t path x s ≡ keeps t path x s
  plain_keep (Step-F.Keep q) s e h =
      let single : is_single q ≡ true = rw e at h in
      rw e (ap (λ b. not b || holds pattern_found t path q x) single)
  plain_keep (Step-F.Move place) s e h = rw e refl
  plain_keep (Step-F.Upward n) s e h = rw e refl
  plain_keep (Step-F.UpwardTo l) s e h = rw e refl
  plain_keep Step-F.Others s e h = rw e refl

  pub plain_run : (run : List Step) → list_all is_plain_step run ≡ true → list_all (single_keeps t path x) run ≡ list_all (keeps t path x) run
  plain_run [] h = refl
  plain_run (s ∷ run) h =
      let p = and_parts (is_plain_step s) (list_all is_plain_step run) h in
      ap (λ b. b && list_all (single_keeps t path x) run) (plain_keep (out-Step s) s refl p.0) ∙ ap (λ b. keeps t path x s && b) (plain_run run p.1)

-- ---- sums

-- one chain more asks so much more
pub product_more : (a b c n old now next : ℕ) → now ≤ old + a * n → next ≤ now + b * n → c ≡ a + b → next ≤ old + c * n
product_more a b c n old now next h g e =
    let d : c * n ≡ a * n + b * n = ap (λ k. k * n) e ∙ grind arith in
    omega (arith, h, g, d)

pub product_few : (a b n old now : ℕ) → now ≤ old + a * n → a ≤ b → now ≤ old + b * n
product_few a b n old now h g =
    let d : a * n ≤ b * n = grind (arith, g) in
    omega (arith, h, d)
