-- The pairs that are asked again are those that are given.
use Rattle.std.proofs.Common.{◌≡◌, ℕ, ◌+◌, false, ◌&&◌, List, [], ◌∷◌, length, cond, refl, sym, ap, ap₂, ◌∙◌, inl, inr}
use Rattle.std.specs.List.{count_by, range_with_len}
use Rattle.std.proofs.Math.Bool as bool
use Rattle.std.proofs.lemmas.Bool.{cases_lt}
use Rattle.std.proofs.lemmas.List.Sums.{sum_by-cons}
use Rattle.page_tree.specs.Standings.{all}
use Rattle.generic_tables.specs.Keys.{is_keyed}
use Rattle.selector_tree.specs.declared.selector.Step.{Step}
use Rattle.procedural_ops.specs.Told.{selector_at}
use Rattle.mutation_script.specs.declared.page.PageState.{PageState}
use Rattle.retest.specs.Noted.{Noted}
use Rattle.retest_laws.specs.Pending.{Pairs, due_at, budget}
use Rattle.hide_engine.specs.declared.filter_set.FilterSet.{FilterSet}
use Rattle.hide_engine.specs.Budgets.{carried, budget_of}
use Rattle.hide_engine.specs.Ready.{state_of, pended, IsGiven}
use Rattle.hide_engine.proofs.Following.{past}

-- ---- a budget hangs on the pairs with a key alone
module _ (n : ℕ) (carries bears pending others : Pairs) (same : (f x : ℕ) → (pending f x && carries f x) ≡ (others f x && bears f x)) where
  same_due : (x : ℕ) → due_at n carries pending x ≡ due_at n bears others x
  same_due x = counts (range_with_len 0 n)
    where
      counts : (fs : List ℕ) → count_by (λ f. pending f x && carries f x) fs ≡ count_by (λ f. others f x && bears f x) fs
      counts [] = refl
      counts (f ∷ fs) =
          sum_by-cons (λ f. cond (pending f x && carries f x) 1 0) f fs
          ∙ ap₂ (λ b k. cond {A = ℕ} b 1 0 + k) (same f x) (counts fs)
          ∙ sym (sum_by-cons (λ f. cond (others f x && bears f x) 1 0) f fs)

  pub same_budget : (elements : List ℕ) → budget n elements carries pending ≡ budget n elements bears others
  same_budget [] = refl
  same_budget (x ∷ xs) =
      sum_by-cons (due_at n carries pending) x xs ∙ ap₂ (λ a b. a + b) (same_due x) (same_budget xs)
      ∙ sym (sum_by-cons (due_at n bears others) x xs)

given_budget : (page : PageState) (filters : FilterSet) (pending : Noted) (given : Pairs) → IsGiven filters pending given →
    budget_of (state_of page filters) (pended filters pending) ≡ budget_of (state_of page filters) given
given_budget page filters pending given h =
    same_budget (length filters.active) (carried (state_of page filters)) (carried (state_of page filters)) (pended filters pending) given same (all page.tree)
  where
    no_key : (f x : ℕ) → selector_at filters.active f ≡ [] → carried (state_of page filters) f x ≡ false
    no_key f x e = ap (λ (l : List (List Step)). is_keyed page.tree l x) e

    same : (f x : ℕ) → (pended filters pending f x && carried (state_of page filters) f x) ≡ (given f x && carried (state_of page filters) f x)
    same f x = elim (cases_lt f (length filters.active)) [
      | inl lt ↦ ap (λ b. b && carried (state_of page filters) f x) (h f x lt)
      | inr le ↦
          let none = no_key f x (past filters.active f le) in
          ap (λ b. pended filters pending f x && b) none ∙ bool.and-false (pended filters pending f x)
          ∙ sym (ap (λ b. given f x && b) none ∙ bool.and-false (given f x))
    ]

-- the pairs that are given, on the page behind an event
pub event_asks : (new behind : PageState) (filters : FilterSet) (pending : Noted) (given : Pairs) → new ≡ behind → IsGiven filters pending given →
    budget_of (state_of new filters) (pended filters pending) ≡ budget_of (state_of behind filters) given
event_asks new behind filters pending given at h =
    given_budget new filters pending given h ∙ ap (λ (p : PageState). budget_of (state_of p filters) given) at
