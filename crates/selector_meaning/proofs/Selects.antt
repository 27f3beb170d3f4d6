-- What the shortest selectors select.
use Rattle.std.proofs.Common.{◌≡◌, ℕ, Bool, ◌&&◌, ◌||◌, List, [], ◌∷◌, map, sym, ap, ◌∙◌}
use Rattle.std.specs.List.{list_any}
use Rattle.std.specs.Str.{bytes_eq}
use Rattle.std.proofs.Math.Bool.{or-false}
use Rattle.selector_tree.specs.declared.selector.Step.{Step}
use Rattle.selector_tree.specs.declared.selector.Step.TheVariants.{Keep}
use Rattle.selector_tree.specs.declared.selector.Test.{Test}
use Rattle.selector_tree.specs.declared.selector.Test.TheVariants.{Id, Class}
use Rattle.page_tree.specs.Forest.{Tree}
use Rattle.page_tree.specs.Standings.{all}
use Rattle.page_tree.specs.Facts.{id, class_list}
use Rattle.page_tree.specs.Directions.{is_in}
use Rattle.page_tree.proofs.Members.{is_in-filter}
use Rattle.selector_meaning.specs.Texts.{Bytes, some_fits}
use Rattle.selector_meaning.specs.Meaning.{run, step_of, holds, selects}
use Rattle.selector_meaning.proofs.Laws.{step_of-Keep, holds-Id, holds-Class}

module _ (found : Bytes → ℕ → Bytes → Bool) (t : Tree) (path : Bytes) where
  -- one chain of one test selects the elements for which the test holds
  pub selects-Keep : (q : Test) (x : ℕ) → selects found t path ((Keep q ∷ []) ∷ []) x ≡ (is_in (all t) x && holds found t path q x)
  selects-Keep q x = rw (step_of-Keep, or-false) (is_in-filter (holds found t path q) (all t) x)

  -- `.v`
  pub selects-Class : (v : Bytes) (x : ℕ) → selects found t path ((Keep (Class v) ∷ []) ∷ []) x ≡ (is_in (all t) x && list_any (bytes_eq v) (class_list t x))
  selects-Class v x = selects-Keep (Class v) x ∙ rw holds-Class

  -- `#v`
  pub selects-Id : (v : Bytes) (x : ℕ) → selects found t path ((Keep (Id v) ∷ []) ∷ []) x ≡ (is_in (all t) x && some_fits (id t x) (bytes_eq v))
  selects-Id v x = selects-Keep (Id v) x ∙ rw holds-Id

  -- a list selects what its first chain or one of the others selects
  pub selects-cons : (chain : List Step) (more : List (List Step)) (x : ℕ) →
      selects found t path (chain ∷ more) x ≡ (selects found t path (chain ∷ []) x || selects found t path more x)
  selects-cons chain more x =
      ap (λ b. b || selects found t path more x) (sym (or-false (is_in (run (map (step_of found t path) chain) (all t)) x)))
