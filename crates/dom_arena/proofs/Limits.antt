-- The limits that the nodes of a fragment keep, one after the other.
use Rattle.std.proofs.Common.{◌≡◌, ℕ, suc, ◌+◌, ◌-◌, ◌<◌, ◌≤◌, List, [], ◌∷◌, Option, Some, None, refl, sym, ◌∙◌, ap, subst, arith}
use Rattle.std.proofs.lemmas.Bool.{le-ltb, lt-ltb, lt-leb, le-leb}
use Rattle.std.specs.Prelude.{option_map}
use Rattle.std.specs.Option.{option_or}
use Rattle.page_tree.specs.Forest.{Content, Tree, rooted, size, depth_in}
use Rattle.page_tree.specs.Fragments.{Limit, limit_passed}
use Rattle.page_tree.specs.Refusals.{Refusal, past_limit, place_refused, limits_refused, graft_refused}
use Rattle.page_tree.proofs.Fragments.{limits_step, limits_kept}
use Rattle.dom_arena.specs.declared.refusals.DomError.TheVariants.{TooDeep, TooManyNodes}
use Rattle.dom_arena.specs.Refusals.{error_of}

-- the refusal goes on with the others
pub part_step : (o : Option ℕ) (depth live : ℕ) (x : ℕ × Content) (part : List (ℕ × Content)) → o ≡ Some depth → x.0 < 512 - depth → live < 1000000
    → limits_refused o live (x ∷ part) ≡ limits_refused o (suc live) part
part_step o depth live x part e room few = rw e (rw (limits_step depth live x part (omega arith) few) refl)

-- where nothing is refused no limit is passed
pub none_passed : (depth live : ℕ) (part : List (ℕ × Content)) → limits_refused (Some depth) live part ≡ None → limit_passed depth live part ≡ None
none_passed depth live part h = by_case (limit_passed depth live part) refl
  where
    by_case : (o : Option Limit) → limit_passed depth live part ≡ o → o ≡ None
    by_case None e = refl
    by_case (Some limit) e = let bad : option_map past_limit (Some limit) ≡ None = ap (option_map past_limit) (sym e) ∙ h in cc

-- ---- one node more

module _ (o : Option ℕ) (depth nodes : ℕ) (e : o ≡ Some depth) (c : Content) where
  -- too deep
  pub one_too_deep : 512 ≤ depth → option_map error_of (limits_refused o nodes ((0, c) ∷ [])) ≡ Some TooDeep
  one_too_deep h = rw e (rw (lt-ltb 512 (depth + 1) (omega arith)) refl)

  -- one too many
  pub one_too_many : depth < 512 → 1000000 ≤ nodes → option_map error_of (limits_refused o nodes ((0, c) ∷ [])) ≡ Some TooManyNodes
  one_too_many deep h = rw e (rw (le-ltb 512 (depth + 1) (omega arith), le-leb 1000000 nodes h) refl)

  -- or neither
  pub one_allowed : depth < 512 → nodes < 1000000 → limits_refused o nodes ((0, c) ∷ []) ≡ None
  one_allowed deep few = rw e (rw (le-ltb 512 (depth + 1) (omega arith), lt-leb 1000000 nodes few) refl)

-- what is allowed then
pub limits_allow : (depth nodes : ℕ) (c : Content) → limits_refused (Some depth) nodes ((0, c) ∷ []) ≡ None → (depth < 512) × (nodes < 1000000)
limits_allow depth nodes c h =
    let kept = limits_kept depth nodes (0, c) [] (none_passed depth nodes ((0, c) ∷ []) h) in
    (omega (arith, kept.0), kept.1)

-- where the place of a node is there, the limits alone decide, also by what a tree is seen as
pub limits_decide : (u t : Tree) → u ≡ t → (p : ℕ) (place : Tree → ℕ) (depth nodes : ℕ) (c : Content) → place_refused p (place u) u ≡ None → depth_in p 0 (rooted u.nodes) ≡ Some depth
    → nodes ≡ size u.nodes → graft_refused p (place t) ((0, c) ∷ []) t ≡ limits_refused (Some depth) nodes ((0, c) ∷ [])
limits_decide u t view p place depth nodes c there deep counted =
    let part : List (ℕ × Content) = (0, c) ∷ [] in
    subst (λ (v : Tree). graft_refused p (place v) part v ≡ limits_refused (Some depth) nodes part) view
    (ap (λ (o : Option Refusal). option_or o (limits_refused (depth_in p 0 (rooted u.nodes)) (size u.nodes) part)) there
    ∙ ap (λ (o : Option ℕ). limits_refused o (size u.nodes) part) deep ∙ ap (λ (n : ℕ). limits_refused (Some depth) n part) (sym counted))
