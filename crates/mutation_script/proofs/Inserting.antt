-- An insert below a number that no node has.
use Rattle.std.proofs.Common.{◌≡◌, ℕ, suc, ◌==◌, cond, Bool, true, false, List, Option, Some, None, Result, Ok, Err, refl, ap, sym, ◌∙◌, subst, arith}
use Rattle.std.specs.Prelude.{MatchOption, IsOkUnless, IfOk, OnOk}
use Rattle.std.specs.Option.{option_or}
use Rattle.std.specs.Result.{result_unwrap_or}
use Rattle.std.specs.declared.alloc.AllocError.{AllocError}
use Rattle.page_tree.specs.Forest.{Content, Forest, empty, node, Tree, rooted, find, or_else, or_some, depth_in, size}
use Rattle.page_tree.specs.Edits.{children_of}
use Rattle.page_tree.specs.Refusals.{Refusal, NoSuchNode, place_refused, parent_among, place_past, limits_refused, graft_refused}
use Rattle.dom_arena.specs.Refusals.{error_of}
use Rattle.dom_arena.specs.declared.refusals.DomError.{DomError}
use Rattle.dom_arena.specs.declared.refusals.DomError.TheVariants as errors
use Rattle.mutation_script.specs.declared.answer.Outcome.{Outcome}
use Rattle.mutation_script.specs.declared.page.PageState.{PageState}
use Rattle.mutation_script.specs.Changes.{unless_refused, outcome_of}
use Rattle.mutation_script.specs.Told.{refused}
use Rattle.mutation_script.proofs.Told.{told_outcome, told_page}

-- ---- a node that has no depth isn't there

no_node_or : (f g : Forest) → f ≡ empty → g ≡ empty → or_else f g ≡ empty
no_node_or f g e h = ap (λ (x : Forest). or_else x g) e ∙ h

none_first : (a b : Option ℕ) → or_some a b ≡ None → a ≡ None
none_first None b e = refl
none_first (Some d) b e = e

none_second : (a b : Option ℕ) → or_some a b ≡ None → b ≡ None
none_second None b e = e
none_second (Some d) b e = absurd (grind arith)

no_depth_by : (b : Bool) (d : ℕ) (deeper later : Option ℕ) (here inner others : Forest) → cond b (Some d) (or_some deeper later) ≡ None
    → (deeper ≡ None → inner ≡ empty) → (later ≡ None → others ≡ empty) → cond b here (or_else inner others) ≡ empty
no_depth_by true d deeper later here inner others e h k = absurd (grind arith)
no_depth_by false d deeper later here inner others e h k = no_node_or inner others (h (none_first deeper later e)) (k (none_second deeper later e))

no_depth : (p d : ℕ) (f : Forest) → depth_in p d f ≡ None → find p f ≡ empty
no_depth p d empty e = refl
no_depth p d (node n c kids later) e =
    no_depth_by (p == n) d (depth_in p (suc d) kids) (depth_in p d later) (node n c kids later) (find p kids) (find p later) e (no_depth p (suc d) kids) (no_depth p d later)

-- so an insert below it is refused
no_parent : (parent place : ℕ) (part : List (ℕ × Content)) (t : Tree) → None ≡ depth_in parent 0 (rooted t.nodes)
    → graft_refused parent place part t ≡ Some (NoSuchNode parent)
no_parent parent place part t e =
    ap (λ (f : Forest). option_or (option_or (parent_among parent f) (place_past place (children_of parent t))) (limits_refused (depth_in parent 0 (rooted t.nodes)) (size t.nodes) part))
    (no_depth parent 0 (rooted t.nodes) (sym e))

pub parent_missing : (page : PageState) (parent place : ℕ) (part : List (ℕ × Content)) (t : Tree) (result : Result Outcome AllocError)
    → None ≡ depth_in parent 0 (rooted page.tree.nodes) → result ≡ refused (errors.NoSuchNode parent)
    → IfOk result (λ outcome. outcome ≡ outcome_of (unless_refused (graft_refused parent place part page.tree) t page))
    × OnOk result (page ≡ result_unwrap_or (unless_refused (graft_refused parent place part page.tree) t page) page)
parent_missing page parent place part t result e is =
    let refusal = graft_refused parent place part page.tree in
    let done : Result (Unit {0}) DomError = Err (errors.NoSuchNode parent) in
    let answered : MatchOption refusal (IsOkUnless done errors.NoMemory) (λ r. done ≡ Err (error_of r)) =
    subst (λ (o : Option Refusal). MatchOption o (IsOkUnless done errors.NoMemory) (λ r. done ≡ Err (error_of r))) (sym (no_parent parent place part page.tree e)) refl
    in
    (told_outcome page t page.tree refusal done result answered is, told_page page t page.tree refusal done result answered tt refl is)
