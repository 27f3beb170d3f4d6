-- Which refusal the move of a node gives.
use Rattle.std.proofs.Common.{◌≡◌, ℕ, ◌+◌, ◌<◌, ◌≤◌, List, Option, Some, None, length, refl, ap}
use Rattle.std.specs.Prelude.{option_map}
use Rattle.std.specs.Option.{option_or}
use Rattle.std.proofs.lemmas.Bool.{eq-eqb, lt-ltb, le-ltb}
use Rattle.page_tree.specs.Forest.{Forest, Tree, rooted, count, height, tops, depth_in}
use Rattle.page_tree.specs.Edits.{subtree, without, detached, children_of}
use Rattle.page_tree.specs.Refusals.{Refusal, into_itself, place_past, parent_refused, detach_refused, too_deep, relink_refused}
use Rattle.dom_arena.specs.declared.refusals.DomError.{DomError}
use Rattle.dom_arena.specs.declared.refusals.DomError.TheVariants.{BadPlace, TooDeep}
use Rattle.dom_arena.specs.declared.table.Slot.{Slot}
use Rattle.dom_arena.specs.Slots.{IsUsed}
use Rattle.dom_arena.specs.Linked.{Stands, tree_of, kids_of}
use Rattle.dom_arena.specs.Refusals.{error_of}
use Rattle.dom_arena.proofs.Moved.{others_same}
use Rattle.dom_arena.proofs.Refused.{first_refused, then_refused, not_refused, place_missing, place_there}

module _ (t : Tree) (n p i : ℕ) where
  -- the causes behind the first, the second, the third and the fourth
  abbrev behind_place : Option Refusal
  behind_place = too_deep (depth_in p 0 (rooted t.nodes)) (height (subtree n t.nodes))

  abbrev behind_itself : Option Refusal
  behind_itself = option_or (place_past i (children_of p (detached n t))) behind_place

  abbrev behind_parent : Option Refusal
  behind_parent = option_or (into_itself n p t) behind_itself

  abbrev behind_node : Option Refusal
  behind_node = option_or (parent_refused p t) behind_parent

  module _ (node : detach_refused n t ≡ None) (parent : parent_refused p t ≡ None) (apart : count p (subtree n t.nodes) ≡ 0) where
    beside_itself : into_itself n p t ≡ None
    beside_itself = rw (eq-eqb (count p (subtree n t.nodes)) 0 apart) refl

    behind_three : (e : DomError) → option_map error_of behind_itself ≡ Some e → option_map error_of (relink_refused n p i t) ≡ Some e
    behind_three e h =
        then_refused (detach_refused n t) behind_node e node (then_refused (parent_refused p t) behind_parent e parent (then_refused (into_itself n p t) behind_itself e beside_itself h))

    -- past the other children
    pub bad_place : children_of p (detached n t) < i → option_map error_of (relink_refused n p i t) ≡ Some (BadPlace i)
    bad_place lt =
        behind_three (BadPlace i)
        (first_refused (place_past i (children_of p (detached n t))) behind_place (BadPlace i) (ap (option_map error_of) (place_missing i (children_of p (detached n t)) lt)))

    module _ (le : i ≤ children_of p (detached n t)) where
      -- too deep
      pub deep_place : (e : DomError) → option_map error_of behind_place ≡ Some e → option_map error_of (relink_refused n p i t) ≡ Some e
      deep_place e h =
          behind_three e (then_refused (place_past i (children_of p (detached n t))) behind_place e (place_there i (children_of p (detached n t)) le) h)

      -- or nothing of this
      pub good_place : behind_place ≡ None → relink_refused n p i t ≡ None
      good_place h =
          not_refused (detach_refused n t) behind_node node
          (not_refused (parent_refused p t) behind_parent parent
          (not_refused (into_itself n p t) behind_itself beside_itself
          (not_refused (place_past i (children_of p (detached n t))) behind_place (place_there i (children_of p (detached n t)) le) h)))

-- how deep a part would stand
pub part_too_deep : (o : Option ℕ) (depth high : ℕ) → o ≡ Some depth → 512 < depth + high → option_map error_of (too_deep o high) ≡ Some TooDeep
part_too_deep o depth high e h = rw e (rw (lt-ltb 512 (depth + high) h) refl)

pub part_fits : (o : Option ℕ) (depth high : ℕ) → o ≡ Some depth → depth + high ≤ 512 → too_deep o high ≡ None
part_fits o depth high e h = rw e (rw (le-ltb 512 (depth + high) h) refl)

-- the other children, in the tree without the node
pub children_of-detached : (slots : List Slot) (stands : Stands slots (tree_of slots).nodes) (n : ℕ) (used : IsUsed slots n) (nz : n ≡ 0 → ⊥) (p : ℕ) → IsUsed slots p → count p (subtree n (tree_of slots).nodes) ≡ 0
    → children_of p (detached n (tree_of slots)) ≡ length (tops (without n (kids_of p (tree_of slots))))
children_of-detached slots stands n used nz p used_p apart = ap (λ (g : Forest). length (tops g)) (others_same slots (tree_of slots).nodes stands n used nz p used_p apart)
