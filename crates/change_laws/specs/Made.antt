-- Each edit of a tree that isn't refused is a change of its kind; and which elements go with a node.
use Rattle.std.specs.Prelude.{◌≡◌, ℕ, not, ◌&&◌, List, [], ◌∷◌, Some, None}
use Rattle.page_tree.specs.Forest.{Content, Tree, tops, parent_in}
use Rattle.page_tree.specs.Trees.{IsTree}
use Rattle.page_tree.specs.Standings.{all}
use Rattle.page_tree.specs.Directions.{is_in}
use Rattle.page_tree.specs.Edits.{with_attr_set, with_attr_dropped, with_text, detached, moved}
use Rattle.page_tree.specs.Fragments.{IsFragment, fragment_nodes, with_fragment}
use Rattle.page_tree.specs.Refusals.{attr_refused, text_refused, detach_refused, graft_refused, relink_refused}
use Rattle.selector_meaning.specs.Texts.{Bytes}
use Rattle.sensor_meaning.specs.declared.change.Change.TheVariants.{Attr as AttrOf, Chars, Came, Went, Moved}
use Rattle.sensor_meaning.specs.Changes.{Becomes}
use Rattle.sensor_meaning.specs.Dirty.{is_under}

abbrev pub AttrSetMade : Type 0
AttrSetMade =
    (t : Tree) (path : Bytes) (n : ℕ) (name value : Bytes) → attr_refused n t ≡ None → Becomes (AttrOf n name) t path (with_attr_set n name value t) path

abbrev pub AttrDroppedMade : Type 0
AttrDroppedMade =
    (t : Tree) (path : Bytes) (n : ℕ) (name : Bytes) → attr_refused n t ≡ None → Becomes (AttrOf n name) t path (with_attr_dropped n name t) path

abbrev pub TextSetMade : Type 0
TextSetMade = (t : Tree) (path : Bytes) (n : ℕ) (after : Bytes) → text_refused n t ≡ None → Becomes (Chars n) t path (with_text n after t) path

-- a node goes from its parent
abbrev pub TakenOutMade : Type 0
TakenOutMade =
    (t : Tree) (path : Bytes) (n p : ℕ) → IsTree t → parent_in n 0 t.nodes ≡ Some p → detach_refused n t ≡ None → Becomes (Went p) t path (detached n t) path

-- the tops of a fragment come to their parent
abbrev pub FragmentMade : Type 0
FragmentMade =
    (t : Tree) (path : Bytes) (p place : ℕ) (part : List (ℕ × Content)) → IsTree t → IsFragment part → graft_refused p place part t ≡ None →
    Becomes (Came p (tops (fragment_nodes t.next part))) t path (with_fragment p place part t) path

-- a node goes from its parent to another one, or to another place there
abbrev pub MovedMade : Type 0
MovedMade =
    (t : Tree) (path : Bytes) (n p q place : ℕ) → IsTree t → parent_in n 0 t.nodes ≡ Some p → relink_refused n q place t ≡ None →
    Becomes (Moved n p q) t path (moved n q place t) path

-- with a node go it, where it is an element, and the elements below it
abbrev pub GoesWithNode : Type 0
GoesWithNode =
    (t : Tree) (n p : ℕ) → IsTree t → parent_in n 0 t.nodes ≡ Some p → (x : ℕ) →
    is_in (all (detached n t)) x ≡ (is_in (all t) x && not (is_under (n ∷ []) t x))
