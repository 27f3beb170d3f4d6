-- Each edit of a tree is a change of its kind.
use Rattle.std.specs.Prelude.{◌≡◌, ℕ, ◌<◌, true, ◌⊎◌, List}
use Rattle.page_tree.specs.Forest.{element, text, Tree, count, tops}
use Rattle.page_tree.specs.Edits.{without, detached, moved, with_text, content_at, with_attr_set, with_attr_dropped}
use Rattle.page_tree.specs.Fragments.{fragment_nodes, with_fragment}
use Rattle.page_tree.specs.Forest.{Content}
use Rattle.page_tree.specs.Directions.{is_in}
use Rattle.selector_meaning.specs.Texts.{Bytes}
use Rattle.sensor_meaning.specs.declared.change.Change.TheVariants.{Attr as AttrOf, Chars, Came, Went, Moved, Path as PathOf}
use Rattle.sensor_meaning.specs.Changes.{Becomes, IsChild, IsWellFormed}

-- an attribute of an element that is set
abbrev pub AttrSet : Type 0
AttrSet =
    (t : Tree) (path : Bytes) (n : ℕ) (name value called : Bytes) (given : List (Bytes × Bytes)) → content_at n t ≡ element called given →
    Becomes (AttrOf n name) t path (with_attr_set n name value t) path

-- an attribute of an element that is dropped, there or not
abbrev pub AttrDropped : Type 0
AttrDropped =
    (t : Tree) (path : Bytes) (n : ℕ) (name called : Bytes) (given : List (Bytes × Bytes)) → content_at n t ≡ element called given →
    Becomes (AttrOf n name) t path (with_attr_dropped n name t) path

-- a text that is set
abbrev pub TextSet : Type 0
TextSet = (t : Tree) (path : Bytes) (n : ℕ) (before after : Bytes) → content_at n t ≡ text before → Becomes (Chars n) t path (with_text n after t) path

-- a child of p that is taken out, with what is below it
abbrev pub TakenOut : Type 0
TakenOut = (t : Tree) (path : Bytes) (n p : ℕ) → IsWellFormed t → IsChild n p t → Becomes (Went p) t path (detached n t) path

-- a fragment that is put in at a place among the children of p, with its tops
abbrev pub FragmentCame : Type 0
FragmentCame =
    (p place : ℕ) (part : List (ℕ × Content)) (t : Tree) (path : Bytes) → IsWellFormed t → IsWellFormed (with_fragment p place part t) →
    (p ≡ 0) ⊎ (0 < count p t.nodes) → ((x : ℕ) → is_in (tops (fragment_nodes t.next part)) x ≡ true → count x t.nodes ≡ 0) →
    Becomes (Came p (tops (fragment_nodes t.next part))) t path (with_fragment p place part t) path

-- a child of p that is put at a place among the children of q, with what is below it
abbrev pub NodeMoved : Type 0
NodeMoved =
    (n p q place : ℕ) (t : Tree) (path : Bytes) → IsWellFormed t → IsWellFormed (moved n q place t) → IsChild n p t →
    (q ≡ 0) ⊎ (0 < count q (without n t.nodes)) → Becomes (Moved n p q) t path (moved n q place t) path

-- another path
abbrev pub PathSet : Type 0
PathSet = (t : Tree) (path route : Bytes) → Becomes PathOf t path t route
