-- Each edit of a tree that isn't refused is a change of its kind.
use Rattle.std.proofs.Common.{◌≡◌, ℕ, ◌<◌, List, None, refl, inl, inr, ◌⊎◌, arith}
use Rattle.std.specs.Prelude.{unwrap_or}
use Rattle.std.proofs.lemmas.Bool.{cases_lt}
use Rattle.page_tree.specs.Forest.{document, element, text, comment, Forest, empty, node, Tree, rooted, count, find, content}
use Rattle.page_tree.specs.Trees.{IsTree}
use Rattle.page_tree.specs.Edits.{without, detached}
use Rattle.page_tree.specs.Fragments.{fragment_nodes}
use Rattle.page_tree.specs.Refusals.{element_among, text_among, document_refused, parent_refused, place_refused}
use Rattle.page_tree.proofs.Finding.{same_cases}
use Rattle.page_tree.proofs.Parts.{tops_counted}
use Rattle.page_tree.proofs.Fragments.{count-nodes, IsTree-with_fragment}
use Rattle.page_tree.proofs.Keeps.{no_refusal, parent_there, parent_stays, IsTree-moved}
use Rattle.selector_meaning.specs.Texts.{Bytes}
use Rattle.sensor_meaning.specs.Changes.{IsWellFormed}
use Rattle.sensor_laws.proofs.FromEdits.{attr_set, attr_dropped, text_set, taken_out, fragment_came, node_moved}
use Rattle.change_laws.specs.Made.{AttrSetMade, AttrDroppedMade, TextSetMade, TakenOutMade, FragmentMade, MovedMade}

pub well_formed : (t : Tree) → IsTree t → IsWellFormed t
well_formed t tree = record { once = tree.once; grown = tree.grown; ordinary = tree.ordinary }

-- an element that is found
pub record IsElementFound (f : Forest) : Type 0 where
  pub called : Bytes
  pub given : List (Bytes × Bytes)
  pub is : unwrap_or (content f) document ≡ element called given

element_found : (n : ℕ) (f : Forest) → element_among n f ≡ None → IsElementFound f
element_found n empty h = absurd (let no : element_among n empty ≡ None = h in cc)
element_found n (node m document kids later) h = absurd (let no : element_among n (node m document kids later) ≡ None = h in cc)
element_found n (node m (element called given) kids later) h = record { called = called; given = given; is = refl }
element_found n (node m (text b) kids later) h = absurd (let no : element_among n (node m (text b) kids later) ≡ None = h in cc)
element_found n (node m (comment b) kids later) h = absurd (let no : element_among n (node m (comment b) kids later) ≡ None = h in cc)

-- a text that is found
text_found : (n : ℕ) (f : Forest) → text_among n f ≡ None → (b : Bytes) × (unwrap_or (content f) document ≡ text b)
text_found n empty h = absurd (let no : text_among n empty ≡ None = h in cc)
text_found n (node m document kids later) h = absurd (let no : text_among n (node m document kids later) ≡ None = h in cc)
text_found n (node m (element called given) kids later) h = absurd (let no : text_among n (node m (element called given) kids later) ≡ None = h in cc)
text_found n (node m (text b) kids later) h = (b, refl)
text_found n (node m (comment b) kids later) h = absurd (let no : text_among n (node m (comment b) kids later) ≡ None = h in cc)

pub attr_set_made : AttrSetMade
attr_set_made t path n name value h =
    let r = element_found n (find n (rooted t.nodes)) (no_refusal (document_refused n) (element_among n (find n (rooted t.nodes))) h).1 in
    attr_set t path n name value r.called r.given r.is

pub attr_dropped_made : AttrDroppedMade
attr_dropped_made t path n name h =
    let r = element_found n (find n (rooted t.nodes)) (no_refusal (document_refused n) (element_among n (find n (rooted t.nodes))) h).1 in
    attr_dropped t path n name r.called r.given r.is

pub text_set_made : TextSetMade
text_set_made t path n after h =
    let r = text_found n (find n (rooted t.nodes)) (no_refusal (document_refused n) (text_among n (find n (rooted t.nodes))) h).1 in
    text_set t path n r.0 after r.1

pub taken_out_made : TakenOutMade
taken_out_made t path n p tree held h = taken_out t path n p (well_formed t tree) held

-- the document, or a node that counts
document_or_node : (p : ℕ) (f : Forest) → 0 < count p (rooted f) → (p ≡ 0) ⊎ (0 < count p f)
document_or_node p f h = elim (same_cases p 0) [
  | inl q ↦ inl q.0
  | inr q ↦ inr (omega (arith, h, q.1))
]

pub fragment_made : FragmentMade
fragment_made t path p place part tree fragment h =
    let causes = no_refusal (place_refused p place t) _ h in
    let parent = no_refusal (parent_refused p t) _ causes.0 in
    fragment_came p place part t path (well_formed t tree) (well_formed _ (IsTree-with_fragment t tree p place part fragment h))
    (document_or_node p t.nodes (parent_there t p parent.0))
    (λ x i. elim (cases_lt x t.next) [
      | inl lt ↦ absurd (omega (arith, tops_counted x (fragment_nodes t.next part) i, (count-nodes x t.next part empty).0 lt))
      | inr le ↦ omega (arith, tree.below x le)
    ])

pub moved_made : MovedMade
moved_made t path n p q place tree held h =
    node_moved n p q place t path (well_formed t tree) (well_formed _ (IsTree-moved n q place t tree h)) held
    (document_or_node q (without n t.nodes) (parent_there (detached n t) q (parent_stays n q place t tree h)))
