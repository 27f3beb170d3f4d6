-- Each edit of a tree is a change of its kind.
use Rattle.std.proofs.Common.{◌≡◌, ℕ, ◌<◌, ◌≤◌, true, false, ◌==◌, ◌⊎◌, inl, inr, List, cond, Some, refl, sym, ap, subst, ◌∙◌, arith}
use Rattle.std.proofs.lemmas.Bool.{eqb-true, eq-eqb, ne_eqb, cases_eq}
use Rattle.page_tree.specs.Forest.{Content, document, element, text, Forest, empty, node, Tree, rooted, count, tops, find, children, name_of, attrs_of}
use Rattle.page_tree.specs.Edits.{insert_at, with_children, with_content, without, pruned, alone, subtree, added, detached, moved, with_text, content_at, with_attr, without_attr, with_attr_set, with_attr_dropped}
use Rattle.page_tree.specs.Fragments.{fragment_nodes, with_fragment}
use Rattle.page_tree.specs.Directions.{is_in}
use Rattle.page_tree.proofs.Finding.{find-rooted}
use Rattle.page_tree.proofs.Parts.{tops_counted, tops_parent, inside}
use Rattle.selector_meaning.specs.Texts.{Bytes}
use Rattle.sensor_meaning.specs.declared.change.Change.TheVariants.{Attr as AttrOf, Chars, Came, Went, Moved, Path as PathOf}
use Rattle.sensor_meaning.specs.Changes.{Becomes, IsChild, IsWellFormed}
use Rattle.sensor_laws.proofs.Any.{no}
use Rattle.sensor_laws.proofs.Relations.{or-off}
use Rattle.sensor_laws.proofs.Tops.{nodes_once, parent_counted}
use Rattle.sensor_laws.proofs.EditFacts.{value_set, value_dropped, content_there, pruned-kept, pruned-inserted, pruned-alike, without-pruned, without-fewer, without-none, pruned-within, children-within, find-within, tops-inserted, alone-inserted, found_as, find-fewer, children-fewer}

module _ (t : Tree) (path : Bytes) where
  abbrev NotDocument : Content → Type 0
  NotDocument document = ⊥
  NotDocument _ = Unit {0}

  other : (c : Content) → NotDocument c → c ≡ document → ⊥
  other c h e = subst NotDocument e h

  -- an attribute set
  pub attr_set : (n : ℕ) (name value called : Bytes) (given : List (Bytes × Bytes)) → content_at n t ≡ element called given →
      Becomes (AttrOf n name) t path (with_attr_set n name value t) path
  attr_set n name value called given is = (
    refl,
    record {
      called = called;
      before = given;
      after = with_attr name value given;
      was = content_there t n (element called given) is (other (element called given) tt);
      others_stay = λ w apart. value_set name value w given apart;
      becomes = ap (λ (c : Content). with_content n (element (name_of c) (with_attr name value (attrs_of c))) t.nodes) is;
    },
  )

  -- an attribute dropped
  pub attr_dropped : (n : ℕ) (name called : Bytes) (given : List (Bytes × Bytes)) → content_at n t ≡ element called given →
      Becomes (AttrOf n name) t path (with_attr_dropped n name t) path
  attr_dropped n name called given is = (
    refl,
    record {
      called = called;
      before = given;
      after = without_attr name given;
      was = content_there t n (element called given) is (other (element called given) tt);
      others_stay = λ w apart. value_dropped name w given apart;
      becomes = ap (λ (c : Content). with_content n (element (name_of c) (without_attr name (attrs_of c))) t.nodes) is;
    },
  )

  -- a text set
  pub text_set : (n : ℕ) (before after : Bytes) → content_at n t ≡ text before → Becomes (Chars n) t path (with_text n after t) path
  text_set n before after is =
      (refl, record { before = before; after = after; was = content_there t n (text before) is (other (text before) tt); becomes = refl })

  -- another path
  pub path_set : (route : Bytes) → Becomes PathOf t path t route
  path_set route = refl

  -- a node taken out
  pub taken_out : (n p : ℕ) → IsWellFormed t → IsChild n p t → Becomes (Went p) t path (detached n t) path
  taken_out n p tree held = (refl, (n, held, without-pruned n t.nodes (nodes_once t tree)))

-- new nodes at a place among the children of p
module _ (p place : ℕ) (new : Forest) (t u : Tree) (once : (x : ℕ) → count x t.nodes ≤ 1) (tree : IsWellFormed u)
    (there : (p ≡ 0) ⊎ (0 < count p t.nodes)) (fresh : (x : ℕ) → is_in (tops new) x ≡ true → count x t.nodes ≡ 0)
    (is : u.nodes ≡ cond (p == 0) (insert_at place new (children (find p (rooted t.nodes)))) (with_children p (insert_at place new (children (find p (rooted t.nodes)))) t.nodes)) where
  abbrev G : Forest
  G = insert_at place new (children (find p (rooted t.nodes)))

  not_new : (x : ℕ) → 0 < count x t.nodes → is_in (tops new) x ≡ false
  not_new x i = no (is_in (tops new) x) (λ h. omega (arith, fresh x h))

  at_root : p ≡ 0 → children (find p (rooted t.nodes)) ≡ t.nodes
  at_root z = ap (λ (k : ℕ). children (find k (rooted t.nodes))) z

  inner_fewer : (x : ℕ) → (p ≡ 0 → ⊥) → count x (children (find p (rooted t.nodes))) ≤ count x t.nodes
  inner_fewer x z = omega (arith, ap (λ (f : Forest). count x (children f)) (find-rooted p t.nodes z), children-fewer x (find p t.nodes), find-fewer p x t.nodes)

  root_is : p ≡ 0 → u.nodes ≡ insert_at place new t.nodes
  root_is z = is ∙ ap (λ b. cond b G (with_children p G t.nodes)) (eq-eqb p 0 z) ∙ ap (insert_at place new) (at_root z)

  inner_is : (p ≡ 0 → ⊥) → u.nodes ≡ with_children p G t.nodes
  inner_is z = is ∙ ap (λ b. cond b G (with_children p G t.nodes)) (ne_eqb p 0 z)

  counted : (p ≡ 0 → ⊥) → 0 < count p t.nodes
  counted z = elim there [ inl e ↦ absurd (z e) | inr i ↦ i ]

  pub old_left : t.nodes ≡ pruned (is_in (tops new)) u.nodes
  old_left =
      elim (cases_eq p 0) [
        | inl z ↦ sym (ap (pruned (is_in (tops new))) (root_is z) ∙ pruned-inserted (is_in (tops new)) place new t.nodes (λ x h. h)
            ∙ pruned-kept (is_in (tops new)) t.nodes not_new)
        | inr z ↦ sym (ap (pruned (is_in (tops new))) (inner_is z)
            ∙ pruned-within p G (is_in (tops new)) t.nodes (once p) (counted z) not_new
            (pruned-inserted (is_in (tops new)) place new (children (find p (rooted t.nodes))) (λ x h. h)
            ∙ pruned-kept (is_in (tops new)) (children (find p (rooted t.nodes))) (λ x i. not_new x (omega (arith, inner_fewer x z)))
            ∙ ap children (find-rooted p t.nodes z)))
      ]

  pub new_child : (x : ℕ) → is_in (tops new) x ≡ true → IsChild x p u
  new_child x h =
      elim (cases_eq p 0) [
        | inl z ↦ tops_parent x 0 u.nodes (nodes_once u tree)
            (ap (λ (f : Forest). is_in (tops f) x) (root_is z) ∙ tops-inserted x place new t.nodes h) ∙ ap Some (sym z)
        | inr z ↦
            let g_is : children (find p u.nodes) ≡ G = ap (λ (f : Forest). children (find p f)) (inner_is z) ∙ children-within p G t.nodes (once p) (counted z) in
            let among : is_in (tops (children (find p u.nodes))) x ≡ true =
            ap (λ (f : Forest). is_in (tops f) x) g_is ∙ tops-inserted x place new (children (find p (rooted t.nodes))) h in
            let r = inside x p u.nodes (nodes_once u tree) (tops_counted x (children (find p u.nodes)) among) in
            r.2 0 ∙ tops_parent x p (children (find p u.nodes))
            (λ j. omega (arith, nodes_once u tree j, find-fewer p j u.nodes, children-fewer j (find p u.nodes))) among
      ]

  -- one new node keeps what is below it
  pub new_alone : (n : ℕ) (c : Content) (kids : Forest) → new ≡ node n c kids empty → count n t.nodes ≡ 0 → alone (find n u.nodes) ≡ node n c kids empty
  new_alone n c kids one z =
      elim (cases_eq p 0) [
        | inl q ↦ ap (λ (f : Forest). alone (find n f)) (root_is q ∙ ap (λ (f : Forest). insert_at place f t.nodes) one) ∙ alone-inserted n c kids place t.nodes z
        | inr q ↦ ap (λ (f : Forest). alone (find n f)) (inner_is q) ∙ ap alone (find-within p G n t.nodes (once p) (counted q) z)
            ∙ ap (λ (f : Forest). alone (find n (insert_at place f (children (find p (rooted t.nodes)))))) one
            ∙ alone-inserted n c kids place (children (find p (rooted t.nodes))) (omega (arith, inner_fewer n q))
      ]

-- a fragment that came, with its tops
pub came : (p place : ℕ) (new : Forest) (t : Tree) (path : Bytes) → IsWellFormed t → IsWellFormed (added p place new t) → (p ≡ 0) ⊎ (0 < count p t.nodes) →
    ((x : ℕ) → is_in (tops new) x ≡ true → count x t.nodes ≡ 0) → Becomes (Came p (tops new)) t path (added p place new t) path
came p place new t path old tree there fresh = (
  refl,
  new_child p place new t (added p place new t) (nodes_once t old) tree there fresh refl,
  old_left p place new t (added p place new t) (nodes_once t old) tree there fresh refl,
)

pub fragment_came : (p place : ℕ) (part : List (ℕ × Content)) (t : Tree) (path : Bytes) → IsWellFormed t → IsWellFormed (with_fragment p place part t) →
    (p ≡ 0) ⊎ (0 < count p t.nodes) → ((x : ℕ) → is_in (tops (fragment_nodes t.next part)) x ≡ true → count x t.nodes ≡ 0) →
    Becomes (Came p (tops (fragment_nodes t.next part))) t path (with_fragment p place part t) path
fragment_came p place part t path = came p place (fragment_nodes t.next part) t path

-- a node that moved, with all below it
module _ (n p q place : ℕ) (t : Tree) (path : Bytes) (old : IsWellFormed t) (tree : IsWellFormed (moved n q place t)) (held : IsChild n p t)
    (there : (q ≡ 0) ⊎ (0 < count q (without n t.nodes))) where
  pub node_moved : Becomes (Moved n p q) t path (moved n q place t) path
  node_moved =
      let once = nodes_once t old in
      let r = found_as n t.nodes once (parent_counted n p 0 t.nodes held) in
      let one : subtree n t.nodes ≡ node n r.0 r.1 empty = ap alone r.3 in
      let top_is : (x : ℕ) → is_in (tops (subtree n t.nodes)) x ≡ (x == n) = λ x. ap (λ (f : Forest). is_in (tops f) x) one ∙ or-off (n == x) ∙ turned n x in
      let gone : count n (without n t.nodes) ≡ 0 = without-none n n t.nodes once in
      let fresh : (x : ℕ) → is_in (tops (subtree n t.nodes)) x ≡ true → count x (without n t.nodes) ≡ 0 = λ x h.
      ap (λ (j : ℕ). count j (without n t.nodes)) (eqb-true x n (sym (top_is x) ∙ h)) ∙ gone in
      let fewer : (x : ℕ) → count x (without n t.nodes) ≤ 1 = λ x. omega (arith, once x, without-fewer n x t.nodes) in (
        refl,
        held,
        new_child q place (subtree n t.nodes) (detached n t) (moved n q place t) fewer tree there fresh refl n (top_is n ∙ eq-eqb n n refl),
        one ∙ sym (new_alone q place (subtree n t.nodes) (detached n t) (moved n q place t) fewer tree there fresh refl n r.0 r.1 one gone),
        sym (without-pruned n t.nodes once)
            ∙ old_left q place (subtree n t.nodes) (detached n t) (moved n q place t) fewer tree there fresh refl
            ∙ pruned-alike (is_in (tops (subtree n t.nodes))) (λ x. x == n) (moved n q place t).nodes top_is,
      )
    where
      turned : (a b : ℕ) → (a == b) ≡ (b == a)
      turned a b = elim (cases_eq a b) [ inl e ↦ eq-eqb a b e ∙ sym (eq-eqb b a (sym e)) | inr e ↦ ne_eqb a b e ∙ sym (ne_eqb b a (λ f. e (sym f))) ]
