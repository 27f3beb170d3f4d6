-- The nodes of a fragment go into the tree one behind the other.
use Rattle.std.proofs.Common.{◌≡◌, ℕ, zero, suc, ◌+◌, ◌-◌, ◌<◌, ◌≤◌, cond, Bool, true, false, List, ◌∷◌, Some, None, length, refl, sym, ◌∙◌, ap, subst, inl, inr, arith, add-one, add-zero}
use Rattle.std.specs.Prelude.{◌==◌}
use Rattle.std.proofs.lemmas.Bool.{ne_eqb}
use Rattle.page_tree.specs.Forest.{Content, document, element, text, comment, Forest, empty, node, rooted, same, count, size, depth_in, head, tops, find, children}
use Rattle.page_tree.specs.Edits.{joined, insert_at, with_children, grafted}
use Rattle.page_tree.specs.Fragments.{hung, with_nodes_at, deepest_behind, AreNodesFrom, limit_passed}
use Rattle.page_tree.specs.Trees.{MayHave, IsOrdinary}
use Rattle.page_tree.proofs.Finding.{same_cases, count-find, count-parts, same-eq}
use Rattle.page_tree.proofs.Totals.{count-with_children, count-insert}
use Rattle.page_tree.proofs.Regrafts.{with_children-again, children-given, find-given, with_children-given, children-inserted, with_children-inserted, insert-behind, insert-end}
use Rattle.page_tree.proofs.Depths.{depth_in-given}
use Rattle.page_tree.proofs.Fragments.{limits_kept}
use Rattle.dom_arena.specs.declared.fragments.Tail.{Tail}
use Rattle.dom_arena.specs.declared.table.Slot.{Slot}
use Rattle.dom_arena.specs.Contents.{payload_of, may_hold}
use Rattle.dom_arena.specs.Hanging.{CanHang, parent_behind, sibling_before, sibling_after, hung_in, tail_behind}
use Rattle.dom_arena.specs.Slots.{slot_at, IsUsed, last_behind, cell, climbed, put}
use Rattle.dom_arena.specs.Linked.{Linked, Stands, from_place, before_place}
use Rattle.dom_arena.proofs.Links.{stands_used}
use Rattle.dom_arena.proofs.Family.{Family, family, before_used, after_used}
use Rattle.dom_arena.proofs.Depths.{depth_up}
use Rattle.dom_arena.proofs.Writes.{payload-put, length-placed}
use Rattle.dom_arena.proofs.Added.{Stands-put, total, size_nodes, before_place-end, from_place-end}
use Rattle.dom_arena.proofs.Regrafts.{before-behind, from-behind, tops-inserted}
use Rattle.dom_arena.proofs.Ways.{OnWay, way_at, Under, Under-linked, Under-insert, OnWay-less, way_counts, way_parent, way_holds, climbed-way, hangs, OnWay-hung, way_at-hung, OnWay-more, way_at-more, last_top-joined, last_top-hung}

-- what may have children is a node
holds_used : (slots : List Slot) (k : ℕ) → may_hold (slot_at slots k).payload ≡ true → IsUsed slots k
holds_used slots k h e = let bad : false ≡ true = ap may_hold (sym e) ∙ h in cc

-- a new node needs no children
leaf : (c : Content) → MayHave c empty
leaf document = tt
leaf (element name attrs) = tt
leaf (text bytes) = refl
leaf (comment bytes) = refl

-- how deep the next node may stand
level_behind : (d : ℕ) (c : Content) → IsOrdinary c → deepest_behind d c ≡ cond (may_hold (payload_of c)) (d + 1) d
level_behind d document h = absurd h
level_behind d (element name attrs) h = sym (add-one d)
level_behind d (text bytes) h = refl
level_behind d (comment bytes) h = refl

-- the way goes on in the new node, if that may have children
way_behind : (b : Bool) (d n : ℕ) (c : Content) (g : Forest) → may_hold (payload_of c) ≡ b → OnWay d g → OnWay (cond b (d + 1) d) (hung d (node n c empty empty) g)
way_behind true d n c g e w = rw add-one (OnWay-more d n c g w e)
way_behind false d n c g e w = OnWay-hung d n c g w

-- to the number that the code has
inner_behind : (b : Bool) (up d n : ℕ) (c : Content) (g : Forest) → may_hold (payload_of c) ≡ b → OnWay d g
    → cond b n (way_at up d g) ≡ way_at up (cond b (d + 1) d) (hung d (node n c empty empty) g)
inner_behind true up d n c g e w = rw add-one (sym (way_at-more up d n c g w e))
inner_behind false up d n c g e w = sym (way_at-hung up d n c g w)

-- and the last top too
top_behind : (b d n top : ℕ) (c : Content) (g : Forest) → OnWay d g → top ≡ last_behind b g → cond (d == 0) n top ≡ last_behind b (hung d (node n c empty empty) g)
top_behind b zero n top c g w e = sym (last_top-joined b n c g)
top_behind b (suc d) n top c g w e = ap (λ t. cond t n top) (ne_eqb (suc d) 0 (λ z. omega arith)) ∙ e ∙ sym (last_top-hung b d n c g w)

-- what is below the document once nodes stand at a place among the children of p
abbrev pub nodes_with : Forest → ℕ → ℕ → Forest → Forest
nodes_with f p place g = children (grafted p place g (rooted f))

-- The slots hold the first nodes of a fragment, g, at the place; the others are still to come. `many` is how many slots
-- there are, `all` how many nodes there will be, and `whole` what the fragment stands for.
pub record Grafting (f : Forest) (p place base many all : ℕ) (whole : Forest) (slots : List Slot) (g : Forest) (n : ℕ) (tail : Tail) (rest : List (ℕ × Content)) : Type 0 where
  pub stands : Stands slots (nodes_with f p place g)
  pub holds : may_hold (slot_at slots p).payload ≡ true
  pub unused : (k : ℕ) → n ≤ k → count k (rooted (nodes_with f p place g)) ≡ 0
  pub long : length slots ≡ many
  pub counted : size (nodes_with f p place g) + length rest ≡ all
  pub inside : n + length rest ≤ many
  pub way : OnWay tail.level g
  pub inner : tail.inner ≡ way_at p tail.level g
  pub top : tail.top ≡ last_behind (before_place 0 place (children (find p (rooted f)))) g
  pub nodes : AreNodesFrom tail.level rest
  pub allowed : limit_passed base (size (nodes_with f p place g)) rest ≡ None
  pub made : with_nodes_at n rest g ≡ whole

module _ (slots0 : List Slot) (f : Forest) (stands0 : Stands slots0 f) (p place : ℕ) (used0 : IsUsed slots0 p)
    (within : place ≤ length (tops (children (find p (rooted f))))) (base : ℕ) (deep : depth_in p 0 (rooted f) ≡ Some base) where
  abbrev kids : Forest
  kids = children (find p (rooted f))

  abbrev before : ℕ
  before = before_place 0 place kids

  abbrev after : ℕ
  after = head (from_place place kids)

  -- the tree with g at the place
  abbrev now : Forest → Forest
  now g = nodes_with f p place g

  p_counted : count p (rooted f) ≡ 1
  p_counted = omega (arith, stands_used slots0 f stands0 p used0, stands0.tree.once p)

  kids_inside : (k : ℕ) → count k kids ≤ count k (rooted f)
  kids_inside k = omega (arith, count-find k p (rooted f), count-parts k (find p (rooted f)))

  -- each number stands as often as in both
  counts : (k : ℕ) (g : Forest) → count k (rooted (now g)) ≡ count k (rooted f) + count k g
  counts k g = omega (arith, count-with_children k p (insert_at place g kids) (rooted f) p_counted, count-insert k place g kids)

  -- the children of p
  kids_now : (g : Forest) → children (find p (rooted (now g))) ≡ insert_at place g kids
  kids_now g = children-given p (insert_at place g kids) (rooted f) p_counted

  -- p stays as deep
  p_deep : (g : Forest) → depth_in p 0 (rooted (now g)) ≡ Some base
  p_deep g = depth_in-given p 0 (insert_at place g kids) (rooted f) p_counted ∙ deep

  module _ (slots : List Slot) (g : Forest) (stands : Stands slots (now g)) (holds : may_hold (slot_at slots p).payload ≡ true) where
    -- the slots know the parents of the new nodes
    under : Under (slot_at slots) p g
    under =
        let fam : Family slots p (children (find p (rooted (now g)))) = family slots (now g) stands p (holds_used slots p holds) in
        Under-insert (slot_at slots) p place g kids
        (Under-linked (slot_at slots) p 0 (insert_at place g kids) (subst (λ (k : Forest). Linked (slot_at slots) p 0 k) (kids_now g) fam.linked))

    -- each node on the way may have children
    way_holder : (d : ℕ) → OnWay d g → may_hold (slot_at slots (way_at p d g)).payload ≡ true
    way_holder zero w = holds
    way_holder (suc d) w = way_holds (slot_at slots) p d g w under

    -- what stands on the way further down is no other node
    way_apart : (d : ℕ) → OnWay (suc d) g → (count (way_at p (suc d) g) (rooted f) ≡ 0) × (count (way_at p (suc d) g) g ≡ 1)
    way_apart d w =
        let q : ℕ = way_at p (suc d) g in
        let one : 1 ≤ count q g = way_counts p d g w in
        let most : count q (rooted (now g)) ≤ 1 = stands.tree.once q in
        (omega (arith, counts q g), omega (arith, counts q g))

    -- each is one level deeper
    way_deep : (d : ℕ) → OnWay d g → depth_in (way_at p d g) 0 (rooted (now g)) ≡ Some (base + d)
    way_deep zero w = p_deep g ∙ ap Some (sym (add-zero base))
    way_deep (suc d) w =
        let q : ℕ = way_at p (suc d) g in
        let used : IsUsed slots q = holds_used slots q (way_holder (suc d) w) in
        let no_root : q ≡ 0 → ⊥ = λ z. omega (arith, (way_apart d w).0, same-eq q 0 z) in
        let up = depth_up slots (now g) stands q used no_root in
        let above : depth_in (way_at p d g) 0 (rooted (now g)) ≡ Some (base + d) = way_deep d (OnWay-less (suc d) d g (omega arith) w) in
        let one : Some up.0 ≡ Some (base + d) = sym up.2 ∙ ap (λ (k : ℕ). depth_in k 0 (rooted (now g))) (way_parent (slot_at slots) p d g w under) ∙ above in
        let same : up.0 ≡ base + d = cc (one) in
        let more : suc up.0 ≡ base + suc d = omega (arith, same) in
        up.3 ∙ ap Some more

    -- a node of depth d behind the others goes to this place among the children of its parent
    pub record Spot (tail : Tail) (n d : ℕ) (c : Content) : Type 0 where
      pub place_of : ℕ
      pub there : place_of ≤ length (tops (children (find (way_at p d g) (rooted (now g)))))
      pub left : cond (d == 0) tail.top (slot_at slots (way_at p d g)).last_child ≡ before_place 0 place_of (children (find (way_at p d g) (rooted (now g))))
      pub right : sibling_after after d ≡ head (from_place place_of (children (find (way_at p d g) (rooted (now g)))))
      pub grown : children (grafted (way_at p d g) place_of (node n c empty empty) (rooted (now g))) ≡ now (hung d (node n c empty empty) g)

    -- there is one: behind the tops at depth 0, else behind the last child of the parent
    spot : (tail : Tail) (n d : ℕ) (c : Content) → OnWay d g → tail.top ≡ last_behind before g → Spot tail n d c
    spot tail n zero c w top =
        let i : ℕ = place + length (tops g) in
        let new : Forest = node n c empty empty in
        record {
          place_of = i;
          there = rw (kids_now g) (omega (arith, tops-inserted place g kids));
          left = top ∙ sym (before-behind 0 i place g kids refl within) ∙ ap (λ (k : Forest). before_place 0 i k) (sym (kids_now g));
          right = sym (from-behind i place g kids refl within) ∙ ap (λ (k : Forest). head (from_place i k)) (sym (kids_now g));
          grown =
              ap (λ (k : Forest). children (with_children p (insert_at i new k) (rooted (now g)))) (kids_now g)
              ∙ ap children (with_children-again p (insert_at i new (insert_at place g kids)) (insert_at place g kids) (rooted f))
              ∙ ap (λ (k : Forest). children (with_children p k (rooted f))) (insert-behind i place new g kids refl within);
        }
    spot tail n (suc d) c w top =
        let q : ℕ = way_at p (suc d) g in
        let new : Forest = node n c empty empty in
        let mine : Forest = children (find q (rooted (now g))) in
        let away : count q (rooted f) ≡ 0 = (way_apart d w).0 in
        let one : count q g ≡ 1 = (way_apart d w).1 in
        let no_kid : count q kids ≡ 0 = omega (arith, kids_inside q) in
        let fam : Family slots q mine = family slots (now g) stands q (holds_used slots q (way_holder (suc d) w)) in
        let found : mine ≡ children (find q g) =
        ap children (find-given q p (insert_at place g kids) (rooted f) p_counted away) ∙ children-inserted q place g kids no_kid in
        record {
          place_of = length (tops mine);
          there = omega arith;
          left = ap (λ b. cond b tail.top (slot_at slots q).last_child) (ne_eqb (suc d) 0 (λ e. omega arith)) ∙ fam.last ∙ sym (before_place-end 0 mine);
          right = ap (λ b. cond b after 0) (ne_eqb (suc d) 0 (λ e. omega arith)) ∙ sym (from_place-end mine);
          grown =
              ap (λ (k : Forest). children (with_children q k (rooted (now g)))) (insert-end new mine ∙ ap (λ (k : Forest). joined k new) found)
              ∙ ap children (with_children-given q p (joined (children (find q g)) new) (insert_at place g kids) (rooted f) away)
              ∙ ap (λ (k : Forest). children (with_children p k (rooted f))) (with_children-inserted q place (joined (children (find q g)) new) g kids no_kid)
              ∙ ap (λ (k : Forest). now k) (hangs p d new g w (omega arith));
        }

  -- ---- one node more

  module _ (many all : ℕ) (room : all ≤ many) (whole : Forest) (slots : List Slot) (g : Forest) (n : ℕ) (tail : Tail) (x : ℕ × Content) (rest : List (ℕ × Content))
      (here : Grafting f p place base many all whole slots g n tail (x ∷ rest)) where
    abbrev q : ℕ
    q = way_at p x.0 g

    abbrev new : Forest
    new = node n x.1 empty empty

    -- the limits that it keeps
    limits : (base + suc x.0 ≤ 512) × (size (now g) < 1000000) × (limit_passed base (suc (size (now g))) rest ≡ None)
    limits = limits_kept base (size (now g)) x rest here.allowed

    -- the way to its parent
    way : OnWay x.0 g
    way = OnWay-less tail.level x.0 g here.nodes.0 here.way

    -- the parent that the code finds, and the place there
    parent_now : parent_behind tail x.0 slots ≡ q
    parent_now =
        ap (λ (k : ℕ). climbed (slot_at slots) (tail.level - x.0) k) here.inner
        ∙ climbed-way (slot_at slots) p (tail.level - x.0) x.0 tail.level g (let le : x.0 ≤ tail.level = here.nodes.0 in omega arith) here.way
        (under slots g here.stands here.holds)

    holder : may_hold (slot_at slots q).payload ≡ true
    holder = way_holder slots g here.stands here.holds x.0 way

    q_used : IsUsed slots q
    q_used = holds_used slots q holder

    at : Spot slots g here.stands here.holds tail n x.0 x.1
    at = spot slots g here.stands here.holds tail n x.0 x.1 way here.top

    left : sibling_before tail x.0 slots ≡ before_place 0 at.place_of (children (find q (rooted (now g))))
    left = ap (λ (k : ℕ). cond (x.0 == 0) tail.top (slot_at slots k).last_child) parent_now ∙ at.left

    number_inside : n < length slots
    number_inside = omega (arith, here.inside, here.long)

    -- so the node can hang there
    pub can_hang : CanHang tail after n x.0 slots
    can_hang = record {
      level = here.nodes.0;
      low = omega (arith, limits.0);
      inside = number_inside;
      parent = subst (λ (k : ℕ). IsUsed slots k) (sym parent_now) q_used;
      left = subst (λ (k : ℕ). (k ≡ 0 → ⊥) → IsUsed slots k) (sym left) (before_used slots (now g) here.stands q at.place_of);
      right = subst (λ (k : ℕ). (k ≡ 0 → ⊥) → IsUsed slots k) (sym at.right) (after_used slots (now g) here.stands q at.place_of);
    }

    -- what holds behind it
    pub hung_next : Grafting f p place base many all whole (hung_in tail after n x.0 x.1 slots) (hung x.0 new g) (n + 1) (tail_behind tail (parent_behind tail x.0 slots) n x.0 x.1) rest
    hung_next =
        let c : Content = x.1 in
        let d : ℕ = x.0 in
        let b : ℕ = sibling_before tail d slots in
        let a : ℕ = sibling_after after d in
        let then : Forest = children (grafted q at.place_of new (rooted (now g))) in
        let unused : count n (rooted (now g)) ≡ 0 = here.unused n (omega arith) in
        let free_one : size (now g) < length slots = omega (arith, here.counted, here.long) in
        let deep_q : depth_in q 0 (rooted (now g)) ≡ Some (base + d) = way_deep slots g here.stands here.holds d way in
        let shallow : base + d < 512 = omega (arith, limits.0) in
        let written : Stands (put n q b a c slots) then =
        Stands-put slots (now g) here.stands n number_inside unused free_one q at.place_of c q_used holder (leaf c) here.nodes.1 at.there (base + d) deep_q shallow limits.1 b a left at.right in
        let counts' : (k : ℕ) → count k (rooted then) ≡ count k (rooted (now g)) + same k n =
        λ k. total slots (now g) here.stands n number_inside unused free_one q at.place_of c q_used holder (leaf c) here.nodes.1 at.there (base + d) deep_q shallow limits.1 k in
        let size' : size then ≡ size (now g) + 1 =
        size_nodes slots (now g) here.stands n number_inside unused free_one q at.place_of c q_used holder (leaf c) here.nodes.1 at.there (base + d) deep_q shallow limits.1 in
        let more : size (now (hung d new g)) ≡ size (now g) + 1 = ap size (sym at.grown) ∙ size' in
        record {
          stands = subst (λ (k : ℕ). Stands (put n k b a c slots) (now (hung d new g))) (sym parent_now) (subst (λ (t : Forest). Stands (put n q b a c slots) t) at.grown written);
          holds = ap may_hold (payload-put n (parent_behind tail d slots) b a p c slots p_is_old) ∙ here.holds;
          unused = λ k le. ap (λ (t : Forest). count k (rooted t)) (sym at.grown) ∙ counts' k ∙ none_there k le;
          long = length-placed n (parent_behind tail d slots) b a (cell (parent_behind tail d slots) empty a b c) slots ∙ here.long;
          counted = omega (arith, more, here.counted);
          inside = omega (arith, here.inside);
          way = way_behind (may_hold (payload_of c)) d n c g refl way;
          inner = ap (λ (k : ℕ). cond (may_hold (payload_of c)) n k) parent_now ∙ inner_behind (may_hold (payload_of c)) p d n c g refl way;
          top = top_behind (before) d n tail.top c g way here.top;
          nodes = subst (λ (l : ℕ). AreNodesFrom l rest) (level_behind d c here.nodes.1) here.nodes.2;
          allowed = ap (λ (l : ℕ). limit_passed base l rest) (more ∙ add-one (size (now g))) ∙ limits.2;
          made = ap (λ (k : ℕ). with_nodes_at k rest (hung d new g)) (add-one n) ∙ here.made;
        }
      where
        p_is_old : p ≡ n → ⊥
        p_is_old e =
            let one : count p (rooted f) ≡ 1 = p_counted in
            let gone : count p (rooted (now g)) ≡ 0 = here.unused p (omega arith) in
            omega (arith, counts p g)

        none_there : (k : ℕ) → n + 1 ≤ k → count k (rooted (now g)) + same k n ≡ 0
        none_there k le =
            elim (same_cases k n) [
              | inl r ↦ absurd (omega (arith, r.0))
              | inr r ↦ omega (arith, r.1, here.unused k (omega arith))
            ]
