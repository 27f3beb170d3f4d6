-- What every tree keeps, kept by each change.
use Rattle.std.proofs.Common.{◌≡◌, ℕ, zero, suc, ◌+◌, ◌<◌, ◌≤◌, List, Option, Some, None, refl, sym, ◌∙◌, ap, subst, inl, inr, arith}
use Rattle.std.proofs.lemmas.Bool.{cases_eq, cases_lt, cases_Bool, eq-eqb, lt-ltb, ne_eqb}
use Rattle.std.specs.Prelude.{Bool}
use Rattle.std.specs.Option.{option_or}
use Rattle.page_tree.specs.Forest.{Content, document, element, text, comment, Forest, empty, node, Tree, rooted, count, size, height, find, or_else, children, depth_in}
use Rattle.page_tree.specs.Edits.{joined, insert_at, with_children, with_content, without, pruned, alone, subtree, grafted, children_of, detached, moved, rewritten, with_text}
use Rattle.page_tree.specs.Refusals.{Refusal, NoSuchNode, NotElement, NotText, IsDocument, IntoItself, TooDeep, node_among, text_among, parent_among, document_refused, parent_refused, place_past, into_itself, too_deep, text_refused, detach_refused, relink_refused}
use Rattle.page_tree.specs.Trees.{Every, MayHave, IsGrown, IsOrdinary, AreOrdinary, IsTree}
use Rattle.page_tree.proofs.Finding.{same_cases, find-none, find-counted, find-rooted, found, count-find}
use Rattle.page_tree.proofs.Totals.{with_children-none, with_content-none, without-none, count-grafted, count-with_content, count-without, count-pruned, size-grafted, size-with_content, size-without, size-pruned}
use Rattle.page_tree.proofs.Depths.{depth_in-some, depth_in-without, height-grafted, height-with_content, height-without, height-pruned}
use Rattle.page_tree.proofs.Cuts.{count-subtree}

-- what the first node and its children meet, if there is one
abbrev pub AtFirst : (Content → Forest → Type 0) → Forest → Type 0
AtFirst Meets empty = Unit {0}
AtFirst Meets (node n c kids later) = Meets c kids

-- what names keep, whatever the children
abbrev pub Named : Content → Forest → Type 0
Named c kids = IsOrdinary c

-- a change that leaves nothing of nothing gives no children to what has none
pub MayHave-kept : (change : Forest → Forest) → change empty ≡ empty → (c : Content) (kids : Forest) → MayHave c kids → MayHave c (change kids)
MayHave-kept change none document kids h = tt
MayHave-kept change none (element name attrs) kids h = tt
MayHave-kept change none (text bytes) kids h = ap change h ∙ none
MayHave-kept change none (comment bytes) kids h = ap change h ∙ none

-- ---- what each node meets

module _ (Fits : Content → Forest → Type 0) where
  pub Every-joined : (f g : Forest) → Every Fits f → Every Fits g → Every Fits (joined f g)
  Every-joined empty g a b = b
  Every-joined (node n c kids later) g a b = (a.0, a.1, Every-joined later g a.2 b)

  pub Every-insert : (i : ℕ) (new f : Forest) → Every Fits new → Every Fits f → Every Fits (insert_at i new f)
  Every-insert i new empty a b = a
  Every-insert zero new (node n c kids later) a b = Every-joined new (node n c kids later) a b
  Every-insert (suc i) new (node n c kids later) a b = (b.0, b.1, Every-insert i new later a b.2)

  pub Every-find : (k : ℕ) (f : Forest) → Every Fits f → Every Fits (find k f)
  Every-find k empty h = tt
  Every-find k (node n c kids later) h =
      elim (same_cases k n) [
        | inl q ↦ rw q.2 h
        | inr q ↦ rw q.2 (either (find k kids) (find k later) (Every-find k kids h.1) (Every-find k later h.2))
      ]
    where
      either : (f g : Forest) → Every Fits f → Every Fits g → Every Fits (or_else f g)
      either empty g a b = b
      either (node m d ks ls) g a b = a

  pub Every-children : (f : Forest) → Every Fits f → Every Fits (children f)
  Every-children empty h = tt
  Every-children (node n c kids later) h = h.1

  pub Every-alone : (f : Forest) → Every Fits f → Every Fits (alone f)
  Every-alone empty h = tt
  Every-alone (node n c kids later) h = (h.0, h.1, tt)

  pub Every-pruned : (gone : ℕ → Bool) → ((c : Content) (kids : Forest) → Fits c kids → Fits c (pruned gone kids)) → (f : Forest) → Every Fits f → Every Fits (pruned gone f)
  Every-pruned gone keeps empty h = tt
  Every-pruned gone keeps (node n c kids later) h =
      elim (cases_Bool (gone n)) [
        | inl q ↦ rw q (Every-pruned gone keeps later h.2)
        | inr q ↦ rw q (keeps c kids h.0, Every-pruned gone keeps kids h.1, Every-pruned gone keeps later h.2)
      ]

  pub Every-without : (k : ℕ) → ((c : Content) (kids : Forest) → Fits c kids → Fits c (without k kids)) → (f : Forest) → Every Fits f → Every Fits (without k f)
  Every-without k keeps empty h = tt
  Every-without k keeps (node n c kids later) h =
      elim (same_cases k n) [
        | inl q ↦ rw q.2 h.2
        | inr q ↦ rw q.2 (keeps c kids h.0, Every-without k keeps kids h.1, Every-without k keeps later h.2)
      ]

  -- the node that gets other children fits with them
  pub Every-with_children : (p : ℕ) (g : Forest) → ((c : Content) (kids : Forest) → Fits c kids → Fits c (with_children p g kids)) → (f : Forest) → count p f ≤ 1
      → AtFirst (λ c kids. Fits c g) (find p f) → Every Fits g → Every Fits f → Every Fits (with_children p g f)
  Every-with_children p g keeps empty le fits new h = tt
  Every-with_children p g keeps (node n c kids later) le fits new h =
      elim (same_cases p n) [
        | inl q ↦
            let here : Fits c g = rw q.2 at fits in
            rw (q.2, with_children-none p g later (omega arith)) (here, new, h.2)
        | inr q ↦ elim (cases_eq (count p kids) 0) [
          | inl z ↦
              let there : AtFirst (λ c kids. Fits c g) (find p later) = rw (q.2, find-none p kids z) at fits in
              rw (q.2, with_children-none p g kids z) (h.0, h.1, Every-with_children p g keeps later (omega arith) there new h.2)
          | inr z ↦
              let there : AtFirst (λ c kids. Fits c g) (find p kids) = rw (q.2, find-counted p kids (find p later) (omega arith)) at fits in
              rw (q.2, with_children-none p g later (omega arith)) (keeps c kids h.0, Every-with_children p g keeps kids (omega arith) there new h.1, h.2)
        ]
      ]

  -- the node that gets another content fits with it
  pub Every-with_content : (k : ℕ) (new : Content) → ((c : Content) (kids : Forest) → Fits c kids → Fits c (with_content k new kids)) → (f : Forest) → count k f ≤ 1
      → AtFirst (λ c kids. Fits new kids) (find k f) → Every Fits f → Every Fits (with_content k new f)
  Every-with_content k new keeps empty le fits h = tt
  Every-with_content k new keeps (node n c kids later) le fits h =
      elim (same_cases k n) [
        | inl q ↦
            let here : Fits new kids = rw q.2 at fits in
            rw (q.2, with_content-none k new kids (omega arith), with_content-none k new later (omega arith)) (here, h.1, h.2)
        | inr q ↦ elim (cases_eq (count k kids) 0) [
          | inl z ↦
              let there : AtFirst (λ c kids. Fits new kids) (find k later) = rw (q.2, find-none k kids z) at fits in
              rw (q.2, with_content-none k new kids z) (h.0, h.1, Every-with_content k new keeps later (omega arith) there h.2)
          | inr z ↦
              let there : AtFirst (λ c kids. Fits new kids) (find k kids) = rw (q.2, find-counted k kids (find k later) (omega arith)) at fits in
              rw (q.2, with_content-none k new later (omega arith)) (keeps c kids h.0, Every-with_content k new keeps kids (omega arith) there h.1, h.2)
        ]
      ]

-- what holds of every content and all children holds of the first
at_first : (Meets : Content → Forest → Type 0) → ((c : Content) (kids : Forest) → Meets c kids) → (f : Forest) → AtFirst Meets f
at_first Meets all empty = tt
at_first Meets all (node n c kids later) = all c kids

-- ---- what is found where a change is not refused

-- two causes, none of which holds
pub no_refusal : (a b : Option Refusal) → option_or a b ≡ None → (a ≡ None) × (b ≡ None)
no_refusal None b h = (refl, h)
no_refusal (Some x) b h = let no : Some x ≡ None = h in cc

pub not_document : (n : ℕ) → document_refused n ≡ None → n ≡ 0 → ⊥
not_document n h e = let no : Some IsDocument ≡ None = rw (eq-eqb n 0 e) at h in cc

module _ (t : Tree) where
  pub parent_there : (p : ℕ) → parent_refused p t ≡ None → 0 < count p (rooted t.nodes)
  parent_there p h =
      elim (cases_eq (count p (rooted t.nodes)) 0) [
        | inl z ↦ let no : Some (NoSuchNode p) ≡ None = ap (parent_among p) (sym (find-none p (rooted t.nodes) z)) ∙ h in cc
        | inr z ↦ omega arith
      ]

  pub node_there : (n : ℕ) → detach_refused n t ≡ None → 0 < count n t.nodes
  node_there n h =
      let parts = no_refusal (document_refused n) (node_among n (find n (rooted t.nodes))) h in
      elim (cases_eq (count n (rooted t.nodes)) 0) [
        | inl z ↦ let no : Some (NoSuchNode n) ≡ None = ap (node_among n) (sym (find-none n (rooted t.nodes) z)) ∙ parts.1 in cc
        | inr z ↦ elim (same_cases n 0) [ inl q ↦ absurd (not_document n parts.0 q.0) | inr q ↦ omega arith ]
      ]

-- a node that may have children may have any
pub parent_may_have : (p : ℕ) (g f : Forest) → parent_among p f ≡ None → AtFirst (λ c kids. MayHave c g) f
parent_may_have p g empty h = tt
parent_may_have p g (node n document kids later) h = tt
parent_may_have p g (node n (element name attrs) kids later) h = tt
parent_may_have p g (node n (text bytes) kids later) h = let no : Some (NotElement p) ≡ None = h in cc
parent_may_have p g (node n (comment bytes) kids later) h = let no : Some (NotElement p) ≡ None = h in cc

-- nodes that aren't too deep
pub shallow : (e high : ℕ) → too_deep (Some e) high ≡ None → e + high ≤ 512
shallow e high h =
    elim (cases_lt 512 (e + high)) [
      | inl lt ↦ let no : Some TooDeep ≡ None = rw (lt-ltb 512 (e + high) lt) at h in cc
      | inr le ↦ le
    ]

-- ---- trees with new nodes

module _ (t : Tree) (tree : IsTree t) (p place next e : ℕ) (new : Forest) (parent : parent_refused p t ≡ None) (depth : depth_in p 0 (rooted t.nodes) ≡ Some e) where
  p_once : count p (rooted t.nodes) ≡ 1
  p_once = omega (arith, parent_there t p parent, tree.once p)

  abbrev pub placed : Forest
  placed = children (grafted p place new (rooted t.nodes))

  abbrev pub kids : Forest
  kids = children (find p (rooted t.nodes))

  abbrev pub new_kids : Forest
  new_kids = insert_at place new kids

  pub count-placed : (k : ℕ) → count k (rooted placed) ≡ count k (rooted t.nodes) + count k new
  count-placed k = count-grafted k p place new (rooted t.nodes) p_once

  pub size-placed : size placed ≡ size t.nodes + size new
  size-placed = omega (arith, size-grafted p place new (rooted t.nodes) p_once)

  pub IsTree-placed : IsGrown new → AreOrdinary new → ((k : ℕ) → count k (rooted t.nodes) + count k new ≤ 1) → ((k : ℕ) → next ≤ k → count k (rooted t.nodes) + count k new ≡ 0)
      → size t.nodes + size new ≤ 1000000 → e + height new ≤ 512 → IsTree (record { nodes = placed; next = next })
  IsTree-placed grown ordinary once below few low = record {
    once = λ k. omega (arith, count-placed k, once k);
    below = λ k le. omega (arith, count-placed k, below k le);
    grown = Every-children MayHave (grafted p place new (rooted t.nodes)) all_grown;
    ordinary = all_ordinary;
    few = omega (arith, size-placed, few);
    low = omega (arith, height-grafted p place new (rooted t.nodes) 0 e 513 p_once depth (omega (arith, tree.low)) (omega (arith, low)));
  }
    where
      all_grown : IsGrown (grafted p place new (rooted t.nodes))
      all_grown =
          let root : IsGrown (rooted t.nodes) = (tt, tree.grown, tt) in
          Every-with_children MayHave p new_kids (MayHave-kept (with_children p new_kids) refl) (rooted t.nodes) (omega (arith, p_once))
          (parent_may_have p new_kids (find p (rooted t.nodes)) parent)
          (Every-insert MayHave place new kids grown (Every-children MayHave (find p (rooted t.nodes)) (Every-find MayHave p (rooted t.nodes) root)))
          root

      named_first : (f : Forest) → AreOrdinary f → AtFirst Named f
      named_first empty h = tt
      named_first (node n c ks ls) h = h.0

      all_ordinary : AreOrdinary placed
      all_ordinary =
          elim (same_cases p 0) [
            | inl q ↦ rw q.2 (Every-insert Named place new t.nodes ordinary tree.ordinary)
            | inr q ↦
                let found_p : AreOrdinary (find p t.nodes) = Every-find Named p t.nodes tree.ordinary in
                let found_kids : AreOrdinary kids = Every-children Named (find p (rooted t.nodes)) (subst AreOrdinary (sym (find-rooted p t.nodes q.0)) found_p) in
                rw q.2
                (Every-with_children Named p new_kids (λ c ks h. h) t.nodes (omega (arith, p_once)) (named_first (find p t.nodes) found_p)
                (Every-insert Named place new kids ordinary found_kids) tree.ordinary)
          ]

-- ---- trees without some nodes

module _ (t : Tree) (tree : IsTree t) where
  node_once : (k : ℕ) → count k t.nodes ≤ 1
  node_once k = omega (arith, tree.once k)

  pub IsTree-pruned : (gone : ℕ → Bool) → IsTree (record { nodes = pruned gone t.nodes; next = t.next })
  IsTree-pruned gone = record {
    once = λ k. omega (arith, count-pruned k gone t.nodes, tree.once k);
    below = λ k le. omega (arith, count-pruned k gone t.nodes, tree.below k le);
    grown = Every-pruned MayHave gone (MayHave-kept (pruned gone) refl) t.nodes tree.grown;
    ordinary = Every-pruned Named gone (λ c kids h. h) t.nodes tree.ordinary;
    few = omega (arith, size-pruned gone t.nodes, tree.few);
    low = omega (arith, height-pruned gone t.nodes, tree.low);
  }

  pub IsTree-detached : (n : ℕ) → IsTree (detached n t)
  IsTree-detached n = record {
    once = λ k. omega (arith, count-without k n t.nodes (node_once n), tree.once k);
    below = λ k le. omega (arith, count-without k n t.nodes (node_once n), tree.below k le);
    grown = Every-without MayHave n (MayHave-kept (without n) refl) t.nodes tree.grown;
    ordinary = Every-without Named n (λ c kids h. h) t.nodes tree.ordinary;
    few = omega (arith, size-without n t.nodes (node_once n), tree.few);
    low = omega (arith, height-without n t.nodes, tree.low);
  }

  -- ---- trees with another content of a node

  pub IsTree-rewritten : (k : ℕ) (new : Content) → IsOrdinary new → AtFirst (λ c kids. MayHave new kids) (find k t.nodes) → IsTree (rewritten k new t)
  IsTree-rewritten k new ordinary fits = record {
    once = λ j. omega (arith, count-with_content j k new t.nodes, tree.once j);
    below = λ j le. omega (arith, count-with_content j k new t.nodes, tree.below j le);
    grown = Every-with_content MayHave k new (MayHave-kept (with_content k new) refl) t.nodes (node_once k) fits tree.grown;
    ordinary = Every-with_content Named k new (λ c kids h. h) t.nodes (node_once k) (at_first (λ c kids. IsOrdinary new) (λ c kids. ordinary) (find k t.nodes)) tree.ordinary;
    few = omega (arith, size-with_content k new t.nodes, tree.few);
    low = omega (arith, height-with_content k new t.nodes, tree.low);
  }

  pub IsTree-with_text : (k : ℕ) (bytes : List ℕ) → text_refused k t ≡ None → IsTree (with_text k bytes t)
  IsTree-with_text k bytes accepted =
      let parts = no_refusal (document_refused k) (text_among k (find k (rooted t.nodes))) accepted in
      let below : find k (rooted t.nodes) ≡ find k t.nodes = find-rooted k t.nodes (not_document k parts.0) in
      IsTree-rewritten k (text bytes) tt (of_text (find k t.nodes) (ap (text_among k) (sym below) ∙ parts.1) (Every-find MayHave k t.nodes tree.grown))
    where
      of_text : (f : Forest) → text_among k f ≡ None → IsGrown f → AtFirst (λ c kids. MayHave (text bytes) kids) f
      of_text empty h grown = tt
      of_text (node n document kids later) h grown = let no : Some (NotText k) ≡ None = h in cc
      of_text (node n (element name attrs) kids later) h grown = let no : Some (NotText k) ≡ None = h in cc
      of_text (node n (text old) kids later) h grown = grown.0
      of_text (node n (comment old) kids later) h grown = let no : Some (NotText k) ≡ None = h in cc

-- ---- trees where a node is moved

-- what is found outside a part that is taken out
pub find-without : (j k : ℕ) (f : Forest) → count k f ≤ 1 → count j (subtree k f) ≡ 0 → find j (without k f) ≡ without k (find j f)
find-without j k empty h out = refl
find-without j k (node n c kids later) h out =
    elim (same_cases k n) [
      | inl q ↦
          let o : count j (node n c kids empty) ≡ 0 = rw q.2 at out in
          elim (same_cases j n) [
            | inl r ↦ absurd (omega arith)
            | inr r ↦ rw (q.2, r.2, find-none j kids (omega arith)) (sym (without-none k (find j later) (omega (arith, count-find k j later))))
          ]
      | inr q ↦ elim (same_cases j n) [
        | inl r ↦ rw (q.2, r.2, q.2) refl
        | inr r ↦ elim (cases_eq (count k kids) 0) [
          | inl z ↦
              let o : count j (subtree k later) ≡ 0 = rw (q.2, find-none k kids z) at out in
              rw (q.2, r.2, without-none k kids z, find-without j k later (omega arith) o) (behind_first (find j kids) (find j later) (omega (arith, count-find k j kids)))
          | inr z ↦
              let o : count j (subtree k kids) ≡ 0 = rw (q.2, find-counted k kids (find k later) (omega arith)) at out in
              rw (q.2, r.2, without-none k later (omega arith), find-without j k kids (omega arith) o) (in_first o (omega arith) (omega arith))
        ]
      ]
    ]
  where
    behind_first : (a b : Forest) → count k a ≡ 0 → or_else a (without k b) ≡ without k (or_else a b)
    behind_first empty b z = refl
    behind_first (node m d ks ls) b z = sym (without-none k (node m d ks ls) z)

    in_first : count j (subtree k kids) ≡ 0 → 0 < count k kids → count k later ≡ 0 → or_else (without k (find j kids)) (find j later) ≡ without k (or_else (find j kids) (find j later))
    in_first o there z =
        elim (cases_eq (count j kids) 0) [
          | inl none ↦ rw (find-none j kids none) (sym (without-none k (find j later) (omega (arith, count-find k j later))))
          | inr some ↦
              let r = found j kids (omega arith) in
              let other : k ≡ j → ⊥ = λ e. omega (arith, o, ap (λ (i : ℕ). count i (subtree k kids)) e, count-subtree k kids there) in
              rw r.3 (rw (ne_eqb k j other) refl)
        ]

module _ (n p place : ℕ) (t : Tree) (tree : IsTree t) (accepted : relink_refused n p place t ≡ None) where
  abbrev pub part : Forest
  part = subtree n t.nodes

  -- the causes, none of which holds
  causes_1 : (detach_refused n t ≡ None) × (option_or (parent_refused p t) (option_or (into_itself n p t) (option_or (place_past place (children_of p (detached n t))) (too_deep (depth_in p 0 (rooted t.nodes)) (height part)))) ≡ None)
  causes_1 = no_refusal (detach_refused n t) _ accepted

  causes_2 : (parent_refused p t ≡ None) × (option_or (into_itself n p t) (option_or (place_past place (children_of p (detached n t))) (too_deep (depth_in p 0 (rooted t.nodes)) (height part))) ≡ None)
  causes_2 = no_refusal (parent_refused p t) _ causes_1.1

  causes_3 : (into_itself n p t ≡ None) × (option_or (place_past place (children_of p (detached n t))) (too_deep (depth_in p 0 (rooted t.nodes)) (height part)) ≡ None)
  causes_3 = no_refusal (into_itself n p t) _ causes_2.1

  causes_4 : (place_past place (children_of p (detached n t)) ≡ None) × (too_deep (depth_in p 0 (rooted t.nodes)) (height part) ≡ None)
  causes_4 = no_refusal (place_past place (children_of p (detached n t))) _ causes_3.1

  pub moved_there : 0 < count n t.nodes
  moved_there = node_there t n causes_1.0

  n_once : count n t.nodes ≤ 1
  n_once = omega (arith, tree.once n)

  -- the parent is not in the part
  pub parent_outside : count p part ≡ 0
  parent_outside =
      elim (cases_eq (count p part) 0) [
        | inl z ↦ z
        | inr z ↦ let no : Some (IntoItself n) ≡ None = rw (ne_eqb (count p part) 0 z) at causes_3.0 in cc
      ]

  -- so it is there without the part, with the same content and depth
  pub parent_stays : parent_refused p (detached n t) ≡ None
  parent_stays =
      elim (same_cases p 0) [
        | inl q ↦ rw q.2 refl
        | inr q ↦
            let there : 0 < count p t.nodes = omega (arith, parent_there t p causes_2.0) in
            let r = found p t.nodes there in
            let other : n ≡ p → ⊥ = λ e. omega (arith, parent_outside, ap (λ (i : ℕ). count i part) e, count-subtree n t.nodes moved_there) in
            let before : parent_among p (node p r.0 r.1 r.2) ≡ None = ap (parent_among p) (sym r.3 ∙ sym (find-rooted p t.nodes q.0)) ∙ causes_2.0 in
            let kept : find p (rooted (without n t.nodes)) ≡ without n (node p r.0 r.1 r.2) =
            find-rooted p (without n t.nodes) q.0 ∙ find-without p n t.nodes n_once parent_outside ∙ ap (without n) r.3 in
            ap (parent_among p) kept ∙ rw (ne_eqb n p other) (same_content r.0 r.1 r.2 (without n r.1) (without n r.2) before)
      ]
    where
      same_content : (c : Content) (ks ls ks' ls' : Forest) → parent_among p (node p c ks ls) ≡ None → parent_among p (node p c ks' ls') ≡ None
      same_content document ks ls ks' ls' h = refl
      same_content (element name attrs) ks ls ks' ls' h = refl
      same_content (text bytes) ks ls ks' ls' h = h
      same_content (comment bytes) ks ls ks' ls' h = h

  pub depth_stays : depth_in p 0 (rooted (without n t.nodes)) ≡ depth_in p 0 (rooted t.nodes)
  depth_stays =
      elim (same_cases p 0) [
        | inl q ↦ rw q.2 refl
        | inr q ↦ rw (q.2, depth_in-without p n 1 t.nodes n_once parent_outside) refl
      ]

  parent_depth : (e : ℕ) × (depth_in p 0 (rooted t.nodes) ≡ Some e)
  parent_depth = depth_in-some p 0 (rooted t.nodes) (parent_there t p causes_2.0)

  count-parts_of : (k : ℕ) → count k (without n t.nodes) + count k part ≡ count k t.nodes
  count-parts_of k = count-without k n t.nodes n_once

  -- a move keeps each number and the number of nodes, and gives a tree
  pub count-moved : (k : ℕ) → count k (rooted (moved n p place t).nodes) ≡ count k (rooted t.nodes)
  count-moved k = omega (arith, count-placed (detached n t) (IsTree-detached t tree n) p place t.next (parent_depth.0) part parent_stays (depth_stays ∙ parent_depth.1) k, count-parts_of k)

  pub size-moved : size (moved n p place t).nodes ≡ size t.nodes
  size-moved =
      omega (arith, size-placed (detached n t) (IsTree-detached t tree n) p place t.next (parent_depth.0) part parent_stays (depth_stays ∙ parent_depth.1), size-without n t.nodes n_once)

  pub IsTree-moved : IsTree (moved n p place t)
  IsTree-moved =
      IsTree-placed (detached n t) (IsTree-detached t tree n) p place t.next (parent_depth.0) part parent_stays (depth_stays ∙ parent_depth.1)
      (Every-alone MayHave (find n t.nodes) (Every-find MayHave n t.nodes tree.grown))
      (Every-alone Named (find n t.nodes) (Every-find Named n t.nodes tree.ordinary))
      (λ k. omega (arith, count-parts_of k, tree.once k))
      (λ k le. omega (arith, count-parts_of k, tree.below k le))
      (omega (arith, size-without n t.nodes n_once, tree.few))
      (shallow parent_depth.0 (height part) (ap (λ (o : Option ℕ). too_deep o (height part)) (sym parent_depth.1) ∙ causes_4.1))
