-- Where one step leads from a place, by what the walks find.
use Rattle.std.proofs.Common.{◌≡◌, ℕ, ◌<◌, Bool, true, false, not, ◌&&◌, ◌||◌, ◌==◌, ◌⊎◌, inl, inr, List, [], ◌∷◌, ◌++◌, Option, Some, None, option_map, unwrap_or, refl, sym, ap, ap₂, ◌∙◌, subst, append_assoc, arith}
use Rattle.std.proofs.lemmas.Bool.{eqb-true, eq-eqb, ne_eqb, both_ways, or_cases, or_right, and_from, and_parts, cases_eq}
use Rattle.page_tree.specs.Forest.{Forest, Tree, rooted, count, tops, first, find, children, later_of, parent_in}
use Rattle.page_tree.specs.Standings.{Standing, standing, all, before, after}
use Rattle.page_tree.specs.Directions.{is_in, head_is, numbers_of, holders, to_child, to_parent, to_next, to_previous}
use Rattle.page_tree.specs.Trees.{IsTree}
use Rattle.page_tree.proofs.Finding.{find-none, find-rooted}
use Rattle.page_tree.proofs.Elements.{seen_of, once-tree, room-tree, standing-find, seen_at}
use Rattle.page_tree.proofs.Around.{above-parent, element_counted}
use Rattle.page_tree.proofs.Parts.{siblings_from, from_first_child, inside, parent_some, tops_counted, tops_parent}
use Rattle.page_tree.proofs.Below.{once-kids}
use Rattle.page_tree.proofs.Sides.{next_side, previous_side}
use Rattle.selector_match.specs.Asked.{IsElement, sibling}
use Rattle.selector_match.proofs.SiblingLaws.{not_document, first_is, forth_step, some_same}
use Rattle.dependency_sets.specs.Reaching.{is_place, IsPlace, leads_to, with_number, Adds}
use Rattle.dependency_sets.proofs.Members.{never, same_by_iff, or_none, append_nil, is_in-with_number, begins-with_number}

module _ (t : Tree) where
  -- the children of a place, and those of them that are left, from one on
  abbrev pub kids : ℕ → Forest
  kids y = children (find y (rooted t.nodes))

  abbrev pub left : Option ℕ → ℕ → Bool
  left o x = is_in (tops (siblings_from o (rooted t.nodes))) x && is_in (all t) x

-- a walk over the children of y stands at a node: they are added up to there
pub record Walks (t : Tree) (y : ℕ) (old : List ℕ) (at : Option ℕ) (now : List ℕ) : Type 0 where
  pub same : (x : ℕ) → (is_in now x || left t at x) ≡ (is_in old x || (is_in (tops (kids t y)) x && is_in (all t) x))
  pub begins : (more : List ℕ) × (now ≡ old ++ more)
  pub there : first (siblings_from at (rooted t.nodes)) ≡ at

module _ (t : Tree) (tree : IsTree t) where
  -- a place is the document or an element
  pub place_cases : (x : ℕ) → IsPlace t x → (x ≡ 0) ⊎ IsElement t x
  place_cases x h = elim (or_cases (0 == x) (is_in (all t) x) h) [
    | inl e ↦ inl (sym (eqb-true 0 x e))
    | inr e ↦ inr e
  ]

  pub place_element : (x : ℕ) → IsElement t x → IsPlace t x
  place_element x h = or_right (0 == x) (is_in (all t) x) h

  pub element_place : (x : ℕ) → IsPlace t x → (x ≡ 0 → ⊥) → IsElement t x
  element_place x h n = elim (place_cases x h) [ inl z ↦ absurd (n z) | inr e ↦ e ]

  pub off_zero : (x : ℕ) → IsElement t x → not (x == 0) ≡ true
  off_zero x h = ap not (ne_eqb x 0 (not_document t tree x h))

  -- nothing stands around the document
  no_standing : standing t 0 ≡ None
  no_standing =
      let none : option_map seen_of (standing t 0) ≡ None =
      standing-find t (once-tree t tree) (room-tree t tree) 0 ∙ ap seen_at (find-none 0 t.nodes (omega (arith, tree.once 0))) in
      by (standing t 0) none
    where
      by : (o : Option Standing) → option_map seen_of o ≡ None → o ≡ None
      by None h = refl
      by (Some s) h = cc

  pub before_document : before t 0 ≡ []
  before_document = ap (λ o. unwrap_or (option_map (λ (s : Standing). s.before) o) []) no_standing

  -- ---- siblings

  module _ (y : ℕ) (here : IsElement t y) where
    -- x has y directly before it where it is the next one
    pub next_some : (m : ℕ) → after t y ≡ sibling t m ∷ after t m → (x : ℕ) → leads_to t to_next y x ≡ (m == x)
    next_some m e x =
        same_by_iff (leads_to t to_next y x) (m == x)
        (λ h.
        let p = and_parts (is_place t x) (head_is (numbers_of (before t x)) y) h in
        elim (place_cases x p.0) [
          | inl z ↦ never (sym (ap (λ (k : ℕ). head_is (numbers_of (before t k)) y) z ∙ ap (λ l. head_is (numbers_of l) y) before_document) ∙ p.1)
          | inr x_is ↦ elim (previous_side t tree x x_is) [
            | inl none ↦ never (sym (ap (λ l. head_is (numbers_of l) y) none) ∙ p.1)
            | inr r ↦
                let w : r.0 ≡ y = eqb-true r.0 y (sym (ap (λ l. head_is (numbers_of l) y) r.2) ∙ p.1) in
                let both : numbers_of (after t y) ≡ x ∷ numbers_of (after t x) = ap (λ (k : ℕ). numbers_of (after t k)) (sym w) ∙ ap numbers_of r.3 in
                let other : m ∷ numbers_of (after t m) ≡ x ∷ numbers_of (after t x) = sym (ap numbers_of e) ∙ both in
                eq-eqb m x (cc (other))
          ]
        ])
        (λ h.
        let same : m ≡ x = eqb-true m x h in
        elim (next_side t tree y here) [
          | inl none ↦ absurd (let no : [] ≡ sibling t m ∷ after t m = sym none ∙ e in cc)
          | inr r ↦
              let numbers : r.0 ∷ numbers_of (after t r.0) ≡ m ∷ numbers_of (after t m) = sym (ap numbers_of r.2) ∙ ap numbers_of e in
              let at : r.0 ≡ x = (let first : r.0 ≡ m = cc (numbers) in first ∙ same) in
              and_from (is_place t x) (head_is (numbers_of (before t x)) y) (place_element x (subst (λ (k : ℕ). IsElement t k) at r.1))
              (subst (λ (k : ℕ). head_is (numbers_of (before t k)) y ≡ true) at (ap (λ l. head_is (numbers_of l) y) r.3 ∙ eq-eqb y y refl))
        ])

    pub next_none : after t y ≡ [] → (x : ℕ) → leads_to t to_next y x ≡ false
    next_none e x =
        same_by_iff (leads_to t to_next y x) false
        (λ h.
        let p = and_parts (is_place t x) (head_is (numbers_of (before t x)) y) h in
        elim (place_cases x p.0) [
          | inl z ↦ never (sym (ap (λ (k : ℕ). head_is (numbers_of (before t k)) y) z ∙ ap (λ l. head_is (numbers_of l) y) before_document) ∙ p.1)
          | inr x_is ↦ elim (previous_side t tree x x_is) [
            | inl none ↦ never (sym (ap (λ l. head_is (numbers_of l) y) none) ∙ p.1)
            | inr r ↦
                let w : r.0 ≡ y = eqb-true r.0 y (sym (ap (λ l. head_is (numbers_of l) y) r.2) ∙ p.1) in
                let both : numbers_of (after t y) ≡ x ∷ numbers_of (after t x) = ap (λ (k : ℕ). numbers_of (after t k)) (sym w) ∙ ap numbers_of r.3 in
                absurd (let no : [] ≡ x ∷ numbers_of (after t x) = sym (ap numbers_of e) ∙ both in cc)
          ]
        ])
        (λ h. never h)

    pub previous_some : (m : ℕ) → IsElement t m → before t y ≡ sibling t m ∷ before t m → (x : ℕ) → leads_to t to_previous y x ≡ (m == x)
    previous_some m m_is e x =
        ap (λ l. is_place t x && head_is (numbers_of l) x) e
        ∙ same_by_iff (is_place t x && (m == x)) (m == x) (λ h. (and_parts (is_place t x) (m == x) h).1)
        (λ h. and_from (is_place t x) (m == x) (place_element x (subst (λ (k : ℕ). IsElement t k) (eqb-true m x h) m_is)) h)

  pub next_document : (x : ℕ) → leads_to t to_next 0 x ≡ false
  next_document x =
      same_by_iff (leads_to t to_next 0 x) false
      (λ h.
      let p = and_parts (is_place t x) (head_is (numbers_of (before t x)) 0) h in
      elim (place_cases x p.0) [
        | inl z ↦ never (sym (ap (λ (k : ℕ). head_is (numbers_of (before t k)) 0) z ∙ ap (λ l. head_is (numbers_of l) 0) before_document) ∙ p.1)
        | inr x_is ↦ elim (previous_side t tree x x_is) [
          | inl none ↦ never (sym (ap (λ l. head_is (numbers_of l) 0) none) ∙ p.1)
          | inr r ↦ absurd (not_document t tree r.0 r.1 (eqb-true r.0 0 (sym (ap (λ l. head_is (numbers_of l) 0) r.2) ∙ p.1)))
        ]
      ])
      (λ h. never h)

  and_none : (a : Bool) → (a && false) ≡ false
  and_none true = refl
  and_none false = refl

  pub previous_none : (y : ℕ) → before t y ≡ [] → (x : ℕ) → leads_to t to_previous y x ≡ false
  previous_none y e x = ap (λ l. is_place t x && head_is (numbers_of l) x) e ∙ and_none (is_place t x)

  -- ---- the parent

  pub parent_is : (y m : ℕ) → IsElement t y → IsPlace t m → (more : List ℕ) → holders t y ≡ m ∷ more → (x : ℕ) → leads_to t to_parent y x ≡ (m == x)
  parent_is y m here m_is more e x =
      ap₂ (λ b l. is_place t x && (b && head_is l x)) (off_zero y here) e
      ∙ same_by_iff (is_place t x && (m == x)) (m == x) (λ h. (and_parts (is_place t x) (m == x) h).1)
      (λ h. and_from (is_place t x) (m == x) (subst (λ (k : ℕ). IsPlace t k) (eqb-true m x h) m_is) h)

  pub parent_document : (x : ℕ) → leads_to t to_parent 0 x ≡ false
  parent_document x = and_none (is_place t x)

  -- ---- children

  own_kids : (y : ℕ) → (y ≡ 0 → ⊥) → kids t y ≡ children (find y t.nodes)
  own_kids y n = ap children (find-rooted y t.nodes n)

  -- the parent of an element stands first above it
  holder_is : (x p : ℕ) → IsElement t x → parent_in x 0 t.nodes ≡ Some p → (y : ℕ) → head_is (holders t x) y ≡ (p == y)
  holder_is x p here e y =
      let r = above-parent t tree x here in
      let same : r.0 ≡ p = some_same r.0 p (sym r.1 ∙ e) in
      elim r.2 [
        | inl top ↦ ap (λ l. head_is (l ++ 0 ∷ []) y) top.1 ∙ ap (λ (k : ℕ). k == y) (sym top.0 ∙ same)
        | inr low ↦ ap (λ l. head_is (l ++ 0 ∷ []) y) low.2 ∙ ap (λ (k : ℕ). k == y) same
      ]

  child_parent : (y x : ℕ) → IsPlace t y → is_in (tops (kids t y)) x ≡ true → parent_in x 0 t.nodes ≡ Some y
  child_parent y x place h =
      elim (cases_eq y 0) [
        | inl z ↦
            let top : is_in (tops t.nodes) x ≡ true = ap (λ (k : ℕ). is_in (tops (kids t k)) x) (sym z) ∙ h in
            tops_parent x 0 t.nodes (once-tree t tree) top ∙ ap Some (sym z)
        | inr n ↦
            let own = own_kids y n in
            let top : is_in (tops (children (find y t.nodes))) x ≡ true = ap (λ f. is_in (tops f) x) (sym own) ∙ h in
            let i = inside x y t.nodes (once-tree t tree) (tops_counted x (children (find y t.nodes)) top) in
            let there : 0 < count y t.nodes = element_counted t tree y (element_place y place n) in
            i.2 0 ∙ tops_parent x y (children (find y t.nodes)) (once-kids t.nodes (once-tree t tree) y there) top
      ]

  parent_child : (y x : ℕ) → IsElement t x → parent_in x 0 t.nodes ≡ Some y → is_in (tops (kids t y)) x ≡ true
  parent_child y x here e =
      let s = parent_some x 0 t.nodes (once-tree t tree) (element_counted t tree x here) in
      let same : s.0 ≡ y = some_same s.0 y (sym s.1 ∙ e) in
      elim s.2 [
        | inl root ↦ ap (λ (k : ℕ). is_in (tops (kids t k)) x) (sym same ∙ root.0) ∙ root.1
        | inr low ↦
            let n : s.0 ≡ 0 → ⊥ = λ z. omega (arith, low.0, tree.once 0, ap (λ (k : ℕ). count k t.nodes) z) in
            ap (λ (k : ℕ). is_in (tops (kids t k)) x) (sym same) ∙ ap (λ f. is_in (tops f) x) (own_kids s.0 n) ∙ low.1
      ]

  -- one step down leads to the children that are elements
  pub child_is : (y : ℕ) → IsPlace t y → (x : ℕ) → leads_to t to_child y x ≡ (is_in (tops (kids t y)) x && is_in (all t) x)
  child_is y place x =
      same_by_iff (leads_to t to_child y x) (is_in (tops (kids t y)) x && is_in (all t) x)
      (λ h.
      let p = and_parts (is_place t x) (not (x == 0) && head_is (holders t x) y) h in
      let q = and_parts (not (x == 0)) (head_is (holders t x) y) p.1 in
      let n : x ≡ 0 → ⊥ = λ z. both_ways (x == 0) (off (x == 0) q.0) (eq-eqb x 0 z) in
      let x_is : IsElement t x = element_place x p.0 n in
      let r = above-parent t tree x x_is in
      let same : r.0 ≡ y = eqb-true r.0 y (sym (holder_is x r.0 x_is r.1 y) ∙ q.1) in
      and_from (is_in (tops (kids t y)) x) (is_in (all t) x) (parent_child y x x_is (r.1 ∙ ap Some same)) x_is)
      (λ h.
      let p = and_parts (is_in (tops (kids t y)) x) (is_in (all t) x) h in
      and_from (is_place t x) (not (x == 0) && head_is (holders t x) y) (place_element x p.1)
      (and_from (not (x == 0)) (head_is (holders t x) y) (off_zero x p.1)
      (holder_is x y p.1 (child_parent y x place p.0) y ∙ eq-eqb y y refl)))
    where
      off : (a : Bool) → not a ≡ true → a ≡ false
      off true h = never h
      off false h = refl

  -- ---- the walk over the children

  pub walk_start : (y : ℕ) (o : Option ℕ) → o ≡ first (kids t y) → ((x : ℕ) → left t o x ≡ (is_in (tops (kids t y)) x && is_in (all t) x)) × (first (siblings_from o (rooted t.nodes)) ≡ o)
  walk_start y o e =
      let r = from_first_child y (rooted t.nodes) tree.once o e in
      (λ x. ap (λ f. is_in (tops f) x && is_in (all t) x) r, ap first r ∙ sym e)

  pub walk_step : (o next : Option ℕ) (n : ℕ) → o ≡ Some n → first (siblings_from o (rooted t.nodes)) ≡ o → next ≡ first (later_of (find n (rooted t.nodes))) →
      (x : ℕ) → left t o x ≡ (((n == x) || is_in (tops (siblings_from next (rooted t.nodes))) x) && is_in (all t) x)
  walk_step o next n e there on x =
      let found : siblings_from o (rooted t.nodes) ≡ find n (rooted t.nodes) = ap (λ p. siblings_from p (rooted t.nodes)) e in
      let s = first_is (find n (rooted t.nodes)) n (ap first (sym found) ∙ there ∙ e) in
      ap (λ f. is_in (tops f) x && is_in (all t) x) (found ∙ s.3)
      ∙ ap (λ f. ((n == x) || is_in (tops f) x) && is_in (all t) x) (ap later_of (sym s.3) ∙ sym (forth_step t tree n next on).0)

  shuffle : (f n s a : Bool) → (n ≡ true → a ≡ true) → ((f || n) || (s && a)) ≡ (f || ((n || s) && a))
  shuffle true n s a g = refl
  shuffle false true s a g = sym (g refl)
  shuffle false false s a g = refl

  skip : (f n s a : Bool) → (n ≡ true → a ≡ false) → (f || (s && a)) ≡ (f || ((n || s) && a))
  skip true n s a g = refl
  skip false true true a g = refl
  skip false true false a g = sym (g refl)
  skip false false s a g = refl

  module _ (o next : Option ℕ) (n : ℕ) (e : o ≡ Some n) (there : first (siblings_from o (rooted t.nodes)) ≡ o) (on : next ≡ first (later_of (find n (rooted t.nodes)))) where
    pub walk_here : is_in (all t) n ≡ true → (f : ℕ → Bool) (x : ℕ) → ((f x || (n == x)) || left t next x) ≡ (f x || left t o x)
    walk_here h f x =
        shuffle (f x) (n == x) (is_in (tops (siblings_from next (rooted t.nodes))) x) (is_in (all t) x) (λ q. ap (is_in (all t)) (sym (eqb-true n x q)) ∙ h)
        ∙ ap (λ b. f x || b) (sym (walk_step o next n e there on x))

    pub walk_past : is_in (all t) n ≡ false → (f : ℕ → Bool) (x : ℕ) → (f x || left t next x) ≡ (f x || left t o x)
    walk_past h f x =
        skip (f x) (n == x) (is_in (tops (siblings_from next (rooted t.nodes))) x) (is_in (all t) x) (λ q. ap (is_in (all t)) (sym (eqb-true n x q)) ∙ h)
        ∙ ap (λ b. f x || b) (sym (walk_step o next n e there on x))

  -- the walk begins, adds an element, passes another node, and ends
  pub walks_start : (y : ℕ) (old : List ℕ) (o : Option ℕ) → o ≡ first (kids t y) → Walks t y old o old
  walks_start y old o e =
      let s = walk_start y o e in
      record { same = λ x. ap (λ b. is_in old x || b) (s.0 x); begins = ([], append_nil old); there = s.1 }

  module _ (y n : ℕ) (old now : List ℕ) (o next : Option ℕ) (w : Walks t y old o now) (e : o ≡ Some n) (on : next ≡ first (later_of (find n (rooted t.nodes)))) where
    pub walks_here : is_in (all t) n ≡ true → Walks t y old next (with_number now n)
    walks_here h =
        let more = begins-with_number now n in
        record {
          same = λ x. ap (λ b. b || left t next x) (is_in-with_number now n x) ∙ walk_here o next n e w.there on h (is_in now) x ∙ w.same x;
          begins = (w.begins.0 ++ more.0, more.1 ∙ ap (λ l. l ++ more.0) w.begins.1 ∙ append_assoc old w.begins.0 more.0);
          there = (forth_step t tree n next on).1;
        }

    pub walks_past : is_in (all t) n ≡ false → Walks t y old next now
    walks_past h = record {
      same = λ x. walk_past o next n e w.there on h (is_in now) x ∙ w.same x;
      begins = w.begins;
      there = (forth_step t tree n next on).1;
    }

  pub walks_end : (y : ℕ) → IsPlace t y → (old now : List ℕ) → Walks t y old None now → Adds (leads_to t to_child y) old now
  walks_end y place old now w = record {
    members = λ x. sym (or_none (is_in now x)) ∙ w.same x ∙ ap (λ b. is_in old x || b) (sym (child_is y place x));
    begins = w.begins;
  }
