-- Elements by their numbers: what stands around an element is what the finite map from numbers to nodes says of it.
use Rattle.std.proofs.Common.{◌≡◌, ℕ, ◌≤◌, ◌==◌, Bool, true, false, ◌&&◌, List, [], ◌∷◌, ◌++◌, map, filter, cond, Option, Some, None, refl, sym, ◌∙◌, ap, ap₂, inl, inr, arith}
use Rattle.std.specs.Prelude.{option_map, unwrap_or}
use Rattle.std.specs.List.{find as find_item}
use Rattle.std.specs.Option.{option_or}
use Rattle.std.proofs.lemmas.Bool.{cases_eq, eq-eqb, ne_eqb, cases_Bool, cond_both, both_ways}
use Rattle.std.proofs.lemmas.List.Folds.{find-append}
use Rattle.std.proofs.lemmas.List.{map-append, append-nil}
use Rattle.std.proofs.lemmas.List.Elements.{filter-append}
use Rattle.page_tree.specs.Forest.{Content, document, element, text, comment, Forest, empty, node, Tree, rooted, count, numbers, find, or_else, children, later_of, content, name_of, attrs_of}
use Rattle.page_tree.specs.Standings.{Sibling, Standing, siblings_of, standings, elements, standing, all, name, attrs, inner, after}
use Rattle.page_tree.specs.Directions.{is_in}
use Rattle.page_tree.specs.Trees.{Every, IsOrdinary, AreOrdinary, MayHave, IsGrown, IsTree}
use Rattle.page_tree.proofs.Members.{is_in-filter, filter-alike}
use Rattle.page_tree.proofs.Finding.{same_cases, or_else-empty, find-none, find-first, find-below, find-behind, find-rooted, numbers-counted, numbers-none}

-- whether a node is there and is an element
abbrev pub is_element : Option Content → Bool
is_element None = false
is_element (Some document) = false
is_element (Some (element called given)) = true
is_element (Some (text bytes)) = false
is_element (Some (comment bytes)) = false

-- only elements have nodes below them
abbrev pub HasRoom : Content → Forest → Type 0
HasRoom document kids = kids ≡ empty
HasRoom (element called given) kids = Unit {0}
HasRoom (text bytes) kids = kids ≡ empty
HasRoom (comment bytes) kids = kids ≡ empty

abbrev pub HaveRoom : Forest → Type 0
HaveRoom = Every HasRoom

has_room : (c : Content) (kids : Forest) → MayHave c kids → IsOrdinary c → HasRoom c kids
has_room document kids m o = absurd o
has_room (element called given) kids m o = tt
has_room (text bytes) kids m o = m
has_room (comment bytes) kids m o = m

pub have_room : (f : Forest) → IsGrown f → AreOrdinary f → HaveRoom f
have_room empty g o = tt
have_room (node n c kids later) g o = (has_room c kids g.0 o.0, have_room kids g.1 o.1, have_room later g.2 o.2)

-- what the finite map says of an element
pub record Seen : Type 0 where
  pub number : ℕ
  pub name : List ℕ
  pub attrs : List (List ℕ × List ℕ)
  pub after : List Sibling
  pub inner : Forest

-- the first node, if it is an element
abbrev pub seen_at : Forest → Option Seen
seen_at empty = None
seen_at (node n document kids later) = None
seen_at (node n (element called given) kids later) =
    Some (record { number = n; name = called; attrs = given; after = siblings_of later; inner = kids })
seen_at (node n (text bytes) kids later) = None
seen_at (node n (comment bytes) kids later) = None

-- an element, without what is above and before it
abbrev pub seen_of : Standing → Seen
seen_of e = record { number = e.number; name = e.name; attrs = e.attrs; after = e.after; inner = e.inner }

-- the element k among some
abbrev pub chosen : ℕ → List Standing → Option Standing
chosen k = find_item (λ e. e.number == k)

pub option_or-none : {A : Type 0} (o : Option A) → option_or o None ≡ o
option_or-none None = refl
option_or-none (Some e) = refl

pub chosen-append : (k : ℕ) (xs ys : List Standing) → chosen k (xs ++ ys) ≡ option_or (chosen k xs) (chosen k ys)
chosen-append k = find-append (λ e. e.number == k)

-- a number that doesn't stand in the forest has no element
pub chosen-none : (k : ℕ) (f : Forest) (above : List ℕ) (before : List Sibling) → count k f ≡ 0 → chosen k (standings above before f) ≡ None
chosen-none k empty above before h = refl
chosen-none k (node n document kids later) above before h = chosen-none k later above before (omega arith)
chosen-none k (node n (element called given) kids later) above before h =
    elim (same_cases k n) [
      | inl p ↦ absurd (omega arith)
      | inr p ↦
          let below = standings (n ∷ above) [] kids in
          let behind = standings above (record { number = n; name = called } ∷ before) later in
          rw (
            ne_eqb n k (λ e. p.0 (sym e)),
            chosen-append k below behind,
            chosen-none k kids (n ∷ above) [] (omega arith),
          ) (chosen-none k later above (record { number = n; name = called } ∷ before) (omega arith))
    ]
chosen-none k (node n (text bytes) kids later) above before h = chosen-none k later above before (omega arith)
chosen-none k (node n (comment bytes) kids later) above before h = chosen-none k later above before (omega arith)

-- a node that is no element: it has nothing below it
plain : (k n : ℕ) (c : Content) (kids later : Forest) → (o : Option Standing) → kids ≡ empty → seen_at (node n c kids later) ≡ None
    → count k (node n c kids later) ≤ 1 → (count k later ≡ 0 → o ≡ None) → option_map seen_of o ≡ seen_at (find k later)
    → option_map seen_of o ≡ seen_at (find k (node n c kids later))
plain k n c kids later o room no_element once none more =
    elim (same_cases k n) [
      | inl p ↦ rw p.2 (ap (option_map seen_of) (none (omega arith)) ∙ sym no_element)
      | inr p ↦ rw (p.2, room) more
    ]

-- the element k as the finite map has it
pub seen : (k : ℕ) (f : Forest) (above : List ℕ) (before : List Sibling) → HaveRoom f → count k f ≤ 1 → option_map seen_of (chosen k (standings above before f)) ≡ seen_at (find k f)
seen k empty above before room once = refl
seen k (node n document kids later) above before room once =
    plain k n document kids later (chosen k (standings above before later)) room.0 refl once (chosen-none k later above before) (seen k later above before room.2 (omega arith))
seen k (node n (element called given) kids later) above before room once =
    elim (same_cases k n) [
      | inl p ↦ rw (p.2, eq-eqb n k (sym p.0)) refl
      | inr p ↦
          let siblings : List Sibling = record { number = n; name = called } ∷ before in
          let below = standings (n ∷ above) [] kids in
          let behind = standings above siblings later in
          elim (cases_eq (count k kids) 0) [
            | inl z ↦ rw (
              ne_eqb n k (λ e. p.0 (sym e)),
              p.2,
              chosen-append k below behind,
              chosen-none k kids (n ∷ above) [] z,
              find-none k kids z,
            ) (seen k later above siblings room.2 (omega arith))
            | inr z ↦ rw (
              ne_eqb n k (λ e. p.0 (sym e)),
              p.2,
              chosen-append k below behind,
              chosen-none k later above siblings (omega arith),
              find-none k later (omega arith),
              option_or-none (chosen k below),
              or_else-empty (find k kids),
            ) (seen k kids (n ∷ above) [] room.1 (omega arith))
          ]
    ]
seen k (node n (text bytes) kids later) above before room once =
    plain k n (text bytes) kids later (chosen k (standings above before later)) room.0 refl once (chosen-none k later above before) (seen k later above before room.2 (omega arith))
seen k (node n (comment bytes) kids later) above before room once =
    plain k n (comment bytes) kids later (chosen k (standings above before later)) room.0 refl once (chosen-none k later above before) (seen k later above before room.2 (omega arith))

-- the numbers of the elements in document order
abbrev element_numbers : Forest → List ℕ
element_numbers empty = []
element_numbers (node n c kids later) =
    cond (is_element (Some c)) (n ∷ (element_numbers kids ++ element_numbers later)) (element_numbers kids ++ element_numbers later)

numbers_of_elements : (f : Forest) (above : List ℕ) (before : List Sibling) → HaveRoom f → map (λ e. e.number) (standings above before f) ≡ element_numbers f
numbers_of_elements empty above before room = refl
numbers_of_elements (node n document kids later) above before room = rw room.0 (numbers_of_elements later above before room.2)
numbers_of_elements (node n (element called given) kids later) above before room =
    let siblings : List Sibling = record { number = n; name = called } ∷ before in
    ap (λ ns. n ∷ ns) (
    map-append (λ (e : Standing). e.number) (standings (n ∷ above) [] kids) (standings above siblings later)
    ∙ ap₂ ◌++◌ (numbers_of_elements kids (n ∷ above) [] room.1) (numbers_of_elements later above siblings room.2)
    )
numbers_of_elements (node n (text bytes) kids later) above before room = rw room.0 (numbers_of_elements later above before room.2)
numbers_of_elements (node n (comment bytes) kids later) above before room = rw room.0 (numbers_of_elements later above before room.2)

-- whether the node of a number is an element
abbrev pub stands_as_element : Forest → ℕ → Bool
stands_as_element f k = is_element (content (find k f))

-- they are the numbers whose node is an element
elements-filter : (f : Forest) → ((k : ℕ) → count k f ≤ 1) → filter (stands_as_element f) (numbers f) ≡ element_numbers f
elements-filter empty once = refl
elements-filter (node n c kids later) once =
    let g : Forest = node n c kids later in
    let below : filter (stands_as_element g) (numbers kids) ≡ element_numbers kids =
    filter-alike (stands_as_element g) (stands_as_element kids) (numbers kids)
    (λ k i. ap (λ (h : Forest). is_element (content h)) (find-below k n c kids later (once k) (numbers-counted k kids i)))
    ∙ elements-filter kids (λ k. omega (arith, once k)) in
    let behind : filter (stands_as_element g) (numbers later) ≡ element_numbers later =
    filter-alike (stands_as_element g) (stands_as_element later) (numbers later)
    (λ k i. ap (λ (h : Forest). is_element (content h)) (find-behind k n c kids later (once k) (numbers-counted k later i)))
    ∙ elements-filter later (λ k. omega (arith, once k)) in
    ap₂ (λ b ns. cond b (n ∷ ns) ns)
    (ap (λ (h : Forest). is_element (content h)) (find-first n c kids later))
    (filter-append (stands_as_element g) (numbers kids) (numbers later) ∙ ap₂ ◌++◌ below behind)

-- what is found has the room that its forest has
room-or_else : (f g : Forest) → HaveRoom f → HaveRoom g → HaveRoom (or_else f g)
room-or_else empty g a b = b
room-or_else (node n c kids later) g a b = a

pub room-find : (k : ℕ) (f : Forest) → HaveRoom f → HaveRoom (find k f)
room-find k empty room = tt
room-find k (node n c kids later) room =
    cond_both (k == n) (node n c kids later) (or_else (find k kids) (find k later)) HaveRoom
    (λ _. room) (λ _. room-or_else (find k kids) (find k later) (room-find k kids room.1) (room-find k later room.2))

-- the parts of an element, from what is seen of it
part : {A : Type 0} (f : Standing → A) (g : Seen → A) → ((e : Standing) → f e ≡ g (seen_of e)) → (d : A) (o : Option Standing) →
    unwrap_or (option_map f o) d ≡ unwrap_or (option_map g (option_map seen_of o)) d
part f g same d None = refl
part f g same d (Some e) = same e

seen-name : (f : Forest) → unwrap_or (option_map (λ (s : Seen). s.name) (seen_at f)) [] ≡ unwrap_or (option_map name_of (content f)) []
seen-name empty = refl
seen-name (node n document kids later) = refl
seen-name (node n (element called given) kids later) = refl
seen-name (node n (text bytes) kids later) = refl
seen-name (node n (comment bytes) kids later) = refl

seen-attrs : (f : Forest) → unwrap_or (option_map (λ (s : Seen). s.attrs) (seen_at f)) [] ≡ unwrap_or (option_map attrs_of (content f)) []
seen-attrs empty = refl
seen-attrs (node n document kids later) = refl
seen-attrs (node n (element called given) kids later) = refl
seen-attrs (node n (text bytes) kids later) = refl
seen-attrs (node n (comment bytes) kids later) = refl

seen-inner : (f : Forest) → HaveRoom f → unwrap_or (option_map (λ (s : Seen). s.inner) (seen_at f)) empty ≡ children f
seen-inner empty room = refl
seen-inner (node n document kids later) room = sym room.0
seen-inner (node n (element called given) kids later) room = refl
seen-inner (node n (text bytes) kids later) room = sym room.0
seen-inner (node n (comment bytes) kids later) room = sym room.0

seen-after : (f : Forest) → is_element (content f) ≡ true → unwrap_or (option_map (λ (s : Seen). s.after) (seen_at f)) [] ≡ siblings_of (later_of f)
seen-after empty h = absurd (both_ways false refl h)
seen-after (node n document kids later) h = absurd (both_ways false refl h)
seen-after (node n (element called given) kids later) h = refl
seen-after (node n (text bytes) kids later) h = absurd (both_ways false refl h)
seen-after (node n (comment bytes) kids later) h = absurd (both_ways false refl h)

-- a tree whose numbers are distinct, and in which only elements have nodes below them
module _ (t : Tree) (once : (k : ℕ) → count k t.nodes ≤ 1) (room : HaveRoom t.nodes) where
  -- the elements in document order are the numbers in document order whose node is an element
  pub all-filter : all t ≡ filter (stands_as_element t.nodes) (numbers t.nodes)
  unfolding elements
  all-filter = numbers_of_elements t.nodes [] [] room ∙ sym (elements-filter t.nodes once)

  -- a number is an element's exactly where its node is an element
  pub is_in-all : (k : ℕ) → is_in (all t) k ≡ stands_as_element t.nodes k
  is_in-all k =
      ap (λ xs. is_in xs k) all-filter ∙ is_in-filter (stands_as_element t.nodes) (numbers t.nodes) k
      ∙ elim (cases_Bool (is_in (numbers t.nodes) k)) [
        | inl i ↦ ap (λ b. b && stands_as_element t.nodes k) i
        | inr i ↦ ap (λ b. b && stands_as_element t.nodes k) i
            ∙ ap (λ (f : Forest). is_element (content f)) (sym (find-none k t.nodes (numbers-none k t.nodes i)))
      ]

  -- what stands around an element is what the finite map says of it
  pub standing-find : (k : ℕ) → option_map seen_of (standing t k) ≡ seen_at (find k t.nodes)
  unfolding elements standing
  standing-find k = seen k t.nodes [] [] room (once k)

  -- the name is that of its node; what is no element has none
  pub name-find : (k : ℕ) → name t k ≡ unwrap_or (option_map name_of (content (find k t.nodes))) []
  name-find k =
      part (λ (e : Standing). e.name) (λ (s : Seen). s.name) (λ e. refl) [] (standing t k)
      ∙ ap (λ (o : Option Seen). unwrap_or (option_map (λ (s : Seen). s.name) o) []) (standing-find k) ∙ seen-name (find k t.nodes)

  -- the attributes are those of its node; what is no element has none
  pub attrs-find : (k : ℕ) → attrs t k ≡ unwrap_or (option_map attrs_of (content (find k t.nodes))) []
  attrs-find k =
      part (λ (e : Standing). e.attrs) (λ (s : Seen). s.attrs) (λ e. refl) [] (standing t k)
      ∙ ap (λ (o : Option Seen). unwrap_or (option_map (λ (s : Seen). s.attrs) o) []) (standing-find k) ∙ seen-attrs (find k t.nodes)

  -- what is below it are the children of its node with all below them
  pub inner-find : (k : ℕ) → inner t k ≡ children (find k t.nodes)
  inner-find k =
      part (λ (e : Standing). e.inner) (λ (s : Seen). s.inner) (λ e. refl) empty (standing t k)
      ∙ ap (λ (o : Option Seen). unwrap_or (option_map (λ (s : Seen). s.inner) o) empty) (standing-find k)
      ∙ seen-inner (find k t.nodes) (room-find k t.nodes room)

  -- the element siblings behind an element are the elements among its node's later siblings
  pub after-find : (k : ℕ) → stands_as_element t.nodes k ≡ true → after t k ≡ siblings_of (later_of (find k t.nodes))
  after-find k h =
      part (λ (e : Standing). e.after) (λ (s : Seen). s.after) (λ e. refl) [] (standing t k)
      ∙ ap (λ (o : Option Seen). unwrap_or (option_map (λ (s : Seen). s.after) o) []) (standing-find k) ∙ seen-after (find k t.nodes) h

-- a tree has both
pub once-tree : (t : Tree) → IsTree t → (k : ℕ) → count k t.nodes ≤ 1
once-tree t tree k = omega (arith, tree.once k)

pub room-tree : (t : Tree) → IsTree t → HaveRoom t.nodes
room-tree t tree = have_room t.nodes tree.grown tree.ordinary

-- the document is no element, and has its number for itself
no_document : (t : Tree) → IsTree t → count 0 t.nodes ≡ 0
no_document t tree = omega (arith, tree.once 0)

seen-rooted : (t : Tree) → IsTree t → (k : ℕ) → seen_at (find k (rooted t.nodes)) ≡ seen_at (find k t.nodes)
seen-rooted t tree k =
    elim (cases_eq k 0) [
      | inl e ↦ rw (e, find-none 0 t.nodes (no_document t tree)) refl
      | inr e ↦ ap seen_at (find-rooted k t.nodes e)
    ]

element-rooted : (t : Tree) → IsTree t → (k : ℕ) → stands_as_element (rooted t.nodes) k ≡ stands_as_element t.nodes k
element-rooted t tree k =
    elim (cases_eq k 0) [
      | inl e ↦ rw (e, find-none 0 t.nodes (no_document t tree)) refl
      | inr e ↦ ap (λ (f : Forest). is_element (content f)) (find-rooted k t.nodes e)
    ]

-- the same over the tree with its document
module _ (t : Tree) (tree : IsTree t) where
  pub all-rooted : all t ≡ filter (stands_as_element (rooted t.nodes)) (numbers (rooted t.nodes))
  all-rooted =
      all-filter t (once-tree t tree) (room-tree t tree)
      ∙ filter-alike (stands_as_element t.nodes) (stands_as_element (rooted t.nodes)) (numbers t.nodes) (λ k _. sym (element-rooted t tree k))
      ∙ ap (filter (stands_as_element (rooted t.nodes))) (sym (append-nil (numbers t.nodes)))

  pub is_in-all-rooted : (k : ℕ) → is_in (all t) k ≡ stands_as_element (rooted t.nodes) k
  is_in-all-rooted k = is_in-all t (once-tree t tree) (room-tree t tree) k ∙ sym (element-rooted t tree k)

  pub name-rooted : (k : ℕ) → name t k ≡ unwrap_or (option_map name_of (content (find k (rooted t.nodes)))) []
  name-rooted k =
      name-find t (once-tree t tree) (room-tree t tree) k ∙ sym (seen-name (find k t.nodes))
      ∙ ap (λ (o : Option Seen). unwrap_or (option_map (λ (s : Seen). s.name) o) []) (sym (seen-rooted t tree k)) ∙ seen-name (find k (rooted t.nodes))

  pub attrs-rooted : (k : ℕ) → attrs t k ≡ unwrap_or (option_map attrs_of (content (find k (rooted t.nodes)))) []
  attrs-rooted k =
      attrs-find t (once-tree t tree) (room-tree t tree) k ∙ sym (seen-attrs (find k t.nodes))
      ∙ ap (λ (o : Option Seen). unwrap_or (option_map (λ (s : Seen). s.attrs) o) []) (sym (seen-rooted t tree k)) ∙ seen-attrs (find k (rooted t.nodes))

  -- what is below a node other than the document
  pub inner-rooted : (k : ℕ) → (k ≡ 0 → ⊥) → inner t k ≡ children (find k (rooted t.nodes))
  inner-rooted k h = inner-find t (once-tree t tree) (room-tree t tree) k ∙ ap children (sym (find-rooted k t.nodes h))
