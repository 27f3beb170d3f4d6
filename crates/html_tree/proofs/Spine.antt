-- The open elements stand on the way along the last nodes, so that "last child of its parent" is "behind the last of its depth".
use Rattle.std.proofs.Common.{◌≡◌, ℕ, zero, suc, ◌+◌, ◌≤◌, false, List, [], ◌∷◌, ◌++◌, length, take, refl, arith, zero-add, ap, sym, ◌∙◌}
use Rattle.std.proofs.lemmas.Bool.{ne_eqb, eq-eqb}
use Rattle.std.specs.Prelude.{◌==◌}
use Rattle.page_tree.specs.Forest.{Content, Forest, empty, node, Tree, rooted, same, count, size, tops, or_else, find, children}
use Rattle.page_tree.specs.Edits.{joined, insert_at, with_children, appended}
use Rattle.html_meaning.specs.Page.{OpenElement, innermost}
use Rattle.page_tree.specs.Fragments.{hung}

-- the elements are the nodes along the last ones, from the top down
abbrev pub OnSpine : List OpenElement → Forest → Type 0
OnSpine [] f = Unit {0}
OnSpine (o ∷ elements) empty = ⊥
OnSpine (o ∷ elements) (node n c kids empty) = (o.number ≡ n) × OnSpine elements kids
OnSpine (o ∷ elements) (node n c kids (node m d inner later)) = OnSpine (o ∷ elements) (node m d inner later)

pub insert_end : (new f : Forest) → insert_at (length (tops f)) new f ≡ joined f new
insert_end new empty = refl
insert_end new (node n c kids later) = ap (λ rest. node n c kids rest) (insert_end new later)

pub or_else_empty : (f : Forest) → or_else f empty ≡ f
or_else_empty empty = refl
or_else_empty (node n c kids later) = refl

pub same-other : (k n : ℕ) → same k n ≡ 0 → (k == n) ≡ false
same-other k n e = ne_eqb k n (λ s. absurd (let one : same k n ≡ 1 = rw (eq-eqb k n s) refl in omega (arith, e, one)))

pub find-none : (k : ℕ) (f : Forest) → count k f ≡ 0 → find k f ≡ empty
find-none k empty e = refl
find-none k (node n c kids later) e =
    let other : (k == n) ≡ false = same-other k n (omega (arith, e)) in
    let inner : find k kids ≡ empty = find-none k kids (omega (arith, e)) in
    rw (other, inner) (find-none k later (omega (arith, e)))

pub with_children-none : (k : ℕ) (g f : Forest) → count k f ≡ 0 → with_children k g f ≡ f
with_children-none k g empty e = refl
with_children-none k g (node n c kids later) e =
    let other : (k == n) ≡ false = same-other k n (omega (arith, e)) in
    rw (other, with_children-none k g kids (omega (arith, e)), with_children-none k g later (omega (arith, e))) refl

-- the last start of the way stands in the forest
pub spine_counts : (up : ℕ) (o : OpenElement) (elements : List OpenElement) (f : Forest) → OnSpine (o ∷ elements) f → 1 ≤ count (innermost up (o ∷ elements)) f
spine_counts up o elements empty s = absurd s
spine_counts up o [] (node n c kids empty) s =
    let one : same o.number n ≡ 1 = rw (eq-eqb o.number n s.0) refl in omega (arith, one)
spine_counts up o (p ∷ elements) (node n c kids empty) s = omega (arith, spine_counts o.number p elements kids s.1)
spine_counts up o elements (node n c kids (node m d inner later)) s = omega (arith, spine_counts up o elements (node m d inner later) s)

pub down : (k n : ℕ) (c : Content) (kids new : Forest) → (k == n) ≡ false
    → with_children k (joined (children (find k (node n c kids empty))) new) (node n c kids empty) ≡ node n c (with_children k (joined (children (find k kids)) new) kids) empty
down k n c kids new other =
    let found : find k (node n c kids empty) ≡ find k kids = rw other (or_else_empty (find k kids)) in
    ap (λ g. with_children k g (node n c kids empty)) (ap (λ x. joined (children x) new) found) ∙ rw other refl

pub along : (k n : ℕ) (c : Content) (kids later new : Forest) → (k == n) ≡ false → count k kids ≡ 0
    → with_children k (joined (children (find k (node n c kids later))) new) (node n c kids later) ≡ node n c kids (with_children k (joined (children (find k later)) new) later)
along k n c kids later new other none =
    let g = joined (children (find k (node n c kids later))) new in
    let found : find k (node n c kids later) ≡ find k later = rw (other, find-none k kids none) refl in
    ap (λ g. with_children k g (node n c kids later)) (ap (λ x. joined (children x) new) found)
    ∙ rw (other, with_children-none k (joined (children (find k later)) new) kids none) refl

pub hangs : (up : ℕ) (new : Forest) (o : OpenElement) (elements : List OpenElement) (f : Forest) → OnSpine (o ∷ elements) f → count (innermost up (o ∷ elements)) f ≤ 1
    → with_children (innermost up (o ∷ elements)) (joined (children (find (innermost up (o ∷ elements)) f)) new) f ≡ hung (suc (length elements)) new f
hangs up new o elements empty s h = absurd s
hangs up new o [] (node n c kids empty) s h = rw (eq-eqb o.number n s.0) refl
hangs up new o (p ∷ elements) (node n c kids empty) s h =
    let last = innermost o.number (p ∷ elements) in
    let other : (last == n) ≡ false = same-other last n (omega (arith, h, spine_counts o.number p elements kids s.1)) in
    down last n c kids new other ∙ ap (λ inner. node n c inner empty) (hangs o.number new p elements kids s.1 (omega (arith, h)))
hangs up new o elements (node n c kids (node m d inner later)) s h =
    let last = innermost up (o ∷ elements) in
    let one = spine_counts up o elements (node m d inner later) s in
    let other : (last == n) ≡ false = same-other last n (omega (arith, h, one)) in
    along last n c kids (node m d inner later) new other (omega (arith, h, one)) ∙ ap (λ rest. node n c kids rest) (hangs up new o elements (node m d inner later) s (omega (arith, h)))

-- the document stands before all elements
abbrev pub the_document : OpenElement
the_document = record { number = 0; name = [] }

-- "last child of its parent" is "behind the last of its depth"
pub added_last : (elements : List OpenElement) (new : Forest) (t : Tree) → OnSpine elements t.nodes → ((k : ℕ) → count k (rooted t.nodes) ≤ 1)
    → appended (innermost 0 elements) new t ≡ record { nodes = hung (length elements) new t.nodes; next = t.next + size new }
added_last elements new t s once =
    let last = innermost 0 elements in
    let whole = ap (λ g. with_children last g (rooted t.nodes)) (insert_end new (children (find last (rooted t.nodes)))) ∙ hangs 0 new the_document elements (rooted t.nodes) (refl, s) (once last) in
    ap (λ f. record { nodes = children f; next = t.next + size new }) whole

-- counts after a node is hung
pub count-joined : (k : ℕ) (f g : Forest) → count k (joined f g) ≡ count k f + count k g
count-joined k empty g = sym (zero-add (count k g))
count-joined k (node n c kids later) g = omega (arith, count-joined k later g)

pub count-hung : (k depth : ℕ) (new f : Forest) → count k (hung depth new f) ≡ count k f + count k new
count-hung k zero new f = count-joined k f new
count-hung k (suc depth) new empty = sym (zero-add (count k new))
count-hung k (suc depth) new (node n c kids empty) = omega (arith, count-hung k depth new kids)
count-hung k (suc depth) new (node n c kids (node m d inner later)) = omega (arith, count-hung k (suc depth) new (node m d inner later))

pub size-joined : (f g : Forest) → size (joined f g) ≡ size f + size g
size-joined empty g = sym (zero-add (size g))
size-joined (node n c kids later) g = omega (arith, size-joined later g)

pub size-hung : (depth : ℕ) (new f : Forest) → size (hung depth new f) ≡ size f + size new
size-hung zero new f = size-joined f new
size-hung (suc depth) new empty = sym (zero-add (size new))
size-hung (suc depth) new (node n c kids empty) = omega (arith, size-hung depth new kids)
size-hung (suc depth) new (node n c kids (node m d inner later)) = omega (arith, size-hung (suc depth) new (node m d inner later))

-- the way after a node is hung: what it was, and the node
pub spine-front : (n : ℕ) (elements : List OpenElement) (f : Forest) → OnSpine elements f → OnSpine (take n elements) f
spine-front zero elements f s = tt
spine-front (suc n) [] f s = tt
spine-front (suc n) (o ∷ elements) empty s = absurd s
spine-front (suc n) (o ∷ elements) (node m c kids empty) s = (s.0, spine-front n elements kids s.1)
spine-front (suc n) (o ∷ elements) (node m c kids (node l d inner later)) s = spine-front (suc n) (o ∷ elements) (node l d inner later) s

-- each of them is a node
pub spine-few : (elements : List OpenElement) (f : Forest) → OnSpine elements f → length elements ≤ size f
spine-few [] f s = omega arith
spine-few (o ∷ elements) empty s = absurd s
spine-few (o ∷ elements) (node n c kids empty) s = omega (arith, spine-few elements kids s.1)
spine-few (o ∷ elements) (node n c kids (node m d inner later)) s = omega (arith, spine-few (o ∷ elements) (node m d inner later) s)

pub spine-joined : (o : OpenElement) (c : Content) (f : Forest) → OnSpine (o ∷ []) (joined f (node o.number c empty empty))
spine-joined o c empty = (refl, tt)
spine-joined o c (node n d kids empty) = (refl, tt)
spine-joined o c (node n d kids (node m e inner later)) = spine-joined o c (node m e inner later)

pub spine-under : (p : OpenElement) (elements : List OpenElement) (n : ℕ) (c : Content) (kids later : Forest) → OnSpine (p ∷ elements) later → OnSpine (p ∷ elements) (node n c kids later)
spine-under p elements n c kids empty s = absurd s
spine-under p elements n c kids (node m e inner later) s = s

pub spine-hung : (elements : List OpenElement) (o : OpenElement) (c : Content) (f : Forest) → OnSpine elements f → OnSpine (elements ++ o ∷ []) (hung (length elements) (node o.number c empty empty) f)
spine-hung [] o c f s = spine-joined o c f
spine-hung (p ∷ elements) o c empty s = absurd s
spine-hung (p ∷ elements) o c (node n d kids empty) s = (s.0, spine-hung elements o c kids s.1)
spine-hung (p ∷ elements) o c (node n d kids (node m e inner later)) s =
    spine-under p (elements ++ o ∷ []) n d kids (hung (suc (length elements)) (node o.number c empty empty) (node m e inner later)) (spine-hung (p ∷ elements) o c (node m e inner later) s)
