-- What a change brings into the tree.
use Rattle.std.proofs.Common.{◌≡◌, ℕ, ◌+◌, ◌<◌, Bool, true, false, ◌&&◌, ◌==◌, not, List, [], ◌∷◌, Some, refl, sym, ap, ◌∙◌}
use Rattle.std.proofs.lemmas.Bool.{eqb-true, false≢true}
use Rattle.page_tree.specs.Forest.{Forest, empty, node, Tree, same, count, find, children, parent_in}
use Rattle.page_tree.specs.Edits.{alone}
use Rattle.page_tree.specs.Standings.{all}
use Rattle.page_tree.specs.Directions.{is_in}
use Rattle.selector_meaning.specs.Texts.{Bytes}
use Rattle.sensor_meaning.specs.declared.change.Change.{Change}
use Rattle.sensor_meaning.specs.declared.change.Change.TheVariants.{Attr as AttrOf, Chars, Came, Went, Moved, Path as PathOf}
use Rattle.sensor_meaning.specs.Changes.{IsChild, Becomes, IsWellFormed}
use Rattle.sensor_meaning.specs.Dirty.{brought}
use Rattle.sensor_laws.proofs.Any.{here}
use Rattle.sensor_laws.proofs.Events.{cut}
use Rattle.sensor_laws.proofs.PartFrames.{in_left}
use Rattle.sensor_laws.proofs.Completeness.{attr_frame, chars_frame, under}
use Rattle.sensor_laws.proofs.Tops.{numbered, nodes_once, goes_with, is_part, without_part, cut_one, parent_counted}
use Rattle.change_laws.specs.Laws.{NewIsBrought}

-- what was in neither and is in the one is in the part that was cut
gone_of : (g : Bool) → (not g && true) ≡ false → g ≡ true
gone_of true h = refl
gone_of false h = absurd (false≢true (sym h))

pub clash : {A : Type 0} (b : Bool) → b ≡ false → b ≡ true → A
clash b p q = absurd (false≢true (sym p ∙ q))

abbrev Whole : Change → Type 0
Whole change =
    (t u : Tree) (path route : Bytes) → IsWellFormed t → IsWellFormed u → Becomes change t path u route →
    (x : ℕ) → is_in (all t) x ≡ false → is_in (all u) x ≡ true → brought change u x ≡ true

attr_comes : (k : ℕ) (name : Bytes) → Whole (AttrOf k name)
attr_comes k name t u path route a b c x old new =
    clash (is_in (all u) x) (sym ((attr_frame k name t u path a c.1).stays x refl) ∙ old) new

chars_comes : (k : ℕ) → Whole (Chars k)
chars_comes k t u path route a b c x old new =
    clash (is_in (all u) x) (sym ((chars_frame k t u path a c.1).stays x refl) ∙ old) new

path_comes : Whole PathOf
path_comes t u path route a b c x old new = clash (is_in (all u) x) (ap (λ (w : Tree). is_in (all w) x) (sym c) ∙ old) new

came_comes : (p : ℕ) (tops : List ℕ) → Whole (Came p tops)
came_comes p tops t u path route a b c x old new =
    let gone = goes_with (is_in tops) u.nodes in
    let part = is_part (is_in tops) u b gone (λ x. refl) p (λ x h i. c.1 x h) in
    let is : cut t.next gone u ≡ t = ap (λ (f : Forest). record { nodes = f; next = t.next }) (sym (c.2 ∙ without_part (is_in tops) u b gone (λ x. refl))) in
    under (is_in tops) gone p u (numbered u b) part tops (λ x h. h) x new
    (gone_of (gone x)
    (ap (λ d. not (gone x) && d) (sym new) ∙ sym (in_left t.next (is_in tops) gone p u (numbered u b) part x) ∙ ap (λ (w : Tree). is_in (all w) x) is ∙ old))

abbrev pub only : ℕ → ℕ → Bool
only n k = k == n

pub one_child : (n p : ℕ) (t : Tree) → IsChild n p t → (x : ℕ) → only n x ≡ true → 0 < count x t.nodes → parent_in x 0 t.nodes ≡ Some p
one_child n p t held x h i = ap (λ (y : ℕ). parent_in y 0 t.nodes) (eqb-true x n h) ∙ held

pub off : (b : Bool) → (b && false) ≡ false
off true = refl
off false = refl

went_comes : (p : ℕ) → Whole (Went p)
went_comes p t u path route a b c x old new =
    let n = c.1.0 in
    let gone = goes_with (only n) t.nodes in
    let part = is_part (only n) t a gone (λ x. refl) p (one_child n p t c.1.1) in
    let is : cut u.next gone t ≡ u = ap (λ (f : Forest). record { nodes = f; next = u.next }) (sym (c.1.2 ∙ without_part (only n) t a gone (λ x. refl))) in
    clash (is_in (all u) x)
    (sym (ap (λ (w : Tree). is_in (all w) x) is) ∙ in_left u.next (only n) gone p t (numbered t a) part x ∙ ap (λ d. not (gone x) && d) old ∙ off (not (gone x))) new

alone_children : (f : Forest) → children (alone f) ≡ children f
alone_children empty = refl
alone_children (node n c kids later) = refl

moved_comes : (n p q : ℕ) → Whole (Moved n p q)
moved_comes n p q t u path route a b c x old new =
    let gone = goes_with (only n) t.nodes in
    let held_t = parent_counted n p 0 t.nodes c.1 in
    let held_u = parent_counted n q 0 u.nodes c.2 in
    let below : children (find n t.nodes) ≡ children (find n u.nodes) = sym (alone_children (find n t.nodes)) ∙ ap children c.3 ∙ alone_children (find n u.nodes) in
    let same_gone : (x : ℕ) → goes_with (only n) t.nodes x ≡ goes_with (only n) u.nodes x = λ x. ap (λ m. not (m == 0))
    (cut_one n x t.nodes (nodes_once t a) held_t ∙ ap (λ (f : Forest). same x n + count x f) below
    ∙ sym (cut_one n x u.nodes (nodes_once u b) held_u)) in
    let old_part = is_part (only n) t a gone (λ x. refl) p (one_child n p t c.1) in
    let new_part = is_part (only n) u b gone same_gone q (one_child n q u c.2) in
    let left : cut t.next gone t ≡ cut t.next gone u = ap (λ (f : Forest). record { nodes = f; next = t.next })
    (sym (without_part (only n) t a gone (λ x. refl)) ∙ c.4 ∙ without_part (only n) u b gone same_gone) in
    under (only n) gone q u (numbered u b) new_part (n ∷ []) (λ x h. ap (is_in (n ∷ [])) (eqb-true x n h) ∙ here n []) x new
    (gone_of (gone x)
    (ap (λ d. not (gone x) && d) (sym new) ∙ sym (in_left t.next (only n) gone q u (numbered u b) new_part x)
    ∙ ap (λ (w : Tree). is_in (all w) x) (sym left) ∙ in_left t.next (only n) gone p t (numbered t a) old_part x
    ∙ ap (λ d. not (gone x) && d) old ∙ off (not (gone x))))

pub new_is_brought : NewIsBrought
new_is_brought (AttrOf k name) t u path route a b c = attr_comes k name t u path route a b c
new_is_brought (Chars k) t u path route a b c = chars_comes k t u path route a b c
new_is_brought (Came p tops) t u path route a b c = came_comes p tops t u path route a b c
new_is_brought (Went p) t u path route a b c = went_comes p t u path route a b c
new_is_brought (Moved n p q) t u path route a b c = moved_comes n p q t u path route a b c
new_is_brought PathOf t u path route a b c = path_comes t u path route a b c
