-- Dependency completeness: whatever the kind of change, each element of both trees whose answer differs is dirty.
use Rattle.std.proofs.Common.{◌≡◌, ℕ, ◌+◌, ◌<◌, Bool, true, false, ◌&&◌, ◌||◌, ◌==◌, not, ◌⊎◌, inl, inr, List, [], ◌∷◌, ◌++◌, cond, Some, unwrap_or, refl, sym, ap, ap₂, subst, ◌∙◌, arith}
use Rattle.std.specs.Str.{bytes_eq}
use Rattle.std.specs.List.{list_any}
use Rattle.std.proofs.lemmas.Bool.{eqb-true, eq-eqb}
use Rattle.selector_tree.specs.declared.selector.Step.{Step}
use Rattle.page_tree.specs.Forest.{Content, document, element, text, comment, Forest, empty, node, Tree, same, count, content, find, children, parent_in, or_some, value_at}
use Rattle.page_tree.specs.Edits.{with_content, alone, subtree}
use Rattle.page_tree.specs.Standings.{all, above}
use Rattle.page_tree.specs.Directions.{is_in, head_is}
use Rattle.page_tree.proofs.Finding.{find-none}
use Rattle.page_tree.proofs.Parts.{parent_some}
use Rattle.selector_meaning.specs.Texts.{Bytes}
use Rattle.selector_meaning.specs.Meaning.{selects}
use Rattle.sensor_meaning.specs.declared.sensor.Observes.TheVariants.{Attr, AnyAttr, Text}
use Rattle.sensor_meaning.specs.declared.change.Change.{Change}
use Rattle.sensor_meaning.specs.declared.change.Change.TheVariants.{Attr as AttrOf, Chars, Came, Went, Moved, Path as PathOf}
use Rattle.sensor_meaning.specs.Sensors.{sensors}
use Rattle.sensor_meaning.specs.Changes.{parent_of, IsChild, SetsAttr, SetsText, Becomes, IsWellFormed}
use Rattle.sensor_meaning.specs.Dirty.{is_under, brought, dirty, is_reached}
use Rattle.sensor_meaning.specs.Nested.{is_outer}
use Rattle.sensor_laws.specs.Frame.{Frame, touched}
use Rattle.sensor_laws.specs.Laws.{Completeness}
use Rattle.sensor_laws.proofs.Any.{never_true, and-true, and_parts, or-left, or-right, here, no, both, is_in-filter}
use Rattle.sensor_laws.proofs.Relations.{cases}
use Rattle.sensor_laws.proofs.Events.{IsNumbered, IsPart, cut, event_of, part_event}
use Rattle.sensor_laws.proofs.Sound.{above_is, sound}
use Rattle.sensor_laws.proofs.Facts.{stands}
use Rattle.sensor_laws.proofs.Complete.{law}
use Rattle.sensor_laws.proofs.Rewritten.{redo, Fits, placed_in, rewritten_frame}
use Rattle.sensor_laws.proofs.PartFrames.{went_frame, came_frame, in_left, hangs_all}
use Rattle.sensor_laws.proofs.MovedFrame.{moved_frame}
use Rattle.sensor_laws.proofs.PathFrame.{path_frame}
use Rattle.sensor_laws.proofs.Tops.{numbered, nodes_once, goes_with, is_part, without_part, cut_one, parent_counted}

-- ---- one content becomes another one
parent-kept : (k j up : ℕ) (new : Content) (f : Forest) → parent_in k up (with_content j new f) ≡ parent_in k up f
parent-kept k j up new empty = refl
parent-kept k j up new (node n c kids later) =
    ap₂ (λ a b. cond (k == n) (Some up) (or_some a b)) (parent-kept k j n new kids) (parent-kept k j up new later)

there : (k : ℕ) (c : Content) (f : Forest) → content (find k f) ≡ Some c → 0 < count k f
there k c f h =
    elim (Rattle.std.proofs.lemmas.Bool.cases_eq (count k f) 0) [
      | inl z ↦ absurd (let none : Rattle.std.proofs.Common.None ≡ Some c = sym (ap content (find-none k f z)) ∙ h in cc)
      | inr z ↦ omega arith
    ]

module _ (k : ℕ) (name : Bytes) (t u : Tree) (path : Bytes) (tree : IsWellFormed t) (sets : SetsAttr k name t u) where
  fa : ℕ → List (Bytes × Bytes) → List (Bytes × Bytes)
  fa n given = cond (k == n) sets.after given

  pub attr_frame : Frame (event_of (AttrOf k name) (λ x. false) t path u path)
  unfolding fa touched
  attr_frame =
      let e = event_of (AttrOf k name) (λ x. false) t path u path in
      let ft : ℕ → Bytes → Bytes = λ n b. b in
      let z = there k (element sets.called sets.before) t.nodes sets.was in
      let r = parent_some k 0 t.nodes (nodes_once t tree) z in
      let own : (k == k) ≡ true = eq-eqb k k refl in
      let done = placed_in e fa ft 0 k (element sets.called sets.before) (element sets.called sets.after) r.0
      (ap (λ b. element sets.called (cond b sets.after sets.before)) (sym own))
      (λ h is. (
        λ key q. sets.others_stay key (key_stays key q) ∙ ap (λ b. value_at key (cond b sets.after sets.before)) (sym own),
        λ q. never_true (sym (any_stays q)),
      ))
      (λ n h c apart. others n h c (no (k == n) (λ is. apart (eqb-true k n is))))
      t.nodes 0 tree.ordinary (nodes_once t tree) z sets.was r.1 in
      rewritten_frame e fa ft 0 (numbered t tree) (sets.becomes ∙ done.0) done.1 (inr refl) (λ x. refl) refl
    where
      key_stays : (key : Bytes) → touched (event_of (AttrOf k name) (λ x. false) t path u path) (Attr key) k ≡ false → bytes_eq name key ≡ false
      key_stays key q = no (bytes_eq name key) (λ h. both _ (and-true (bytes_eq name key) (is_in (k ∷ []) k) h (here k [])) q)

      any_stays : touched (event_of (AttrOf k name) (λ x. false) t path u path) AnyAttr k ≡ false → true ≡ false
      any_stays q = sym (here k []) ∙ q

      others : (n h : ℕ) (c : Content) → (k == n) ≡ false → (redo fa (λ n b. b) n c ≡ c) × ((c ≡ document → ⊥) → Fits (event_of (AttrOf k name) (λ x. false) t path u path) fa (λ n b. b) 0 h n c)
      others n h document apart = (refl, λ o. absurd (o refl))
      others n h (element called given) apart = (
        ap (λ b. element called (cond b sets.after given)) apart,
        λ o. (λ key q. ap (λ b. value_at key (cond b sets.after given)) (sym apart), λ q. ap (λ b. cond b sets.after given) (sym apart)),
      )
      others n h (text b) apart = (refl, λ o. inl refl)
      others n h (comment b) apart = (refl, λ o. tt)

module _ (k : ℕ) (t u : Tree) (path : Bytes) (tree : IsWellFormed t) (sets : SetsText k t u) where
  ft : ℕ → Bytes → Bytes
  ft n b = cond (k == n) sets.after b

  pub chars_frame : Frame (event_of (Chars k) (λ x. false) t path u path)
  unfolding ft touched
  chars_frame =
      let e = event_of (Chars k) (λ x. false) t path u path in
      let fa : ℕ → List (Bytes × Bytes) → List (Bytes × Bytes) = λ n given. given in
      let z = there k (text sets.before) t.nodes sets.was in
      let r = parent_some k 0 t.nodes (nodes_once t tree) z in
      let own : (k == k) ≡ true = eq-eqb k k refl in
      let place : parent_of u k ≡ r.0 = ap (λ (f : Forest). unwrap_or (parent_in k 0 f) 0) sets.becomes
      ∙ ap (λ o. unwrap_or o 0) (parent-kept k k 0 (text sets.after) t.nodes ∙ r.1) in
      let done = placed_in e fa ft r.0 k (text sets.before) (text sets.after) r.0
      (ap (λ b. text (cond b sets.after sets.before)) (sym own))
      (λ h is. inr is)
      (λ n h c apart. others r.0 n h c (no (k == n) (λ is. apart (eqb-true k n is))))
      t.nodes 0 tree.ordinary (nodes_once t tree) z sets.was r.1 in
      rewritten_frame e fa ft r.0 (numbered t tree) (sets.becomes ∙ done.0) done.1 (inl (at_place r.0 place)) (λ x. refl) refl
    where
      at_place : (p : ℕ) → parent_of u k ≡ p → touched (event_of (Chars k) (λ x. false) t path u path) Text p ≡ true
      at_place p is = ap (λ q. is_in (q ∷ []) p) is ∙ here p []

      others : (p n h : ℕ) (c : Content) → (k == n) ≡ false → (redo (λ n given. given) ft n c ≡ c) × ((c ≡ document → ⊥) → Fits (event_of (Chars k) (λ x. false) t path u path) (λ n given. given) ft p h n c)
      others p n h document apart = (refl, λ o. absurd (o refl))
      others p n h (element called given) apart = (refl, λ o. (λ key q. refl, λ q. refl))
      others p n h (text b) apart = (ap (λ w. text (cond w sets.after b)) apart, λ o. inl (ap (λ w. cond w sets.after b) apart))
      others p n h (comment b) apart = (refl, λ o. tt)

-- ---- what came or moved stands under its tops
module _ (top gone : ℕ → Bool) (p : ℕ) (u : Tree) (tree : IsNumbered u) (part : IsPart top gone p u) (tops : List ℕ) (named : (x : ℕ) → top x ≡ true → is_in tops x ≡ true) where
  hangs_at : (x : ℕ) → is_in (all u) x ≡ true → gone x ≡ true → (is_in tops x ≡ true) ⊎ ((y : ℕ) × (more : List ℕ) × (above u x ≡ y ∷ more) × (gone y ≡ true))
  hangs_at x h g =
      let s = stands u tree.distinct tree.lone x h in
      elim (hangs_all 0 top gone p u tree part s.0 s.1 (ap gone s.2 ∙ g)) [
        | inl at ↦ inl (named x (ap top (sym s.2) ∙ at.1))
        | inr y ↦ inr (y.0, y.1, above_is u tree.distinct tree.lone x s.0 s.1 s.2 ∙ y.2, y.3)
      ]

  under_from : (l : List ℕ) (x : ℕ) → above u x ≡ l → is_in (all u) x ≡ true → gone x ≡ true → list_any (λ y. is_in tops y) (x ∷ l) ≡ true
  under_from [] x is h g = elim (hangs_at x h g) [
    | inl at ↦ or-left (is_in tops x) false at
    | inr y ↦ never_true (ap (λ k. is_in k y.0) (sym is ∙ y.2) ∙ here y.0 y.1)
  ]
  under_from (z ∷ l) x is h g = elim (hangs_at x h g) [
    | inl at ↦ or-left (is_in tops x) (list_any (λ y. is_in tops y) (z ∷ l)) at
    | inr y ↦ (
        let z_y : z ≡ y.0 = eqb-true z y.0 (ap (λ k. head_is k y.0) (sym is ∙ y.2) ∙ eq-eqb y.0 y.0 refl) in
        let tidy = sound u tree.distinct tree.lone in
        or-right (is_in tops x) (list_any (λ w. is_in tops w) (z ∷ l))
        (under_from l z (sym (tidy.climbs x z l is)) (tidy.inside x z (ap (λ k. is_in k z) is ∙ here z l)) (ap gone z_y ∙ y.3)))
  ]

  pub under : (x : ℕ) → is_in (all u) x ≡ true → gone x ≡ true → is_under tops u x ≡ true
  under x h g = under_from (above u x) x refl h g

module _ (found : Bytes → ℕ → Bytes → Bool) (l : List (List Step)) (proper : is_outer l ≡ true) where
  -- from the facts of a change, and that what moved is brought
  from_frame : (change : Change) (moved : ℕ → Bool) (t : Tree) (path : Bytes) (u : Tree) (route : Bytes) → Frame (event_of change moved t path u route) →
      ((x : ℕ) → is_in (all u) x ≡ true → moved x ≡ true → brought change u x ≡ true) →
      (x : ℕ) → is_in (all t) x ≡ true → is_in (all u) x ≡ true →
      (selects found t path l x ≡ selects found u route l x → ⊥) → is_in (dirty change u (sensors l)) x ≡ true
  from_frame change moved t path u route frame comes x old new differs =
      let reached : Bool = is_reached change u (sensors l) x in
      is_in-filter (λ y. is_reached change u (sensors l) y || brought change u y) x (all u)
      ∙ and-true _ _
      (cases (moved x)
      (λ m. or-right reached (brought change u x) (comes x new m))
      (λ m. cases reached
      (λ h. or-left reached (brought change u x) h)
      (λ q. absurd (differs (law (event_of change moved t path u route) frame found l proper x m old q)))))
      new

  abbrev Whole : Change → Type 0
  Whole change =
      (t u : Tree) (path route : Bytes) → IsWellFormed t → IsWellFormed u → Becomes change t path u route →
      (x : ℕ) → is_in (all t) x ≡ true → is_in (all u) x ≡ true →
      (selects found t path l x ≡ selects found u route l x → ⊥) → is_in (dirty change u (sensors l)) x ≡ true

  -- along equal paths
  along : (change : Change) (t u : Tree) (path route : Bytes) → path ≡ route → (moved : ℕ → Bool) → Frame (event_of change moved t path u path) →
      ((x : ℕ) → is_in (all u) x ≡ true → moved x ≡ true → brought change u x ≡ true) →
      (x : ℕ) → is_in (all t) x ≡ true → is_in (all u) x ≡ true →
      (selects found t path l x ≡ selects found u route l x → ⊥) → is_in (dirty change u (sensors l)) x ≡ true
  along change t u path route is moved frame comes =
      from_frame change moved t path u route (subst (λ (w : Bytes). Frame (event_of change moved t path u w)) is frame) comes

  came : (p : ℕ) (tops : List ℕ) → Whole (Came p tops)
  came p tops t u path route a b c =
      let gone = goes_with (is_in tops) u.nodes in
      let part = is_part (is_in tops) u b gone (λ x. refl) p (λ x h i. c.1 x h) in
      let is : cut t.next gone u ≡ t = ap (λ (f : Forest). record { nodes = f; next = t.next }) (sym (c.2 ∙ without_part (is_in tops) u b gone (λ x. refl))) in
      along (Came p tops) t u path route c.0 gone
      (subst (λ (w : Tree). Frame (part_event (Came p tops) gone p w u path)) is (came_frame t.next (is_in tops) gone p u (numbered u b) part (Came p tops) refl refl path))
      (under (is_in tops) gone p u (numbered u b) part tops (λ x h. h))

  abbrev only : ℕ → ℕ → Bool
  only n k = k == n

  one_child : (n p : ℕ) (t : Tree) → IsChild n p t → (x : ℕ) → only n x ≡ true → 0 < count x t.nodes → parent_in x 0 t.nodes ≡ Some p
  one_child n p t held x h i = ap (λ (y : ℕ). parent_in y 0 t.nodes) (eqb-true x n h) ∙ held

  went : (p : ℕ) → Whole (Went p)
  went p t u path route a b c =
      let n = c.1.0 in
      let gone = goes_with (only n) t.nodes in
      let part = is_part (only n) t a gone (λ x. refl) p (one_child n p t c.1.1) in
      let is : cut u.next gone t ≡ u = ap (λ (f : Forest). record { nodes = f; next = u.next }) (sym (c.1.2 ∙ without_part (only n) t a gone (λ x. refl))) in
      along (Went p) t u path route c.0 gone
      (subst (λ (w : Tree). Frame (part_event (Went p) gone p t w path)) is (went_frame u.next (only n) gone p t (numbered t a) part (Went p) refl refl path))
      (λ x h m. absurd (both (not (gone x))
      (and_parts (not (gone x)) (is_in (all t) x) (sym (in_left u.next (only n) gone p t (numbered t a) part x) ∙ ap (λ (w : Tree). is_in (all w) x) is ∙ h)).0 (ap not m)))

  alone_children : (f : Forest) → children (alone f) ≡ children f
  alone_children empty = refl
  alone_children (node n c kids later) = refl

  same_children : (n : ℕ) (f g : Forest) → subtree n f ≡ subtree n g → children (find n f) ≡ children (find n g)
  same_children n f g is = sym (alone_children (find n f)) ∙ ap children is ∙ alone_children (find n g)

  moves : (n p q : ℕ) → Whole (Moved n p q)
  moves n p q t u path route a b c =
      let gone = goes_with (only n) t.nodes in
      let held_t = parent_counted n p 0 t.nodes c.1 in
      let held_u = parent_counted n q 0 u.nodes c.2 in
      let same_gone : (x : ℕ) → goes_with (only n) t.nodes x ≡ goes_with (only n) u.nodes x = λ x. ap (λ m. not (m == 0))
      (cut_one n x t.nodes (nodes_once t a) held_t ∙ ap (λ (f : Forest). same x n + count x f) (same_children n t.nodes u.nodes c.3)
      ∙ sym (cut_one n x u.nodes (nodes_once u b) held_u)) in
      let old_part = is_part (only n) t a gone (λ x. refl) p (one_child n p t c.1) in
      let new_part = is_part (only n) u b gone same_gone q (one_child n q u c.2) in
      along (Moved n p q) t u path route c.0 gone
      (moved_frame n (only n) gone p q t u path (numbered t a) (numbered u b) old_part new_part
      (sym (without_part (only n) t a gone (λ x. refl)) ∙ c.4 ∙ without_part (only n) u b gone same_gone))
      (under (only n) gone q u (numbered u b) new_part (n ∷ []) (λ x h. ap (is_in (n ∷ [])) (eqb-true x n h) ∙ here n []))

  all_changes : (change : Change) → Whole change
  all_changes (AttrOf k key) t u path route a b c = along (AttrOf k key) t u path route c.0 (λ x. false) (attr_frame k key t u path a c.1) (λ x h m. never_true m)
  all_changes (Chars k) t u path route a b c = along (Chars k) t u path route c.0 (λ x. false) (chars_frame k t u path a c.1) (λ x h m. never_true m)
  all_changes (Came p tops) t u path route a b c = came p tops t u path route a b c
  all_changes (Went p) t u path route a b c = went p t u path route a b c
  all_changes (Moved n p q) t u path route a b c = moves n p q t u path route a b c
  all_changes PathOf t u path route a b c =
      subst (λ (w : Tree). (x : ℕ) → is_in (all t) x ≡ true → is_in (all w) x ≡ true →
      (selects found t path l x ≡ selects found w route l x → ⊥) → is_in (dirty PathOf w (sensors l)) x ≡ true) c
      (from_frame PathOf (λ x. false) t path t route (path_frame t (numbered t a) path route) (λ x h m. never_true m))

pub completeness : Completeness
completeness found l proper change t u path route a b c = all_changes found l proper change t u path route a b c
