-- Which refusal a change gives, by the slot of the node, and the error that is answered.
use Rattle.std.proofs.Common.{◌≡◌, ℕ, ◌<◌, ◌≤◌, true, false, List, Option, Some, None, Result, Err, MatchOption, refl, sym, ◌∙◌, ap}
use Rattle.std.specs.Prelude.{option_map}
use Rattle.std.specs.Option.{option_or}
use Rattle.std.proofs.lemmas.Bool.{lt-ltb, le-ltb, ne_eqb}
use Rattle.page_tree.specs.Forest.{document, element, text, comment, Forest, empty, node, rooted, find}
use Rattle.page_tree.specs.Refusals.{Refusal, NoSuchNode, NotElement, NotText, BadPlace, node_among, element_among, text_among, parent_among, document_refused, place_past}
use Rattle.page_tree.specs.Trees.{MayHave}
use Rattle.dom_arena.specs.declared.kinds.NewNode.{NewNode}
use Rattle.dom_arena.specs.declared.kinds.NewNode.TheVariants.{Element, Text, Comment}
use Rattle.dom_arena.specs.declared.kinds.Payload.TheVariants.{Free}
use Rattle.dom_arena.specs.declared.refusals.DomError.{DomError}
use Rattle.dom_arena.specs.declared.table.Slot.{Slot}
use Rattle.dom_arena.specs.Contents.{may_hold, holds_text, new_content}
use Rattle.dom_arena.specs.Slots.{slot_at, IsUsed}
use Rattle.dom_arena.specs.Linked.{Stands}
use Rattle.dom_arena.specs.Attributes.{is_element}
use Rattle.dom_arena.specs.Refusals.{error_of}
use Rattle.dom_arena.proofs.Links.{IsCell, nothing_found}
use Rattle.dom_arena.proofs.Family.{found_node}

-- ---- the first refusal, and its error

pub first_refused : (a b : Option Refusal) (e : DomError) → option_map error_of a ≡ Some e → option_map error_of (option_or a b) ≡ Some e
first_refused None b e h = cc
first_refused (Some r) b e h = h

pub then_refused : (a b : Option Refusal) (e : DomError) → a ≡ None → option_map error_of b ≡ Some e → option_map error_of (option_or a b) ≡ Some e
then_refused a b e none h = rw none h

pub not_refused : (a b : Option Refusal) → a ≡ None → b ≡ None → option_or a b ≡ None
not_refused a b ea eb = rw ea eb

-- an error is answered
pub answered : {T : Type 0} (P : Type 0) (o : Option Refusal) (e : DomError) (result : Result T DomError) → option_map error_of o ≡ Some e → result ≡ Err e → MatchOption o P (λ refusal. result ≡ Err (error_of refusal))
answered P None e result h r = cc
answered P (Some refusal) e result h r = let same : e ≡ error_of refusal = cc in r ∙ ap Err same

-- or none
pub accepted : {T : Type 0} (P : Type 0) (o : Option Refusal) (result : Result T DomError) → o ≡ None → P → MatchOption o P (λ refusal. result ≡ Err (error_of refusal))
accepted P o result e p = rw e p

-- a new node needs no children
pub childless : (new : NewNode) → MayHave (new_content new) empty
childless (Element name attrs) = tt
childless (Text bytes) = refl
childless (Comment bytes) = refl

module _ (s : ℕ → Slot) (n : ℕ) where
  -- a text or comment has no children
  not_parent : (g : Forest) → IsCell s n g → may_hold (s n).payload ≡ false → parent_among n g ≡ Some (NotElement n)
  not_parent empty h f = absurd h
  not_parent (node m document kids later) h f = let e : true ≡ false = ap may_hold (sym h.3) ∙ f in cc
  not_parent (node m (element name attrs) kids later) h f = let e : true ≡ false = ap may_hold (sym h.3) ∙ f in cc
  not_parent (node m (text bytes) kids later) h f = refl
  not_parent (node m (comment bytes) kids later) h f = refl

  -- the others may have some
  pub is_parent : (g : Forest) → IsCell s n g → may_hold (s n).payload ≡ true → parent_among n g ≡ None
  is_parent empty h t = absurd h
  is_parent (node m document kids later) h t = refl
  is_parent (node m (element name attrs) kids later) h t = refl
  is_parent (node m (text bytes) kids later) h t = let e : false ≡ true = ap may_hold (sym h.3) ∙ t in cc
  is_parent (node m (comment bytes) kids later) h t = let e : false ≡ true = ap may_hold (sym h.3) ∙ t in cc

  -- elements, and what is none
  not_element : (g : Forest) → IsCell s n g → is_element (s n).payload ≡ false → element_among n g ≡ Some (NotElement n)
  not_element empty h f = absurd h
  not_element (node m document kids later) h f = refl
  not_element (node m (element name attrs) kids later) h f = let e : true ≡ false = ap is_element (sym h.3) ∙ f in cc
  not_element (node m (text bytes) kids later) h f = refl
  not_element (node m (comment bytes) kids later) h f = refl

  element_there : (g : Forest) → IsCell s n g → is_element (s n).payload ≡ true → element_among n g ≡ None
  element_there empty h t = absurd h
  element_there (node m document kids later) h t = let e : false ≡ true = ap is_element (sym h.3) ∙ t in cc
  element_there (node m (element name attrs) kids later) h t = refl
  element_there (node m (text bytes) kids later) h t = let e : false ≡ true = ap is_element (sym h.3) ∙ t in cc
  element_there (node m (comment bytes) kids later) h t = let e : false ≡ true = ap is_element (sym h.3) ∙ t in cc

  -- texts, and what is none
  not_text : (g : Forest) → IsCell s n g → holds_text (s n).payload ≡ false → text_among n g ≡ Some (NotText n)
  not_text empty h f = absurd h
  not_text (node m document kids later) h f = refl
  not_text (node m (element name attrs) kids later) h f = refl
  not_text (node m (text bytes) kids later) h f = let e : true ≡ false = ap holds_text (sym h.3) ∙ f in cc
  not_text (node m (comment bytes) kids later) h f = refl

  text_there : (g : Forest) → IsCell s n g → holds_text (s n).payload ≡ true → text_among n g ≡ None
  text_there empty h t = absurd h
  text_there (node m document kids later) h t = let e : false ≡ true = ap holds_text (sym h.3) ∙ t in cc
  text_there (node m (element name attrs) kids later) h t = let e : false ≡ true = ap holds_text (sym h.3) ∙ t in cc
  text_there (node m (text bytes) kids later) h t = refl
  text_there (node m (comment bytes) kids later) h t = let e : false ≡ true = ap holds_text (sym h.3) ∙ t in cc

  -- any node
  node_there : (g : Forest) → IsCell s n g → node_among n g ≡ None
  node_there empty h = absurd h
  node_there (node m c kids later) h = refl

-- a place past so many children, and one among them
pub place_missing : (i children : ℕ) → children < i → place_past i children ≡ Some (BadPlace i)
place_missing i children lt = rw (lt-ltb children i lt) refl

pub place_there : (i children : ℕ) → i ≤ children → place_past i children ≡ None
place_there i children le = rw (le-ltb children i le) refl

-- the document apart, what was found decides
below_document : (n : ℕ) (a o : Option Refusal) → (n ≡ 0 → ⊥) → a ≡ o → option_or (document_refused n) a ≡ o
below_document n a o nz h = rw (ne_eqb n 0 nz) h

module _ (slots : List Slot) (f : Forest) (stands : Stands slots f) (n : ℕ) where
  -- parents
  pub no_parent : (slot_at slots n).payload ≡ Free → parent_among n (find n (rooted f)) ≡ Some (NoSuchNode n)
  no_parent h = ap (parent_among n) (nothing_found slots f stands n h)

  pub childless_parent : IsUsed slots n → may_hold (slot_at slots n).payload ≡ false → parent_among n (find n (rooted f)) ≡ Some (NotElement n)
  childless_parent used h = not_parent (slot_at slots) n (find n (rooted f)) (found_node slots f stands n used) h

  pub good_parent : IsUsed slots n → may_hold (slot_at slots n).payload ≡ true → parent_among n (find n (rooted f)) ≡ None
  good_parent used h = is_parent (slot_at slots) n (find n (rooted f)) (found_node slots f stands n used) h

  module _ (nz : n ≡ 0 → ⊥) where
    -- changes of attributes
    pub attrs_no_node : (slot_at slots n).payload ≡ Free → option_or (document_refused n) (element_among n (find n (rooted f))) ≡ Some (NoSuchNode n)
    attrs_no_node h = below_document n (element_among n (find n (rooted f))) (Some (NoSuchNode n)) nz (ap (element_among n) (nothing_found slots f stands n h))

    pub attrs_not_element : IsUsed slots n → is_element (slot_at slots n).payload ≡ false → option_or (document_refused n) (element_among n (find n (rooted f))) ≡ Some (NotElement n)
    attrs_not_element used h =
        below_document n (element_among n (find n (rooted f))) (Some (NotElement n)) nz (not_element (slot_at slots) n (find n (rooted f)) (found_node slots f stands n used) h)

    pub attrs_accepted : IsUsed slots n → is_element (slot_at slots n).payload ≡ true → option_or (document_refused n) (element_among n (find n (rooted f))) ≡ None
    attrs_accepted used h = below_document n (element_among n (find n (rooted f))) None nz (element_there (slot_at slots) n (find n (rooted f)) (found_node slots f stands n used) h)

    -- changes of texts
    pub text_no_node : (slot_at slots n).payload ≡ Free → option_or (document_refused n) (text_among n (find n (rooted f))) ≡ Some (NoSuchNode n)
    text_no_node h = below_document n (text_among n (find n (rooted f))) (Some (NoSuchNode n)) nz (ap (text_among n) (nothing_found slots f stands n h))

    pub text_not_text : IsUsed slots n → holds_text (slot_at slots n).payload ≡ false → option_or (document_refused n) (text_among n (find n (rooted f))) ≡ Some (NotText n)
    text_not_text used h =
        below_document n (text_among n (find n (rooted f))) (Some (NotText n)) nz (not_text (slot_at slots) n (find n (rooted f)) (found_node slots f stands n used) h)

    pub text_accepted : IsUsed slots n → holds_text (slot_at slots n).payload ≡ true → option_or (document_refused n) (text_among n (find n (rooted f))) ≡ None
    text_accepted used h = below_document n (text_among n (find n (rooted f))) None nz (text_there (slot_at slots) n (find n (rooted f)) (found_node slots f stands n used) h)

    -- nodes taken out
    pub detach_no_node : (slot_at slots n).payload ≡ Free → option_or (document_refused n) (node_among n (find n (rooted f))) ≡ Some (NoSuchNode n)
    detach_no_node h = below_document n (node_among n (find n (rooted f))) (Some (NoSuchNode n)) nz (ap (node_among n) (nothing_found slots f stands n h))

    pub detach_accepted : IsUsed slots n → option_or (document_refused n) (node_among n (find n (rooted f))) ≡ None
    detach_accepted used = below_document n (node_among n (find n (rooted f))) None nz (node_there (slot_at slots) n (find n (rooted f)) (found_node slots f stands n used))
