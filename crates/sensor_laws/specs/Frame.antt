-- The facts of a change that the laws of sensors use.
use Rattle.std.specs.Prelude.{◌≡◌, ℕ, Bool, true, false, ◌&&◌, ◌⊎◌, List, [], ◌∷◌}
use Rattle.page_tree.specs.Directions.{head_is, holders, is_in, numbers_of}
use Rattle.page_tree.specs.Facts.{attr, is_blank, text_content}
use Rattle.page_tree.specs.Forest.{Tree}
use Rattle.page_tree.specs.Standings.{above, after, all, attrs, before, inner, name}
use Rattle.selector_meaning.specs.Texts.{Bytes}
use Rattle.sensor_meaning.specs.declared.sensor.Observes.{Observes}
use Rattle.sensor_meaning.specs.declared.sensor.Observes.TheVariants.{AnyAttr, Attr, Children, Path, Text}

-- no number twice
abbrev pub IsDistinct : List ℕ → Type 0
IsDistinct [] = Unit {0}
IsDistinct (x ∷ xs) = (is_in xs x ≡ false) × IsDistinct xs

-- what each tree with distinct numbers_of, none of them 0, has
pub record IsSound (t : Tree) : Type 0 where
  pub lone : is_in (all t) 0 ≡ false
  -- what is above an element are elements, and behind the first one what is above that
  pub inside : (x z : ℕ) → is_in (above t x) z ≡ true → is_in (all t) z ≡ true
  pub climbs : (x z : ℕ) (more : List ℕ) → above t x ≡ z ∷ more → more ≡ above t z
  -- siblings stand below the same
  pub shared : (x z : ℕ) → is_in (numbers_of (before t z)) x ≡ true → (is_in (all t) x ≡ true) × (above t x ≡ above t z)

-- a page before and after a change: which numbers_of came, went or moved, what sees the change, and its places
pub record Event : Type 0 where
  pub old : Tree
  pub new : Tree
  pub old_path : Bytes
  pub new_path : Bytes
  pub moved : ℕ → Bool
  pub seen : Observes → Bool
  pub places : List ℕ

module _ (e : Event) where
  -- x is a place of a change that this sees
  unfoldable pub touched : Observes → ℕ → Bool
  touched o x = e.seen o && is_in e.places x

  -- the parent of x, the document included, is one
  pub record IsBelowPlace (x : ℕ) : Type 0 where
    pub holder : ℕ
    pub is_holder : head_is (holders e.new x) holder ≡ true
    pub is_place : touched Children holder ≡ true

  -- x is one, or is above one
  pub data IsNear (o : Observes) (x : ℕ) : Type 0 where
    at_place : touched o x ≡ true → IsNear o x
    above_place : (y : ℕ) → touched o y ≡ true → is_in (all e.new) y ≡ true → is_in (above e.new y) x ≡ true → IsNear o x

  -- all that the laws use of a change
  pub record Frame : Type 0 where
    pub sound_before : IsSound e.old
    pub sound_after : IsSound e.new
    -- an element that stays is in both
    pub stays : (x : ℕ) → e.moved x ≡ false → is_in (all e.old) x ≡ is_in (all e.new) x
    -- with the same above it, which stays too
    pub same_above : (x : ℕ) → e.moved x ≡ false → is_in (all e.old) x ≡ true → above e.old x ≡ above e.new x
    pub stays_above : (x z : ℕ) → e.moved x ≡ false → is_in (all e.old) x ≡ true → is_in (above e.old x) z ≡ true → e.moved z ≡ false
    -- and the same beside it, but for children of a place
    pub same_beside : (x : ℕ) → e.moved x ≡ false → is_in (all e.old) x ≡ true →
        ((before e.old x ≡ before e.new x) × (after e.old x ≡ after e.new x)) ⊎ IsBelowPlace x
    -- one with a moved sibling is a child of a place
    pub beside_before : (x z : ℕ) → e.moved x ≡ false → e.moved z ≡ true → is_in (all e.old) x ≡ true → is_in (all e.old) z ≡ true →
        (is_in (numbers_of (before e.old x)) z ≡ true) ⊎ (is_in (numbers_of (before e.old z)) x ≡ true) → IsBelowPlace x
    pub beside_after : (x z : ℕ) → e.moved x ≡ false → e.moved z ≡ true → is_in (all e.new) x ≡ true → is_in (all e.new) z ≡ true →
        (is_in (numbers_of (before e.new x)) z ≡ true) ⊎ (is_in (numbers_of (before e.new z)) x ≡ true) → IsBelowPlace x
    -- one with a moved child is a place
    pub child_before : (x z : ℕ) → e.moved x ≡ false → e.moved z ≡ true → is_in (all e.old) z ≡ true → head_is (above e.old z) x ≡ true → touched Children x ≡ true
    pub child_after : (x z : ℕ) → e.moved x ≡ false → e.moved z ≡ true → is_in (all e.new) z ≡ true → head_is (above e.new z) x ≡ true → touched Children x ≡ true
    -- one above a moved element is a place or above one
    pub below_before : (x z : ℕ) → e.moved x ≡ false → e.moved z ≡ true → is_in (all e.old) z ≡ true → is_in (above e.old z) x ≡ true → IsNear Children x
    pub below_after : (x z : ℕ) → e.moved x ≡ false → e.moved z ≡ true → is_in (all e.new) z ≡ true → is_in (above e.new z) x ≡ true → IsNear Children x
    -- nothing moves where no place has other children
    pub some_place : (z : ℕ) → e.moved z ≡ true → (p : ℕ) × (touched Children p ≡ true)
    -- what tests observe
    pub same_name : (x : ℕ) → e.moved x ≡ false → is_in (all e.old) x ≡ true → name e.old x ≡ name e.new x
    pub same_attr : (key : Bytes) (x : ℕ) → e.moved x ≡ false → is_in (all e.old) x ≡ true → touched (Attr key) x ≡ false → attr e.old key x ≡ attr e.new key x
    pub same_attrs : (x : ℕ) → e.moved x ≡ false → is_in (all e.old) x ≡ true → touched AnyAttr x ≡ false → attrs e.old x ≡ attrs e.new x
    pub same_blank : (x : ℕ) → e.moved x ≡ false → is_in (all e.old) x ≡ true → touched Text x ≡ false → is_blank (inner e.old x) ≡ is_blank (inner e.new x)
    pub same_text : (x : ℕ) → e.moved x ≡ false → is_in (all e.old) x ≡ true → (text_content e.old x ≡ text_content e.new x) ⊎ IsNear Text x
    pub same_path : touched Path 0 ≡ false → e.old_path ≡ e.new_path
