-- Which numbers stand under which key.
use Rattle.std.specs.Prelude.{◌≡◌, ◌==◌, ◌&&◌, ◌||◌, ℕ, Bool, true, List, [], String, unwrap_or}
use Rattle.indexmap.specs.IndexMap.{IndexMap, get_by_text}
use Rattle.page_tree.specs.Forest.{Tree}
use Rattle.page_tree.specs.Directions.{is_in}
use Rattle.generic_tables.specs.declared.keys.Key.{Key}
use Rattle.generic_tables.specs.declared.keys.Key.TheVariants as key
use Rattle.generic_tables.specs.declared.filed.Filed.{Filed}
use Rattle.generic_tables.specs.Keys.{carries}

-- the numbers under a name
abbrev pub numbers_at : {A S : Type 0} → IndexMap (String A) (List ℕ) S → List ℕ → List ℕ
numbers_at named name = unwrap_or (get_by_text named name) []

-- the numbers under a key
abbrev pub holders : Filed → Key → List ℕ
holders filed (key.Class v) = numbers_at filed.classes v
holders filed (key.Id v) = numbers_at filed.ids v
holders filed (key.Name v) = numbers_at filed.names v
holders filed key.None = filed.unnamed

-- whether a number stands under a key
abbrev pub holds : Filed → Key → ℕ → Bool
holds filed k x = is_in (holders filed k) x

-- under each key stands what stood there
abbrev pub IsSame : Filed → Filed → Type 0
IsSame old new = (k : Key) (x : ℕ) → holds new k x ≡ holds old k x

-- nothing but an element under keys that it carries in this tree has come, and nothing has gone
pub record IsBetween (t : Tree) (n : ℕ) (old new : Filed) : Type 0 where
  pub kept : (k : Key) (x : ℕ) → holds old k x ≡ true → holds new k x ≡ true
  pub came : (k : Key) (x : ℕ) → holds new k x ≡ true → (holds old k x || (x == n && carries t k n)) ≡ true
