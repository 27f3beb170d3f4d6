-- The elements that stand under keys.
use Rattle.std.specs.Prelude.{◌≡◌, ℕ, Bool, false, List}
use Rattle.page_tree.specs.Forest.{Tree}
use Rattle.generic_tables.specs.declared.keys.Key.{Key}
use Rattle.generic_tables.specs.declared.tables.Tables.{Tables}
use Rattle.generic_tables.specs.Keys.{carries}
use Rattle.generic_tables.specs.Filed.{holders, holds}

-- the elements under a key
abbrev pub elements_under : Tables → Key → List ℕ
elements_under tables k = holders tables.filed k

-- whether an element stands under a key
abbrev pub stands_under : Tables → Key → ℕ → Bool
stands_under tables k x = holds tables.filed k x

-- the element stands under no key
abbrev pub IsAbsent : Tables → ℕ → Type 0
IsAbsent tables x = (k : Key) → stands_under tables k x ≡ false

-- the element stands under the keys that it carries in this tree, and no others
abbrev pub IsAsIn : Tree → Tables → ℕ → Type 0
IsAsIn t tables x = (k : Key) → stands_under tables k x ≡ carries t k x

-- under each key stand the elements that stood there
abbrev pub HasSame : Tables → Tables → Type 0
HasSame old new = (k : Key) (x : ℕ) → stands_under new k x ≡ stands_under old k x
