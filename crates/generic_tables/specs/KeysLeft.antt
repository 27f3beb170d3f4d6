-- The keys of an element that are still to come.
use Rattle.std.specs.Prelude.{Bool, true, false, List, [], ◌∷◌, ◌++◌, map}
use Rattle.std.specs.Option.{option_copied}
use Rattle.page_tree.specs.Words.{words}
use Rattle.generic_tables.specs.declared.keys.Key.{Key}
use Rattle.generic_tables.specs.declared.keys.Key.TheVariants as key
use Rattle.generic_tables.specs.declared.carried.ElementKeys.{ElementKeys}
use Rattle.generic_tables.specs.Carried.{key_if_any}

-- the key of nothing, unless it was given
abbrev pub any_key : Bool → List Key
any_key true = key.None ∷ []
any_key false = []

abbrev pub keys_left : ElementKeys → List Key
keys_left keys =
    any_key keys.any ++ key_if_any key.Name (option_copied keys.name) ++ key_if_any key.Id (option_copied keys.id)
    ++ map key.Class (words keys.classes.now)
