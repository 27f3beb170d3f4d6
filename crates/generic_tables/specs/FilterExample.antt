-- Worked filters by their keys.
use Rattle.std.specs.Prelude.{◌≡◌, true, false, List, [], ◌∷◌, codes, refl}
use Rattle.selector_tree.specs.declared.filter.Action.TheVariants as action
use Rattle.selector_tree.specs.declared.filter.Filter.{Filter}
use Rattle.selector_tree.specs.declared.selector.Step.{Step}
use Rattle.selector_tree.specs.declared.selector.Step.TheVariants as step
use Rattle.selector_tree.specs.declared.selector.Test.TheVariants as test
use Rattle.generic_tables.specs.declared.keys.Key.TheVariants as key
use Rattle.generic_tables.specs.declared.filters.Entry.{Entry}
use Rattle.generic_tables.specs.FilterTables.{number_of, has_key, stands_at}

abbrev selecting : List (List Step) → Filter
selecting selector = record { list = 1; line = 1; selector = selector; action = action.Hide; canonical = [] }

abbrev class_a : List Step
class_a = step.Keep (test.Class (codes "a")) ∷ []

abbrev name_p : List Step
name_p = step.Keep (test.Tag (codes "p")) ∷ []

abbrev others : List Step
others = step.Others ∷ []

-- `p`, `.a, p` and `:others()`
abbrev filters : List Filter
filters = selecting (name_p ∷ []) ∷ selecting (class_a ∷ name_p ∷ []) ∷ selecting (others ∷ []) ∷ []

-- their entries, by rising numbers
abbrev entries : List Entry
entries =
    record { number = 0; filter = 2 } ∷ record { number = 8388859; filter = 1 }
    ∷ record { number = 25166485; filter = 0 } ∷ record { number = 25166485; filter = 1 } ∷ []

number_of_a : number_of (key.Class (codes "a")) ≡ 8388859
number_of_a = refl

number_of_p : number_of (key.Name (codes "p")) ≡ 25166485
number_of_p = refl

second_chain : has_key filters (key.Name (codes "p")) 1 ≡ true
second_chain = rw (step.outs-Keep (test.Class (codes "a")), step.outs-Keep (test.Tag (codes "p")), test.outs-Class (codes "a"), test.outs-Tag (codes "p")) refl

no_key : has_key filters key.None 2 ≡ true
no_key = rw (step.outs-Others) refl

other_filter : has_key filters (key.Class (codes "a")) 0 ≡ false
other_filter = rw (step.outs-Keep (test.Tag (codes "p")), test.outs-Tag (codes "p")) refl

stands : stands_at entries 25166485 1 ≡ true
stands = refl

stands_elsewhere : stands_at entries 8388859 0 ≡ false
stands_elsewhere = refl
