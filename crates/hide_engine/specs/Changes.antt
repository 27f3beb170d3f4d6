-- The change that a mutation is where it isn't refused, and what it makes dirty.
use Rattle.std.specs.Prelude.{◌≡◌, ℕ, Bool, true, false, ◌&&◌, ◌||◌, List, [], ◌∷◌, is_ok}
use Rattle.std.specs.List.{list_any}
use Rattle.std.specs.Str.{str_to_ascii_lowercase}
use Rattle.page_tree.specs.Forest.{Tree, tops}
use Rattle.page_tree.specs.Standings.{all}
use Rattle.page_tree.specs.Directions.{is_in}
use Rattle.page_tree.specs.Fragments.{fragment_nodes}
use Rattle.html_meaning.specs.Page.{fragment}
use Rattle.mutation_script.specs.declared.mutation.Mutation.{Mutation}
use Rattle.mutation_script.specs.declared.mutation.Mutation.TheVariants.{SetAttr, DropAttr, SetText, Insert, Delete, Relink, Path}
use Rattle.mutation_script.specs.Changes.{change}
use Rattle.procedural_ops.specs.Told.{selector_at}
use Rattle.sensor_meaning.specs.declared.change.Change.{Change}
use Rattle.sensor_meaning.specs.declared.change.Change.TheVariants.{Attr as AttrOf, Chars, Came, Went, Moved, Path as PathOf}
use Rattle.sensor_meaning.specs.Changes.{observes, parent_of}
use Rattle.sensor_meaning.specs.Dirty.{brought, dirty}
use Rattle.sensor_meaning.specs.Sensors.{sensors}
use Rattle.retest_laws.specs.Pending.{Pairs}
use Rattle.engine_meaning.specs.States.{State, mutated}

-- by the tree before the mutation
abbrev pub change_of : Mutation → Tree → Change
change_of (SetAttr n name value) t = AttrOf n (str_to_ascii_lowercase name)
change_of (DropAttr n name) t = AttrOf n (str_to_ascii_lowercase name)
change_of (SetText n text) t = Chars n
change_of (Insert parent place html) t = Came parent (tops (fragment_nodes t.next (fragment html)))
change_of (Delete n) t = Went (parent_of t n)
change_of (Relink n parent place) t = Moved n (parent_of t n) parent
change_of (Path path) t = PathOf

-- whether a mutation leaves the same elements in the same order
abbrev pub keeps_elements : Mutation → Bool
keeps_elements (SetAttr n name value) = true
keeps_elements (DropAttr n name) = true
keeps_elements (SetText n text) = true
keeps_elements (Insert parent place html) = false
keeps_elements (Delete n) = false
keeps_elements (Relink n parent place) = false
keeps_elements (Path path) = true

-- whether a change makes x dirty for the filter at a place, in the page just after the change
abbrev pub is_dirty : Change → State → Pairs
is_dirty change s f x = is_in (dirty change s.page.tree (sensors (selector_at s.filters f))) x

-- what a mutation makes dirty; nothing where it is refused
abbrev pub dirtied_by : Mutation → State → Pairs
dirtied_by mutation s f x =
    is_ok (change mutation s.page) && is_dirty (change_of mutation s.page.tree) (mutated mutation s) f x

-- what the deletions of some nodes make dirty, one after another, each in the page just after it
abbrev pub dirtied_without : List ℕ → State → Pairs
dirtied_without [] s f x = false
dirtied_without (n ∷ ns) s f x = dirtied_by (Delete n) s f x || dirtied_without ns (mutated (Delete n) s) f x

-- no filter has a sensor that observes a change, which brings and moves no element; `s` is the page just after it
pub record IsUnseen (change : Change) (s : State) : Type 0 where
  pub unobserved : (f : ℕ) → list_any (λ sensor. observes sensor.observes change) (sensors (selector_at s.filters f)) ≡ false
  pub brings_none : (x : ℕ) → is_in (all s.page.tree) x ≡ true → brought change s.page.tree x ≡ false
