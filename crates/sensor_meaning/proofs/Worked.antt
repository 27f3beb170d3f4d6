-- What is dirty after changes of small pages, by computing.
use Rattle.std.proofs.Common.{◌≡◌, ℕ, List, [], ◌∷◌, codes, refl}
use Rattle.selector_tree.specs.declared.selector.Place.TheVariants.{Child, Descendant, After}
use Rattle.selector_tree.specs.declared.selector.Step.{Step}
use Rattle.selector_tree.specs.declared.selector.Step.TheVariants.{Keep, Move, Upward, Others}
use Rattle.selector_tree.specs.declared.selector.Test.TheVariants as test
use Rattle.page_tree.specs.Forest.{element, Forest, empty, node, Tree}
use Rattle.page_tree.specs.Standings.{elements, standing}
use Rattle.sensor_meaning.specs.declared.change.Change.TheVariants.{Attr as AttrOf, Came, Went, Moved, Path as PathOf}
use Rattle.sensor_meaning.specs.Sensors.{sensors}
use Rattle.sensor_meaning.specs.Dirty.{dirty, comes, led, spread, hit}
use Rattle.sensor_meaning.proofs.Laws.{step-Keep, step-Move, step-Upward, step-Others, test-Class, test-Tag, test-Has, test-Not}

abbrev box : ℕ → List ℕ → List ℕ → Forest → Forest → Forest
box n name class kids later = node n (element name ((codes "class", class) ∷ [])) kids later

-- <div><p class="x"></p><p class="y w"></p></div>
abbrev row : Tree
row = record { nodes = box 1 (codes "div") [] (box 2 (codes "p") (codes "x") empty (box 3 (codes "p") (codes "y w") empty empty)) empty; next = 4 }

-- .x:has(~ .y:not(.z .w))
abbrev beside : List (List Step)
beside =
    (Keep (test.Class (codes "x"))
    ∷ Keep (test.Has ((Move After ∷ Keep (test.Class (codes "y"))
    ∷ Keep (test.Not ((Keep (test.Class (codes "z")) ∷ Move Descendant ∷ Keep (test.Class (codes "w")) ∷ []) ∷ [])) ∷ []) ∷ [])) ∷ []) ∷ []

-- the class of the div is another one: the div itself, and what stands before something below it
class_above : dirty (AttrOf 1 (codes "class")) row (sensors beside) ≡ 1 ∷ 2 ∷ []
unfolding elements standing comes led spread hit
class_above = rw (step-Keep, test-Class, step-Keep, test-Has, step-Move, step-Keep, test-Class, step-Keep, test-Not, step-Keep, test-Class, step-Move, step-Keep, test-Class) refl

-- no sensor observes the id
id_above : dirty (AttrOf 1 (codes "id")) row (sensors beside) ≡ []
unfolding elements standing comes led spread hit
id_above = rw (step-Keep, test-Class, step-Keep, test-Has, step-Move, step-Keep, test-Class, step-Keep, test-Not, step-Keep, test-Class, step-Move, step-Keep, test-Class) refl

-- <div><i></i></div><div><b><i></i></b></div>, the b moved from the first div, where it stood before the i
abbrev moved : Tree
moved = record { nodes = box 1 (codes "div") [] (box 2 (codes "i") [] empty empty) (box 3 (codes "div") [] (box 4 (codes "b") [] (box 5 (codes "i") [] empty empty) empty) empty); next = 6 }

-- `div:has(> b)` looks at both parents; what moved is dirty with all below it
move_of_a_child : dirty (Moved 4 1 3) moved (sensors ((Keep (test.Tag (codes "div")) ∷ Keep (test.Has ((Move Child ∷ Keep (test.Tag (codes "b")) ∷ []) ∷ [])) ∷ []) ∷ [])) ≡
    1 ∷ 3 ∷ 4 ∷ 5 ∷ []
unfolding elements standing comes led spread hit
move_of_a_child = rw (step-Keep, test-Tag, step-Keep, test-Has, step-Move, step-Keep, test-Tag) refl

-- the b with what is below it came under the second div: `b:upward(1)` looks at the place and at what is above it
came_below_upward : dirty (Came 3 (4 ∷ [])) moved (sensors ((Keep (test.Tag (codes "b")) ∷ Upward 1 ∷ []) ∷ [])) ≡ 3 ∷ 4 ∷ 5 ∷ []
unfolding elements standing comes led spread hit
came_below_upward = rw (step-Keep, test-Tag, step-Upward) refl

-- `.a:others()` looks everywhere
others_everywhere : dirty (AttrOf 2 (codes "class")) moved (sensors ((Keep (test.Class (codes "a")) ∷ Others ∷ []) ∷ [])) ≡ 1 ∷ 2 ∷ 3 ∷ 4 ∷ 5 ∷ []
unfolding elements standing comes led spread hit
others_everywhere = rw (step-Keep, test-Class, step-Others) refl

went_everywhere : dirty (Went 1) moved (sensors ((Keep (test.Tag (codes "a")) ∷ Others ∷ []) ∷ [])) ≡ 1 ∷ 2 ∷ 3 ∷ 4 ∷ 5 ∷ []
unfolding elements standing comes led spread hit
went_everywhere = rw (step-Keep, test-Tag, step-Others) refl

-- the path matters to no sensor here
other_path : dirty PathOf moved (sensors ((Keep (test.Tag (codes "a")) ∷ Others ∷ []) ∷ [])) ≡ []
unfolding elements standing comes led spread hit
other_path = rw (step-Keep, test-Tag, step-Others) refl
