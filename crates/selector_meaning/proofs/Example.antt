-- A page and what selectors select on it, by computing.
use Rattle.std.proofs.Common.{◌≡◌, ℕ, List, [], ◌∷◌, filter, codes}
use Rattle.selector_tree.specs.declared.selector.Place.TheVariants.{Child}
use Rattle.selector_tree.specs.declared.selector.Step.{Step}
use Rattle.selector_tree.specs.declared.selector.Step.TheVariants.{Keep, Move, UpwardTo}
use Rattle.selector_tree.specs.declared.selector.Test.TheVariants.{Tag, Id, Class, Has}
use Rattle.page_tree.specs.Forest.{Tree, empty, node, element, text}
use Rattle.page_tree.specs.Standings.{all, elements, standing}
use Rattle.selector_meaning.specs.Meaning.{selects, never}
use Rattle.selector_meaning.specs.Hidden.{hidden}
use Rattle.selector_meaning.proofs.Laws.{step_of-Keep, step_of-Move, step_of-UpwardTo, holds-Class, holds-Id, holds-Tag, holds-Has}

-- <html><div class="x ad" id="a"><p>Hi</p></div><p class="ad"></p></html>
abbrev page : Tree
page = record {
  next = 6;
  nodes = node 1 (element (codes "html") []) (
      node 2 (element (codes "div") ((codes "class", codes "x ad") ∷ (codes "id", codes "a") ∷ [])) (
      node 3 (element (codes "p") []) (node 4 (text (codes "Hi")) empty empty) empty)
      (node 5 (element (codes "p") ((codes "class", codes "ad") ∷ [])) empty empty)) empty;
}

abbrev chosen : List (List Step) → List ℕ
chosen selector = filter (selects never page [] selector) (all page)

abbrev class_ad : List (List Step)
class_ad = (Keep (Class (codes "ad")) ∷ []) ∷ []

abbrev id_a : List (List Step)
id_a = (Keep (Id (codes "a")) ∷ []) ∷ []

-- .ad
class : chosen class_ad ≡ 2 ∷ 5 ∷ []
unfolding elements standing
class = rw (step_of-Keep, holds-Class)

-- #a
id : chosen id_a ≡ 2 ∷ []
unfolding elements standing
id = rw (step_of-Keep, holds-Id)

-- #a, .ad
list : chosen ((Keep (Id (codes "a")) ∷ []) ∷ (Keep (Class (codes "ad")) ∷ []) ∷ []) ≡ 2 ∷ 5 ∷ []
unfolding elements standing
list = rw (step_of-Keep, holds-Id, step_of-Keep, holds-Class)

-- .ad > p
child : chosen ((Keep (Class (codes "ad")) ∷ Move Child ∷ Keep (Tag (codes "p")) ∷ []) ∷ []) ≡ 3 ∷ []
unfolding elements standing
child = rw (step_of-Keep, step_of-Move, step_of-Keep, holds-Class, holds-Tag)

-- p:upward(:has(> p))
up : chosen ((Keep (Tag (codes "p")) ∷ UpwardTo ((Keep (Has ((Move Child ∷ Keep (Tag (codes "p")) ∷ []) ∷ [])) ∷ []) ∷ []) ∷ []) ∷ []) ≡ 1 ∷ 2 ∷ []
unfolding elements standing
up = rw (step_of-Keep, step_of-UpwardTo, step_of-Keep, holds-Has, step_of-Move, step_of-Keep, holds-Tag)

-- the element 2 is hidden by both selectors, and 5 by the second
hidden_by_two : hidden never page [] (id_a ∷ class_ad ∷ []) ≡ (2, 0 ∷ 1 ∷ []) ∷ (5, 1 ∷ []) ∷ []
unfolding elements standing
hidden_by_two = rw (step_of-Keep, holds-Id, step_of-Keep, holds-Class)
