-- The elements in a part of the page's order, and those to which a combinator leads.
use Rattle.std.specs.Prelude.{ℕ, ◌==◌, cond, List, [], ◌∷◌, take, filter}
use Rattle.selector_tree.specs.declared.selector.Place.{Place}
use Rattle.selector_tree.specs.declared.selector.Place.TheVariants.{Child, Descendant, Next, After}
use Rattle.page_tree.specs.Forest.{Tree, rooted, numbers, find, children}
use Rattle.page_tree.specs.Standings.{siblings_of, all, after}
use Rattle.page_tree.specs.Directions.{is_in, numbers_of}
use Rattle.selector_match.specs.Asked.{below}

-- what stands behind k in a list
abbrev pub after_in : ℕ → List ℕ → List ℕ
after_in k [] = []
after_in k (n ∷ ns) = cond (k == n) ns (after_in k ns)

module _ (t : Tree) where
  -- all nodes in document order, the document first
  abbrev pub order : List ℕ
  order = numbers (rooted t.nodes)

  -- the elements behind k among some nodes
  abbrev pub elements_behind : List ℕ → ℕ → List ℕ
  elements_behind nodes k = filter (is_in (all t)) (after_in k nodes)

  -- the elements to which a combinator leads from x, in document order
  abbrev pub targets : Place → ℕ → List ℕ
  targets Child x = numbers_of (siblings_of (children (find x (rooted t.nodes))))
  targets Descendant x = elements_behind (below t x) x
  targets Next x = take 1 (numbers_of (after t x))
  targets After x = numbers_of (after t x)

  -- those of them behind z
  abbrev pub targets_behind : Place → ℕ → ℕ → List ℕ
  targets_behind Child x z = numbers_of (after t z)
  targets_behind Descendant x z = elements_behind (below t x) z
  targets_behind Next x z = []
  targets_behind After x z = numbers_of (after t z)

  -- where such an element is looked for
  abbrev pub among : Place → ℕ → List ℕ
  among Child x = all t
  among Descendant x = below t x
  among Next x = all t
  among After x = all t
