-- Keys of worked chains, and of a worked element.
use Rattle.std.specs.Prelude.{◌≡◌, ℕ, true, false, [], ◌∷◌, List, codes, refl}
use Rattle.selector_tree.specs.declared.selector.Step.{Step}
use Rattle.selector_tree.specs.declared.selector.Step.TheVariants as step
use Rattle.selector_tree.specs.declared.selector.Test.TheVariants as test
use Rattle.page_tree.specs.Forest.{element, empty, node, Tree}
use Rattle.page_tree.specs.Standings.{elements, standing}
use Rattle.generic_tables.specs.declared.keys.Key.TheVariants as key
use Rattle.generic_tables.specs.Keys.{key_of_chain, carries}
use Rattle.generic_tables.specs.Carried.{same_key, keys_at}

abbrev class : List ℕ → Step
class v = step.Keep (test.Class v)

-- `.a.b`: the first class
first_class : key_of_chain (class (codes "a") ∷ class (codes "b") ∷ []) ≡ key.Class (codes "a")
first_class = rw (step.outs-Keep (test.Class (codes "a")), step.outs-Keep (test.Class (codes "b")), test.outs-Class (codes "a"), test.outs-Class (codes "b")) refl

-- `p.b#c`: the id, though it comes last
id_first : key_of_chain (step.Keep (test.Tag (codes "p")) ∷ class (codes "b") ∷ step.Keep (test.Id (codes "c")) ∷ []) ≡ key.Id (codes "c")
id_first =
    rw (
      step.outs-Keep (test.Tag (codes "p")),
      step.outs-Keep (test.Class (codes "b")),
      step.outs-Keep (test.Id (codes "c")),
      test.outs-Tag (codes "p"),
      test.outs-Class (codes "b"),
      test.outs-Id (codes "c"),
    ) refl

-- `.a:upward(1)`: nothing behind the last move, so no key
none_before : key_of_chain (class (codes "a") ∷ step.Upward 1 ∷ []) ≡ key.None
none_before = rw (step.outs-Keep (test.Class (codes "a")), step.outs-Upward 1) refl

-- `.a:others()p`: the name behind it
name_behind : key_of_chain (class (codes "a") ∷ step.Others ∷ step.Keep (test.Tag (codes "p")) ∷ []) ≡ key.Name (codes "p")
name_behind =
    rw (step.outs-Keep (test.Class (codes "a")), step.outs-Others, step.outs-Keep (test.Tag (codes "p")), test.outs-Tag (codes "p")) refl

-- <p id="x" class=" a  A a"></p><i></i>
abbrev page : Tree
page = record {
  nodes =
      node 1 (element (codes "p") ((codes "id", codes "x") ∷ (codes "class", codes " a  A a") ∷ [])) empty
      (node 2 (element (codes "i") []) empty empty);
  next = 3;
}

-- each member of the class list, with its letter case, as often as it stands there
keys_of_p : keys_at page 1 ≡ key.None ∷ key.Name (codes "p") ∷ key.Id (codes "x") ∷ key.Class (codes "a") ∷ key.Class (codes "A") ∷ key.Class (codes "a") ∷ []
unfolding elements standing
keys_of_p = refl

keys_of_i : keys_at page 2 ≡ key.None ∷ key.Name (codes "i") ∷ []
unfolding elements standing
keys_of_i = refl

p_carries_A : carries page (key.Class (codes "A")) 1 ≡ true
unfolding elements standing
p_carries_A = refl

p_lacks_X : carries page (key.Id (codes "X")) 1 ≡ false
unfolding elements standing
p_lacks_X = refl

another_kind : same_key (key.Id (codes "a")) (key.Class (codes "a")) ≡ false
another_kind = refl
