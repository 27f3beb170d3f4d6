-- The name and the attributes of an element, as its node shows them.
use Rattle.std.proofs.Common.{◌≡◌, ℕ, ◌<◌, Bool, true, List, [], Option, Some, None, length, get_or, sym, ◌∙◌, ap}
use Rattle.std.proofs.lemmas.List.Folds.{list_any_at}
use Rattle.std.specs.List.{list_any}
use Rattle.std.specs.Prelude.{option_map, unwrap_or}
use Rattle.page_tree.specs.Forest.{Content, Tree, rooted, find, content, name_of, attrs_of, value_at}
use Rattle.page_tree.specs.Standings.{name, attrs}
use Rattle.page_tree.specs.Facts.{attr}
use Rattle.page_tree.specs.Trees.{IsTree}
use Rattle.page_tree.proofs.Elements.{name-rooted, attrs-rooted}

module _ (t : Tree) (tree : IsTree t) (x : ℕ) where
  pub name_none : None ≡ content (find x (rooted t.nodes)) → [] ≡ name t x
  name_none h = ap (λ (o : Option Content). unwrap_or (option_map name_of o) []) h ∙ sym (name-rooted t tree x)

  pub name_some : (c : Content) (bytes : List ℕ) → Some c ≡ content (find x (rooted t.nodes)) → bytes ≡ name_of c → bytes ≡ name t x
  name_some c bytes h e = e ∙ ap (λ (o : Option Content). unwrap_or (option_map name_of o) []) h ∙ sym (name-rooted t tree x)

  pub attrs_none : None ≡ content (find x (rooted t.nodes)) → [] ≡ attrs t x
  attrs_none h = ap (λ (o : Option Content). unwrap_or (option_map attrs_of o) []) h ∙ sym (attrs-rooted t tree x)

  pub attrs_some : (c : Content) → Some c ≡ content (find x (rooted t.nodes)) → attrs_of c ≡ attrs t x
  attrs_some c h = ap (λ (o : Option Content). unwrap_or (option_map attrs_of o) []) h ∙ sym (attrs-rooted t tree x)

  pub attr_none : None ≡ content (find x (rooted t.nodes)) → (key : List ℕ) → attr t key x ≡ None
  attr_none h key = ap (value_at key) (sym (attrs_none h))

  pub attr_some : (c : Content) → Some c ≡ content (find x (rooted t.nodes)) → (key : List ℕ) → value_at key (attrs_of c) ≡ attr t key x
  attr_some c h key = ap (value_at key) (attrs_some c h)

-- an attribute that passes settles it
pub attr_found : (p : List ℕ × List ℕ → Bool) (items whole : List (List ℕ × List ℕ)) (i : ℕ) (a : List ℕ × List ℕ) → items ≡ whole → i < length items → a ≡ get_or items i a →
    p a ≡ true → true ≡ list_any p whole
attr_found p items whole i a same h is passes = sym (ap (list_any p) (sym same) ∙ list_any_at p items i a h (ap p (sym is) ∙ passes))
