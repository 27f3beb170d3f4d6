use Rattle.std.proofs.Common.{◌≡◌, ◌+◌, drop}
use Rattle.std.specs.Str.{str_to_ascii_lowercase}
use Rattle.page_tree.specs.Trees.{AreAttributes}
use Rattle.dom_arena.specs.Attributes.{place_of}
use Rattle.dom_arena.proofs.attrs.find_attr.Given as goal

abbrev pub invariant-loop-attr : goal.invariant-loop-attr
invariant-loop-attr l = record {
  rest : AreAttributes (drop l.attr-index l.attrs);
  counted : l.place ≡ l.attr-index;
  place : place_of (str_to_ascii_lowercase l.name) (drop l.attr-index l.attrs) + l.place ≡ place_of (str_to_ascii_lowercase l.name) l.attrs;
}
