use Rattle.std.proofs.Common.{◌≡◌, ◌++◌, map, length}
use denote.Text.{Utf8}
use denote.Shadow.{shadow}
use Rattle.html_meaning.specs.Tokens.{attribute_pairs}
use Rattle.html_meaning.specs.Page.{firsts, element_attributes}
use Rattle.html_tree.specs.LaterNames.{names_in, as_read, AreLater}
use Rattle.html_tree.proofs.attributes.attrs_of.Given as goal

abbrev pub invariant-loop-found : goal.invariant-loop-found
invariant-loop-found l =
    record {
      text : shadow (Utf8 l.rest);
      later : AreLater l.later (names_in l.attrs);
      read : l.attrs ++ firsts (names_in l.attrs) (map as_read (attribute_pairs l.rest)) ≡ element_attributes l.text;
    }

abbrev pub decreases-loop-found : goal.decreases-loop-found
decreases-loop-found l = length l.rest
