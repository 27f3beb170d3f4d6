-- The trees of small pages, computed, and each row of the tables of elements.
use Rattle.std.specs.Prelude.{◌≡◌, ℕ, List, [], ◌∷◌, codes, refl, true, false, map, length}
use lib.Utf8.{encode}
use Rattle.page_tree.specs.Forest.{element, text, comment, empty, node}
use Rattle.html_meaning.specs.Elements.{has_content, holds_raw_text, implied_ends, void_elements, self_closing_elements, paragraph_enders}
use Rattle.html_meaning.specs.Page.{page, fragment, nodes_of, PageNode, element_attributes}

-- the numbers of the parents of a page's nodes, in order
abbrev parents : List ℕ → List ℕ
parents source = map (λ (n : PageNode). n.parent) (nodes_of source)

-- how many elements each of a page's nodes stands in
abbrev depths : List ℕ → List ℕ
depths source = map (λ (n : PageNode). n.depth) (nodes_of source)

-- whole trees

paragraph : page (codes "<p a=1 A=\"2\">x&lt;<br/><!-->y</P z>") ≡ record {
  nodes = node 1 (element (codes "p") ((codes "a", codes "1") ∷ []))
      (node 2 (text (codes "x<")) empty
      (node 3 (element (codes "br") []) empty
      (node 4 (comment []) empty
      (node 5 (text (codes "y")) empty empty)))) empty;
  next = 6;
}
unfolding encode
paragraph = refl

list : page (codes "<ul><li>a<li>b</ul>x</b>") ≡ record {
  nodes = node 1 (element (codes "ul") [])
      (node 2 (element (codes "li") []) (node 3 (text (codes "a")) empty empty)
      (node 4 (element (codes "li") []) (node 5 (text (codes "b")) empty empty) empty))
      (node 6 (text (codes "x")) empty empty);
  next = 7;
}
list = refl

raw_text_and_doctype : page (codes "<!doctype html><STYLE>&lt;</style><title>&lt;</title><b") ≡ record {
  nodes = node 1 (element (codes "style") []) (node 2 (text (codes "&lt;")) empty empty)
      (node 3 (element (codes "title") []) (node 4 (text (codes "<")) empty empty) empty);
  next = 5;
}
unfolding encode
raw_text_and_doctype = refl

no_page : page [] ≡ record { nodes = empty; next = 1 }
no_page = refl

-- the nodes of a source with their depths

nodes_with_depths : fragment (codes "<ul><li>a<li><!--b--></ul>c") ≡
    (0, element (codes "ul") []) ∷ (1, element (codes "li") []) ∷ (2, text (codes "a")) ∷ (1, element (codes "li") [])
    ∷ (2, comment (codes "b")) ∷ (0, text (codes "c")) ∷ []
nodes_with_depths = refl

fragment_of_nothing : fragment (codes "</b><!doctype html><b") ≡ []
fragment_of_nothing = refl

-- texts side by side aren't joined
texts : parents (codes "a</b>b") ≡ 0 ∷ 0 ∷ []
texts = refl

-- attributes

attributes_of_an_element : element_attributes (codes " ID=\"a&amp;b\" class='x' id=c CLASS =&#65; d&amp;") ≡
    (codes "id", codes "a&b") ∷ (codes "class", codes "x") ∷ (codes "d&amp;", []) ∷ []
unfolding encode
attributes_of_an_element = refl

-- end tags

-- an end tag closes the innermost element of its name and all in it
end_tag : parents (codes "<i><b><b><u>x</B>y</i>z") ≡ 0 ∷ 1 ∷ 2 ∷ 3 ∷ 4 ∷ 2 ∷ 0 ∷ []
end_tag = refl

end_tag_of_no_open_element : parents (codes "<i>x</b>y</i></i>z") ≡ 0 ∷ 1 ∷ 1 ∷ 0 ∷ []
end_tag_of_no_open_element = refl

depth_of_nodes : depths (codes "<i><b>x</i>y<u></u><!--z-->") ≡ 0 ∷ 1 ∷ 2 ∷ 0 ∷ 0 ∷ 0 ∷ []
depth_of_nodes = refl

-- elements without content

void_elements_have_none : parents (codes "<br>a<IMG>b<hr/>c") ≡ 0 ∷ 0 ∷ 0 ∷ 0 ∷ 0 ∷ 0 ∷ []
void_elements_have_none = refl

self_closing_elements_have_none : parents (codes "<g/>a<path>b</path><Path />c") ≡ 0 ∷ 0 ∷ 0 ∷ 3 ∷ 0 ∷ 0 ∷ []
self_closing_elements_have_none = refl

others_have_content : parents (codes "<div/>a<g>b") ≡ 0 ∷ 1 ∷ 1 ∷ 3 ∷ []
others_have_content = refl

-- the tables, spelled out once more: the void elements as HTML lists them, from the last one on
abbrev void_names : List (List ℕ)
void_names =
    codes "wbr" ∷ codes "track" ∷ codes "source" ∷ codes "param" ∷ codes "meta" ∷ codes "link" ∷ codes "input"
    ∷ codes "img" ∷ codes "hr" ∷ codes "embed" ∷ codes "col" ∷ codes "br" ∷ codes "base" ∷ codes "area" ∷ []

void_names_are_all : length void_elements ≡ length void_names
void_names_are_all = refl

no_void_element_has_content : map (λ name. has_content name false) void_names ≡ map (λ name. false) void_names
no_void_element_has_content = refl

-- shapes and text, parts of a drawing, animations, filters and gradients
abbrev svg_names : List (List ℕ)
svg_names =
    codes "circle" ∷ codes "ellipse" ∷ codes "line" ∷ codes "path" ∷ codes "polygon" ∷ codes "polyline"
    ∷ codes "rect" ∷ codes "text" ∷ codes "tspan" ∷ codes "use" ∷ codes "image" ∷ codes "view" ∷ codes "symbol"
    ∷ codes "g" ∷ codes "defs" ∷ codes "clippath" ∷ codes "mask" ∷ codes "pattern" ∷ codes "set"
    ∷ codes "animate" ∷ codes "animatemotion" ∷ codes "animatetransform" ∷ codes "mpath" ∷ codes "filter"
    ∷ codes "feblend" ∷ codes "fecolormatrix" ∷ codes "fecomposite" ∷ codes "feflood" ∷ codes "fegaussianblur"
    ∷ codes "femerge" ∷ codes "femergenode" ∷ codes "feoffset" ∷ codes "lineargradient" ∷ codes "radialgradient"
    ∷ codes "stop" ∷ []

svg_names_are_all : length self_closing_elements ≡ length svg_names
svg_names_are_all = refl

self_closing_alone : map (λ name. has_content name true) svg_names ≡ map (λ name. false) svg_names
self_closing_alone = refl

not_self_closing_elements : map (λ name. has_content name false) svg_names ≡ map (λ name. true) svg_names
not_self_closing_elements = refl

-- implied ends, each row

-- paragraphs and headings, lists, other blocks, and sections
abbrev block_names : List (List ℕ)
block_names =
    codes "p" ∷ codes "h1" ∷ codes "h2" ∷ codes "h3" ∷ codes "h4" ∷ codes "h5" ∷ codes "h6" ∷ codes "ul"
    ∷ codes "ol" ∷ codes "dl" ∷ codes "pre" ∷ codes "table" ∷ codes "form" ∷ codes "fieldset" ∷ codes "address"
    ∷ codes "blockquote" ∷ codes "figure" ∷ codes "hr" ∷ codes "header" ∷ codes "footer" ∷ codes "main"
    ∷ codes "nav" ∷ codes "section" ∷ codes "article" ∷ codes "aside" ∷ codes "div" ∷ []

block_names_are_all : length paragraph_enders ≡ length block_names
block_names_are_all = refl

paragraphs : map implied_ends block_names ≡ map (λ name. codes "p" ∷ []) block_names
paragraphs = refl

paragraph_ends : parents (codes "<p>a<p>b<DIV>c<p>d") ≡ 0 ∷ 1 ∷ 0 ∷ 3 ∷ 0 ∷ 5 ∷ 5 ∷ 7 ∷ []
paragraph_ends = refl

-- only while the innermost element is among them
paragraph_behind_another : parents (codes "<p><b>a<p>b") ≡ 0 ∷ 1 ∷ 2 ∷ 2 ∷ 4 ∷ []
paragraph_behind_another = refl

list_item_ends : parents (codes "<li><p>a<li>b<ul><li>c") ≡ 0 ∷ 1 ∷ 2 ∷ 0 ∷ 4 ∷ 4 ∷ 6 ∷ 7 ∷ []
list_item_ends = refl

terms_end : parents (codes "<dl><dt>a<dd><p>b<dt>c<dd>") ≡ 0 ∷ 1 ∷ 2 ∷ 1 ∷ 4 ∷ 5 ∷ 1 ∷ 7 ∷ 1 ∷ []
terms_end = refl

options_end : parents (codes "<option>a<option>b<optgroup><option>c<optgroup>") ≡ 0 ∷ 1 ∷ 0 ∷ 3 ∷ 0 ∷ 5 ∷ 6 ∷ 0 ∷ []
options_end = refl

option_in_a_group : parents (codes "<optgroup><option><option>") ≡ 0 ∷ 1 ∷ 1 ∷ []
option_in_a_group = refl

cells_end : parents (codes "<tr><td><p>a<th>b<td>") ≡ 0 ∷ 1 ∷ 2 ∷ 3 ∷ 1 ∷ 5 ∷ 1 ∷ []
cells_end = refl

rows_end : parents (codes "<tr><td><p>a<tr><th><tr><tr>") ≡ 0 ∷ 1 ∷ 2 ∷ 3 ∷ 0 ∷ 5 ∷ 0 ∷ 0 ∷ []
rows_end = refl

parts_of_a_table_end : parents (codes "<table><thead><tr><th><p><tbody><tr><td>a<tfoot><tr></table>") ≡
    0 ∷ 1 ∷ 2 ∷ 3 ∷ 4 ∷ 1 ∷ 6 ∷ 7 ∷ 8 ∷ 1 ∷ 10 ∷ []
parts_of_a_table_end = refl

table_in_a_cell : parents (codes "<tr><td><table><tr><td>") ≡ 0 ∷ 1 ∷ 2 ∷ 3 ∷ 4 ∷ []
table_in_a_cell = refl

no_implied_ends : implied_ends (codes "span") ≡ []
no_implied_ends = refl

-- elements of raw text

raw_text_elements_hold_it : map holds_raw_text (codes "script" ∷ codes "style" ∷ codes "textarea" ∷ codes "title" ∷ codes "pre" ∷ []) ≡
    true ∷ true ∷ true ∷ true ∷ false ∷ []
raw_text_elements_hold_it = refl
