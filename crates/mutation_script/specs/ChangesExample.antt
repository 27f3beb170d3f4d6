-- Each change of a page, and the answers of lines, computed.
use Rattle.std.specs.Prelude.{◌≡◌, ℕ, List, [], ◌∷◌, codes, Ok, Err, refl}
use Rattle.std.specs.Str.{is_utf8, chars}
use Rattle.page_tree.specs.Forest.{element, text, empty, node}
use Rattle.page_tree.specs.Refusals.{NoSuchNode, NotElement, NotText, BadPlace, IntoItself, IsDocument}
use Rattle.dom_arena.specs.declared.refusals.DomError.TheVariants.{NotElement as NotElementError}
use Rattle.mutation_script.specs.declared.mutation.BadLine.TheVariants.{MissingField}
use Rattle.mutation_script.specs.declared.mutation.Mutation.TheVariants.{SetAttr, DropAttr, SetText, Insert, Delete, Relink, Path}
use Rattle.mutation_script.specs.declared.answer.Answer.TheVariants.{Done, Refused, Blank, Bad}
use Rattle.mutation_script.specs.declared.page.PageState.{PageState}
use Rattle.mutation_script.specs.Lines.{script_line}
use Rattle.mutation_script.specs.Changes.{change, after, answer}

-- <div ATTRS>t</div>
abbrev page_with : List (List ℕ × List ℕ) → PageState
page_with attrs = record {
  tree = record { nodes = node 1 (element (codes "div") attrs) (node 2 (text (codes "t")) empty empty) empty; next = 3 };
  path = codes "/";
}

abbrev page : PageState
page = page_with ((codes "class", codes "x") ∷ [])

class_set : change (SetAttr 1 (codes "class") (codes "y")) page ≡ Ok (page_with ((codes "class", codes "y") ∷ []))
class_set = refl

id_goes_last : change (SetAttr 1 (codes "ID") (codes "q")) page ≡ Ok (page_with ((codes "class", codes "x") ∷ (codes "id", codes "q") ∷ []))
id_goes_last = refl

class_dropped : change (DropAttr 1 (codes "class")) page ≡ Ok (page_with [])
class_dropped = refl

missing_attribute_dropped : change (DropAttr 1 (codes "id")) page ≡ Ok page
missing_attribute_dropped = refl

document_refused : change (SetAttr 0 (codes "id") (codes "q")) page ≡ Err IsDocument
document_refused = refl

text_refused : change (SetAttr 2 (codes "id") (codes "q")) page ≡ Err (NotElement 2)
text_refused = refl

no_node_refused : change (DropAttr 5 (codes "id")) page ≡ Err (NoSuchNode 5)
no_node_refused = refl

text_set : change (SetText 2 (codes "<b>")) page ≡ Ok (record page { tree = record { nodes = node 1 (element (codes "div") ((codes "class", codes "x") ∷ [])) (node 2 (text (codes "<b>")) empty empty) empty; next = 3 } })
text_set = refl

text_of_an_element_refused : change (SetText 1 []) page ≡ Err (NotText 1)
text_of_an_element_refused = refl

nodes_inserted : change (Insert 1 0 (codes "<i>a</i>")) page ≡ Ok (record page { tree = record { nodes = node 1 (element (codes "div") ((codes "class", codes "x") ∷ [])) (node 3 (element (codes "i") []) (node 4 (text (codes "a")) empty empty) (node 2 (text (codes "t")) empty empty)) empty; next = 5 } })
nodes_inserted = refl

insert_past_the_children : change (Insert 1 2 (codes "a")) page ≡ Err (BadPlace 2)
insert_past_the_children = refl

insert_into_a_text : change (Insert 2 0 []) page ≡ Err (NotElement 2)
insert_into_a_text = refl

-- no number is given again
all_deleted : change (Delete 1) page ≡ Ok (record page { tree = record { nodes = empty; next = 3 } })
all_deleted = refl

document_stays : change (Delete 0) page ≡ Err IsDocument
document_stays = refl

text_moved : change (Relink 2 0 0) page ≡ Ok (record page { tree = record { nodes = node 2 (text (codes "t")) empty (node 1 (element (codes "div") ((codes "class", codes "x") ∷ [])) empty empty); next = 3 } })
text_moved = refl

moved_into_itself : change (Relink 1 1 0) page ≡ Err (IntoItself 1)
moved_into_itself = refl

path_set : change (Path (codes "/b?x=1")) page ≡ Ok (record page { path = codes "/b?x=1" })
path_set = refl

-- lines

page_behind_a_change : after (script_line (codes "attr 1 class x z")) page ≡ page_with ((codes "class", codes "x z") ∷ [])
unfolding is_utf8 chars lib.Utf8.encode
page_behind_a_change = refl

page_behind_a_refusal : after (script_line (codes "attr 2 id q")) page ≡ page
unfolding is_utf8 chars lib.Utf8.encode
page_behind_a_refusal = refl

page_behind_a_bad_line : after (script_line (codes "move 1 0")) page ≡ page
unfolding is_utf8 chars lib.Utf8.encode
page_behind_a_bad_line = refl

answer_of_a_change : answer (script_line (codes "unset 1 class")) page ≡ Done
unfolding is_utf8 chars lib.Utf8.encode
answer_of_a_change = refl

answer_of_a_refusal : answer (script_line (codes "attr 2 id q")) page ≡ Refused (NotElementError 2)
unfolding is_utf8 chars lib.Utf8.encode
answer_of_a_refusal = refl

answer_of_a_bad_line : answer (script_line (codes "move 1 0")) page ≡ Bad MissingField
unfolding is_utf8 chars lib.Utf8.encode
answer_of_a_bad_line = refl

answer_of_a_blank_line : answer (script_line (codes " ")) page ≡ Blank
answer_of_a_blank_line = refl
