-- Lines of each kind, computed.
use Rattle.std.specs.Prelude.{◌≡◌, [], ◌∷◌, ◌++◌, codes, Ok, Err, refl}
use Rattle.std.specs.Str.{is_utf8, chars}
use Rattle.mutation_script.specs.declared.mutation.BadLine.TheVariants.{NotUtf8, UnknownWord, MissingField, BadNumber, BadName, BadPath, ExtraField}
use Rattle.mutation_script.specs.declared.mutation.Mutation.TheVariants.{SetAttr, DropAttr, SetText, Insert, Delete, Relink, Path}
use Rattle.mutation_script.specs.declared.mutation.ScriptLine.TheVariants.{Mutation, Blank, Bad}
use Rattle.mutation_script.specs.Lines.{mutation_of, script_line}

-- whole lines

line_of_a_mutation : script_line (codes "attr 7 id " ++ 195 ∷ 169 ∷ []) ≡ Mutation (SetAttr 7 (codes "id") (195 ∷ 169 ∷ []))
unfolding is_utf8 chars lib.Utf8.encode
line_of_a_mutation = refl

bad_line : script_line (codes "attr 1") ≡ Bad MissingField
unfolding is_utf8 chars lib.Utf8.encode
bad_line = refl

no_text : script_line (codes "attr 1 id " ++ 255 ∷ []) ≡ Bad NotUtf8
unfolding is_utf8 chars lib.Utf8.encode
no_text = refl

no_text_before_the_word : script_line (255 ∷ codes " 1") ≡ Bad NotUtf8
unfolding is_utf8 chars lib.Utf8.encode
no_text_before_the_word = refl

blank_line : script_line (9 ∷ 13 ∷ 32 ∷ 12 ∷ []) ≡ Blank
blank_line = refl

empty_line : script_line [] ≡ Blank
empty_line = refl

-- mutations

value_with_a_space : mutation_of (codes "attr 1 class x z") ≡ Ok (SetAttr 1 (codes "class") (codes "x z"))
value_with_a_space = refl

spaces_around_a_value : mutation_of (codes "attr 0 id  y ") ≡ Ok (SetAttr 0 (codes "id") (codes " y "))
spaces_around_a_value = refl

name_in_lower_case : mutation_of (codes "attr 1 onClick Y") ≡ Ok (SetAttr 1 (codes "onclick") (codes "Y"))
name_in_lower_case = refl

no_value : mutation_of (codes "attr 1 class") ≡ Ok (SetAttr 1 (codes "class") [])
no_value = refl

empty_value : mutation_of (codes "attr 1 class ") ≡ Ok (SetAttr 1 (codes "class") [])
empty_value = refl

greatest_number : mutation_of (codes "attr 4294967295 a b") ≡ Ok (SetAttr 4294967295 (codes "a") (codes "b"))
greatest_number = refl

attribute_taken_away : mutation_of (codes "unset 120 Class") ≡ Ok (DropAttr 120 (codes "class"))
attribute_taken_away = refl

text_as_it_is : mutation_of (codes "text 3  a &amp; b") ≡ Ok (SetText 3 (codes " a &amp; b"))
text_as_it_is = refl

no_text_field : mutation_of (codes "text 3") ≡ Ok (SetText 3 [])
no_text_field = refl

html_of_an_insert : mutation_of (codes "insert 1 0 <i class=a>x y</i>") ≡ Ok (Insert 1 0 (codes "<i class=a>x y</i>"))
html_of_an_insert = refl

insert_of_nothing : mutation_of (codes "insert 1 0") ≡ Ok (Insert 1 0 [])
insert_of_nothing = refl

node_taken_out : mutation_of (codes "delete 12") ≡ Ok (Delete 12)
node_taken_out = refl

node_moved : mutation_of (codes "move 4 0 1") ≡ Ok (Relink 4 0 1)
node_moved = refl

path_and_query : mutation_of (codes "path /b?x=1 y") ≡ Ok (Path (codes "/b?x=1 y"))
path_and_query = refl

-- words

word_in_upper_case : mutation_of (codes "ATTR 1 a") ≡ Err UnknownWord
word_in_upper_case = refl

empty_word : mutation_of (codes " attr 1 a") ≡ Err UnknownWord
empty_word = refl

longer_word : mutation_of (codes "paths /") ≡ Err UnknownWord
longer_word = refl

-- numbers

no_number : mutation_of (codes "attr") ≡ Err MissingField
no_number = refl

empty_number : mutation_of (codes "attr  x") ≡ Err BadNumber
empty_number = refl

leading_zero : mutation_of (codes "attr 01 a b") ≡ Err BadNumber
leading_zero = refl

number_past_the_limit : mutation_of (codes "attr 4294967296 a b") ≡ Err BadNumber
number_past_the_limit = refl

signed_number : mutation_of (codes "attr +1 a b") ≡ Err BadNumber
signed_number = refl

bad_number_first : mutation_of (codes "unset x") ≡ Err BadNumber
bad_number_first = refl

-- names

no_name : mutation_of (codes "unset 1") ≡ Err MissingField
no_name = refl

empty_name : mutation_of (codes "attr 1  x") ≡ Err BadName
empty_name = refl

name_with_a_sign : mutation_of (codes "attr 1 a=b c") ≡ Err BadName
name_with_a_sign = refl

name_with_a_tab : mutation_of (codes "unset 1 a" ++ 9 ∷ []) ≡ Err BadName
name_with_a_tab = refl

-- what stands behind the last field

space_at_the_end : mutation_of (codes "unset 1 a ") ≡ Err ExtraField
space_at_the_end = refl

field_too_many : mutation_of (codes "unset 1 a b") ≡ Err ExtraField
field_too_many = refl

bad_name_first : mutation_of (codes "unset 1 = b") ≡ Err BadName
bad_name_first = refl

space_behind_a_number : mutation_of (codes "delete 1 ") ≡ Err ExtraField
space_behind_a_number = refl

carriage_return_behind_a_number : mutation_of (codes "delete 1" ++ 13 ∷ []) ≡ Err BadNumber
carriage_return_behind_a_number = refl

field_behind_a_place : mutation_of (codes "move 1 0 0 0") ≡ Err ExtraField
field_behind_a_place = refl

-- numbers and places of the other words

no_node : mutation_of (codes "delete") ≡ Err MissingField
no_node = refl

empty_node : mutation_of (codes "delete ") ≡ Err BadNumber
empty_node = refl

no_place : mutation_of (codes "insert 1") ≡ Err MissingField
no_place = refl

empty_place : mutation_of (codes "insert 1  <i>") ≡ Err BadNumber
empty_place = refl

no_parent : mutation_of (codes "move 1") ≡ Err MissingField
no_parent = refl

bad_parent : mutation_of (codes "move 1 x") ≡ Err BadNumber
bad_parent = refl

no_place_to_move_to : mutation_of (codes "move 1 0") ≡ Err MissingField
no_place_to_move_to = refl

-- paths

no_path : mutation_of (codes "path") ≡ Err MissingField
no_path = refl

empty_path : mutation_of (codes "path ") ≡ Err BadPath
empty_path = refl

path_behind_a_space : mutation_of (codes "path  /a") ≡ Err BadPath
path_behind_a_space = refl
