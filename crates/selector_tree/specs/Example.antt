-- Spellings of names, strings, literals and bodies of patterns, by computing.
use Rattle.std.specs.Prelude.{◌≡◌, [], codes, false, refl}
use Rattle.selector_tree.specs.Letters.{name_text, string_text, literal_text, body_text, flags_text}

plain_name : name_text (codes "ad-box_2") ≡ codes "ad-box_2"
plain_name = refl

first_digit : name_text (codes "2x") ≡ codes "\\32 x"
first_digit = refl

digit_behind_dash : name_text (codes "-2") ≡ codes "-\\32 "
digit_behind_dash = refl

dash_alone : name_text (codes "-") ≡ codes "\\-"
dash_alone = refl

dashes : name_text (codes "--2") ≡ codes "--2"
dashes = refl

other_sign : name_text (codes "a:b") ≡ codes "a\\:b"
other_sign = refl

tab_in_a_string : string_text (codes "a\t\"\\") ≡ codes "\"a\\9 \\\"\\\\\""
tab_in_a_string = refl

brackets_in_a_literal : literal_text (codes "a(b)/") ≡ codes "\"a\\(b\\)\\/\""
brackets_in_a_literal = refl

slashes_in_a_body : body_text false (codes "a/\\/\\\\/") ≡ codes "a\\/\\/\\\\\\/"
slashes_in_a_body = refl

all_flags : flags_text 7 ≡ codes "ims"
all_flags = refl

no_flags : flags_text 0 ≡ []
no_flags = refl
