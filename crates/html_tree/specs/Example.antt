-- The words of the reader, computed.
use Rattle.std.specs.Prelude.{◌≡◌, ℕ, List, [], ◌∷◌, take, codes, true, Some, None, refl}
use lib.Utf8.{encode}
use denote.Ref.{Bor}
use Rattle.page_tree.specs.Fragments.{TooDeep, TooManyNodes}
use Rattle.html_meaning.specs.Page.{OpenElement, Opens, Ends, left_by}
use Rattle.html_tree.specs.declared.references.Base.TheVariants.{Decimal, Hexadecimal}
use Rattle.html_tree.specs.Chain.{names_of, element_names}
use Rattle.html_tree.specs.Counts.{times}
use Rattle.html_tree.specs.Limits.{next_limit}
use Rattle.html_tree.specs.LaterNames.{as_read, names_in}
use Rattle.html_tree.specs.Numerals.{is_digit, ends_number}

abbrev spelled : List ℕ → Bor (List ℕ)
spelled name = record { ref_ptr = (0, 0); now = name }

names_in_lower_case : names_of (spelled (codes "UL") ∷ spelled (codes "Li") ∷ []) ≡ codes "ul" ∷ codes "li" ∷ []
names_in_lower_case = refl

-- an item and a paragraph in a list
abbrev elements : List OpenElement
elements = record { number = 1; name = codes "ul" } ∷ record { number = 2; name = codes "li" } ∷ record { number = 5; name = codes "p" } ∷ []

names_of_elements : element_names elements ≡ codes "ul" ∷ codes "li" ∷ codes "p" ∷ []
names_of_elements = refl

item_leaves_the_list : left_by (Opens (codes "li") true) elements ≡ take 1 elements
item_leaves_the_list = refl

end_of_the_item : left_by (Ends (codes "li")) elements ≡ take 1 elements
end_of_the_item = refl

end_of_another : left_by (Ends (codes "div")) elements ≡ elements
end_of_another = refl

two_items : times (codes "li") (codes "ul" ∷ codes "li" ∷ codes "p" ∷ codes "li" ∷ []) ≡ 2
two_items = refl

within_limits : next_limit 510 999999 1 ≡ None
within_limits = refl

too_deep : next_limit 511 1000000 1 ≡ Some TooDeep
too_deep = refl

too_many : next_limit 510 1000000 1 ≡ Some TooManyNodes
too_many = refl

digits : is_digit Hexadecimal 97 ≡ true
digits = refl

no_digit : ends_number Decimal (codes "a;") ≡ true
no_digit = refl

attribute_as_read : as_read (codes "ID", codes "a&amp;b") ≡ (codes "id", codes "a&b")
unfolding encode
attribute_as_read = refl

names_of_attributes : names_in ((codes "id", codes "a") ∷ (codes "b", []) ∷ []) ≡ codes "id" ∷ codes "b" ∷ []
names_of_attributes = refl
