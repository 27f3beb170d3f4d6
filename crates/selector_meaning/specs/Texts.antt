-- Tests on texts, as lists of bytes.
use Rattle.std.specs.Prelude.{ℕ, Bool, true, false, not, ◌&&◌, ◌||◌, nat_eq, List, [], ◌∷◌, ◌++◌, codes, Option, None, Some, if◌then◌else◌}
use Rattle.std.specs.List.{list_any, starts_with, ends_with}
use Rattle.std.specs.Str.{bytes_eq, str_to_ascii_lowercase}
use Rattle.selector_tree.specs.declared.selector.AttrOp.{AttrOp}
use Rattle.selector_tree.specs.declared.selector.AttrOp.TheVariants.{Exists, Equals, Word, Dash, Prefix, Suffix, Part}
use Rattle.page_tree.specs.Words.{words}

abbrev pub Bytes : Type 0
Bytes = List ℕ

abbrev pub is_empty : {A : Type 0} → List A → Bool
is_empty [] = true
is_empty (x ∷ xs) = false

-- the part stands somewhere in the text; the empty part stands in each
abbrev pub has_part : Bytes → Bytes → Bool
has_part part [] = starts_with nat_eq [] part
has_part part (c ∷ cs) = starts_with nat_eq (c ∷ cs) part || has_part part cs

-- a text for a comparison: in ASCII lower case where letter case is ignored
abbrev pub spelled : Bool → Bytes → Bytes
spelled ignore_case v = if ignore_case then str_to_ascii_lowercase v else v

-- The value v of an attribute against the wanted w (Selectors Level 4, "Attribute presence and value selectors" and
-- "Substring matching attribute selectors").
abbrev pub fits : AttrOp → Bytes → Bytes → Bool
-- [a]: any value
fits Exists w v = true
-- [a=w]: it is w
fits Equals w v = bytes_eq v w
-- [a~=w]: one of its words is w; no word is empty or has white space
fits Word w v = list_any (λ piece. bytes_eq piece w) (words v)
-- [a|=w]: it is w, or begins with w and a dash
fits Dash w v = bytes_eq v w || starts_with nat_eq v (w ++ codes "-")
-- [a^=w]: it begins with w, which isn't empty
fits Prefix w v = not (is_empty w) && starts_with nat_eq v w
-- [a$=w]: it ends with w, which isn't empty
fits Suffix w v = not (is_empty w) && ends_with nat_eq v w
-- [a*=w]: it holds w, which isn't empty
fits Part w v = not (is_empty w) && has_part w v

-- the value is there, and passes
abbrev pub some_fits : Option Bytes → (Bytes → Bool) → Bool
some_fits None p = false
some_fits (Some v) p = p v
