-- Lines, parts, numbers and trimmed texts, computed.
use Rattle.std.specs.Prelude.{◌≡◌, [], ◌∷◌, ◌++◌, codes, Some, None, refl}
use Rattle.cos_source.specs.declared.classes.Class.TheVariants.{Letter, Name}
use Rattle.cos_source.specs.Classes.{front, is_in, past_front}
use Rattle.cos_source.specs.Lines.{lines_of, numbered}
use Rattle.cos_source.specs.Numbers.{number, plain_number}
use Rattle.cos_source.specs.Parts.{before, behind, parts, placed}
use Rattle.cos_source.specs.Spaces.{space_count, trimmed, until_space}

-- LF and CR LF end a line; another CR, and one at the very end, belongs to its line
lines_of_a_source : lines_of (codes "a" ++ 13 ∷ 10 ∷ 10 ∷ codes "b" ++ 13 ∷ codes "c" ++ 10 ∷ codes "d" ++ 13 ∷ []) ≡ codes "a" ∷ [] ∷ (codes "b" ++ 13 ∷ codes "c") ∷ (codes "d" ++ 13 ∷ []) ∷ []
lines_of_a_source = refl

no_lines : lines_of [] ≡ []
no_lines = refl

two_cr : lines_of (13 ∷ 13 ∷ 10 ∷ []) ≡ (13 ∷ []) ∷ []
two_cr = refl

numbered_from_1 : numbered 1 (lines_of (codes "a" ++ 10 ∷ codes "b")) ≡ (1, codes "a") ∷ (2, codes "b") ∷ []
numbered_from_1 = refl

trimmed_text : trimmed (32 ∷ 9 ∷ codes "a b" ++ 13 ∷ 12 ∷ []) ≡ codes "a b"
trimmed_text = refl

trimmed_spaces : trimmed (32 ∷ 13 ∷ []) ≡ []
trimmed_spaces = refl

two_spaces : space_count (32 ∷ 9 ∷ codes "a ") ≡ 2
two_spaces = refl

first_word : until_space (codes "*.ck" ++ 9 ∷ codes "// x") ≡ codes "*.ck"
first_word = refl

-- hosts between commas, with the places where they begin
hosts : placed 0 (parts 44 (codes "a.com,,~b.com")) ≡ (0, codes "a.com") ∷ (6, []) ∷ (7, codes "~b.com") ∷ []
hosts = refl

one_part : placed 0 (parts 44 []) ≡ (0, []) ∷ []
one_part = refl

-- the first field of a line, and what is left behind it
first_field : before 32 (codes "attr  1") ≡ codes "attr"
first_field = refl

behind_first_field : behind 32 (codes "attr  1") ≡ Some (codes " 1")
behind_first_field = refl

behind_the_last : behind 32 (codes "attr") ≡ None
behind_the_last = refl

-- numbers up to 255
leading_zeros : number 255 (codes "007") ≡ Some 7
leading_zeros = refl

plain_with_zeros : plain_number 255 (codes "007") ≡ None
plain_with_zeros = refl

plain_zero : plain_number 255 (codes "0") ≡ Some 0
plain_zero = refl

past_the_limit : number 255 (codes "256") ≡ None
past_the_limit = refl

no_digits : number 255 [] ≡ None
no_digits = refl

signed : number 255 (codes "+1") ≡ None
signed = refl

-- the letters of a directive, and the name of a condition
directive : front (is_in Letter) (codes "endif1") ≡ codes "endif"
directive = refl

past_directive : past_front (is_in Letter) (codes "endif1") ≡ codes "1"
past_directive = refl

condition : front (is_in Name) (codes "env_mv3)") ≡ codes "env_mv3"
condition = refl
