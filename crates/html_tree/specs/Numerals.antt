-- Numbers and references as the code has them.
use Rattle.std.specs.Char.{is_ascii_digit, is_ascii_hexdigit}
use Rattle.std.specs.Prelude.{ℕ, Bool, not, List, slice_index}
use Rattle.html_meaning.specs.References as meant
use Rattle.html_tree.specs.declared.references.Base.{Base}
use Rattle.html_tree.specs.declared.references.Base.TheVariants.{Decimal, Hexadecimal}
use Rattle.html_tree.specs.declared.references.Reference.{Reference}

abbrev pub radix : Base → ℕ
radix Decimal = 10
radix Hexadecimal = 16

abbrev pub is_digit : Base → ℕ → Bool
is_digit Decimal b = is_ascii_digit b
is_digit Hexadecimal b = is_ascii_hexdigit b

-- no digit stands at the front
abbrev pub ends_number : Base → List ℕ → Bool
ends_number base rest = not (is_digit base (slice_index rest 0))

-- the first number past all characters
abbrev pub past : ℕ
past = 0x11_0000

abbrev pub reference_of : Reference → meant.Reference
reference_of r = record { stands_for = r.character; size = r.size }
