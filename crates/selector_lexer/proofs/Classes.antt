-- Bytes of a class are ASCII.
use Rattle.std.proofs.Common.{◌≡◌, ℕ, ◌<◌, ◌≤◌, Bool, true, false, eqb, leb, ◌||◌, sym, ◌∙◌, arith, inl, inr}
use Rattle.std.proofs.lemmas.Bool.{cases_lt, or_from, and_right, lt-leb, ne_eqb, false≢true}
use Rattle.std.specs.Int.{is_in_range}
use Rattle.std.specs.Char.{is_ascii_alphanumeric}
use Rattle.selector_lexer.specs.declared.fronts.Class.{Class}
use Rattle.selector_lexer.specs.declared.fronts.Class.TheVariants.{Pseudo, Digit, Letter, Hex, Space}
use Rattle.selector_lexer.specs.Fronts.{passes}

no_range : (low high b : ℕ) → high < b → is_in_range low high b ≡ false
no_range low high b h = and_right (leb low b) (leb b high) (lt-leb b high (omega arith))

none_of : (a b : Bool) → a ≡ false → b ≡ false → (a || b) ≡ false
none_of a b e f = or_from a b e f

not_equal : (b c : ℕ) → 128 ≤ b → c < 128 → eqb b c ≡ false
not_equal b c h k = ne_eqb b c (λ e. omega (arith, h, k, e))

high-lacks : (class : Class) (b : ℕ) → 128 ≤ b → passes class b ≡ false
high-lacks Pseudo b h =
    none_of (is_ascii_alphanumeric b) (eqb b 45)
    (none_of (is_in_range 48 57 b || is_in_range 65 90 b) (is_in_range 97 122 b)
    (none_of (is_in_range 48 57 b) (is_in_range 65 90 b) (no_range 48 57 b (omega arith)) (no_range 65 90 b (omega arith))) (no_range 97 122 b (omega arith)))
    (not_equal b 45 h (omega arith))
high-lacks Digit b h = no_range 48 57 b (omega arith)
high-lacks Letter b h = none_of (is_in_range 65 90 b) (is_in_range 97 122 b) (no_range 65 90 b (omega arith)) (no_range 97 122 b (omega arith))
high-lacks Hex b h =
    none_of (is_in_range 48 57 b || is_in_range 65 70 b) (is_in_range 97 102 b)
    (none_of (is_in_range 48 57 b) (is_in_range 65 70 b) (no_range 48 57 b (omega arith)) (no_range 65 70 b (omega arith))) (no_range 97 102 b (omega arith))
high-lacks Space b h =
    none_of (eqb b 32 || eqb b 9 || eqb b 12) (eqb b 13)
    (none_of (eqb b 32 || eqb b 9) (eqb b 12)
    (none_of (eqb b 32) (eqb b 9) (not_equal b 32 h (omega arith)) (not_equal b 9 h (omega arith))) (not_equal b 12 h (omega arith))) (not_equal b 13 h (omega arith))

pub class-low : (class : Class) (b : ℕ) → passes class b ≡ true → b < 128
class-low class b e = elim (cases_lt b 128) [ inl low ↦ low | inr high ↦ absurd (false≢true (sym (high-lacks class b high) ∙ e)) ]
