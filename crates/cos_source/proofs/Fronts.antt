-- Where a text is cut: behind or before an ASCII byte.
use Rattle.std.proofs.Common.{◌≡◌, ℕ, zero, suc, ◌+◌, ◌<◌, ◌≤◌, Bool, true, false, eqb, leb, ◌||◌, List, length, get_or, sym, ◌∙◌, arith, inl, inr, subst}
use Rattle.std.proofs.lemmas.Bool.{cases_lt, or_from, and_right, lt-leb, ne_eqb, false≢true}
use Rattle.std.proofs.lemmas.Str.{IsCharBoundary-start, IsCharBoundary-end, IsCharBoundary-after_ascii, IsCharBoundary-before_ascii}
use Rattle.std.specs.Int.{is_in_range}
use Rattle.std.specs.Char.{is_ascii_alphanumeric}
use Rattle.std.specs.Str.{IsUtf8, IsCharBoundary}
use Rattle.cos_source.specs.declared.classes.Class.{Class}
use Rattle.cos_source.specs.declared.classes.Class.TheVariants.{Digit, HexDigit, Letter, Name, Pseudo, Space}
use Rattle.cos_source.specs.Classes.{is_in}
use Rattle.cos_source.specs.Spaces.{is_space}

no_range : (low high b : ℕ) → high < b → is_in_range low high b ≡ false
no_range low high b h = and_right (leb low b) (leb b high) (lt-leb b high (omega arith))

none_of : (a b : Bool) → a ≡ false → b ≡ false → (a || b) ≡ false
none_of a b e f = or_from a b e f

not_equal : (b c : ℕ) → 128 ≤ b → c < 128 → eqb b c ≡ false
not_equal b c h k = ne_eqb b c (λ e. omega (arith, h, k, e))

not_alphanumeric : (b : ℕ) → 128 ≤ b → is_ascii_alphanumeric b ≡ false
not_alphanumeric b h =
    none_of (is_in_range 48 57 b || is_in_range 65 90 b) (is_in_range 97 122 b)
    (none_of (is_in_range 48 57 b) (is_in_range 65 90 b) (no_range 48 57 b (omega arith)) (no_range 65 90 b (omega arith))) (no_range 97 122 b (omega arith))

no_space : (b : ℕ) → 128 ≤ b → is_space b ≡ false
no_space b h =
    none_of (eqb b 32 || eqb b 9 || eqb b 12) (eqb b 13)
    (none_of (eqb b 32 || eqb b 9) (eqb b 12)
    (none_of (eqb b 32) (eqb b 9) (not_equal b 32 h (omega arith)) (not_equal b 9 h (omega arith))) (not_equal b 12 h (omega arith))) (not_equal b 13 h (omega arith))

-- no class has a byte past ASCII
high-lacks : (class : Class) (b : ℕ) → 128 ≤ b → is_in class b ≡ false
high-lacks Digit b h = no_range 48 57 b (omega arith)
high-lacks HexDigit b h =
    none_of (is_in_range 48 57 b || is_in_range 65 70 b) (is_in_range 97 102 b)
    (none_of (is_in_range 48 57 b) (is_in_range 65 70 b) (no_range 48 57 b (omega arith)) (no_range 65 70 b (omega arith))) (no_range 97 102 b (omega arith))
high-lacks Letter b h = none_of (is_in_range 65 90 b) (is_in_range 97 122 b) (no_range 65 90 b (omega arith)) (no_range 97 122 b (omega arith))
high-lacks Name b h = none_of (is_ascii_alphanumeric b) (eqb b 95) (not_alphanumeric b h) (not_equal b 95 h (omega arith))
high-lacks Pseudo b h = none_of (is_ascii_alphanumeric b) (eqb b 45) (not_alphanumeric b h) (not_equal b 45 h (omega arith))
high-lacks Space b h = no_space b h

class-low : (class : Class) (b : ℕ) → is_in class b ≡ true → b < 128
class-low class b e = elim (cases_lt b 128) [ inl low ↦ low | inr high ↦ absurd (false≢true (sym (high-lacks class b high) ∙ e)) ]

space-low : (b : ℕ) → is_space b ≡ true → b < 128
space-low b e = elim (cases_lt b 128) [ inl low ↦ low | inr high ↦ absurd (false≢true (sym (no_space b high) ∙ e)) ]

-- a text may be cut behind bytes of a class
pub behind_class : (class : Class) (text : List ℕ) (n : ℕ) → IsUtf8 text → n ≤ length text → ((k : ℕ) → k < n → is_in class (get_or text k 0) ≡ true) → IsCharBoundary text n
behind_class class text zero utf8 most passing = IsCharBoundary-start text utf8
behind_class class text (suc n) utf8 most passing =
    let e : n + 1 ≡ suc n = omega arith in
    subst (λ (m : ℕ). IsCharBoundary text m) e
    (IsCharBoundary-after_ascii text n utf8 (omega arith) (class-low class (get_or text n 0) (passing n (omega arith))))

-- and before white space, or at its end
pub before_space : (text : List ℕ) (n : ℕ) → n ≤ length text → (n < length text → is_space (get_or text n 0) ≡ true) → IsCharBoundary text n
before_space text n most space = elim (cases_lt n (length text)) [
  | inl low ↦ IsCharBoundary-before_ascii text n low (space-low (get_or text n 0) (space low))
  | inr high ↦ let e : length text ≡ n = omega arith in subst (λ (m : ℕ). IsCharBoundary text m) e (IsCharBoundary-end text)
]
