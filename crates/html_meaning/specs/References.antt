-- Character references in texts and attribute values.
use Rattle.std.specs.Char.{is_ascii_digit, is_ascii_hexdigit}
use Rattle.std.specs.Prelude.{ℕ, zero, suc, ◌+◌, ◌-◌, ◌*◌, ◌==◌, Bool, cond, not, ◌&&◌, ◌||◌, List, [], ◌∷◌, ◌++◌, codes, Option, Some, None, take, drop, length, encode_utf8, slice_index}
use Rattle.std.specs.Bool.{nat_lt}
use Rattle.std.specs.Int.{is_in_range}
use Rattle.html_meaning.specs.Bytes.{begins, up_to}

-- a reference: the character that it stands for, and how many bytes it takes
pub record Reference : Type 0 where
  pub stands_for : ℕ
  pub size : ℕ

-- the named references, each with its character
abbrev pub named_references : List (List ℕ × ℕ)
named_references =
    (codes "&amp;", 38) ∷ (codes "&lt;", 60) ∷ (codes "&gt;", 62) ∷ (codes "&quot;", 34) ∷ (codes "&apos;", 39)
    ∷ (codes "&nbsp;", 160) ∷ []

-- the one of these references that stands at the front
abbrev pub named : List ℕ → List (List ℕ × ℕ) → Option Reference
named bytes [] = None
named bytes (n ∷ ns) = cond (begins n.0 bytes) (Some (record { stands_for = n.1; size = length n.0 })) (named bytes ns)

-- the character of a number: U+FFFD for 0, a surrogate and what is past the last character
abbrev pub character : ℕ → ℕ
character n = cond (n == 0 || is_in_range 55296 57343 n || nat_lt 1114111 n) 65533 n

-- the value of a hexadecimal digit
abbrev pub digit_value : ℕ → ℕ
digit_value b = cond (is_ascii_digit b) (b - 48) (cond (nat_lt b 97) (b - 55) (b - 87))

-- the number that digits spell, behind those that spell `so_far`
abbrev pub number : ℕ → ℕ → List ℕ → ℕ
number base so_far [] = so_far
number base so_far (b ∷ bs) = number base (so_far * base + digit_value b) bs

-- a numeric reference: one digit or more and `;`, behind `before` bytes
abbrev pub numeric : ℕ → (ℕ → Bool) → ℕ → List ℕ → Option Reference
numeric base is_of before bytes =
    let digits = up_to (λ rest. not (is_of (slice_index rest 0))) (drop before bytes) in
    cond (nat_lt 0 digits && slice_index (drop (before + digits) bytes) 0 == 59)
    (Some (record { stands_for = character (number base 0 (take digits (drop before bytes))); size = before + digits + 1 }))
    None

-- the reference at the front
abbrev pub reference : List ℕ → Option Reference
reference bytes =
    cond (begins (codes "&#x") bytes || begins (codes "&#X") bytes) (numeric 16 is_ascii_hexdigit 3 bytes)
    (cond (begins (codes "&#") bytes) (numeric 10 is_ascii_digit 2 bytes) (named bytes named_references))

-- the character of a reference, or the byte where there is none, and then the rest
abbrev pub with_reference : Option Reference → ℕ → (ℕ → List ℕ) → List ℕ
with_reference None b rest = b ∷ rest 0
with_reference (Some r) b rest = encode_utf8 r.stands_for ++ rest (r.size - 1)

-- what a text with references stands for; its first `skip` bytes are within a reference
abbrev pub resolved : ℕ → List ℕ → List ℕ
resolved skip [] = []
resolved (suc skip) (b ∷ bs) = resolved skip bs
resolved zero (b ∷ bs) = with_reference (reference (b ∷ bs)) b (λ skip. resolved skip bs)
