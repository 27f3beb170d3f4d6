-- Patterns of addresses, and when one matches (uBlock Origin wiki, "Static filter syntax"; Adblock Plus, "How to write
-- filters").
use Rattle.std.specs.Prelude.{ℕ, ◌==◌, ◌-◌, ◌&&◌, ◌||◌, Bool, true, false, not, nat_le, nat_lt, List, [], ◌∷◌, codes, length, map, take, drop, slice_index, if◌then◌else◌}
use Rattle.std.specs.Char.{is_ascii_alphanumeric}
use Rattle.std.specs.List.{list_any}
use Rattle.std.specs.Str.{bytes_eq, str_to_ascii_lowercase}
use Rattle.address_patterns.specs.declared.page.Page.{Page}
use Rattle.address_patterns.specs.declared.pattern.AddressPattern.{AddressPattern}
use Rattle.address_patterns.specs.declared.pattern.Begin.{Begin}
use Rattle.address_patterns.specs.declared.pattern.Begin.TheVariants.{Anywhere, Start, Host}

-- ---- the pattern of a text

-- where a match may begin, by the sign at the start
abbrev pub begin_of : List ℕ → Begin
begin_of text =
    if bytes_eq (take 2 text) (codes "||") then Host else if bytes_eq (take 1 text) (codes "|") then Start else Anywhere

-- what stands behind that sign
abbrev pub behind_begin : List ℕ → List ℕ
behind_begin text =
    if bytes_eq (take 2 text) (codes "||") then drop 2 text else if bytes_eq (take 1 text) (codes "|") then drop 1 text else text

-- a `|` at the end lets a match end only at the end of the address
abbrev pub at_end_of : List ℕ → Bool
at_end_of text = slice_index text (length text - 1) == 124

abbrev pub before_end : List ℕ → List ℕ
before_end text = if at_end_of text then take (length text - 1) text else text

abbrev pub pattern_of : List ℕ → AddressPattern
pattern_of text = record {
  begin = begin_of text;
  at_end = at_end_of (behind_begin text);
  body = str_to_ascii_lowercase (before_end (behind_begin text));
}

-- ---- what it matches

-- what a byte of a pattern stands for: any run of bytes, a border, or that byte in either case
pub data Item : Type 0 where
  run : Item
  border : Item
  byte : ℕ → Item

abbrev pub item_of : ℕ → Item
item_of b = if b == 42 then run else if b == 94 then border else byte b

-- no letter, no digit and none of `_`, `-`, `.` and `%`
abbrev pub is_border : ℕ → Bool
is_border b = not (is_ascii_alphanumeric b || b == 95 || b == 45 || b == 46 || b == 37)

-- the item fits a piece of an address; `at_end` says that the address ends with the piece
abbrev pub item_fits : Item → List ℕ → Bool → Bool
item_fits run piece at_end = true
item_fits border [] at_end = at_end
item_fits border (b ∷ []) at_end = is_border b
item_fits border (b ∷ c ∷ piece) at_end = false
item_fits (byte b) piece at_end = bytes_eq (str_to_ascii_lowercase piece) (b ∷ [])

-- the ways to cut a text in two
abbrev pub cuts : List ℕ → List (List ℕ × List ℕ)
cuts [] = ([], []) ∷ []
cuts (b ∷ text) = ([], b ∷ text) ∷ map (λ cut. (b ∷ cut.0, cut.1)) (cuts text)

abbrev pub is_empty : List ℕ → Bool
is_empty text = length text == 0

-- the piece is cut into as many parts as there are items, and each item fits its part
abbrev pub fits : List Item → List ℕ → Bool → Bool
fits [] piece at_end = is_empty piece
fits (item ∷ items) piece at_end =
    list_any (λ cut. elim (item_fits item cut.0 (at_end && is_empty cut.1)) [ true ↦ fits items cut.1 at_end | false ↦ false ]) (cuts piece)

-- a match may begin at this place of the address
abbrev pub may_begin : Begin → Page → ℕ → Bool
may_begin Anywhere page place = true
may_begin Start page place = place == 0
may_begin Host page place =
    nat_lt page.host_from page.host_to
    && (place == page.host_from
    || (nat_lt page.host_from place && nat_le place page.host_to && slice_index page.address (place - 1) == 46))

-- a match may end before this rest of the address
abbrev pub may_end : Bool → List ℕ → Bool
may_end at_end rest = not at_end || is_empty rest

-- the address is a join of three pieces, of which the pattern fits the second, and may begin behind the first and end before
-- the third
abbrev pub matches : AddressPattern → Page → Bool
matches pattern page =
    list_any (λ cut. may_begin pattern.begin page (length cut.0)
    && list_any (λ part. fits (map item_of pattern.body) part.0 (is_empty part.1) && may_end pattern.at_end part.1) (cuts cut.1))
    (cuts page.address)
