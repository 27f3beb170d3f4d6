-- The tokens of a source: at each place the first rule that fits (HTML, 13.2.5 "Tokenization", without its errors).
use Rattle.std.specs.Char.{is_ascii_alphabetic, is_ascii_whitespace}
use Rattle.std.specs.Str.{str_to_ascii_lowercase}
use Rattle.std.specs.Prelude.{ℕ, zero, suc, ◌+◌, ◌-◌, ◌==◌, min, Bool, false, cond, not, ◌&&◌, ◌||◌, List, [], ◌∷◌, map, codes, slice_index, take, drop, length}
use Rattle.std.specs.Bool.{nat_lt}
use Rattle.html_meaning.specs.Bytes.{begins, begins_like, up_to, is_among}
use Rattle.html_meaning.specs.Elements.{raw_text_elements, holds_raw_text}

-- what a token is, as the source spells it: a start tag has its name, the text between that and its `>`, and whether it is
-- self-closing; an end tag its name; characters and comments their text, and characters whether they are raw, so that no
-- reference counts in them; `Cut` is a tag that the end of the source cuts off
pub data Piece : Type 0 where
  Start : List ℕ → List ℕ → Bool → Piece
  End : List ℕ → Piece
  Chars : List ℕ → Bool → Piece
  Comment : List ℕ → Piece
  Doctype : Piece
  Cut : Piece

-- a token, and the places where it begins and ends, in bytes from 0
pub record Token : Type 0 where
  pub piece : Piece
  pub from : ℕ
  pub to : ℕ

-- a tag's name ends here: space, `/` or `>`
abbrev pub ends_name : List ℕ → Bool
ends_name [] = false
ends_name (b ∷ bs) = is_ascii_whitespace b || b == 47 || b == 62

-- a byte between attributes: space or `/`
abbrev pub is_between : ℕ → Bool
is_between b = is_ascii_whitespace b || b == 47

-- an attribute's name ends here: space, `/`, `>` or `=`
abbrev pub ends_attribute_name : List ℕ → Bool
ends_attribute_name bytes = ends_name bytes || slice_index bytes 0 == 61

-- a value without quotes ends here: space or `>`
abbrev pub ends_unquoted_value : List ℕ → Bool
ends_unquoted_value [] = false
ends_unquoted_value (b ∷ bs) = is_ascii_whitespace b || b == 62

-- a byte stands here that is no space
abbrev pub no_space : List ℕ → Bool
no_space [] = false
no_space (b ∷ bs) = not (is_ascii_whitespace b)

-- `"` or `'`
abbrev pub is_quote : ℕ → Bool
is_quote b = b == 34 || b == 39

-- an attribute at the front: its name and value, and how many bytes it takes
pub record Attribute : Type 0 where
  pub name : List ℕ
  pub value : List ℕ
  pub size : ℕ

-- the value behind `before` bytes of an attribute: between two equal quotes, or up to space or `>`
abbrev pub with_value : List ℕ → ℕ → List ℕ → Attribute
with_value name before text =
    let quote = slice_index text 0 in
    let quoted = up_to (λ rest. slice_index rest 0 == quote) (drop 1 text) in
    let plain = up_to ends_unquoted_value text in
    cond (is_quote quote) (record { name = name; value = take quoted (drop 1 text); size = before + quoted + 2 })
    (record { name = name; value = take plain text; size = before + plain })

-- the attribute at the front, whose first byte is always part of its name. Where after optional space a `=` stands, its
-- value follows after optional space; else its value is empty.
abbrev pub attribute : List ℕ → Attribute
attribute text =
    let named = suc (up_to ends_attribute_name (drop 1 text)) in
    let equals = named + up_to no_space (drop named text) in
    let value = suc equals + up_to no_space (drop (suc equals) text) in
    cond (slice_index (drop equals text) 0 == 61) (with_value (take named text) value (drop value text))
    (record { name = take named text; value = []; size = named })

-- how many more bytes are part of what begins with this one inside a tag: an attribute, or one byte between attributes
abbrev pub more_in_tag : List ℕ → ℕ
more_in_tag [] = 0
more_in_tag (b ∷ bs) = cond (is_between b) 0 ((attribute (b ∷ bs)).size - 1)

-- how many bytes behind a tag's name stand before the `>` that ends it, all where none does; the first `skip` are within
-- an attribute
abbrev pub to_tag_end : ℕ → List ℕ → ℕ
to_tag_end skip [] = 0
to_tag_end (suc skip) (b ∷ bs) = suc (to_tag_end skip bs)
to_tag_end zero (b ∷ bs) = cond (b == 62) 0 (suc (to_tag_end (more_in_tag (b ∷ bs)) bs))

-- a tag with this text between its name and `>` is self-closing: a `/` stands last, and is part of no attribute; the first
-- `skip` bytes are within an attribute
abbrev pub is_self_closing : ℕ → List ℕ → Bool
is_self_closing skip [] = false
is_self_closing (suc skip) (b ∷ bs) = is_self_closing skip bs
is_self_closing zero (b ∷ []) = b == 47
is_self_closing zero (b ∷ c ∷ bs) = is_self_closing (more_in_tag (b ∷ c ∷ bs)) (c ∷ bs)

-- the attributes in the text between a tag's name and its `>`, as they are spelled; the first `skip` bytes are within one
-- that began before
abbrev pub attributes : ℕ → List ℕ → List Attribute
attributes skip [] = []
attributes (suc skip) (b ∷ bs) = attributes skip bs
attributes zero (b ∷ bs) =
    cond (is_between b) (attributes 0 bs) (attribute (b ∷ bs) ∷ attributes (more_in_tag (b ∷ bs)) bs)

-- the name and the value of each of them
abbrev pub attribute_pairs : List ℕ → List (List ℕ × List ℕ)
attribute_pairs attrs = map (λ (a : Attribute). (a.name, a.value)) (attributes 0 attrs)

-- a token at the front, and how many bytes it takes
pub record Found : Type 0 where
  pub piece : Piece
  pub size : ℕ

-- a start tag begins here: `<` and a letter
abbrev pub is_start : List ℕ → Bool
is_start bytes = slice_index bytes 0 == 60 && is_ascii_alphabetic (slice_index bytes 1)

-- an end tag begins here: `</` and a letter
abbrev pub is_end : List ℕ → Bool
is_end bytes = begins (codes "</") bytes && is_ascii_alphabetic (slice_index bytes 2)

-- a comment that ends at the first `>` begins here: `<!`, `<?`, or `</` and a byte that is no letter
abbrev pub is_bogus_comment : List ℕ → Bool
is_bogus_comment bytes =
    begins (codes "<!") bytes || begins (codes "<?") bytes
    || (begins (codes "</") bytes && nat_lt 2 (length bytes) && not (is_ascii_alphabetic (slice_index bytes 2)))

-- something other than text begins here; comments and doctypes begin with `<!` too
abbrev pub opens : List ℕ → Bool
opens bytes = is_start bytes || is_end bytes || is_bogus_comment bytes

-- how many bytes stand up to and with what stands at the first place that passes, which takes `last` bytes, or up to the
-- end
abbrev pub through : (List ℕ → Bool) → ℕ → List ℕ → ℕ
through here last bytes = min (length bytes) (up_to here bytes + last)

-- `-->` stands here
abbrev pub ends_comment : List ℕ → Bool
ends_comment bytes = begins (codes "-->") bytes

-- `>` stands here
abbrev pub is_angle : List ℕ → Bool
is_angle bytes = slice_index bytes 0 == 62

-- a comment between `<!--` and the first `-->` from the second byte behind `<` on, so that `<!-->` is whole, or the end. Its
-- text is empty where the two overlap.
abbrev pub comment : List ℕ → Found
comment bytes =
    let text = up_to ends_comment (drop 2 bytes) - 2 in
    record { piece = Comment (take text (drop 4 bytes)); size = 2 + through ends_comment 3 (drop 2 bytes) }

-- a comment of any other form, up to and with the first `>`, or up to the end
abbrev pub bogus_comment : List ℕ → Found
bogus_comment bytes =
    record { piece = Comment (take (up_to is_angle (drop 2 bytes)) (drop 2 bytes)); size = through is_angle 1 bytes }

-- a doctype, up to and with the first `>`, or up to the end
abbrev pub doctype : List ℕ → Found
doctype bytes = record { piece = Doctype; size = through is_angle 1 bytes }

-- a tag whose name begins behind `before` bytes, or all that is left where no `>` ends it
abbrev pub tag : (List ℕ → List ℕ → Bool → Piece) → ℕ → List ℕ → Found
tag made before bytes =
    let name = up_to ends_name (drop before bytes) in
    let inner = drop (before + name) bytes in
    let attrs = take (to_tag_end 0 inner) inner in
    cond (nat_lt (to_tag_end 0 inner) (length inner))
    (record {
      piece = made (take name (drop before bytes)) attrs (is_self_closing 0 attrs);
      size = before + name + to_tag_end 0 inner + 1;
    })
    (record { piece = Cut; size = length bytes })

-- text, up to where something else begins, or the end
abbrev pub text : List ℕ → Found
text bytes = record { piece = Chars (take (up_to opens bytes) bytes) false; size = up_to opens bytes }

-- the raw text of the element with this name ends here: `</`, the name, the case of letters ignored, and the end of a name
abbrev pub ends_raw_text : List ℕ → List ℕ → Bool
ends_raw_text name bytes =
    begins (codes "</") bytes && begins_like name (drop 2 bytes) && ends_name (drop (2 + length name) bytes)

-- the raw text of the element with this name, up to its end or the end of the source
abbrev pub raw_text : List ℕ → List ℕ → Found
raw_text name bytes =
    record {
      piece = Chars (take (up_to (ends_raw_text name) bytes) bytes) (is_among (str_to_ascii_lowercase name) raw_text_elements);
      size = up_to (ends_raw_text name) bytes;
    }

-- raw text of the element with this name stands here, and isn't empty; with no name there is none
abbrev pub begins_raw_text : List ℕ → List ℕ → Bool
begins_raw_text name bytes = nat_lt 0 (length name) && nat_lt 0 (up_to (ends_raw_text name) bytes)

-- the token at the front of what is left, by the first rule that fits; `raw` is the name of the element whose raw text
-- begins here, empty where there is none, and raw text that is empty is no token
abbrev pub first : List ℕ → List ℕ → Found
first raw bytes =
    cond (begins_raw_text raw bytes) (raw_text raw bytes)
    (cond (begins (codes "<!--") bytes) (comment bytes)
    (cond (begins_like (codes "<!doctype") bytes) (doctype bytes)
    (cond (is_bogus_comment bytes) (bogus_comment bytes)
    (cond (is_start bytes) (tag Start 1 bytes)
    (cond (is_end bytes) (tag (λ name attrs self_closing. End name) 2 bytes) (text bytes))))))

-- the name of the element whose raw text follows a token, empty where none does
abbrev pub raw_after : Piece → List ℕ
raw_after (Start name attrs self_closing) = cond (holds_raw_text (str_to_ascii_lowercase name)) name []
raw_after (End name) = []
raw_after (Chars bytes raw) = []
raw_after (Comment bytes) = []
raw_after Doctype = []
raw_after Cut = []

-- the tokens of what is left of a source from a place on, where raw text of the element `raw` begins behind the first `skip`
-- bytes, which are within a token that began before
abbrev pub tokens_from : ℕ → ℕ → List ℕ → List ℕ → List Token
tokens_from place skip raw [] = []
tokens_from place (suc skip) raw (b ∷ bs) = tokens_from (suc place) skip raw bs
tokens_from place zero raw (b ∷ bs) =
    let found = first raw (b ∷ bs) in
    record { piece = found.piece; from = place; to = place + found.size }
    ∷ tokens_from (suc place) (found.size - 1) (raw_after found.piece) bs

-- the tokens of a source
abbrev pub tokens : List ℕ → List Token
tokens source = tokens_from 0 0 [] source
