-- The canonical text of a chain is cut into its compounds and combinators.
use Rattle.std.proofs.Common.{◌≡◌, ℕ, Bool, true, false, not, ◌&&◌, List, [], ◌∷◌, ◌++◌, map, if◌then◌else◌, refl, sym, ap, ◌∙◌, append_assoc, append-nil, inl, inr}
use Rattle.std.specs.Char.{is_ascii_digit}
use Rattle.std.proofs.lemmas.Bool.{cases_Bool, not-true, both_ways}
use Rattle.cos_source.specs.Spaces.{is_space, without_first_spaces}
use Rattle.selector_tree.specs.declared.selector.Place.{Place}
use Rattle.selector_tree.specs.declared.selector.Place.TheVariants.{Child, Descendant, Next, After}
use Rattle.selector_tree.specs.Canonical.{place_text, sign_text}
use Rattle.selector_spelling.specs.Bytes.{Bytes, is_empty, is_blank}
use Rattle.selector_spelling.specs.Scan.{bare}
use Rattle.selector_spelling.specs.Cuts.{is_comma, is_sign}
use Rattle.selector_spelling.specs.Texts.{place_of}
use Rattle.selector_round_trip.proofs.Scanned.{IsClosed, IsSound, IsSound-append, IsSound-nil, closed_sound}
use Rattle.selector_round_trip.proofs.Classes.{apart, implied, digit_low}
use Rattle.selector_round_trip.proofs.Operators.{ends_piece}
use Rattle.selector_round_trip.proofs.Pieces.{begins_piece, Starts}
use Rattle.selector_round_trip.proofs.Compounds.{IsBegun}
use Rattle.selector_round_trip.proofs.Cutting.{Cut, with_byte, cuts_from, Shape, sign_shape, compound_shape, words, spaced, compound_shapes, words_of, shapes_of, signed_shapes, item_shapes, has_shapes, chain_shapes, prefixed, prefixed-one, prefixed-append, cuts-closed, comma_cuts, sign_cuts, space_cuts}

-- the sign of a combinator
abbrev pub sign_of : Place → ℕ
sign_of Child = 62
sign_of Descendant = 32
sign_of Next = 43
sign_of After = 126

pub place_again : (p : Place) → place_of (sign_of p) ≡ p
place_again Child = refl
place_again Descendant = refl
place_again Next = refl
place_again After = refl

-- a combinator, and the text of the compound behind it
pub record Link : Type 0 where
  pub place : Place
  pub text : Bytes

-- the text of a compound
pub record IsWord (k : ℕ) (text : Bytes) : Type 0 where
  pub some : is_empty text ≡ false
  pub begun : IsBegun true text
  pub closed : (rest : Bytes) → ends_piece rest ≡ true → IsClosed k text rest

abbrev pub AreWords : ℕ → List Link → Type 0
AreWords k [] = Unit {0}
AreWords k (l ∷ ls) = IsWord k l.text × AreWords k ls

abbrev pub links_text : List Link → Bytes
links_text [] = []
links_text (l ∷ ls) = place_text l.place ++ (l.text ++ links_text ls)

abbrev pub links_shapes : List Link → List Shape
links_shapes [] = []
links_shapes (l ∷ ls) = sign_shape (sign_of l.place) ∷ compound_shape l.text ∷ links_shapes ls

pub place_ends : (p : Place) (rest : Bytes) → ends_piece (place_text p ++ rest) ≡ true
place_ends Child rest = refl
place_ends Descendant rest = refl
place_ends Next rest = refl
place_ends After rest = refl

pub links_end : (ls : List Link) (rest : Bytes) → ends_piece rest ≡ true → ends_piece (links_text ls ++ rest) ≡ true
links_end [] rest h = h
links_end (l ∷ ls) rest h = ap ends_piece (append_assoc (place_text l.place) (l.text ++ links_text ls) rest) ∙ place_ends l.place ((l.text ++ links_text ls) ++ rest)

links_ends : (ls : List Link) → ends_piece (links_text ls) ≡ true
links_ends [] = refl
links_ends (l ∷ ls) = place_ends l.place (l.text ++ links_text ls)

-- ---- the first byte

-- a digit begins no piece
digit_begins : (b : ℕ) → is_ascii_digit b ≡ true → begins_piece true b ≡ false
digit_begins b h = not-true (begins_piece true b) (implied is_ascii_digit (λ k. not (begins_piece true k)) b refl (digit_low b h) h)

begins_apart : (b : ℕ) → begins_piece true b ≡ true → (is_space b ≡ false) × (is_ascii_digit b ≡ false)
begins_apart b h =
    let d = apart (begins_piece true) b in (
      rw (d 32 h refl, d 9 h refl, d 12 h refl, d 13 h refl) refl,
      elim (cases_Bool (is_ascii_digit b)) [
        | inl digit ↦ absurd (both_ways (begins_piece true b) (digit_begins b digit) h)
        | inr other ↦ other
      ],
    )

pub word_starts : (k : ℕ) (text rest : Bytes) → IsWord k text → Starts (text ++ rest)
word_starts k [] rest w = absurd (both_ways true w.some refl)
word_starts k (b ∷ text) rest w = (let a = begins_apart b w.begun in record { first = b; others = text ++ rest; is = refl; solid = a.0; letter = a.1 })

starts_not_blank : (text : Bytes) → Starts text → is_blank text ≡ false
starts_not_blank text s = ap is_blank s.is ∙ ap (λ (c : Bool). is_empty (if c then without_first_spaces s.others else s.first ∷ s.others)) s.solid

-- ---- signs

abbrev tail_by : Place → Bytes → Bytes → Bytes
tail_by Child t rest = 32 ∷ []
tail_by Descendant t rest = 32 ∷ (t ++ rest)
tail_by Next t rest = 32 ∷ []
tail_by After t rest = 32 ∷ []

-- what stands up to the next sign
abbrev tail_text : List Link → Bytes
tail_text [] = []
tail_text (l ∷ ls) = tail_by l.place l.text (tail_text ls)

abbrev cuts_by : Place → Bytes → List Cut → List Cut
cuts_by Child t cuts = record { sign = 62; text = t } ∷ cuts
cuts_by Descendant t cuts = cuts
cuts_by Next t cuts = record { sign = 43; text = t } ∷ cuts
cuts_by After t cuts = record { sign = 126; text = t } ∷ cuts

abbrev tail_cuts : List Link → List Cut
tail_cuts [] = []
tail_cuts (l ∷ ls) = cuts_by l.place (32 ∷ (l.text ++ tail_text ls)) (tail_cuts ls)

front_cuts : (k sign : ℕ) (c : Bytes) (ls : List Link) → IsWord k c → cuts_from is_sign bare sign (links_text ls) ≡ record { sign = sign; text = tail_text ls } ∷ tail_cuts ls
    → cuts_from is_sign bare sign (c ++ links_text ls) ≡ record { sign = sign; text = c ++ tail_text ls } ∷ tail_cuts ls
front_cuts k sign c ls w h =
    cuts-closed is_sign k sign c (links_text ls) sign_cuts (w.closed (links_text ls) (links_ends ls)) ∙ ap (prefixed sign c) h ∙ prefixed-one sign c (tail_text ls) (tail_cuts ls)

abbrev signed_link : ℕ → Place → Bytes → List Link → Type 0
signed_link sign p t ls = cuts_from is_sign bare sign (place_text p ++ (t ++ links_text ls)) ≡ record { sign = sign; text = tail_by p t (tail_text ls) } ∷ cuts_by p (32 ∷ (t ++ tail_text ls)) (tail_cuts ls)

link_cuts : (k sign : ℕ) (p : Place) (t : Bytes) (ls : List Link) → IsWord k t → ((s : ℕ) → cuts_from is_sign bare s (links_text ls) ≡ record { sign = s; text = tail_text ls } ∷ tail_cuts ls) → signed_link sign p t ls
link_cuts k sign Child t ls w h = ap (λ (x : List Cut). record { sign = sign; text = 32 ∷ [] } ∷ with_byte 62 32 x) (front_cuts k 62 t ls w (h 62))
link_cuts k sign Descendant t ls w h = ap (with_byte sign 32) (front_cuts k sign t ls w (h sign))
link_cuts k sign Next t ls w h = ap (λ (x : List Cut). record { sign = sign; text = 32 ∷ [] } ∷ with_byte 43 32 x) (front_cuts k 43 t ls w (h 43))
link_cuts k sign After t ls w h = ap (λ (x : List Cut). record { sign = sign; text = 32 ∷ [] } ∷ with_byte 126 32 x) (front_cuts k 126 t ls w (h 126))

links_cuts : (k sign : ℕ) (ls : List Link) → AreWords k ls → cuts_from is_sign bare sign (links_text ls) ≡ record { sign = sign; text = tail_text ls } ∷ tail_cuts ls
links_cuts k sign [] h = refl
links_cuts k sign (l ∷ ls) h = link_cuts k sign l.place l.text ls h.0 (λ s. links_cuts k s ls h.1)

-- ---- white space

abbrev words_by : Place → Bytes → List Cut → List Cut
words_by Child t cuts = record { sign = 32; text = [] } ∷ []
words_by Descendant t cuts = record { sign = 32; text = t } ∷ cuts
words_by Next t cuts = record { sign = 32; text = [] } ∷ []
words_by After t cuts = record { sign = 32; text = [] } ∷ []

abbrev word_cuts : List Link → List Cut
word_cuts [] = []
word_cuts (l ∷ ls) = words_by l.place l.text (word_cuts ls)

by_place : (p : Place) (t rest : Bytes) → ends_piece (tail_by p t rest) ≡ true
by_place Child t rest = refl
by_place Descendant t rest = refl
by_place Next t rest = refl
by_place After t rest = refl

tail_ends : (ls : List Link) → ends_piece (tail_text ls) ≡ true
tail_ends [] = refl
tail_ends (l ∷ ls) = by_place l.place l.text (tail_text ls)

front_words : (k sign : ℕ) (c : Bytes) (ls : List Link) → IsWord k c → cuts_from is_space bare sign (tail_text ls) ≡ record { sign = sign; text = [] } ∷ word_cuts ls
    → cuts_from is_space bare sign (c ++ tail_text ls) ≡ record { sign = sign; text = c } ∷ word_cuts ls
front_words k sign c ls w h =
    cuts-closed is_space k sign c (tail_text ls) space_cuts (w.closed (tail_text ls) (tail_ends ls)) ∙ ap (prefixed sign c) h ∙ prefixed-one sign c [] (word_cuts ls)
    ∙ ap (λ (t : Bytes). record { sign = sign; text = t } ∷ word_cuts ls) (append-nil c)

spaced_link : (k sign : ℕ) (p : Place) (t : Bytes) (ls : List Link) → IsWord k t → ((s : ℕ) → cuts_from is_space bare s (tail_text ls) ≡ record { sign = s; text = [] } ∷ word_cuts ls)
    → cuts_from is_space bare sign (tail_by p t (tail_text ls)) ≡ record { sign = sign; text = [] } ∷ words_by p t (word_cuts ls)
spaced_link k sign Child t ls w h = refl
spaced_link k sign Descendant t ls w h = ap (λ (x : List Cut). record { sign = sign; text = [] } ∷ x) (front_words k 32 t ls w (h 32))
spaced_link k sign Next t ls w h = refl
spaced_link k sign After t ls w h = refl

spaced_links : (k sign : ℕ) (ls : List Link) → AreWords k ls → cuts_from is_space bare sign (tail_text ls) ≡ record { sign = sign; text = [] } ∷ word_cuts ls
spaced_links k sign [] h = refl
spaced_links k sign (l ∷ ls) h = spaced_link k sign l.place l.text ls h.0 (λ s. spaced_links k s ls h.1)

abbrev texts : List Cut → List Bytes
texts cuts = map (λ c. c.text) cuts

abbrev tail_words : List Link → List Bytes
tail_words ls = words (texts (word_cuts ls))

word_first : (k sign : ℕ) (c : Bytes) (cuts : List Cut) → IsWord k c → words (texts (record { sign = sign; text = c } ∷ cuts)) ≡ c ∷ words (texts cuts)
word_first k sign c cuts w = ap (λ (x : Bool). if x then words (texts cuts) else c ∷ words (texts cuts)) w.some

-- the compounds up to the next sign, with white space before them or not
abbrev pub space_if : Bool → Bytes → Bytes
space_if false text = text
space_if true text = 32 ∷ text

words_again : (k : ℕ) (lead : Bool) (c : Bytes) (ls : List Link) → IsWord k c → AreWords k ls → words_of (space_if lead (c ++ tail_text ls)) ≡ c ∷ tail_words ls
words_again k false c ls w h = ap (λ (x : List Cut). words (texts x)) (front_words k 0 c ls w (spaced_links k 0 ls h)) ∙ word_first k 0 c (word_cuts ls) w
words_again k true c ls w h = ap (λ (x : List Cut). words (texts x)) (front_words k 32 c ls w (spaced_links k 32 ls h)) ∙ word_first k 32 c (word_cuts ls) w

-- ---- both

link_shapes : (k : ℕ) (p : Place) (t : Bytes) (ls : List Link) → IsWord k t → AreWords k ls → spaced (tail_words ls) ++ signed_shapes (tail_cuts ls) ≡ links_shapes ls
    → spaced (words (texts (words_by p t (word_cuts ls)))) ++ signed_shapes (cuts_by p (32 ∷ (t ++ tail_text ls)) (tail_cuts ls)) ≡ sign_shape (sign_of p) ∷ compound_shape t ∷ links_shapes ls
link_shapes k Child t ls w all h = ap (λ (x : List Bytes). sign_shape 62 ∷ compound_shapes x ++ signed_shapes (tail_cuts ls)) (words_again k true t ls w all) ∙ ap (λ (x : List Shape). sign_shape 62 ∷ compound_shape t ∷ x) h
link_shapes k Descendant t ls w all h = ap (λ (x : List Bytes). spaced x ++ signed_shapes (tail_cuts ls)) (word_first k 32 t (word_cuts ls) w) ∙ ap (λ (x : List Shape). sign_shape 32 ∷ compound_shape t ∷ x) h
link_shapes k Next t ls w all h = ap (λ (x : List Bytes). sign_shape 43 ∷ compound_shapes x ++ signed_shapes (tail_cuts ls)) (words_again k true t ls w all) ∙ ap (λ (x : List Shape). sign_shape 43 ∷ compound_shape t ∷ x) h
link_shapes k After t ls w all h = ap (λ (x : List Bytes). sign_shape 126 ∷ compound_shapes x ++ signed_shapes (tail_cuts ls)) (words_again k true t ls w all) ∙ ap (λ (x : List Shape). sign_shape 126 ∷ compound_shape t ∷ x) h

behind_shapes : (k : ℕ) (ls : List Link) → AreWords k ls → spaced (tail_words ls) ++ signed_shapes (tail_cuts ls) ≡ links_shapes ls
behind_shapes k [] h = refl
behind_shapes k (l ∷ ls) h = link_shapes k l.place l.text ls h.0 h.1 (behind_shapes k ls h.1)

first_shapes : (k : ℕ) (lead : Bool) (c : Bytes) (ls : List Link) → IsWord k c → AreWords k ls → shapes_of (space_if lead (c ++ tail_text ls)) ++ signed_shapes (tail_cuts ls) ≡ compound_shape c ∷ links_shapes ls
first_shapes k lead c ls w h =
    ap (λ (x : List Bytes). compound_shapes x ++ signed_shapes (tail_cuts ls)) (words_again k lead c ls w h) ∙ ap (λ (x : List Shape). compound_shape c ∷ x) (behind_shapes k ls h)

lead_cuts : (k sign : ℕ) (lead : Bool) (c : Bytes) (ls : List Link) → IsWord k c → AreWords k ls
    → cuts_from is_sign bare sign (space_if lead (c ++ links_text ls)) ≡ record { sign = sign; text = space_if lead (c ++ tail_text ls) } ∷ tail_cuts ls
lead_cuts k sign false c ls w h = front_cuts k sign c ls w (links_cuts k sign ls h)
lead_cuts k sign true c ls w h = ap (with_byte sign 32) (front_cuts k sign c ls w (links_cuts k sign ls h))

-- a chain is cut into its compounds and combinators
pub plain_chain : (k : ℕ) (lead : Bool) (c : Bytes) (ls : List Link) → IsWord k c → AreWords k ls → chain_shapes false (space_if lead (c ++ links_text ls)) ≡ compound_shape c ∷ links_shapes ls
plain_chain k lead c ls w h = ap item_shapes (lead_cuts k 0 lead c ls w h) ∙ first_shapes k lead c ls w h

-- a chain of `:has` too, with the sign that it begins with
abbrev pub has_text : Place → Bytes → List Link → Bytes
has_text p c ls = sign_text p ++ (c ++ links_text ls)

not_blank : (k : ℕ) (lead : Bool) (c rest : Bytes) → IsWord k c → is_blank (space_if lead (c ++ rest)) ≡ false
not_blank k false c rest w = starts_not_blank (c ++ rest) (word_starts k c rest w)
not_blank k true c rest w = starts_not_blank (c ++ rest) (word_starts k c rest w)

has_plain : (k : ℕ) (lead : Bool) (c : Bytes) (ls : List Link) → IsWord k c → AreWords k ls → chain_shapes true (space_if lead (c ++ links_text ls)) ≡ sign_shape 32 ∷ compound_shape c ∷ links_shapes ls
has_plain k lead c ls w h =
    let first : Cut = record { sign = 0; text = space_if lead (c ++ tail_text ls) } in
    let cuts = tail_cuts ls in
    ap has_shapes (lead_cuts k 0 lead c ls w h)
    ∙ ap (λ (x : Bool). if x && not (is_empty cuts) then signed_shapes cuts else sign_shape 32 ∷ item_shapes (first ∷ cuts)) (not_blank k lead c (tail_text ls) w)
    ∙ ap (λ (x : List Shape). sign_shape 32 ∷ x) (first_shapes k lead c ls w h)

blank_lead : (lead : Bool) → is_blank (space_if lead []) ≡ true
blank_lead true = refl
blank_lead false = refl

has_signed : (k s : ℕ) (lead : Bool) (c : Bytes) (ls : List Link) → IsWord k c → AreWords k ls
    → cuts_from is_sign bare 0 (space_if lead (s ∷ 32 ∷ (c ++ links_text ls))) ≡ record { sign = 0; text = space_if lead [] } ∷ with_byte s 32 (cuts_from is_sign bare s (c ++ links_text ls))
    → chain_shapes true (space_if lead (s ∷ 32 ∷ (c ++ links_text ls))) ≡ sign_shape s ∷ compound_shape c ∷ links_shapes ls
has_signed k s lead c ls w h e =
    let cuts = record { sign = s; text = 32 ∷ (c ++ tail_text ls) } ∷ tail_cuts ls in
    ap has_shapes (e ∙ ap (λ (x : List Cut). record { sign = 0; text = space_if lead [] } ∷ with_byte s 32 x) (front_cuts k s c ls w (links_cuts k s ls h)))
    ∙ ap (λ (x : Bool). if x && true then signed_shapes cuts else sign_shape 32 ∷ item_shapes (record { sign = 0; text = space_if lead [] } ∷ cuts)) (blank_lead lead)
    ∙ ap (λ (x : List Shape). sign_shape s ∷ x) (first_shapes k true c ls w h)

pub has_chain : (k : ℕ) (lead : Bool) (p : Place) (c : Bytes) (ls : List Link) → IsWord k c → AreWords k ls
    → chain_shapes true (space_if lead (has_text p c ls)) ≡ sign_shape (sign_of p) ∷ compound_shape c ∷ links_shapes ls
has_chain k true Child c ls w h = has_signed k 62 true c ls w h refl
has_chain k false Child c ls w h = has_signed k 62 false c ls w h refl
has_chain k lead Descendant c ls w h = has_plain k lead c ls w h
has_chain k true Next c ls w h = has_signed k 43 true c ls w h refl
has_chain k false Next c ls w h = has_signed k 43 false c ls w h refl
has_chain k true After c ls w h = has_signed k 126 true c ls w h refl
has_chain k false After c ls w h = has_signed k 126 false c ls w h refl

-- ---- commas

word_commas : (k sign : ℕ) (c rest : Bytes) → IsWord k c → ends_piece rest ≡ true → cuts_from is_comma bare sign (c ++ rest) ≡ prefixed sign c (cuts_from is_comma bare sign rest)
word_commas k sign c rest w ends = cuts-closed is_comma k sign c rest comma_cuts (w.closed rest ends)

place_commas : (sign : ℕ) (p : Place) (rest : Bytes) → cuts_from is_comma bare sign (place_text p ++ rest) ≡ prefixed sign (place_text p) (cuts_from is_comma bare sign rest)
place_commas sign Child rest = refl
place_commas sign Descendant rest = refl
place_commas sign Next rest = refl
place_commas sign After rest = refl

sign_commas : (sign : ℕ) (p : Place) (rest : Bytes) → cuts_from is_comma bare sign (sign_text p ++ rest) ≡ prefixed sign (sign_text p) (cuts_from is_comma bare sign rest)
sign_commas sign Child rest = refl
sign_commas sign Descendant rest = refl
sign_commas sign Next rest = refl
sign_commas sign After rest = refl

-- no comma cuts the front of a text
abbrev pub Uncut : Bytes → Bytes → Type 0
Uncut text rest = (sign : ℕ) → cuts_from is_comma bare sign (text ++ rest) ≡ prefixed sign text (cuts_from is_comma bare sign rest)

uncut-append : (a b rest : Bytes) → Uncut a (b ++ rest) → Uncut b rest → Uncut (a ++ b) rest
uncut-append a b rest h g sign =
    ap (cuts_from is_comma bare sign) (append_assoc a b rest) ∙ h sign ∙ ap (prefixed sign a) (g sign) ∙ sym (prefixed-append sign a b (cuts_from is_comma bare sign rest))

links_uncut : (k : ℕ) (ls : List Link) (rest : Bytes) → AreWords k ls → ends_piece rest ≡ true → Uncut (links_text ls) rest
links_uncut k [] rest h ends = λ sign. refl
links_uncut k (l ∷ ls) rest h ends =
    let more = links_text ls in
    uncut-append (place_text l.place) (l.text ++ more) rest (λ sign. place_commas sign l.place ((l.text ++ more) ++ rest))
    (uncut-append l.text more rest (λ sign. word_commas k sign l.text (more ++ rest) h.0 (links_end ls rest ends)) (links_uncut k ls rest h.1 ends))

pub chain_uncut : (k : ℕ) (c : Bytes) (ls : List Link) (rest : Bytes) → IsWord k c → AreWords k ls → ends_piece rest ≡ true → Uncut (c ++ links_text ls) rest
chain_uncut k c ls rest w h ends = uncut-append c (links_text ls) rest (λ sign. word_commas k sign c (links_text ls ++ rest) w (links_end ls rest ends)) (links_uncut k ls rest h ends)

pub has_uncut : (k : ℕ) (p : Place) (c : Bytes) (ls : List Link) (rest : Bytes) → IsWord k c → AreWords k ls → ends_piece rest ≡ true → Uncut (has_text p c ls) rest
has_uncut k p c ls rest w h ends = uncut-append (sign_text p) (c ++ links_text ls) rest (λ sign. sign_commas sign p ((c ++ links_text ls) ++ rest)) (chain_uncut k c ls rest w h ends)

-- ---- balance and depth

place_sound : (k : ℕ) (p : Place) (rest : Bytes) → IsSound k (place_text p) rest
place_sound k Child rest = record { sound = refl; ends = refl }
place_sound k Descendant rest = record { sound = refl; ends = refl }
place_sound k Next rest = record { sound = refl; ends = refl }
place_sound k After rest = record { sound = refl; ends = refl }

sign_sound : (k : ℕ) (p : Place) (rest : Bytes) → IsSound k (sign_text p) rest
sign_sound k Child rest = record { sound = refl; ends = refl }
sign_sound k Descendant rest = record { sound = refl; ends = refl }
sign_sound k Next rest = record { sound = refl; ends = refl }
sign_sound k After rest = record { sound = refl; ends = refl }

links_sound : (k : ℕ) (ls : List Link) (rest : Bytes) → AreWords k ls → ends_piece rest ≡ true → IsSound k (links_text ls) rest
links_sound k [] rest h ends = IsSound-nil k rest
links_sound k (l ∷ ls) rest h ends =
    let more = links_text ls in
    IsSound-append k (place_text l.place) (l.text ++ more) rest (place_sound k l.place ((l.text ++ more) ++ rest))
    (IsSound-append k l.text more rest (closed_sound k l.text (more ++ rest) (h.0.closed (more ++ rest) (links_end ls rest ends))) (links_sound k ls rest h.1 ends))

pub chain_sound : (k : ℕ) (c : Bytes) (ls : List Link) (rest : Bytes) → IsWord k c → AreWords k ls → ends_piece rest ≡ true → IsSound k (c ++ links_text ls) rest
chain_sound k c ls rest w h ends =
    IsSound-append k c (links_text ls) rest (closed_sound k c (links_text ls ++ rest) (w.closed (links_text ls ++ rest) (links_end ls rest ends))) (links_sound k ls rest h ends)

pub has_sound : (k : ℕ) (p : Place) (c : Bytes) (ls : List Link) (rest : Bytes) → IsWord k c → AreWords k ls → ends_piece rest ≡ true → IsSound k (has_text p c ls) rest
has_sound k p c ls rest w h ends = IsSound-append k (sign_text p) (c ++ links_text ls) rest (sign_sound k p ((c ++ links_text ls) ++ rest)) (chain_sound k c ls rest w h ends)
