-- The items of a chain: compounds with combinators between them.
use Rattle.std.proofs.Common.{◌≡◌, ℕ, ◌+◌, Bool, true, false, not, ◌&&◌, List, [], ◌∷◌, ◌++◌, length, if◌then◌else◌, refl}
use Rattle.std.proofs.lemmas.Bool.{both_ways, not-true, and_parts}
use Rattle.selector_spelling.specs.Bytes.{Bytes, is_empty, is_blank}
use Rattle.selector_spelling.specs.Scan.{Scan, bare, is_bare}
use Rattle.selector_spelling.specs.Cuts.{Part, longer, parts_from, parts, is_sign, Item, combinator, compound, missing, space, filled, behind_space, compounds, compounds_of, behind_signs, items, items_of_has, items_of}
use Rattle.cos_source.specs.Spaces.{is_space}

-- combinators, each with a compound behind it, or with one missing
abbrev pub IsRest : List Item → Type 0
IsRest [] = Unit {0}
IsRest (combinator b ∷ []) = ⊥
IsRest (combinator b ∷ combinator c ∷ more) = ⊥
IsRest (combinator b ∷ compound place text ∷ more) = (is_empty text ≡ false) × IsRest more
IsRest (combinator b ∷ missing place ∷ more) = IsRest more
IsRest (compound place text ∷ more) = ⊥
IsRest (missing place ∷ more) = ⊥

-- a compound, and such items
abbrev pub IsFirst : List Item → Type 0
IsFirst [] = ⊥
IsFirst (combinator b ∷ more) = ⊥
IsFirst (compound place text ∷ more) = (is_empty text ≡ false) × IsRest more
IsFirst (missing place ∷ more) = IsRest more

-- of `:has`
abbrev pub IsLed : List Item → Type 0
IsLed [] = ⊥
IsLed (combinator b ∷ more) = IsFirst more
IsLed (compound place text ∷ more) = ⊥
IsLed (missing place ∷ more) = ⊥

rest_append : (a b : List Item) → IsRest a → IsRest b → IsRest (a ++ b)
rest_append [] b h g = g
rest_append (combinator c ∷ []) b h g = absurd h
rest_append (combinator c ∷ combinator d ∷ a) b h g = absurd h
rest_append (combinator c ∷ compound place text ∷ a) b h g = (h.0, rest_append a b h.1 g)
rest_append (combinator c ∷ missing place ∷ a) b h g = rest_append a b h g
rest_append (compound place text ∷ a) b h g = absurd h
rest_append (missing place ∷ a) b h g = absurd h

first_append : (a b : List Item) → IsFirst a → IsRest b → IsFirst (a ++ b)
first_append [] b h g = absurd h
first_append (combinator c ∷ a) b h g = absurd h
first_append (compound place text ∷ a) b h g = (h.0, rest_append a b h.1 g)
first_append (missing place ∷ a) b h g = rest_append a b h g

led_rest : (b : ℕ) (more : List Item) → IsFirst more → IsRest (combinator b ∷ more)
led_rest b [] h = absurd h
led_rest b (combinator c ∷ more) h = absurd h
led_rest b (compound place text ∷ more) h = h
led_rest b (missing place ∷ more) h = h

abbrev AreFilled : List Part → Type 0
AreFilled [] = Unit {0}
AreFilled (p ∷ ps) = (is_empty p.text ≡ false) × AreFilled ps

filled_cond : (c : Bool) (p : Part) (ps : List Part) → is_empty p.text ≡ c → AreFilled ps → AreFilled (if c then ps else p ∷ ps)
filled_cond true p ps e h = h
filled_cond false p ps e h = (e, h)

are_filled : (ps : List Part) → AreFilled (filled ps)
are_filled [] = tt
are_filled (p ∷ ps) = filled_cond (is_empty p.text) p (filled ps) refl (are_filled ps)

spaced_rest : (ps : List Part) → AreFilled ps → IsRest (behind_space ps)
spaced_rest [] h = tt
spaced_rest (p ∷ ps) h = (h.0, spaced_rest ps h.1)

compounds_first : (end : ℕ) (ps : List Part) → AreFilled ps → IsFirst (compounds end ps)
compounds_first end [] h = tt
compounds_first end (p ∷ ps) h = (h.0, spaced_rest ps h.1)

of_first : (p : Part) → IsFirst (compounds_of p)
of_first p = compounds_first (p.at + length p.text) (filled (parts is_space p.at p.text)) (are_filled (parts is_space p.at p.text))

signs_rest : (ps : List Part) → IsRest (behind_signs ps)
signs_rest [] = tt
signs_rest (p ∷ ps) = led_rest p.sign (compounds_of p ++ behind_signs ps) (first_append (compounds_of p) (behind_signs ps) (of_first p) (signs_rest ps))

abbrev pub IsSome : List Part → Type 0
IsSome [] = ⊥
IsSome (p ∷ ps) = Unit {0}

cond_some : (c : Bool) (p : Part) (ps : List Part) (sign place b : ℕ) (qs : List Part) → IsSome (if c then p ∷ ps else longer sign place b qs)
cond_some true p ps sign place b qs = tt
cond_some false p ps sign place b [] = tt
cond_some false p ps sign place b (q ∷ qs) = tt

-- a text has a part at least
pub parts_some : (p : ℕ → Bool) (s : Scan) (sign place : ℕ) (text : Bytes) → IsSome (parts_from p s sign place text)
parts_some p s sign place [] = tt
parts_some p s sign place (b ∷ text) = cond_some (is_bare s && p b) _ _ sign place b _

items_first : (ps : List Part) → IsSome ps → IsFirst (items ps)
items_first [] h = absurd h
items_first (p ∷ ps) h = first_append (compounds_of p) (behind_signs ps) (of_first p) (signs_rest ps)

signs_led : (ps : List Part) → is_empty ps ≡ false → IsLed (behind_signs ps)
signs_led [] h = absurd (both_ways true h refl)
signs_led (p ∷ ps) h = first_append (compounds_of p) (behind_signs ps) (of_first p) (signs_rest ps)

led_cond : (c : Bool) (ps : List Part) (more : List Item) → (c ≡ true → is_empty ps ≡ false) → IsFirst more → IsLed (if c then behind_signs ps else combinator space ∷ more)
led_cond true ps more h g = signs_led ps (h refl)
led_cond false ps more h g = g

has_led : (ps : List Part) → IsSome ps → IsLed (items_of_has ps)
has_led [] h = absurd h
has_led (p ∷ ps) h =
    led_cond (is_blank p.text && not (is_empty ps)) ps (items (p ∷ ps))
    (λ e. not-true (is_empty ps) (and_parts (is_blank p.text) (not (is_empty ps)) e).1) (items_first (p ∷ ps) h)

pub chain_first : (p : Part) → IsFirst (items_of false p)
chain_first p = items_first (parts is_sign p.at p.text) (parts_some is_sign bare 0 p.at p.text)

pub chain_led : (p : Part) → IsLed (items_of true p)
chain_led p = has_led (parts is_sign p.at p.text) (parts_some is_sign bare 0 p.at p.text)
