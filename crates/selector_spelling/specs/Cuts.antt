-- Texts cut at bare bytes: a text into chains, a chain into compounds and the combinators between them.
use Rattle.std.specs.Prelude.{ℕ, ◌+◌, Bool, not, ◌==◌, ◌&&◌, ◌||◌, List, [], ◌∷◌, ◌++◌, length, if◌then◌else◌}
use Rattle.cos_source.specs.Spaces.{is_space}
use Rattle.selector_spelling.specs.Bytes.{Bytes, is_empty, is_blank, comma, greater, plus, tilde}
use Rattle.selector_spelling.specs.Scan.{Scan, bare, is_bare, step}

-- a part of a text: the sign that stands before it, its place, and its bytes
pub record Part : Type 0 where
  pub sign : ℕ
  pub at : ℕ
  pub text : Bytes

-- one more byte at the front of the first part
abbrev pub longer : ℕ → ℕ → ℕ → List Part → List Part
longer sign at b [] = record { sign = sign; at = at; text = b ∷ [] } ∷ []
longer sign at b (part ∷ parts) = record { sign = sign; at = at; text = b ∷ part.text } ∷ parts

-- the parts between the bare bytes that pass
abbrev pub parts_from : (ℕ → Bool) → Scan → ℕ → ℕ → Bytes → List Part
parts_from p s sign at [] = record { sign = sign; at = at; text = [] } ∷ []
parts_from p s sign at (b ∷ text) =
    let cuts = is_bare s && p b in
    let others = parts_from p (step s b text) (if cuts then b else sign) (at + 1) text in
    if cuts then record { sign = sign; at = at; text = [] } ∷ others else longer sign at b others

-- no sign stands before the first part
abbrev pub parts : (ℕ → Bool) → ℕ → Bytes → List Part
parts p at text = parts_from p bare 0 at text

-- between chains
abbrev pub is_comma : ℕ → Bool
is_comma b = b == comma

-- a combinator but white space
abbrev pub is_sign : ℕ → Bool
is_sign b = b == greater || b == plus || b == tilde

-- what a chain says one after the other
pub data Item : Type 0 where
  combinator : (b : ℕ) → Item
  compound : (at : ℕ) → (text : Bytes) → Item
  missing : (at : ℕ) → Item

-- white space as a combinator
abbrev pub space : ℕ
space = 32

-- without the parts that are empty, which stand beside white space
abbrev pub filled : List Part → List Part
filled [] = []
filled (part ∷ parts) = if is_empty part.text then filled parts else part ∷ filled parts

-- further compounds, each behind white space
abbrev pub behind_space : List Part → List Item
behind_space [] = []
behind_space (part ∷ parts) = combinator space ∷ compound part.at part.text ∷ behind_space parts

-- the compounds that stand between two signs; where there is none, one is missing at the end
abbrev pub compounds : ℕ → List Part → List Item
compounds end [] = missing end ∷ []
compounds end (part ∷ parts) = compound part.at part.text ∷ behind_space parts

abbrev pub compounds_of : Part → List Item
compounds_of part = compounds (part.at + length part.text) (filled (parts is_space part.at part.text))

-- the parts of a chain behind its first
abbrev pub behind_signs : List Part → List Item
behind_signs [] = []
behind_signs (part ∷ parts) = combinator part.sign ∷ compounds_of part ++ behind_signs parts

abbrev pub items : List Part → List Item
items [] = []
items (part ∷ parts) = compounds_of part ++ behind_signs parts

-- a chain of `:has`: it begins with a sign, or else with Descendant
abbrev pub items_of_has : List Part → List Item
items_of_has [] = []
items_of_has (part ∷ parts) = if is_blank part.text && not (is_empty parts) then behind_signs parts else combinator space ∷ items (part ∷ parts)

abbrev pub items_of : Bool → Part → List Item
items_of in_has chain =
    let signed = parts is_sign chain.at chain.text in
    if in_has then items_of_has signed else items signed
