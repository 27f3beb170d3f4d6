-- The inside of `[..]`.
use Rattle.std.specs.Prelude.{Bool, true, false, ◌==◌, [], ◌∷◌, codes, Option, Some, None, option_and_then, if◌then◌else◌}
use Rattle.std.specs.Str.{bytes_eq, str_to_ascii_lowercase}
use Rattle.cos_source.specs.Spaces.{trimmed, without_first_spaces}
use Rattle.selector_tree.specs.declared.selector.AttrOp.{AttrOp}
use Rattle.selector_tree.specs.declared.selector.AttrOp.TheVariants.{Exists, Equals, Word, Dash, Prefix, Suffix, Part}
use Rattle.selector_tree.specs.declared.selector.Test.{Test}
use Rattle.selector_tree.specs.declared.selector.Test.TheVariants as test
use Rattle.selector_spelling.specs.Bytes.{Bytes, is_quote, is_empty, equals, tilde, star}
use Rattle.selector_spelling.specs.Names.{Taken, name, string}

infixl 10 ◌>>=◌
abbrev pub ◌>>=◌ : {A B : Type 0} → Option A → (A → Option B) → Option B
o >>= f = option_and_then f o

-- how a value is compared, and the text behind that sign
pub record Comparison : Type 0 where
  pub op : AttrOp
  pub rest : Bytes

abbrev pub with_equals : AttrOp → Bytes → Option Comparison
with_equals op [] = None
with_equals op (b ∷ text) = if b == equals then Some (record { op = op; rest = text }) else None

-- one of `= ~= |= ^= $= *=`
abbrev pub comparison : Bytes → Option Comparison
comparison [] = None
comparison (b ∷ text) =
    if b == equals then Some (record { op = Equals; rest = text })
    else if b == tilde then with_equals Word text
    else if b == 124 then with_equals Dash text
    else if b == 94 then with_equals Prefix text
    else if b == 36 then with_equals Suffix text
    else if b == star then with_equals Part text
    else None

-- a name or a string
abbrev pub value : Bytes → Option Taken
value [] = None
value (b ∷ text) = if is_quote b then string b 0 text else name (b ∷ text)

-- whether letter case is ignored, by the flag in lower case; `s` says that it isn't
abbrev pub flag : Bytes → Option Bool
flag text =
    if is_empty text then Some false
    else if bytes_eq text (codes "i") then Some true
    else if bytes_eq text (codes "s") then Some false
    else None

abbrev pub compared : Bytes → Bytes → Option Test
compared key text = do
  c ← comparison text
  v ← value (without_first_spaces c.rest)
  f ← flag (str_to_ascii_lowercase (trimmed v.rest))
  Some (test.Attr (str_to_ascii_lowercase key) c.op v.value f)

abbrev pub attribute : Bytes → Option Test
attribute text = do
  key ← name (without_first_spaces text)
  let rest = without_first_spaces key.rest
  if is_empty rest then Some (test.Attr (str_to_ascii_lowercase key.value) Exists [] false) else compared key.value rest
