-- What is open before each byte of a text: brackets, strings, escapes. A place is bare where nothing is.
use Rattle.std.specs.Prelude.{ℕ, zero, suc, ◌+◌, nat_le, nat_lt, Bool, true, false, not, ◌==◌, ◌&&◌, ◌||◌, List, [], ◌∷◌, length, Option, Some, None, if◌then◌else◌}
use Rattle.std.specs.Char.{is_ascii_digit}
use Rattle.std.specs.List.{list_all}
use Rattle.std.specs.Str.{str_to_ascii_lowercase}
use Rattle.cos_source.specs.Spaces.{without_first_spaces}
use Rattle.selector_spelling.specs.declared.open.Open.{Open}
use Rattle.selector_spelling.specs.declared.open.Open.TheVariants.{Selector, Raw, Round, Square, DoubleQuote, SingleQuote}
use Rattle.selector_spelling.specs.declared.finding.Kind.TheVariants as kind
use Rattle.selector_spelling.specs.declared.operator.Operator.{Operator}
use Rattle.selector_spelling.specs.declared.operator.Operator.TheVariants as operator
use Rattle.selector_spelling.specs.Bytes.{Bytes, front, behind, begins_with, is_pseudo_byte, is_quote, is_empty, double_quote, single_quote, round_open, round_close, square_open, square_close, backslash, colon}
use Rattle.selector_spelling.specs.Names.{escape, letter_length}
use Rattle.selector_spelling.specs.Operators.{operator_of}

-- digits up to the closing bracket, with white space around them
abbrev pub begins_number_argument : Bytes → Bool
begins_number_argument text =
    not (is_empty (front is_ascii_digit text)) && begins_with round_close (without_first_spaces (behind is_ascii_digit text))

-- What the bracket of `:name(..)` opens, before its argument, by what the name is: a selector, another round bracket, or a raw
-- argument, in which only `\`, `(` and `)` count.
abbrev pub opened_by : Option Operator → Bytes → Open
opened_by None argument = Round
opened_by (Some operator.Is) argument = Selector
opened_by (Some operator.Not) argument = Selector
opened_by (Some operator.Has) argument = Selector
opened_by (Some operator.Upward) argument = if begins_number_argument (without_first_spaces argument) then Round else Selector
opened_by (Some (operator.Nth from_end of_name)) argument = Round
opened_by (Some (operator.Aside kind.State)) argument = Round
opened_by (Some o) argument = Raw

-- what the bracket behind a name in lower case opens, before its argument
abbrev pub opens : Bytes → Bytes → Open
opens name argument = opened_by (operator_of name) argument

-- How a scan stands before a byte: what is open, innermost first; how many bytes are still to come that count for nothing,
-- those of an escape or of a name; and what a `(` opens behind these.
pub record Scan : Type 0 where
  pub stack : List Open
  pub skip : ℕ
  pub next : Open

abbrev pub standing : List Open → Scan
standing stack = record { stack = stack; skip = 0; next = Round }

-- nothing is open
abbrev pub bare : Scan
bare = standing []

abbrev pub is_bare : Scan → Bool
is_bare s = is_empty s.stack && s.skip == 0

abbrev pub outer : List Open → List Open
outer [] = []
outer (o ∷ others) = others

-- behind a `:` and a name
abbrev pub behind_name : List Open → Bytes → Bytes → Scan
behind_name stack name [] = standing stack
behind_name stack name (b ∷ argument) =
    if b == round_open then record { stack = stack; skip = length name; next = opens (str_to_ascii_lowercase name) argument }
    else standing stack

-- behind a `:`; the second `:` of `::` begins no name of a pseudo-class
abbrev pub behind_colon : List Open → Bytes → Scan
behind_colon stack text =
    if begins_with colon text then record { stack = stack; skip = 1; next = Round }
    else behind_name stack (front is_pseudo_byte text) (behind is_pseudo_byte text)

-- the string that a quote begins
abbrev pub string_of : ℕ → Open
string_of b = if b == double_quote then DoubleQuote else SingleQuote

-- a byte outside raw arguments, attributes and strings
abbrev pub in_pieces : Scan → ℕ → Bytes → Scan
in_pieces s b text =
    if b == colon then behind_colon s.stack text
    else if b == round_open then standing (s.next ∷ s.stack)
    else if b == square_open then standing (Square ∷ s.stack)
    else if is_quote b then standing (string_of b ∷ s.stack)
    else if b == round_close || b == square_close then standing (outer s.stack)
    else standing s.stack

abbrev pub in_raw : Scan → ℕ → Scan
in_raw s b =
    if b == round_open then standing (Raw ∷ s.stack)
    else if b == round_close then standing (outer s.stack)
    else standing s.stack

abbrev pub in_square : Scan → ℕ → Scan
in_square s b =
    if is_quote b then standing (string_of b ∷ s.stack)
    else if b == square_close then standing (outer s.stack)
    else standing s.stack

abbrev pub in_string : ℕ → Scan → ℕ → Scan
in_string q s b = if b == q then standing (outer s.stack) else standing s.stack

abbrev pub innermost : List Open → Option Open
innermost [] = None
innermost (o ∷ others) = Some o

-- by what is open innermost
abbrev pub inside : Option Open → Scan → ℕ → Bytes → Scan
inside None s b text = in_pieces s b text
inside (Some Selector) s b text = in_pieces s b text
inside (Some Round) s b text = in_pieces s b text
inside (Some Raw) s b text = in_raw s b
inside (Some Square) s b text = in_square s b
inside (Some DoubleQuote) s b text = in_string double_quote s b
inside (Some SingleQuote) s b text = in_string single_quote s b

abbrev pub at_least_one : ℕ → ℕ
at_least_one zero = 1
at_least_one (suc n) = suc n

-- behind a `\`
abbrev pub behind_backslash : List Open → Bytes → Scan
behind_backslash stack text = record { stack = stack; skip = at_least_one (letter_length (escape text)); next = Round }

abbrev pub unless_skipped : ℕ → Scan → ℕ → Bytes → Scan
unless_skipped (suc n) s b text = record { stack = s.stack; skip = n; next = s.next }
unless_skipped zero s b text = if b == backslash then behind_backslash s.stack text else inside (innermost s.stack) s b text

-- the scan behind the byte b, before the text
abbrev pub step : Scan → ℕ → Bytes → Scan
step s b text = unless_skipped s.skip s b text

-- ---- balance

-- a closing bracket that doesn't close the innermost open one
abbrev pub closes_wrongly : Option Open → ℕ → Bool
closes_wrongly None b = b == round_close || b == square_close
closes_wrongly (Some Selector) b = b == square_close
closes_wrongly (Some Round) b = b == square_close
closes_wrongly (Some Raw) b = false
closes_wrongly (Some Square) b = false
closes_wrongly (Some DoubleQuote) b = false
closes_wrongly (Some SingleQuote) b = false

abbrev pub is_wrong : Scan → ℕ → Bool
is_wrong s b = s.skip == 0 && closes_wrongly (innermost s.stack) b

-- Where the balance of a text fails: at the first bracket that closes wrongly, else at what is still open at the end. That
-- began at `outermost`, the last place that was bare; a last lone `\` is open too.
abbrev pub unbalanced : Scan → ℕ → ℕ → Bytes → Option ℕ
unbalanced s outermost at [] = if is_bare s then None else Some outermost
unbalanced s outermost at (b ∷ text) =
    if is_wrong s b then Some at
    else unbalanced (step s b text) (if is_bare s then at else outermost) (at + 1) text

-- ---- depth

abbrev pub is_selector : Open → Bool
is_selector Selector = true
is_selector o = false

-- The `:` of a piece whose argument is a selector at level 17. Levels are counted through such arguments alone.
abbrev pub is_too_deep : Scan → ℕ → Bytes → Bool
is_too_deep s b text =
    b == colon && s.skip == 0 && nat_le 16 (length s.stack) && list_all is_selector s.stack && is_selector (behind_colon s.stack text).next

-- the first such place
abbrev pub too_nested : Scan → ℕ → Bytes → Option ℕ
too_nested s at [] = None
too_nested s at (b ∷ text) =
    if is_too_deep s b text then Some at else too_nested (step s b text) (at + 1) text

-- ---- the end of an argument

-- what stands before the bracket that closes all that is open
abbrev pub within : Scan → Bytes → Bytes
within s [] = []
within s (b ∷ text) = if is_bare (step s b text) then [] else b ∷ within (step s b text) text

-- there is such a bracket
abbrev pub is_closed : Scan → Bytes → Bool
is_closed s text = nat_lt (length (within s text)) (length text)
