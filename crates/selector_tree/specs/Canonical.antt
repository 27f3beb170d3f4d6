-- The canonical text of a selector: its one spelling (this project's profile). Filters with equal canonical texts are the same.
use Rattle.std.specs.Prelude.{ℕ, ℤ, pos, negsuc, Bool, true, false, List, [], ◌∷◌, ◌++◌, map, codes, Option, Some, None, if◌then◌else◌, decimal}
use Rattle.std.specs.Fmt.{signed_decimal}
use Rattle.selector_tree.specs.declared.selector.Place.{Place}
use Rattle.selector_tree.specs.declared.selector.Place.TheVariants.{Child, Descendant, Next, After}
use Rattle.selector_tree.specs.declared.selector.AttrOp.{AttrOp}
use Rattle.selector_tree.specs.declared.selector.AttrOp.TheVariants.{Exists, Equals, Word, Dash, Prefix, Suffix, Part}
use Rattle.selector_tree.specs.declared.selector.Arg.{Arg}
use Rattle.selector_tree.specs.declared.selector.Arg.TheVariants.{Literal, Pattern}
use Rattle.selector_tree.specs.declared.filter.Action.{Action}
use Rattle.selector_tree.specs.declared.filter.Action.TheVariants.{Hide, Remove}
use Rattle.selector_tree.specs.declared.selector.Step.{Step, fold-Step}
use Rattle.selector_tree.specs.declared.selector.Test.{Test, fold-Test}
use Rattle.selector_tree.specs.declared.selector.Step.TheOpen.{Step-F, Test-F}
use Rattle.selector_tree.specs.Letters.{name_text, string_text, literal_text, body_text, flags_text}

-- ---- lists

-- each text with `, ` before it
abbrev pub behind_comma : List (List ℕ) → List ℕ
behind_comma [] = []
behind_comma (text ∷ texts) = codes ", " ++ text ++ behind_comma texts

-- the texts with `, ` between them
abbrev pub joined : List (List ℕ) → List ℕ
joined [] = []
joined (text ∷ texts) = text ++ behind_comma texts

-- ---- arguments

-- a literal as a string, a pattern between slashes with its flags; its number has no part in it
abbrev pub arg_text : Arg → List ℕ
arg_text (Literal text) = literal_text text
arg_text (Pattern body flags number) = codes "/" ++ body_text false body ++ codes "/" ++ flags_text flags

abbrev pub op_text : AttrOp → List ℕ
op_text Exists = []
op_text Equals = codes "="
op_text Word = codes "~="
op_text Dash = codes "|="
op_text Prefix = codes "^="
op_text Suffix = codes "$="
op_text Part = codes "*="

-- what stands behind the name of an attribute
abbrev pub value_text : AttrOp → List ℕ → Bool → List ℕ
value_text Exists value ignore_case = []
value_text op value ignore_case = op_text op ++ string_text value ++ (if ignore_case then codes " i" else [])

-- the name of a counting pseudo-class, by where it counts from and whether by name
abbrev pub nth_text : Bool → Bool → List ℕ
nth_text false false = codes ":nth-child("
nth_text true false = codes ":nth-last-child("
nth_text false true = codes ":nth-of-type("
nth_text true true = codes ":nth-last-of-type("

-- the name of a pseudo-class for only children, by whether siblings of other names count
abbrev pub only_text : Bool → List ℕ
only_text false = codes ":only-child"
only_text true = codes ":only-of-type"

-- a number with its sign
abbrev pub offset_text : ℤ → List ℕ
offset_text (pos n) = codes "+" ++ decimal n
offset_text (negsuc n) = signed_decimal (negsuc n)

-- the value behind `=`, if there is one
abbrev pub given_text : Option Arg → List ℕ
given_text None = []
given_text (Some arg) = codes "=" ++ arg_text arg

-- ---- steps

-- a combinator
abbrev pub place_text : Place → List ℕ
place_text Child = codes " > "
place_text Descendant = codes " "
place_text Next = codes " + "
place_text After = codes " ~ "

-- the sign that a chain of `:has` begins with; it begins with Descendant where there is none
abbrev pub sign_text : Place → List ℕ
sign_text Child = codes "> "
sign_text Descendant = []
sign_text Next = codes "+ "
sign_text After = codes "~ "

-- how a step prints: where it leads a chain of `:has`, and elsewhere
abbrev pub StepText : Type 0
StepText = Bool → List ℕ

-- the steps in a row; the first one may lead
abbrev pub chain_text : Bool → List StepText → List ℕ
chain_text leads [] = []
chain_text leads (step ∷ steps) = step leads ++ chain_text false steps

-- the chains with `, ` between them; in `:has` their first steps lead
abbrev pub selector_text : Bool → List (List StepText) → List ℕ
selector_text leads chains = joined (map (chain_text leads) chains)

-- one test, with the text of each step in its place
abbrev pub test_layer : Test-F StepText (List ℕ) → List ℕ
test_layer Test-F.Any = codes "*"
test_layer (Test-F.Tag name) = name_text name
test_layer (Test-F.Id name) = codes "#" ++ name_text name
test_layer (Test-F.Class name) = codes "." ++ name_text name
test_layer (Test-F.Attr name op value ignore_case) = codes "[" ++ name_text name ++ value_text op value ignore_case ++ codes "]"
test_layer Test-F.Root = codes ":root"
test_layer Test-F.Empty = codes ":empty"
test_layer (Test-F.Nth a b from_end of_name) = nth_text from_end of_name ++ signed_decimal a ++ codes "n" ++ offset_text b ++ codes ")"
test_layer (Test-F.Only of_name) = only_text of_name
test_layer (Test-F.Is l) = codes ":is(" ++ selector_text false l ++ codes ")"
test_layer (Test-F.Not l) = codes ":not(" ++ selector_text false l ++ codes ")"
test_layer (Test-F.Has l) = codes ":has(" ++ selector_text true l ++ codes ")"
test_layer (Test-F.HasText arg) = codes ":has-text(" ++ arg_text arg ++ codes ")"
test_layer (Test-F.MinText n) = codes ":min-text-length(" ++ decimal n ++ codes ")"
test_layer (Test-F.MatchesPath arg) = codes ":matches-path(" ++ arg_text arg ++ codes ")"
test_layer (Test-F.MatchesAttr name value) = codes ":matches-attr(" ++ arg_text name ++ given_text value ++ codes ")"
test_layer (Test-F.WatchAttr names) = codes ":watch-attr(" ++ joined names ++ codes ")"

-- one step, with the text of each test and each step in its place
abbrev pub step_layer : Step-F StepText (List ℕ) → StepText
step_layer (Step-F.Keep test) leads = test
step_layer (Step-F.Move place) leads = if leads then sign_text place else place_text place
step_layer (Step-F.Upward n) leads = codes ":upward(" ++ decimal n ++ codes ")"
step_layer (Step-F.UpwardTo l) leads = codes ":upward(" ++ selector_text false l ++ codes ")"
step_layer Step-F.Others leads = codes ":others()"

abbrev pub text_of_step : Step → StepText
text_of_step = fold-Step StepText (List ℕ) step_layer test_layer

abbrev pub text_of_test : Test → List ℕ
text_of_test = fold-Test StepText (List ℕ) step_layer test_layer

-- `:remove()` stands last
abbrev pub action_text : Action → List ℕ
action_text Hide = []
action_text Remove = codes ":remove()"

-- the text of a selector with its action
abbrev pub canonical_text : List (List Step) → Action → List ℕ
canonical_text selector action = selector_text false (map (map text_of_step) selector) ++ action_text action
