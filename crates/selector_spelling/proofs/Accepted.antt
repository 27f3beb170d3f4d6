-- Texts that are read as selectors, by computing, in tables.
use Prim.Native.String.{String}
use Rattle.std.specs.Prelude.{◌≡◌, pos, negsuc, true, false, List, [], ◌∷◌, map, codes, Some, None, Result, Ok, Err, refl}
use Rattle.selector_tree.specs.declared.selector.Place.TheVariants.{Child, Descendant, Next, After}
use Rattle.selector_tree.specs.declared.selector.AttrOp.TheVariants as op
use Rattle.selector_tree.specs.declared.selector.Arg.TheVariants.{Literal, Pattern}
use Rattle.selector_tree.specs.declared.selector.Test.TheVariants as test
use Rattle.selector_tree.specs.declared.selector.Step.{Step}
use Rattle.selector_tree.specs.declared.selector.Step.TheVariants as step
use Rattle.selector_tree.specs.declared.filter.Action.{Action}
use Rattle.selector_tree.specs.declared.filter.Action.TheVariants.{Hide, Remove}
use Rattle.selector_spelling.specs.declared.finding.Finding.{Finding}
use Rattle.selector_spelling.specs.declared.reading.Chains.{Chains}
use Rattle.selector_spelling.specs.Bytes.{Bytes}
use Rattle.selector_spelling.specs.Texts.{found, action_of, read_text}

-- the selector and the action
abbrev Filter : Type 0
Filter = Result (List (List Step) × Action) Finding

abbrev filter : Result Chains Finding → Filter
filter (Ok l) = Ok (l.chains, action_of l.notes.removes)
filter (Err f) = Err f

-- where each pattern is found
abbrev reads : Bytes → Filter
reads text = filter (read_text (λ body flags. found) text)

abbrev hides : List (List Step) → Filter
hides chains = Ok (chains, Hide)

abbrev removes : List Step → Filter
removes chain = Ok (chain ∷ [], Remove)

abbrev tag : String → Step
tag name = step.Keep (test.Tag (codes name))

abbrev id : String → Step
id name = step.Keep (test.Id (codes name))

abbrev class : String → Step
class name = step.Keep (test.Class (codes name))

-- each text of a table is read as what stands beside it
abbrev AreRead : List (Bytes × Filter) → Type 0
AreRead rows = map (λ row. reads row.0) rows ≡ map (λ row. row.1) rows

-- ---- chains, compounds and combinators

chains_compounds_and_combinators : AreRead (
    (codes "div>.a", hides ((tag "div" ∷ step.Move Child ∷ class "a" ∷ []) ∷ []))
    ∷ (codes "div   >   .ad", hides ((tag "div" ∷ step.Move Child ∷ class "ad" ∷ []) ∷ []))
    ∷ (codes "a b+c~d>e", hides ((tag "a" ∷ step.Move Descendant ∷ tag "b" ∷ step.Move Next ∷ tag "c" ∷ step.Move After ∷ tag "d" ∷ step.Move Child ∷ tag "e" ∷ []) ∷ []))
    ∷ (codes " a , b\t", hides ((tag "a" ∷ []) ∷ (tag "b" ∷ []) ∷ []))
    ∷ (codes "*.a#b", hides ((step.Keep (test.Any) ∷ class "a" ∷ id "b" ∷ []) ∷ []))
    ∷ (codes "DIV.A#B", hides ((tag "div" ∷ class "A" ∷ id "B" ∷ []) ∷ [])) ∷ [])
chains_compounds_and_combinators = refl

-- ---- names and escapes

names_and_escapes : AreRead (
    (codes ".a\\ ", hides ((class "a " ∷ []) ∷ []))
    ∷ (codes ".a\\.b\\,c", hides ((class "a.b,c" ∷ []) ∷ []))
    ∷ (codes ".\\-", hides ((class "-" ∷ []) ∷ []))
    ∷ (codes "--a", hides ((tag "--a" ∷ []) ∷ []))
    ∷ (35 ∷ 195 ∷ 169 ∷ [], hides ((step.Keep (test.Id (195 ∷ 169 ∷ [])) ∷ []) ∷ []))
    ∷ (35 ∷ 92 ∷ 195 ∷ 169 ∷ [], hides ((step.Keep (test.Id (195 ∷ 169 ∷ [])) ∷ []) ∷ [])) ∷ [])
names_and_escapes = refl

names_and_escapes_by_number : AreRead (
    (codes "#\\31 a", hides ((id "1a" ∷ []) ∷ []))
    ∷ (codes ".-\\31 ", hides ((class "-1" ∷ []) ∷ []))
    ∷ (codes ".\\0 x", hides ((step.Keep (test.Class (239 ∷ 191 ∷ 189 ∷ 120 ∷ [])) ∷ []) ∷ []))
    ∷ (codes ".\\d800 ", hides ((step.Keep (test.Class (239 ∷ 191 ∷ 189 ∷ [])) ∷ []) ∷ []))
    ∷ (codes ".\\110000", hides ((step.Keep (test.Class (239 ∷ 191 ∷ 189 ∷ [])) ∷ []) ∷ []))
    ∷ (codes ".\\0000411", hides ((class "A1" ∷ []) ∷ [])) ∷ [])
unfolding lib.Utf8.encode
names_and_escapes_by_number = refl

-- ---- attributes

attributes : AreRead (
    (codes "[a]", hides ((step.Keep (test.Attr (codes "a") op.Exists [] false) ∷ []) ∷ []))
    ∷ (codes "[a=b]", hides ((step.Keep (test.Attr (codes "a") op.Equals (codes "b") false) ∷ []) ∷ []))
    ∷ (91 ∷ 97 ∷ 61 ∷ 34 ∷ 0 ∷ 34 ∷ 93 ∷ [], hides ((step.Keep (test.Attr (codes "a") op.Equals (0 ∷ []) false) ∷ []) ∷ []))
    ∷ (91 ∷ 97 ∷ 61 ∷ 34 ∷ 92 ∷ 0 ∷ 34 ∷ 93 ∷ [], hides ((step.Keep (test.Attr (codes "a") op.Equals (0 ∷ []) false) ∷ []) ∷ []))
    ∷ (codes "[a~=b]", hides ((step.Keep (test.Attr (codes "a") op.Word (codes "b") false) ∷ []) ∷ []))
    ∷ (codes "[a|=b]", hides ((step.Keep (test.Attr (codes "a") op.Dash (codes "b") false) ∷ []) ∷ []))
    ∷ (codes "[HREF^='x']", hides ((step.Keep (test.Attr (codes "href") op.Prefix (codes "x") false) ∷ []) ∷ []))
    ∷ (codes "[a$=\"b\"]", hides ((step.Keep (test.Attr (codes "a") op.Suffix (codes "b") false) ∷ []) ∷ []))
    ∷ (codes "[a*=\"b\"]", hides ((step.Keep (test.Attr (codes "a") op.Part (codes "b") false) ∷ []) ∷ []))
    ∷ (codes "[ a = \"b\" I ]", hides ((step.Keep (test.Attr (codes "a") op.Equals (codes "b") true) ∷ []) ∷ []))
    ∷ (codes "[a=\"b\"s]", hides ((step.Keep (test.Attr (codes "a") op.Equals (codes "b") false) ∷ []) ∷ []))
    ∷ (codes "[a=\"\\\"]\"]", hides ((step.Keep (test.Attr (codes "a") op.Equals (codes "\"]") false) ∷ []) ∷ []))
    ∷ (codes "[a=\"\"]", hides ((step.Keep (test.Attr (codes "a") op.Equals [] false) ∷ []) ∷ [])) ∷ [])
attributes = refl

attributes_by_number : AreRead (
    (codes "[a=\\31 i]", hides ((step.Keep (test.Attr (codes "a") op.Equals (codes "1i") false) ∷ []) ∷ []))
    ∷ (codes "[a=\\31  i]", hides ((step.Keep (test.Attr (codes "a") op.Equals (codes "1") true) ∷ []) ∷ [])) ∷ [])
unfolding lib.Utf8.encode
attributes_by_number = refl

-- ---- pseudo-classes

pseudo_classes : AreRead (
    (codes ":root", hides ((step.Keep (test.Root) ∷ []) ∷ []))
    ∷ (codes "p:EMPTY", hides ((tag "p" ∷ step.Keep (test.Empty) ∷ []) ∷ []))
    ∷ (codes "a:first-child", hides ((tag "a" ∷ step.Keep (test.Nth (pos 0) (pos 1) false false) ∷ []) ∷ []))
    ∷ (codes "li:last-child", hides ((tag "li" ∷ step.Keep (test.Nth (pos 0) (pos 1) true false) ∷ []) ∷ []))
    ∷ (codes ":first-of-type", hides ((step.Keep (test.Nth (pos 0) (pos 1) false true) ∷ []) ∷ []))
    ∷ (codes ":last-of-type", hides ((step.Keep (test.Nth (pos 0) (pos 1) true true) ∷ []) ∷ []))
    ∷ (codes ":only-child", hides ((step.Keep (test.Only false) ∷ []) ∷ []))
    ∷ (codes ":only-of-type", hides ((step.Keep (test.Only true) ∷ []) ∷ []))
    ∷ (codes "LI:NTH-CHILD(odd)", hides ((tag "li" ∷ step.Keep (test.Nth (pos 2) (pos 1) false false) ∷ []) ∷ []))
    ∷ (codes ":nth-last-child( EVEN )", hides ((step.Keep (test.Nth (pos 2) (pos 0) true false) ∷ []) ∷ []))
    ∷ (codes ":nth-of-type(0003)", hides ((step.Keep (test.Nth (pos 0) (pos 3) false true) ∷ []) ∷ []))
    ∷ (codes ":nth-last-of-type(+5)", hides ((step.Keep (test.Nth (pos 0) (pos 5) true true) ∷ []) ∷ []))
    ∷ (codes ":nth-child(-n + 3)", hides ((step.Keep (test.Nth (negsuc 0) (pos 3) false false) ∷ []) ∷ []))
    ∷ (codes ":nth-child(n)", hides ((step.Keep (test.Nth (pos 1) (pos 0) false false) ∷ []) ∷ []))
    ∷ (codes ":nth-child(-2N- 1)", hides ((step.Keep (test.Nth (negsuc 1) (negsuc 0) false false) ∷ []) ∷ []))
    ∷ (codes ":nth-child(1000000n-1000000)", hides ((step.Keep (test.Nth (pos 1000000) (negsuc 999999) false false) ∷ []) ∷ [])) ∷ [])
pseudo_classes = refl

-- ---- arguments that are selectors

arguments_that_are_selectors : AreRead (
    (codes "a:IS(b)", hides ((tag "a" ∷ step.Keep (test.Is ((tag "b" ∷ []) ∷ [])) ∷ []) ∷ []))
    ∷ (codes ":where(b, .c)", hides ((step.Keep (test.Is ((tag "b" ∷ []) ∷ (class "c" ∷ []) ∷ [])) ∷ []) ∷ []))
    ∷ (codes "a:not(b,c) ~ *", hides ((tag "a" ∷ step.Keep (test.Not ((tag "b" ∷ []) ∷ (tag "c" ∷ []) ∷ [])) ∷ step.Move After ∷ step.Keep (test.Any) ∷ []) ∷ []))
    ∷ (codes "div:has(> .ad):not(:has-text(/sale/i))", hides ((tag "div" ∷ step.Keep (test.Has ((step.Move Child ∷ class "ad" ∷ []) ∷ [])) ∷ step.Keep (test.Not ((step.Keep (test.HasText (Pattern (codes "sale") 1 0)) ∷ []) ∷ [])) ∷ []) ∷ []))
    ∷ (codes ".x:has(:is(.o .b))", hides ((class "x" ∷ step.Keep (test.Has ((step.Move Descendant ∷ step.Keep (test.Is ((class "o" ∷ step.Move Descendant ∷ class "b" ∷ []) ∷ [])) ∷ []) ∷ [])) ∷ []) ∷ []))
    ∷ (codes ":-abp-has(> i + b, c)", hides ((step.Keep (test.Has ((step.Move Child ∷ step.Keep (test.Tag (codes "i")) ∷ step.Move Next ∷ tag "b" ∷ []) ∷ (step.Move Descendant ∷ tag "c" ∷ []) ∷ [])) ∷ []) ∷ []))
    ∷ (codes ".a .b:not(:first-child)", hides ((class "a" ∷ step.Move Descendant ∷ class "b" ∷ step.Keep (test.Not ((step.Keep (test.Nth (pos 0) (pos 1) false false) ∷ []) ∷ [])) ∷ []) ∷ []))
    ∷ (codes ":is(:is(:is(:is(:is(:is(:is(:is(:is(:is(:is(:is(:is(:is(:is(:is(a:upward(3)))))))))))))))))", hides ((step.Keep (test.Is ((step.Keep (test.Is ((step.Keep (test.Is ((step.Keep (test.Is ((step.Keep (test.Is ((step.Keep (test.Is ((step.Keep (test.Is ((step.Keep (test.Is ((step.Keep (test.Is ((step.Keep (test.Is ((step.Keep (test.Is ((step.Keep (test.Is ((step.Keep (test.Is ((step.Keep (test.Is ((step.Keep (test.Is ((step.Keep (test.Is ((tag "a" ∷ step.Upward 3 ∷ []) ∷ [])) ∷ []) ∷ [])) ∷ []) ∷ [])) ∷ []) ∷ [])) ∷ []) ∷ [])) ∷ []) ∷ [])) ∷ []) ∷ [])) ∷ []) ∷ [])) ∷ []) ∷ [])) ∷ []) ∷ [])) ∷ []) ∷ [])) ∷ []) ∷ [])) ∷ []) ∷ [])) ∷ []) ∷ [])) ∷ []) ∷ [])) ∷ []) ∷ [])) ∷ []) ∷ [])) ∷ [])
arguments_that_are_selectors = refl

-- ---- text arguments

text_arguments : AreRead (
    (codes "p:-abp-contains(x)", hides ((tag "p" ∷ step.Keep (test.HasText (Literal (codes "x"))) ∷ []) ∷ []))
    ∷ (codes "p:has-text(  x y )", hides ((tag "p" ∷ step.Keep (test.HasText (Literal (codes "x y"))) ∷ []) ∷ []))
    ∷ (codes "p:has-text(\"Sale\")", hides ((tag "p" ∷ step.Keep (test.HasText (Literal (codes "Sale"))) ∷ []) ∷ []))
    ∷ (codes "p:has-text('Sale')", hides ((tag "p" ∷ step.Keep (test.HasText (Literal (codes "Sale"))) ∷ []) ∷ []))
    ∷ (codes "p:has-text(\" x \")", hides ((tag "p" ∷ step.Keep (test.HasText (Literal (codes " x "))) ∷ []) ∷ []))
    ∷ (codes "p:has-text('x\")", hides ((tag "p" ∷ step.Keep (test.HasText (Literal (codes "'x\""))) ∷ []) ∷ []))
    ∷ (codes "p:has-text(\")", hides ((tag "p" ∷ step.Keep (test.HasText (Literal (codes "\""))) ∷ []) ∷ []))
    ∷ (codes "p:has-text([)", hides ((tag "p" ∷ step.Keep (test.HasText (Literal (codes "["))) ∷ []) ∷ []))
    ∷ (codes "p:has-text(\\(a\\))", hides ((tag "p" ∷ step.Keep (test.HasText (Literal (codes "(a)"))) ∷ []) ∷ []))
    ∷ (codes "p:has-text(\\\\\\()", hides ((tag "p" ∷ step.Keep (test.HasText (Literal (codes "\\("))) ∷ []) ∷ []))
    ∷ (codes "p:has-text(a\\d)", hides ((tag "p" ∷ step.Keep (test.HasText (Literal (codes "a\\d"))) ∷ []) ∷ []))
    ∷ (codes "p:has-text(\"a\\\"b\")", hides ((tag "p" ∷ step.Keep (test.HasText (Literal (codes "a\"b"))) ∷ []) ∷ []))
    ∷ (codes "p:has-text(/a)", hides ((tag "p" ∷ step.Keep (test.HasText (Literal (codes "/a"))) ∷ []) ∷ []))
    ∷ (codes "p:has-text(//)", hides ((tag "p" ∷ step.Keep (test.HasText (Literal (codes "//"))) ∷ []) ∷ []))
    ∷ (codes "p:has-text(/a\\/)", hides ((tag "p" ∷ step.Keep (test.HasText (Literal (codes "/a/"))) ∷ []) ∷ []))
    ∷ (codes "p:has-text(/a/I)", hides ((tag "p" ∷ step.Keep (test.HasText (Literal (codes "/a/I"))) ∷ []) ∷ []))
    ∷ (codes "p:has-text(/a/ii)", hides ((tag "p" ∷ step.Keep (test.HasText (Literal (codes "/a/ii"))) ∷ []) ∷ []))
    ∷ (codes "p:has-text(/^Sale\\s\\d+$/)", hides ((tag "p" ∷ step.Keep (test.HasText (Pattern (codes "^Sale\\s\\d+$") 0 0)) ∷ []) ∷ []))
    ∷ (codes "p:has-text(/a\\/b/si)", hides ((tag "p" ∷ step.Keep (test.HasText (Pattern (codes "a/b") 5 0)) ∷ []) ∷ []))
    ∷ (codes "p:has-text(/a/uims)", hides ((tag "p" ∷ step.Keep (test.HasText (Pattern (codes "a") 7 0)) ∷ []) ∷ []))
    ∷ (codes "p:has-text(/a\\\\/)", hides ((tag "p" ∷ step.Keep (test.HasText (Pattern (codes "a\\\\") 0 0)) ∷ []) ∷ []))
    ∷ (codes "p:has-text(/a/b/)", hides ((tag "p" ∷ step.Keep (test.HasText (Pattern (codes "a/b") 0 0)) ∷ []) ∷ []))
    ∷ (codes "p:has-text(\"/a/m\")", hides ((tag "p" ∷ step.Keep (test.HasText (Pattern (codes "a") 2 0)) ∷ []) ∷ []))
    ∷ (codes "p:matches-path(/b)", hides ((tag "p" ∷ step.Keep (test.MatchesPath (Literal (codes "/b"))) ∷ []) ∷ []))
    ∷ (codes "b:not(:matches-path(/b/))", hides ((tag "b" ∷ step.Keep (test.Not ((step.Keep (test.MatchesPath (Pattern (codes "b") 0 0)) ∷ []) ∷ [])) ∷ []) ∷ [])) ∷ [])
text_arguments = refl

-- ---- the other operators

the_other_operators : AreRead (
    (codes "p:min-text-length(3)", hides ((tag "p" ∷ step.Keep (test.MinText 3) ∷ []) ∷ []))
    ∷ (codes "p:min-text-length(007)", hides ((tag "p" ∷ step.Keep (test.MinText 7) ∷ []) ∷ []))
    ∷ (codes "p:min-text-length(4294967295)", hides ((tag "p" ∷ step.Keep (test.MinText 4294967295) ∷ []) ∷ []))
    ∷ (codes "[data-a]:matches-attr(\"/^data-/\"=\"/^x/\")", hides ((step.Keep (test.Attr (codes "data-a") op.Exists [] false) ∷ step.Keep (test.MatchesAttr (Pattern (codes "^data-") 0 0) (Some (Pattern (codes "^x") 0 0))) ∷ []) ∷ []))
    ∷ (codes "a:matches-attr( Title )", hides ((tag "a" ∷ step.Keep (test.MatchesAttr (Literal (codes "title")) None) ∷ []) ∷ []))
    ∷ (codes "a:matches-attr(a = B)", hides ((tag "a" ∷ step.Keep (test.MatchesAttr (Literal (codes "a")) (Some (Literal (codes "B")))) ∷ []) ∷ []))
    ∷ (codes "a:matches-attr(a=)", hides ((tag "a" ∷ step.Keep (test.MatchesAttr (Literal (codes "a")) (Some (Literal []))) ∷ []) ∷ []))
    ∷ (codes "a:matches-attr(/a=b/i=\"Y\")", hides ((tag "a" ∷ step.Keep (test.MatchesAttr (Pattern (codes "a=b") 1 0) (Some (Literal (codes "Y")))) ∷ []) ∷ []))
    ∷ (codes "a:matches-attr(//)", hides ((tag "a" ∷ step.Keep (test.MatchesAttr (Literal (codes "//")) None) ∷ []) ∷ []))
    ∷ (codes "a:matches-attr(/a/X=b)", hides ((tag "a" ∷ step.Keep (test.MatchesAttr (Literal (codes "/a/x")) (Some (Literal (codes "b")))) ∷ []) ∷ []))
    ∷ (codes "a:matches-attr(\"a=b\"=c=d)", hides ((tag "a" ∷ step.Keep (test.MatchesAttr (Literal (codes "a=b")) (Some (Literal (codes "c=d")))) ∷ []) ∷ []))
    ∷ (codes "a:watch-attr()", hides ((tag "a" ∷ step.Keep (test.WatchAttr ([])) ∷ []) ∷ []))
    ∷ (codes "a:watch-attr( )", hides ((tag "a" ∷ step.Keep (test.WatchAttr ([])) ∷ []) ∷ []))
    ∷ (codes "a:watch-attr( Class , data-x)", hides ((tag "a" ∷ step.Keep (test.WatchAttr (codes "class" ∷ codes "data-x" ∷ [])) ∷ []) ∷ []))
    ∷ (codes ".k:upward(2)", hides ((class "k" ∷ step.Upward 2 ∷ []) ∷ []))
    ∷ (codes ".k:upward( 0003 )", hides ((class "k" ∷ step.Upward 3 ∷ []) ∷ []))
    ∷ (codes ".k:upward(255)", hides ((class "k" ∷ step.Upward 255 ∷ []) ∷ []))
    ∷ (codes ".k:upward(.card, b > c)", hides ((class "k" ∷ step.UpwardTo ((class "card" ∷ []) ∷ (tag "b" ∷ step.Move Child ∷ tag "c" ∷ []) ∷ []) ∷ []) ∷ []))
    ∷ (codes "a:not(.k:upward(2))", hides ((tag "a" ∷ step.Keep (test.Not ((class "k" ∷ step.Upward 2 ∷ []) ∷ [])) ∷ []) ∷ []))
    ∷ (codes ".t:others( )", hides ((class "t" ∷ step.Others ∷ []) ∷ []))
    ∷ (codes ".t:others() > a", hides ((class "t" ∷ step.Others ∷ step.Move Child ∷ tag "a" ∷ []) ∷ []))
    ∷ (codes "a + b:remove()", removes (tag "a" ∷ step.Move Next ∷ tag "b" ∷ []))
    ∷ (codes "a:has(+ b):REMOVE( ) ", removes (tag "a" ∷ step.Keep (test.Has ((step.Move Next ∷ tag "b" ∷ []) ∷ [])) ∷ []))
    ∷ (codes "div:empty:remove()", removes (tag "div" ∷ step.Keep (test.Empty) ∷ [])) ∷ [])
the_other_operators = refl
