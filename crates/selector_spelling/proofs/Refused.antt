-- Texts that are set aside or malformed, by computing, in tables. Of two findings in a text the first stage decides, and within
-- it the first piece.
use Rattle.std.specs.Prelude.{◌≡◌, ℕ, List, [], ◌∷◌, map, codes, ◌==◌, if◌then◌else◌, Result, Err, refl}
use Rattle.selector_spelling.specs.declared.finding.Kind.{Kind}
use Rattle.selector_spelling.specs.declared.finding.Kind.TheVariants as kind
use Rattle.selector_spelling.specs.declared.finding.Cause.{Cause}
use Rattle.selector_spelling.specs.declared.finding.Cause.TheVariants as cause
use Rattle.selector_spelling.specs.declared.finding.Finding.{Finding}
use Rattle.selector_spelling.specs.declared.finding.Finding.TheVariants.{Malformed, SetAside}
use Rattle.selector_spelling.specs.declared.reading.Chains.{Chains}
use Rattle.selector_spelling.specs.Bytes.{Bytes}
use Rattle.selector_spelling.specs.Texts.{found, bad_pattern, pattern_too_large, read_text}

-- where each pattern is found
abbrev reads : Bytes → Result Chains Finding
reads text = read_text (λ body flags. found) text

-- each text of a table has the finding beside it
abbrev AreFound : (Bytes → Result Chains Finding) → List (Bytes × Finding) → Type 0
AreFound reads rows = map (λ row. reads row.0) rows ≡ map (λ row. Err row.1) rows

-- this cause, at the place beside it
abbrev AreMalformed : (Bytes → Result Chains Finding) → Cause → List (Bytes × ℕ) → Type 0
AreMalformed reads c rows = AreFound reads (map (λ row. (row.0, Malformed c row.1)) rows)

abbrev AreAside : (Bytes → Result Chains Finding) → List (Bytes × Kind) → Type 0
AreAside reads rows = AreFound reads (map (λ row. (row.0, SetAside row.1)) rows)

abbrev of_kind : Kind → List Bytes → List (Bytes × Kind)
of_kind k texts = map (λ text. (text, k)) texts

-- ---- stage 1: balance

unbalanced : AreMalformed reads cause.Unbalanced (
    (codes "[a", 0) ∷ (codes "a:has(", 5) ∷ (codes "a:is(b:not([c", 4) ∷ (codes "a)", 1) ∷ (codes "a]", 1) ∷ (codes "a(]", 2) ∷ (codes "a[b)](c])", 7)
    ∷ (codes ".a\\", 2) ∷ (codes ":is(a\\", 3) ∷ (codes "\"a", 0) ∷ (codes "a[\"]", 1) ∷ (codes "p:has-text(a", 10) ∷ (codes "p:has-text(/(/)", 10)
    ∷ (codes "p:has-text(\"a)b\")", 15) ∷ (codes "a::has-text(\")", 11) ∷ (codes "a:foo(:has-text(\"", 5)
    ∷ (codes ":is(:is(:is(:is(:is(:is(:is(:is(:is(:is(:is(:is(:is(:is(:is(:is(:is(a))))))))))))))))", 3) ∷ (codes "a..b)", 4) ∷ [])
unbalanced = refl

-- ---- stage 2: depth

too_nested : AreMalformed reads cause.TooNested (
    (codes ":is(:is(:is(:is(:is(:is(:is(:is(:is(:is(:is(:is(:is(:is(:is(:is(:is(a)))))))))))))))))", 64)
    ∷ (codes "..:is(:is(:is(:is(:is(:is(:is(:is(:is(:is(:is(:is(:is(:is(:is(:is(:is(a)))))))))))))))))", 66)
    ∷ (codes ":is(:is(:is(:is(:is(:is(:is(:is(:is(:is(:is(:is(:is(:is(:is(:is(:upward(a)))))))))))))))))", 64) ∷ [])
too_nested = refl

unknown_at_depth : AreMalformed reads cause.UnknownPseudo (
    (codes ":is(:is(:is(:is(:is(:is(:is(:is(:is(:is(:is(:is(:is(:is(:is(:is(:foo(:is(a))))))))))))))))))", 64) ∷ [])
unknown_at_depth = refl

bad_name_at_depth : AreMalformed reads cause.BadName (
    (codes "(:is(:is(:is(:is(:is(:is(:is(:is(:is(:is(:is(:is(:is(:is(:is(:is(:is(a))))))))))))))))))", 0)
    ∷ (codes ":is(:is(:is(:is(:is(:is(:is(:is(:is(:is(:is(:is(:is(:is(:is(:is(a:has-text(:is())b))))))))))))))))", 81) ∷ [])
bad_name_at_depth = refl

-- ---- stage 3: a compound is missing

empty_part : AreMalformed reads cause.EmptyPart (
    ([], 0) ∷ (codes " \t ", 3) ∷ (codes " , a", 1) ∷ (codes "a,", 2) ∷ (codes "a,,b", 2) ∷ (codes "a > , b", 4) ∷ (codes "a >", 3) ∷ (codes "> a", 0)
    ∷ (codes "a > > b", 4) ∷ (codes "a:is()", 5) ∷ (codes "a:is(b, )", 8) ∷ (codes "a:is(> b)", 5) ∷ (codes "a:has( )", 7) ∷ (codes "a:has(> )", 8)
    ∷ (codes "a:has(> + b)", 8) ∷ (codes "a:upward()", 9) ∷ (codes "a > :remove()", 4) ∷ (codes ":remove(x)", 0) ∷ [])
empty_part = refl

-- ---- stage 3: names

bad_name : AreMalformed reads cause.BadName (
    (codes "a..b", 1) ∷ (codes ".", 0) ∷ (codes "#", 0) ∷ (codes "a:", 1) ∷ (codes "a::", 1) ∷ (codes "a::1", 1) ∷ (codes "a:::b", 1)
    ∷ (codes "ab*", 2) ∷ (codes ":root_x", 5) ∷ (codes "[a]b", 3) ∷ (codes "1a", 0) ∷ (codes ".1a", 0) ∷ (codes "-1a", 0) ∷ (codes "-", 0)
    ∷ (codes "#-.a", 0) ∷ (codes ":1a", 0) ∷ (codes ":-", 0) ∷ (codes ":-1", 0) ∷ (58 ∷ 195 ∷ 169 ∷ [], 0) ∷ (195 ∷ 169 ∷ 58 ∷ [], 2)
    ∷ (codes "a\"b\"", 1) ∷ (codes "a(b)", 1) ∷ (codes "a|b", 1) ∷ (codes "a&", 1) ∷ (codes "a/**/", 1) ∷ (codes "a||b", 1) ∷ (codes "a:not(b, .)", 9) ∷ [])
bad_name = refl

-- U+0000 is part of no name, also behind a `\`
zero_in_a_name : AreMalformed reads cause.BadName ((46 ∷ 97 ∷ 0 ∷ [], 2) ∷ (46 ∷ 92 ∷ 0 ∷ [], 0) ∷ [])
zero_in_a_name = refl

-- ---- stage 3: attributes

bad_attribute : AreMalformed reads cause.BadAttribute (
    (codes "p[]", 1) ∷ (codes "p[1]", 1) ∷ (codes "p[b=]", 1) ∷ (codes "p[b=1]", 1) ∷ (codes "p[a i]", 1) ∷ (codes "p[a=\"b\" x]", 1)
    ∷ (codes "p[a=\"b\" i s]", 1) ∷ (codes "p[a ~ = b]", 1) ∷ (codes "p[a!=b]", 1) ∷ (codes "p[a|b]", 1) ∷ (codes "p[a=b\"c\"]", 1)
    ∷ (codes "p[a=(]", 1) ∷ [])
bad_attribute = refl

-- ---- stage 3: pseudo-classes

unknown_pseudo : AreMalformed reads cause.UnknownPseudo (
    (codes "a:foo", 1) ∷ (codes "a:foo()", 1) ∷ (codes "a:foo(..)", 1) ∷ (codes "a:hover(x)", 1) ∷ (codes "a:not", 1) ∷ (codes "a:lang", 1)
    ∷ (codes "a:before(x)", 1) ∷ (codes "a:root()", 1) ∷ (codes "a:has-text", 1) ∷ (codes "a:remove", 1) ∷ (codes "a:if(b)", 1)
    ∷ (codes "a:if-not(b)", 1) ∷ (codes "a:nth-ancestor(1)", 1) ∷ (codes "a:watch-attrs(x)", 1) ∷ (codes "a:roo\\74", 1) ∷ (codes "a:nth-col(1)", 1)
    ∷ (codes "a:not(b:foo()):hover", 7) ∷ [])
unknown_pseudo = refl

-- ---- stage 3: numbers

bad_number : AreMalformed reads cause.BadNumber (
    (codes "a:nth-child(2x)", 1) ∷ (codes "a:nth-child()", 1) ∷ (codes "a:nth-child(2n+)", 1) ∷ (codes "a:nth-child(2 n)", 1)
    ∷ (codes "a:nth-child(+ 5)", 1) ∷ (codes "a:nth-child(1000001)", 1) ∷ (codes "a:nth-child(1000001n)", 1) ∷ (codes "a:nth-child(n-1000001)", 1)
    ∷ (codes "a:nth-child(n 1)", 1) ∷ (codes "a:nth-child(2n+1 of a)", 1) ∷ (codes "a:nth-child(--n)", 1) ∷ (codes "a:nth-child(n+-1)", 1) ∷ [])
bad_number = refl

-- ---- stage 3: arguments of operators

bad_argument : AreMalformed reads cause.BadOperatorArgument (
    (codes "p:upward(256)", 1) ∷ (codes "p:upward(0)", 1) ∷ (codes "p:upward(1000000000000000000000)", 1) ∷ (codes "p:upward(:has-text(a))", 1)
    ∷ (codes "p:upward(a:min-text-length(1))", 1) ∷ (codes "p:upward(a:matches-path(b))", 1) ∷ (codes "p:upward(a:matches-attr(b))", 1)
    ∷ (codes "p:upward(a:watch-attr())", 1) ∷ (codes "p:upward(a:upward(1))", 1) ∷ (codes "p:upward(a:upward(b))", 1)
    ∷ (codes "p:upward(a, b:is(c:not(:has-text(a))))", 1) ∷ (codes "p:has-text()", 1) ∷ (codes "p:has-text( \"\" )", 1)
    ∷ (codes "p:matches-path('')", 1) ∷ (codes "p:min-text-length()", 1) ∷ (codes "p:min-text-length( 3 )", 1)
    ∷ (codes "p:min-text-length(00000000003)", 1) ∷ (codes "p:min-text-length(4294967296)", 1) ∷ (codes "p:min-text-length(+1)", 1)
    ∷ (codes "p:matches-attr()", 1) ∷ (codes "p:matches-attr(\"\"=b)", 1) ∷ (codes "p:matches-attr(=b)", 1) ∷ (codes "p:matches-attr(\"a\" = b)", 1)
    ∷ (codes "p:matches-attr(\"a\"x)", 1) ∷ (codes "p:matches-attr(\"a)", 1) ∷ (codes "p:matches-attr(\"a\\\")", 1) ∷ (codes "p:matches-attr(/a)", 1)
    ∷ (codes "p:matches-attr(/a/ =b)", 1) ∷ (codes "p:matches-attr(/a/1)", 1) ∷ (codes "p:watch-attr(,)", 1) ∷ (codes "p:watch-attr(a,)", 1)
    ∷ (codes "p:watch-attr(a b)", 1) ∷ (112 ∷ 58 ∷ 119 ∷ 97 ∷ 116 ∷ 99 ∷ 104 ∷ 45 ∷ 97 ∷ 116 ∷ 116 ∷ 114 ∷ 40 ∷ 195 ∷ 169 ∷ 41 ∷ [], 1)
    ∷ (codes "p:others(x)", 1) ∷ (codes "p:remove(x)", 1) ∷ [])
bad_argument = refl

pieces_before_operators : AreMalformed reads cause.BadName ((codes "p:upward(a:has-text(b) .)", 23) ∷ [])
pieces_before_operators = refl

-- ---- stage 3: where others and actions stand

others_nested : AreMalformed reads cause.OthersNested ((codes "p:not(:others())", 6) ∷ (codes "p:upward(:others())", 9) ∷ (codes "p:not(:others(x))", 6) ∷ [])
others_nested = refl

action_not_last : AreMalformed reads cause.ActionNotLast (
    (codes "a:has(b:remove())", 7) ∷ (codes "a:remove() b", 1) ∷ (codes "a:remove().b", 1) ∷ (codes "a:remove():remove()", 1)
    ∷ (codes "a:remove() >", 1) ∷ (codes "a:remove().b, c", 1) ∷ [])
action_not_last = refl

action_in_list : AreMalformed reads cause.ActionInList (
    (codes "a:remove(), b", 1) ∷ (codes "a:remove(),", 1) ∷ (codes "a:remove(), b:remove()", 1) ∷ (codes "b, a:remove()", 4)
    ∷ (codes "a, :remove()", 3) ∷ (codes "a, b:remove(x)", 4) ∷ [])
action_in_list = refl

-- ---- set aside

aside_state : AreAside reads (of_kind kind.State (
    codes "a:hover" ∷ codes "a:active" ∷ codes "a:focus" ∷ codes "a:focus-visible" ∷ codes "a:focus-within" ∷ codes "a:link" ∷ codes "a:visited"
    ∷ codes "a:any-link" ∷ codes "a:target" ∷ codes "a:checked" ∷ codes "a:disabled" ∷ codes "a:enabled" ∷ codes "a:read-only" ∷ codes "a:read-write"
    ∷ codes "a:required" ∷ codes "a:optional" ∷ codes "a:valid" ∷ codes "a:invalid" ∷ codes "a:placeholder-shown" ∷ codes "a:indeterminate"
    ∷ codes "a:default" ∷ codes "a:in-range" ∷ codes "a:out-of-range" ∷ codes "a:autofill" ∷ codes "a:defined" ∷ codes "a:fullscreen"
    ∷ codes "a:scope" ∷ codes "a:lang(de)" ∷ codes "a:DIR(ltr)" ∷ codes "a:hover::x" ∷ codes "a:hover .." ∷ codes "a:not(:hover, ..)"
    ∷ codes "a:not(:hover).." ∷ []))
aside_state = refl

aside_pseudo_element : AreAside reads (of_kind kind.PseudoElement (
    codes "a:before" ∷ codes "a:after" ∷ codes "a:first-line" ∷ codes "a:first-letter" ∷ codes "a::before" ∷ codes "a::foo(x)"
    ∷ (97 ∷ 58 ∷ 58 ∷ 195 ∷ 169 ∷ []) ∷ codes "a::\\31" ∷ codes "a::has-text(b)" ∷ []))
aside_pseudo_element = refl

aside_operators : AreAside reads (
    (codes "a:style([\"x)", kind.Style) ∷ (codes "a:xpath([\"x)", kind.Xpath) ∷ (codes "a:shadow([\"x)", kind.Shadow)
    ∷ (codes "a:matches-css([\"x)", kind.MatchesCss) ∷ (codes "a:matches-css-before([\"x)", kind.MatchesCss)
    ∷ (codes "a:matches-css-after([\"x)", kind.MatchesCss) ∷ (codes "a:matches-media([\"x)", kind.MatchesMedia)
    ∷ (codes "a:matches-prop([\"x)", kind.MatchesProp) ∷ (codes "a:-abp-properties([\"x)", kind.AbpProperties)
    ∷ (codes "a:remove-attr([\"x)", kind.RemoveAttr) ∷ (codes "a:remove-class([\"x)", kind.RemoveClass) ∷ [])
aside_operators = refl

bad_name_before_aside : AreMalformed reads cause.BadName ((codes "a.. :hover", 1) ∷ [])
bad_name_before_aside = refl

-- ---- stage 4: patterns

abbrev all_bad : Bytes → Result Chains Finding
all_bad text = read_text (λ body flags. bad_pattern) text

-- the flags are part of what is refused: here those with the flag `i`
abbrev some_large : Bytes → Result Chains Finding
some_large text = read_text (λ body flags. if flags == 1 then pattern_too_large else found) text

patterns_bad_pattern : AreMalformed all_bad cause.BadPattern (
    (codes "p:has-text(/(?!x)y/)", 1) ∷ (codes "a:not(b, c:has-text(/x/))", 10) ∷ (codes "a:matches-attr(b=/x/)", 1) ∷ [])
patterns_bad_pattern = refl

patterns_bad_name : AreMalformed all_bad cause.BadName ((codes "p:has-text(/a/) ..", 16) ∷ [])
patterns_bad_name = refl

patterns_state : AreAside all_bad ((codes "p:has-text(/a/):hover", kind.State) ∷ [])
patterns_state = refl

patterns_bad_operator_argument : AreMalformed all_bad cause.BadOperatorArgument ((codes "p:upward(:has-text(/a/))", 1) ∷ [])
patterns_bad_operator_argument = refl

patterns_pattern_too_large : AreMalformed some_large cause.PatternTooLarge ((codes "p:has-text(/x/i)", 1) ∷ (codes "a:has-text(/x/) b:has-text(/x/i)", 17) ∷ [])
patterns_pattern_too_large = refl
