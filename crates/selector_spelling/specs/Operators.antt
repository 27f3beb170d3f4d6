-- What each `:name(..)` is, by its name in lower case.
use Rattle.std.specs.Prelude.{true, false, [], ◌∷◌, codes, Option, Some, None, option_map, if◌then◌else◌}
use Rattle.std.specs.Str.{bytes_eq}
use Rattle.selector_spelling.specs.declared.finding.Kind.{Kind}
use Rattle.selector_spelling.specs.declared.finding.Kind.TheVariants as kind
use Rattle.selector_spelling.specs.declared.operator.Operator.{Operator}
use Rattle.selector_spelling.specs.declared.operator.Operator.TheVariants as operator
use Rattle.selector_spelling.specs.Bytes.{Bytes, is_one_of}

-- the first of two that is there
abbrev pub or_else : {A : Type 0} → Option A → Option A → Option A
or_else None other = other
or_else (Some x) other = Some x

-- what `:name(..)` is where it takes a selector or a number
abbrev pub standard_of : Bytes → Option Operator
standard_of n =
    if is_one_of n (codes "is" ∷ codes "where" ∷ []) then Some operator.Is
    else if bytes_eq n (codes "not") then Some operator.Not
    else if is_one_of n (codes "has" ∷ codes "-abp-has" ∷ []) then Some operator.Has
    else if bytes_eq n (codes "nth-child") then Some (operator.Nth false false)
    else if bytes_eq n (codes "nth-last-child") then Some (operator.Nth true false)
    else if bytes_eq n (codes "nth-of-type") then Some (operator.Nth false true)
    else if bytes_eq n (codes "nth-last-of-type") then Some (operator.Nth true true)
    else None

-- where it is a procedural operator
abbrev pub procedural_of : Bytes → Option Operator
procedural_of n =
    if is_one_of n (codes "has-text" ∷ codes "-abp-contains" ∷ []) then Some operator.HasText
    else if bytes_eq n (codes "min-text-length") then Some operator.MinText
    else if bytes_eq n (codes "matches-path") then Some operator.MatchesPath
    else if bytes_eq n (codes "matches-attr") then Some operator.MatchesAttr
    else if bytes_eq n (codes "watch-attr") then Some operator.WatchAttr
    else if bytes_eq n (codes "upward") then Some operator.Upward
    else if bytes_eq n (codes "others") then Some operator.Others
    else if bytes_eq n (codes "remove") then Some operator.Remove
    else None

-- where it is set aside
abbrev pub aside_of : Bytes → Option Kind
aside_of n =
    if is_one_of n (codes "lang" ∷ codes "dir" ∷ []) then Some kind.State
    else if bytes_eq n (codes "style") then Some kind.Style
    else if bytes_eq n (codes "xpath") then Some kind.Xpath
    else if bytes_eq n (codes "shadow") then Some kind.Shadow
    else if is_one_of n (codes "matches-css" ∷ codes "matches-css-before" ∷ codes "matches-css-after" ∷ []) then Some kind.MatchesCss
    else if bytes_eq n (codes "matches-media") then Some kind.MatchesMedia
    else if bytes_eq n (codes "matches-prop") then Some kind.MatchesProp
    else if bytes_eq n (codes "-abp-properties") then Some kind.AbpProperties
    else if bytes_eq n (codes "remove-attr") then Some kind.RemoveAttr
    else if bytes_eq n (codes "remove-class") then Some kind.RemoveClass
    else None

-- what `:name(..)` is
abbrev pub operator_of : Bytes → Option Operator
operator_of n = or_else (standard_of n) (or_else (procedural_of n) (option_map operator.Aside (aside_of n)))
