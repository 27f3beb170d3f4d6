-- How kinds and causes are printed.
use Rattle.std.specs.Prelude.{ℕ, List, codes}
use Rattle.selector_spelling.specs.declared.finding.Kind.{Kind}
use Rattle.selector_spelling.specs.declared.finding.Kind.TheVariants as kind
use Rattle.selector_spelling.specs.declared.finding.Cause.{Cause}
use Rattle.selector_spelling.specs.declared.finding.Cause.TheVariants as cause

abbrev pub kind_name : Kind → List ℕ
kind_name kind.Network = codes "Network"
kind_name kind.Modifier = codes "Modifier"
kind_name kind.RegexHost = codes "RegexHost"
kind_name kind.Snippet = codes "Snippet"
kind_name kind.Scriptlet = codes "Scriptlet"
kind_name kind.HtmlFilter = codes "HtmlFilter"
kind_name kind.Option = codes "Option"
kind_name kind.RegexAddress = codes "RegexAddress"
kind_name kind.Include = codes "Include"
kind_name kind.State = codes "State"
kind_name kind.PseudoElement = codes "PseudoElement"
kind_name kind.Style = codes "Style"
kind_name kind.Xpath = codes "Xpath"
kind_name kind.Shadow = codes "Shadow"
kind_name kind.MatchesCss = codes "MatchesCss"
kind_name kind.MatchesMedia = codes "MatchesMedia"
kind_name kind.MatchesProp = codes "MatchesProp"
kind_name kind.AbpProperties = codes "AbpProperties"
kind_name kind.RemoveAttr = codes "RemoveAttr"
kind_name kind.RemoveClass = codes "RemoveClass"

abbrev pub cause_name : Cause → List ℕ
cause_name cause.LineTooLong = codes "LineTooLong"
cause_name cause.NotUtf8 = codes "NotUtf8"
cause_name cause.BadHost = codes "BadHost"
cause_name cause.BadCondition = codes "BadCondition"
cause_name cause.StrayElse = codes "StrayElse"
cause_name cause.StrayEndif = codes "StrayEndif"
cause_name cause.UnclosedIf = codes "UnclosedIf"
cause_name cause.BadSuffix = codes "BadSuffix"
cause_name cause.Unbalanced = codes "Unbalanced"
cause_name cause.TooNested = codes "TooNested"
cause_name cause.EmptyPart = codes "EmptyPart"
cause_name cause.BadName = codes "BadName"
cause_name cause.BadAttribute = codes "BadAttribute"
cause_name cause.UnknownPseudo = codes "UnknownPseudo"
cause_name cause.BadNumber = codes "BadNumber"
cause_name cause.BadOperatorArgument = codes "BadOperatorArgument"
cause_name cause.OthersNested = codes "OthersNested"
cause_name cause.ActionNotLast = codes "ActionNotLast"
cause_name cause.ActionInList = codes "ActionInList"
cause_name cause.BadPattern = codes "BadPattern"
cause_name cause.PatternTooLarge = codes "PatternTooLarge"
