-- The error of each refusal of a change of a tree.
use Rattle.page_tree.specs.Refusals.{Refusal, NoSuchNode as NodeMissing, NotElement as ElementMissing, NotText as TextMissing, BadPlace as PlaceMissing, IntoItself as BelowItself, IsDocument as DocumentFixed, TooDeep as DepthReached, TooManyNodes as NumberReached}
use Rattle.dom_arena.specs.declared.refusals.DomError.{DomError}
use Rattle.dom_arena.specs.declared.refusals.DomError.TheVariants.{NoSuchNode, NotElement, NotText, BadPlace, IntoItself, IsDocument, TooDeep, TooManyNodes}

abbrev pub error_of : Refusal → DomError
error_of (NodeMissing n) = NoSuchNode n
error_of (ElementMissing n) = NotElement n
error_of (TextMissing n) = NotText n
error_of (PlaceMissing place) = BadPlace place
error_of (BelowItself n) = IntoItself n
error_of DocumentFixed = IsDocument
error_of DepthReached = TooDeep
error_of NumberReached = TooManyNodes
