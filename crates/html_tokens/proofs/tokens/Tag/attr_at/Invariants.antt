use Rattle.std.proofs.Common.{◌≡◌, length}
use denote.Text.{Utf8}
use denote.Shadow.{shadow}
use Rattle.std.specs.List.{slice_get}
use Rattle.html_meaning.specs.Tokens.{attribute_pairs}
use Rattle.html_tokens.proofs.tokens.Tag.attr_at.Given as goal

abbrev pub invariant-loop-attribute : goal.invariant-loop-attribute
invariant-loop-attribute l = shadow (Utf8 l.rest) × (slice_get (attribute_pairs l.self.attrs.now) l.i ≡ slice_get (attribute_pairs l.rest) l.left)

abbrev pub decreases-loop-attribute : goal.decreases-loop-attribute
decreases-loop-attribute l = length l.rest
