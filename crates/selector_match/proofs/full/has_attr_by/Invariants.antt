use Rattle.std.proofs.Common.{◌≡◌, ◌&&◌, false, take}
use Rattle.std.specs.List.{list_any}
use Rattle.cos_patterns.specs.Found.{pattern_found}
use Rattle.selector_meaning.specs.Meaning.{is_named, is_named_by}
use Rattle.selector_match.proofs.full.has_attr_by.Given as goal

abbrev pub invariant-loop-attr : goal.invariant-loop-attr
invariant-loop-attr l = list_any (λ a. is_named pattern_found l.name a.0 && is_named_by pattern_found l.value a.1) (take l.attr-index l.attr-items) ≡ false
