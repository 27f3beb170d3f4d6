use Rattle.std.proofs.Common.{◌<◌, length, sym, ◌∙◌, rules}
use Rattle.html_tokens.proofs.AttributePairs.{pairs_found}
use Rattle.html_tokens.proofs.attributes.next_attribute.Goals as goal

pub returns-else-is_empty-clause-found : goal.returns-else-is_empty-clause-found
returns-else-is_empty-clause-found c =
    let inner = c.behind_between-inner.result.now in
    let some : 0 < length inner = search rules in
    let found = c.attribute_at.ensures in
    sym c.behind_between-inner.ensures.same
    ∙ pairs_found inner c.attribute_at.result.name.now c.attribute_at.result.value.now c.attribute_at.result.rest.now some (c.behind_between-inner.ensures.stops some) found.name found.value found.rest
