use Rattle.std.proofs.Common.{◌≡◌, length}
use Rattle.page_tree.specs.Standings.{above}
use Rattle.cos_patterns.specs.Found.{pattern_found}
use Rattle.selector_match.specs.Asked.{IsElement}
use Rattle.engine_meaning.specs.Rounds.{is_outermost}
use Rattle.hide_engine.proofs.removing.is_outermost.Given as goal

abbrev pub invariant-ancestors : goal.invariant-ancestors
invariant-ancestors l =
    record {
      element : IsElement l.dom l.at;
      same : is_outermost pattern_found l.active l.page.path l.dom l.x ≡ is_outermost pattern_found l.active l.page.path l.dom l.at;
    }

abbrev pub decreases-ancestors : goal.decreases-ancestors
decreases-ancestors l = length (above l.dom l.at)
