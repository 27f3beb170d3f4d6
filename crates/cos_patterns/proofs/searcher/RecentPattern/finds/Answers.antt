use Rattle.std.proofs.Common.{◌∙◌, ap, is_some}
use Rattle.regex_hir.specs.Re.{Re}
use Rattle.regex_hir.specs.Find.{find_str}
use Rattle.cos_patterns.specs.declared.written.Written.{Written}
use Rattle.cos_patterns.specs.Found.{pattern_found}
use Rattle.cos_patterns.proofs.Readings.{found_is}
use Rattle.cos_patterns.proofs.searcher.RecentPattern.finds.Goals as goal

pub returns-clause-found : goal.returns-clause-found
returns-clause-found c =
    let pattern = c.self.inside.entry.now in
    c.is_match.ensures.found
    ∙ ap (λ (re : Re). is_some (find_str re c.args.text.now 0)) c.self.invariant.pattern
    ∙ found_is c.args.text.now (λ k. (c.type_inv.text k).fits) pattern.body pattern.flags c.self.invariant.regex c.self.invariant.is
    ∙ ap (λ (p : Written). pattern_found p.body p.flags c.args.text.now) c.self.view_is

pub invariant_of-self : goal.invariant_of-self
invariant_of-self c = record {
  regex = c.self.invariant.regex;
  is = c.self.invariant.is;
  pattern = c.is_match.ensures.same ∙ c.self.invariant.pattern;
}
