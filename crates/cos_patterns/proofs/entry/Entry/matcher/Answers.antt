use Rattle.std.proofs.Common.{subst}
use Rattle.std.proofs.lemmas.Result.{IfOk-weaker}
use Rattle.cos_patterns.specs.declared.written.Written.{Written}
use Rattle.cos_patterns.specs.Found.{IsPatternOf}
use Rattle.cos_patterns.proofs.entry.Entry.matcher.Goals as goal

pub returns : goal.returns
returns c =
    IfOk-weaker c.matcher.result _ _ (λ m is. record {
      regex = c.self.inside.regex;
      is = subst (λ (pattern : Written). IsPatternOf pattern.body pattern.flags c.self.inside.regex) c.self.view_is c.self.invariant;
      pattern = is;
    }) c.matcher.ensures.pattern
