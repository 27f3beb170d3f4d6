use Rattle.std.proofs.Common.{◌∙◌, ap, cond, List, Bool, Some}
use Rattle.remembered.specs.Known.{known, same_front}
use Rattle.remembered.specs.declared.members.Front.{Front}
use Rattle.remembered.proofs.members.Members.put.Goals as goal

pub returns-clause-ok : goal.returns-clause-ok
returns-clause-ok c = λ other.
    c.in_ok-insert.ensures.updates.0 other
    ∙ ap (λ (members : List (Front × Bool)). cond (same_front c.args.front other) (Some c.args.answer) (known members other)) c.self.view_is
