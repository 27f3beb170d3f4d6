use Rattle.procedural_ops.proofs.Chains.{shown_by}
use Rattle.procedural_ops.proofs.places.is_shown_name.Goals as goal

pub returns-in_default : goal.returns-in_default
returns-in_default c =
    shown_by c.args.name.now c.in_default.not-head c.in_default.not-link c.in_default.not-meta c.in_default.not-script c.in_default.not-style c.in_default.not-title
    c.in_default.not-html c.in_default.not-body
