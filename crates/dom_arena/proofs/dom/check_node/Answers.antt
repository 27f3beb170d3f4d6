use Rattle.std.proofs.Common.{ap}
use Rattle.std.specs.Prelude.{option_map}
use Rattle.dom_arena.specs.Refusals.{error_of}
use Rattle.dom_arena.proofs.Refused.{detach_no_node, detach_accepted}
use Rattle.dom_arena.proofs.dom.check_node.Goals as goal

pub returns-in-None-clause-refused : goal.returns-in-None-clause-refused
returns-in-None-clause-refused c = ap (option_map error_of) (detach_no_node c.args.table.now.0 _ c.requires c.args.n c.if-n-eq0.false c.in-None.ensures.none)

pub returns-in-Some-clause-accepted : goal.returns-in-Some-clause-accepted
returns-in-Some-clause-accepted c = detach_accepted c.args.table.now.0 _ c.requires c.args.n c.if-n-eq0.false c.in-Some.ensures.used
