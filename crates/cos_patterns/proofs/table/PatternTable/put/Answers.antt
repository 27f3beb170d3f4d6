use Rattle.cos_patterns.specs.Written.{written}
use Rattle.cos_patterns.proofs.Agreement.{put_again, is_held, held_by, held_noted, unless_by}
use Rattle.cos_patterns.proofs.Extensions.{put_extends}
use Rattle.cos_patterns.proofs.table.PatternTable.put.Goals as goal

-- the pattern was noted, so that nothing changes
pub returns-in-Held-clause-patterns : goal.returns-in-Held-clause-patterns
returns-in-Held-clause-patterns g c =
    put_again (written c.args.text.now c.args.flags) c.args.self.now.patterns c.in-Held.number c.in-Held.ensures.0

-- it wasn't noted, so that nothing is said of it before
pub returns-in-Nothing-clause-stays : goal.returns-in-Nothing-clause-stays
returns-in-Nothing-clause-stays g c =
    put_extends (written c.args.text.now c.args.flags) c.args.self.now c.ask.new.self c.in-Nothing.ensures c.ask.ensures.others
    c.ask.result c.ask.ensures.patterns c.ask.ensures.refused

pub returns-in-Nothing-clause-asked_new : goal.returns-in-Nothing-clause-asked_new
returns-in-Nothing-clause-asked_new g c = λ _. unless_by c.ask.result _ c.ask.ensures.asked c.ask.ensures.asked_bad c.ask.ensures.asked_large

pub returns-in-Held-clause-asked_new : goal.returns-in-Held-clause-asked_new
returns-in-Held-clause-asked_new g c = λ new.
    absurd (held_noted (written c.args.text.now c.args.flags) c.args.self.now c.in-Held.number c.in-Held.ensures.0 new)

-- the table holds what has a number
pub returns-in-Nothing-clause-held : goal.returns-in-Nothing-clause-held
returns-in-Nothing-clause-held g c =
    held_by (written c.args.text.now c.args.flags) c.args.self.now c.ask.new.self c.in-Nothing.ensures c.ask.result c.ask.ensures.number c.ask.ensures.refused

pub returns-in-Held-clause-held : goal.returns-in-Held-clause-held
returns-in-Held-clause-held g c = is_held (written c.args.text.now c.args.flags) c.args.self.now.patterns c.in-Held.number c.in-Held.ensures.0
