use Rattle.cos_patterns.specs.Written.{written}
use Rattle.cos_patterns.proofs.table.PatternTable.note_of.Goals as goal

pub returns : goal.returns
returns c = rw (c.get.ensures, ← c.self.view_is) (c.self.invariant (written c.args.text.now c.args.flags) c.requires)
