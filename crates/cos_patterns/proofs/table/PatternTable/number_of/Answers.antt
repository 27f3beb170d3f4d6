use Rattle.std.proofs.Common.{sym}
use Rattle.cos_patterns.specs.Written.{written}
use Rattle.cos_patterns.proofs.Index.{not_held}
use Rattle.cos_patterns.proofs.Places.{no_place}
use Rattle.cos_patterns.proofs.table.PatternTable.number_of.Goals as goal

-- what isn't held has no number
pub returns-in-Nothing : goal.returns-in-Nothing
returns-in-Nothing c =
    let key = written c.args.text.now c.args.flags in
    sym (no_place key c.args.self.now.patterns (not_held c.note_of.result key c.args.self.now c.in-Nothing.is c.note_of.ensures))
