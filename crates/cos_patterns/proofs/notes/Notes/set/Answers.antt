use Rattle.std.proofs.Common.{ap, sym, ◌∙◌, rules}
use Rattle.std.proofs.lemmas.Map.Text.{btree_map_updates_text}
use Rattle.std.specs.BTreeMap.{get_by_text}
use Rattle.cos_patterns.specs.Notes.{note_among}
use Rattle.cos_patterns.proofs.NotesLaws.{note_set}
use Rattle.cos_patterns.proofs.notes.Notes.set.Goals as goal

pub returns : goal.returns
returns c = λ pattern.
    let w = c.set_among.new.notes in
    let updated = btree_map_updates_text c.args.text.now c.args.self.now.by_text (c.get_mut.follows.lender w) _ ((c.get_mut.follows.holds w).3 (search rules)) pattern.body in
    ap (λ found. note_among found pattern.flags) updated
    ∙ note_set (get_by_text c.args.self.now.by_text) c.args.text.now pattern.body c.in-Some.notes.now w c.args.flags pattern.flags c.args.note c.set_among.ensures (sym c.in-Some.ensures.value)
