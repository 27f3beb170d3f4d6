use Rattle.std.proofs.Common.{◌≡◌, None, arith, ap, ◌∙◌}
use Rattle.std.proofs.lemmas.Grind.{common_steps}
use Rattle.std.proofs.lemmas.Map.Text.{btree_map_updates_text}
use Rattle.std.specs.Prelude.{string_bytes}
use Rattle.std.specs.BTreeMap.{get_by_text}
use Rattle.cos_patterns.specs.Notes.{notes_of, note_among}
use Rattle.cos_patterns.proofs.NotesLaws.{nothing_more}
use Rattle.cos_patterns.proofs.notes.Notes.reserve.Goals as goal

pub returns-clause-same : goal.returns-clause-same
returns-clause-same c = λ pattern.
    let none : notes_of c.args.self.now c.args.text.now ≡ None = grind (arith, common_steps) in
    let updated = btree_map_updates_text (string_bytes c.in_ok-copy.copy) c.args.self.now.by_text c.insert.new.self _ c.in_ok-insert.ensures.updates pattern.body in
    ap (λ found. note_among found pattern.flags) updated
    ∙ nothing_more (get_by_text c.args.self.now.by_text) (string_bytes c.in_ok-copy.copy) pattern.body pattern.flags (ap (get_by_text c.args.self.now.by_text) c.in_ok-copy.ensures.ok ∙ none)
