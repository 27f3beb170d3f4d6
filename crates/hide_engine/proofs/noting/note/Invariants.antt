use Rattle.hide_engine.proofs.NotedGroups.{NotesBefore}
use Rattle.hide_engine.proofs.noting.note.Given as goal

-- what came or moved is noted, and what the groups so far observe
abbrev pub invariant-loop-group : goal.invariant-loop-group
invariant-loop-group l = NotesBefore l.change l.dom l.group l.sets l.initial.pending l.pending
