use Rattle.std.proofs.Common.{◌≡◌, drop}
use Rattle.cos_outside.specs.Files.{file_of}
use Rattle.cos_outside.proofs.memory_shelf.find_file.Given as goal

-- the name stands at none of the first `i` places
abbrev pub invariant-loop-i : goal.invariant-loop-i
invariant-loop-i l = file_of (drop l.i l.files) l.name ≡ file_of l.files l.name
