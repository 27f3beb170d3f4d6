use Rattle.std.proofs.Common.{◌≡◌, string_bytes}
use Rattle.command_meaning.specs.Generator.{drill_script}
use Rattle.drill_files.proofs.drill_script.Given as goal

-- the lines so far
abbrev pub invariant-loop-i : goal.invariant-loop-i
invariant-loop-i l = string_bytes l.script ≡ drill_script l.i
