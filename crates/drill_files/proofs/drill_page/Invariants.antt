use Rattle.std.proofs.Common.{◌≡◌, string_bytes}
use Rattle.command_meaning.specs.Generator.{drill_page}
use Rattle.drill_files.proofs.drill_page.Given as goal

-- the blocks so far
abbrev pub invariant-loop-i : goal.invariant-loop-i
invariant-loop-i l = string_bytes l.page ≡ drill_page l.i
