use Rattle.std.proofs.Common.{◌≡◌, ◌-◌, ◌≤◌, length, drop}
use Rattle.html_meaning.specs.Tokens.{is_self_closing}
use Rattle.html_tokens.proofs.scan.is_self_closing.Given as goal

abbrev pub invariant-loop-passed : goal.invariant-loop-passed
invariant-loop-passed l = record { within : l.passed ≤ length l.bytes; value : is_self_closing 0 l.bytes ≡ is_self_closing 0 (drop l.passed l.bytes) }

abbrev pub decreases-loop-passed : goal.decreases-loop-passed
decreases-loop-passed l = length l.bytes - l.passed
