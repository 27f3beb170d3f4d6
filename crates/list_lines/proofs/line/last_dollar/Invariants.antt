use Rattle.std.proofs.Common.{◌≡◌, ◌≤◌, ◌<◌, ◌-◌, length, drop}
use Rattle.std.specs.Prelude.{slice_index}
use Rattle.std.specs.Option.{ForSome}
use Rattle.list_lines.specs.Lines.{last_place}
use Rattle.list_lines.proofs.LineLaws.{or_last}
use Rattle.list_lines.proofs.line.last_dollar.Given as goal

abbrev pub invariant-loop-place : goal.invariant-loop-place
invariant-loop-place l = record {
  within : l.place ≤ length l.text;
  same : or_last l.last (last_place 36 l.place (drop l.place l.text)) ≡ last_place 36 0 l.text;
  dollar : ForSome l.last (λ p. (p < length l.text) × (slice_index l.text p ≡ 36));
}

abbrev pub decreases-loop-place : goal.decreases-loop-place
decreases-loop-place l = length l.text - l.place
