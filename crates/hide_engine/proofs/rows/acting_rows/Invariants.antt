use Rattle.std.proofs.Common.{◌≡◌, ◌≤◌, take, length}
use Rattle.hide_engine.specs.Chosen.{acting_rows}
use Rattle.hide_engine.proofs.rows.acting_rows.Given as goal

-- so many of the rows so far
abbrev pub invariant-loop-place : goal.invariant-loop-place
invariant-loop-place l =
    record { same : l.count ≡ length (acting_rows l.active l.action (take l.place l.marks)); most : l.count ≤ l.place }
