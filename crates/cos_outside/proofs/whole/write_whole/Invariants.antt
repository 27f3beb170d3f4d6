use Rattle.std.proofs.Common.{◌≡◌, ◌-◌, ◌≤◌, ◌++◌, length, take, IsTrue}
use Rattle.cos_outside.proofs.whole.write_whole.Given as goal

-- the first `done` bytes were written
abbrev pub invariant-loop-done : goal.invariant-loop-done
invariant-loop-done g l =
    let sink = g.O.Sink in
    record {
      within : l.done ≤ length l.bytes;
      told : sink.tells l.out ≡ sink.tells l.fn.out;
      written : IsTrue (sink.tells l.fn.out) → sink.written l.out ≡ sink.written l.fn.out ++ take l.done l.bytes;
      later : sink.faults l.fn.out ≤ sink.faults l.out;
    }

-- the bytes that are left: each turn writes at least one
abbrev pub decreases-loop-done : goal.decreases-loop-done
decreases-loop-done g l = length l.initial.bytes - l.done
