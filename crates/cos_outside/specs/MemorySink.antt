-- What a sink in memory shows.
use Rattle.std.specs.Prelude.{ℕ, List}
use Rattle.cos_outside.specs.declared.planned.PlannedFaults.{PlannedFaults}
use Rattle.cos_outside.specs.declared.memory_sink.MemorySink.{MemorySink}

-- the bytes written
abbrev pub bytes_in : MemorySink → List ℕ
bytes_in sink = sink.bytes

-- how many calls failed
abbrev pub fault_count : MemorySink → ℕ
fault_count sink = sink.faults.count

-- which calls are to fail
abbrev pub plan_of : MemorySink → PlannedFaults
plan_of sink = sink.plan

-- how many bytes are taken at once at most
abbrev pub piece_of : MemorySink → ℕ
piece_of sink = sink.piece
