use Rattle.std.proofs.Common.{◌≡◌, take}
use Rattle.std.specs.Option.{option_copied}
use Rattle.generic_tables.specs.Keys.{first_value, value_of, last_tests}
use Rattle.generic_tables.proofs.keys.first_value.Given as goal

abbrev pub invariant-loop-step : goal.invariant-loop-step
invariant-loop-step l = option_copied l.found ≡ first_value (value_of l.kind) (last_tests (take l.step-index l.steps))
