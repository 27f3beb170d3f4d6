-- Steps that go up by `:upward()`.
use Rattle.std.specs.Prelude.{Bool, true, false, [], ◌∷◌, ◌++◌}
use Rattle.selector_tree.specs.declared.selector.Step.{Step, out-Step}
use Rattle.selector_tree.specs.declared.selector.Step.TheOpen.{Step-F}
use Rattle.selector_tree.specs.declared.selector.Test.{Test}
use Rattle.sensor_meaning.specs.declared.sensor.Observes.TheVariants.{Children}
use Rattle.sensor_meaning.specs.declared.sensor.Way.TheVariants.{ToAbove}
use Rattle.sensor_meaning.specs.Sensors.{Sensors, one, via}

abbrev pub goes_up_at : Step-F Step Test → Bool
goes_up_at (Step-F.Upward n) = true
goes_up_at (Step-F.UpwardTo l) = true
goes_up_at _ = false

abbrev pub goes_up : Step → Bool
goes_up s = goes_up_at (out-Step s)

-- the sensors that lead up, with the children of the place and of what is above it
abbrev pub above_and_children : Sensors → Sensors
above_and_children r = via ToAbove r ++ one Children [] ++ one Children (ToAbove ∷ [])
