-- What a filter's answers depend on. A sensor is what is observed, and a route from the place of a change to the element
-- whose answer is asked.
use Rattle.std.specs.Prelude.{Bool, true, false, List, [], ◌∷◌, ◌++◌, map, codes, if◌then◌else◌}
use Rattle.std.specs.List.{flat_map}
use Rattle.selector_tree.specs.declared.selector.Place.TheVariants.{Child, Descendant, Next, After}
use Rattle.selector_tree.specs.declared.selector.Step.{Step, fold-Step}
use Rattle.selector_tree.specs.declared.selector.Test.{Test, fold-Test}
use Rattle.selector_tree.specs.declared.selector.Step.TheOpen.{Step-F, Test-F}
use Rattle.sensor_meaning.specs.declared.sensor.Observes.{Observes}
use Rattle.sensor_meaning.specs.declared.sensor.Observes.TheVariants.{Attr, AnyAttr, Text, Children, Path}
use Rattle.sensor_meaning.specs.declared.sensor.Way.{Way}
use Rattle.sensor_meaning.specs.declared.sensor.Way.TheVariants.{ToChild, ToBelow, ToParent, ToAbove, ToNext, ToPrevious, ToAfter, ToBefore, Whole}
use Rattle.sensor_meaning.specs.declared.sensor.Sensor.{Sensor}

-- a set of sensors, in any order and with repeats
abbrev pub Sensors : Type 0
Sensors = List Sensor

-- one sensor
abbrev pub one : Observes → List Way → Sensors
one observed way = record { observes = observed; route = way } ∷ []

-- a direction at the end of each route
abbrev pub via : Way → Sensors → Sensors
via d r = map (λ s. record { observes = s.observes; route = s.route ++ d ∷ [] }) r

-- What a step adds: to the sensors of membership, those of the steps before it, and to the sensors of the question whether
-- the steps lead on, those of the steps behind it. And whether it goes up by `:upward()`.
pub record StepSensors : Type 0 where
  pub goes_up : Bool
  pub member : Sensors → Sensors
  pub leads : Sensors → Sensors

-- of membership, from the front: whether an element is among those that the steps lead to from all elements
abbrev pub members_from : Sensors → List StepSensors → Sensors
members_from r [] = r
members_from r (step ∷ steps) = members_from (step.member r) steps

abbrev pub members : List StepSensors → Sensors
members = members_from []

-- of leading on, from the back: whether the steps lead from an element to something
abbrev pub leads : List StepSensors → Sensors
leads [] = []
leads (step ∷ steps) = step.leads (leads steps)

-- the steps before the first that goes up
abbrev pub front : List StepSensors → List StepSensors
front [] = []
front (step ∷ steps) = if step.goes_up then [] else step ∷ front steps

-- the steps from the first on that goes up
abbrev pub rest : List StepSensors → List StepSensors
rest [] = []
rest (step ∷ steps) = if step.goes_up then step ∷ steps else rest steps

-- of being selected by a selector
abbrev pub of_selector : List (List StepSensors) → Sensors
of_selector l = flat_map members l

-- of a chain's giving something for an element
abbrev pub gives : List StepSensors → Sensors
gives chain = members (front chain) ++ leads (rest chain)

-- one step, with the sensors of each test and selector in their place
abbrev pub step_sensors : Step-F StepSensors Sensors → StepSensors
step_sensors (Step-F.Keep q) = record { goes_up = false; member = λ r. r ++ q; leads = λ r. r ++ q }
step_sensors (Step-F.Move Child) =
    record { goes_up = false; member = λ r. via ToChild r; leads = λ r. via ToParent r ++ one Children [] }
step_sensors (Step-F.Move Descendant) =
    record {
      goes_up = false;
      member = λ r. via ToBelow r;
      leads = λ r. via ToAbove r ++ one Children [] ++ one Children (ToAbove ∷ []);
    }
step_sensors (Step-F.Move Next) =
    record {
      goes_up = false;
      member = λ r. via ToNext r ++ one Children (ToChild ∷ []);
      leads = λ r. via ToPrevious r ++ one Children (ToChild ∷ []);
    }
step_sensors (Step-F.Move After) =
    record {
      goes_up = false;
      member = λ r. via ToAfter r ++ one Children (ToChild ∷ []);
      leads = λ r. via ToBefore r ++ one Children (ToChild ∷ []);
    }
step_sensors (Step-F.Upward n) =
    record {
      goes_up = true;
      member = λ r. via ToAbove r ++ one Children [] ++ one Children (ToAbove ∷ []);
      leads = λ r. via ToBelow r;
    }
step_sensors (Step-F.UpwardTo l) =
    record {
      goes_up = true;
      member = λ r.
          via ToAbove r ++ one Children [] ++ one Children (ToAbove ∷ []) ++ of_selector l ++ via ToAbove (of_selector l);
      leads = λ r. via ToBelow r ++ via ToBelow (of_selector l);
    }
step_sensors Step-F.Others =
    record { goes_up = false; member = λ r. via Whole r ++ one Children (Whole ∷ []); leads = λ r. [] }

-- one test, with the sensors of each selector in its place
abbrev pub test_sensors : Test-F StepSensors Sensors → Sensors
test_sensors Test-F.Any = []
test_sensors (Test-F.Tag n) = []
test_sensors (Test-F.Id v) = one (Attr (codes "id")) []
test_sensors (Test-F.Class v) = one (Attr (codes "class")) []
test_sensors (Test-F.Attr name op v i) = one (Attr name) []
test_sensors Test-F.Root = []
test_sensors Test-F.Empty = one Text []
test_sensors (Test-F.Nth a b from_end of_name) = one Children (ToChild ∷ [])
test_sensors (Test-F.Only of_name) = one Children (ToChild ∷ [])
test_sensors (Test-F.Is l) = flat_map gives l
test_sensors (Test-F.Not l) = flat_map gives l
test_sensors (Test-F.Has l) = flat_map leads l
test_sensors (Test-F.HasText arg) = one Text [] ++ one Text (ToAbove ∷ [])
test_sensors (Test-F.MinText n) = one Text [] ++ one Text (ToAbove ∷ [])
test_sensors (Test-F.MatchesPath arg) = one Path (ToBelow ∷ [])
test_sensors (Test-F.MatchesAttr name v) = one AnyAttr []
test_sensors (Test-F.WatchAttr names) = []

abbrev pub sensors_of_step : Step → StepSensors
sensors_of_step = fold-Step StepSensors Sensors step_sensors test_sensors

abbrev pub sensors_of_test : Test → Sensors
sensors_of_test = fold-Test StepSensors Sensors step_sensors test_sensors

-- the sensors of a filter's selector
abbrev pub sensors : List (List Step) → Sensors
sensors l = of_selector (map (map sensors_of_step) l)
