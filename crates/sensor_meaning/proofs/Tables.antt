-- The tables of sensors, row by row, on an example: r are the sensors of the other steps, q those of a test.
use Rattle.std.proofs.Common.{◌≡◌, true, false, pos, List, [], ◌∷◌, codes, None, refl}
use Rattle.selector_tree.specs.declared.selector.Place.TheVariants.{Child, Descendant, Next, After}
use Rattle.selector_tree.specs.declared.selector.AttrOp.TheVariants.{Exists}
use Rattle.selector_tree.specs.declared.selector.Arg.TheVariants.{Literal}
use Rattle.selector_tree.specs.declared.selector.Step.{Step}
use Rattle.selector_tree.specs.declared.selector.Step.TheVariants.{Keep, Move, Upward, UpwardTo, Others}
use Rattle.selector_tree.specs.declared.selector.Test.TheVariants as test
use Rattle.sensor_meaning.specs.declared.sensor.Observes.{Observes}
use Rattle.sensor_meaning.specs.declared.sensor.Observes.TheVariants.{Attr, AnyAttr, Text, Children, Path}
use Rattle.sensor_meaning.specs.declared.sensor.Way.{Way}
use Rattle.sensor_meaning.specs.declared.sensor.Way.TheVariants.{ToChild, ToBelow, ToParent, ToAbove, ToNext, ToPrevious, ToAfter, ToBefore, Whole}
use Rattle.sensor_meaning.specs.declared.sensor.Sensor.{Sensor}
use Rattle.sensor_meaning.specs.Sensors.{Sensors, StepSensors, sensors_of_step, sensors_of_test, sensors}
use Rattle.sensor_meaning.proofs.Laws.{step-Keep, step-Move, step-Upward, step-UpwardTo, step-Others, test-Any, test-Tag, test-Id, test-Class, test-Attr, test-Root, test-Empty, test-Nth, test-Only, test-Is, test-Not, test-Has, test-HasText, test-MinText, test-MatchesPath, test-MatchesAttr, test-WatchAttr}

-- a sensor in one line
abbrev at : Observes → List Way → Sensor
at observed way = record { observes = observed; route = way }

-- the sensors of the other steps
abbrev r : Sensors
r = at Text (ToAbove ∷ []) ∷ []

abbrev member : StepSensors → Sensors
member step = step.member r

abbrev lead : StepSensors → Sensors
lead step = step.leads r

-- .a, and `#b > .a`
abbrev class_a : List Step
class_a = Keep (test.Class (codes "a")) ∷ []

abbrev nested : List (List Step)
nested = (Keep (test.Id (codes "b")) ∷ Move Child ∷ Keep (test.Class (codes "a")) ∷ []) ∷ []

-- ---- membership, by the last step
member_Keep : member (sensors_of_step (Keep (test.Class (codes "a")))) ≡ at Text (ToAbove ∷ []) ∷ at (Attr (codes "class")) [] ∷ []
member_Keep = rw (step-Keep, test-Class) refl

member_Child : member (sensors_of_step (Move Child)) ≡ at Text (ToAbove ∷ ToChild ∷ []) ∷ []
member_Child = rw step-Move refl

member_Descendant : member (sensors_of_step (Move Descendant)) ≡ at Text (ToAbove ∷ ToBelow ∷ []) ∷ []
member_Descendant = rw step-Move refl

member_Next : member (sensors_of_step (Move Next)) ≡ at Text (ToAbove ∷ ToNext ∷ []) ∷ at Children (ToChild ∷ []) ∷ []
member_Next = rw step-Move refl

member_After : member (sensors_of_step (Move After)) ≡ at Text (ToAbove ∷ ToAfter ∷ []) ∷ at Children (ToChild ∷ []) ∷ []
member_After = rw step-Move refl

member_Upward : member (sensors_of_step (Upward 2)) ≡ at Text (ToAbove ∷ ToAbove ∷ []) ∷ at Children [] ∷ at Children (ToAbove ∷ []) ∷ []
member_Upward = rw step-Upward refl

-- s of `#b > .a` is (Attr id, [child]), (Attr class, [])
member_UpwardTo : member (sensors_of_step (UpwardTo nested)) ≡
    at Text (ToAbove ∷ ToAbove ∷ []) ∷ at Children [] ∷ at Children (ToAbove ∷ []) ∷ at (Attr (codes "id")) (ToChild ∷ []) ∷ at (Attr (codes "class")) []
    ∷ at (Attr (codes "id")) (ToChild ∷ ToAbove ∷ []) ∷ at (Attr (codes "class")) (ToAbove ∷ []) ∷ []
member_UpwardTo = rw (step-UpwardTo, step-Keep, test-Class, step-Move, step-Keep, test-Id) refl

member_Others : member (sensors_of_step Others) ≡ at Text (ToAbove ∷ Whole ∷ []) ∷ at Children (Whole ∷ []) ∷ []
member_Others = rw step-Others refl

-- ---- leading on, by the first step
leads_Keep : lead (sensors_of_step (Keep (test.Class (codes "a")))) ≡ at Text (ToAbove ∷ []) ∷ at (Attr (codes "class")) [] ∷ []
leads_Keep = rw (step-Keep, test-Class) refl

leads_Child : lead (sensors_of_step (Move Child)) ≡ at Text (ToAbove ∷ ToParent ∷ []) ∷ at Children [] ∷ []
leads_Child = rw step-Move refl

leads_Descendant : lead (sensors_of_step (Move Descendant)) ≡ at Text (ToAbove ∷ ToAbove ∷ []) ∷ at Children [] ∷ at Children (ToAbove ∷ []) ∷ []
leads_Descendant = rw step-Move refl

leads_Next : lead (sensors_of_step (Move Next)) ≡ at Text (ToAbove ∷ ToPrevious ∷ []) ∷ at Children (ToChild ∷ []) ∷ []
leads_Next = rw step-Move refl

leads_After : lead (sensors_of_step (Move After)) ≡ at Text (ToAbove ∷ ToBefore ∷ []) ∷ at Children (ToChild ∷ []) ∷ []
leads_After = rw step-Move refl

leads_Upward : lead (sensors_of_step (Upward 2)) ≡ at Text (ToAbove ∷ ToBelow ∷ []) ∷ []
leads_Upward = rw step-Upward refl

leads_UpwardTo : lead (sensors_of_step (UpwardTo nested)) ≡
    at Text (ToAbove ∷ ToBelow ∷ []) ∷ at (Attr (codes "id")) (ToChild ∷ ToBelow ∷ []) ∷ at (Attr (codes "class")) (ToBelow ∷ []) ∷ []
leads_UpwardTo = rw (step-UpwardTo, step-Keep, test-Id, step-Move, step-Keep, test-Class) refl

-- ---- tests
any_none : sensors_of_test test.Any ≡ []
any_none = rw test-Any refl

tag_none : sensors_of_test (test.Tag (codes "p")) ≡ []
tag_none = rw test-Tag refl

root_none : sensors_of_test test.Root ≡ []
root_none = rw test-Root refl

watch_none : sensors_of_test (test.WatchAttr (codes "id" ∷ [])) ≡ []
watch_none = rw test-WatchAttr refl

id : sensors_of_test (test.Id (codes "b")) ≡ at (Attr (codes "id")) [] ∷ []
id = rw test-Id refl

class : sensors_of_test (test.Class (codes "a")) ≡ at (Attr (codes "class")) [] ∷ []
class = rw test-Class refl

attr : sensors_of_test (test.Attr (codes "href") Exists [] false) ≡ at (Attr (codes "href")) [] ∷ []
attr = rw test-Attr refl

matches_attr : sensors_of_test (test.MatchesAttr (Literal (codes "href")) None) ≡ at AnyAttr [] ∷ []
matches_attr = rw test-MatchesAttr refl

blank : sensors_of_test test.Empty ≡ at Text [] ∷ []
blank = rw test-Empty refl

nth : sensors_of_test (test.Nth (pos 2) (pos 1) false false) ≡ at Children (ToChild ∷ []) ∷ []
nth = rw test-Nth refl

only : sensors_of_test (test.Only true) ≡ at Children (ToChild ∷ []) ∷ []
only = rw test-Only refl

has_text : sensors_of_test (test.HasText (Literal (codes "ad"))) ≡ at Text [] ∷ at Text (ToAbove ∷ []) ∷ []
has_text = rw test-HasText refl

min_text : sensors_of_test (test.MinText 3) ≡ at Text [] ∷ at Text (ToAbove ∷ []) ∷ []
min_text = rw test-MinText refl

matches_path : sensors_of_test (test.MatchesPath (Literal (codes "/shop"))) ≡ at Path (ToBelow ∷ []) ∷ []
matches_path = rw test-MatchesPath refl

-- `#b:upward(1) > .a`: s of the front `#b`, and r of the rest from `:upward(1)` on
is : sensors_of_test (test.Is ((Keep (test.Id (codes "b")) ∷ Upward 1 ∷ Move Child ∷ Keep (test.Class (codes "a")) ∷ []) ∷ [])) ≡
    at (Attr (codes "id")) [] ∷ at (Attr (codes "class")) (ToParent ∷ ToBelow ∷ []) ∷ at Children (ToBelow ∷ []) ∷ []
is = rw (test-Is, step-Keep, test-Id, step-Upward, step-Move, step-Keep, test-Class) refl

not_any : sensors_of_test (test.Not (class_a ∷ [])) ≡ at (Attr (codes "class")) [] ∷ []
not_any = rw (test-Not, step-Keep, test-Class) refl

-- `:has(> .a)`: r of its steps
has : sensors_of_test (test.Has ((Move Child ∷ Keep (test.Class (codes "a")) ∷ []) ∷ [])) ≡ at (Attr (codes "class")) (ToParent ∷ []) ∷ at Children [] ∷ []
has = rw (test-Has, step-Move, step-Keep, test-Class) refl

-- the sensors of a filter are those of all chains together
filter_of_two_chains : sensors (class_a ∷ nested) ≡ at (Attr (codes "class")) [] ∷ at (Attr (codes "id")) (ToChild ∷ []) ∷ at (Attr (codes "class")) [] ∷ []
filter_of_two_chains = rw (step-Keep, test-Class, step-Keep, test-Id, step-Move) refl
