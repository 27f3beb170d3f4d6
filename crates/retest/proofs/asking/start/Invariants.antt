use Rattle.std.proofs.Common.{◌≡◌, ◌+◌, ◌≤◌, ◌&&◌, ◌||◌, ℕ, Some, true, length}
use Rattle.page_tree.specs.Standings.{all}
use Rattle.page_tree.specs.Directions.{is_in}
use Rattle.selector_match.specs.Asked.{IsElement}
use Rattle.kept_marks.specs.Kept.{is_marked}
use Rattle.selector_match.specs.Walks.{elements_behind, order}
use Rattle.selector_match.proofs.Walking.{from_one}
use Rattle.retest_laws.specs.Pending.{budget}
use Rattle.retest.specs.Asked.{answers, carried, AreRightFor}
use Rattle.retest.specs.Priced.{price, IsPriced}
use Rattle.retest.proofs.asking.start.Given as goal

-- with the elements that are left, the marks are exact, and what was asked is within the budget
abbrev pub invariant-elements : goal.invariant-elements
invariant-elements g l =
    let t = l.asking.context.dom.now in
    let left = from_one (elements_behind t (order t)) l.at in
    record {
      marks : (f x : ℕ) →
          (is_marked l.marks f x || (is_in left x && answers l.asking f x)) ≡ (is_in (all t) x && answers l.asking f x);
      right : AreRightFor l.asking l.members;
      checks : l.checks + budget (length l.asking.active.now) left (carried l.asking) (λ f x. true)
          ≤ l.initial.checks + budget (length l.asking.active.now) (all t) (carried l.asking) (λ f x. true);
      parts : IsPriced (price l.asking.active.now l.asking.context.dom.now) l.initial.checks l.checks l.initial.parts l.parts;
      element : (m : ℕ) → l.at ≡ Some m → IsElement t m;
      there : (m : ℕ) → l.at ≡ Some m → is_in (order t) m ≡ true;
    }

abbrev pub decreases-elements : goal.decreases-elements
decreases-elements g l = length (from_one (elements_behind l.asking.context.dom.now (order l.asking.context.dom.now)) l.at)
