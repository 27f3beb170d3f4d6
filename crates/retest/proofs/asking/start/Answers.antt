use Rattle.std.proofs.Common.{◌≡◌, ◌∙◌, ◌||◌, ◌&&◌, ◌∷◌, ℕ, List, true, length, sym, ap, arith}
use Rattle.page_tree.specs.Standings.{all}
use Rattle.page_tree.specs.Directions.{is_in}
use Rattle.selector_match.specs.Walks.{elements_behind, order}
use Rattle.selector_match.proofs.Walking.{from_one, from_found, all_behind, some_of}
use Rattle.kept_marks.specs.Kept.{is_marked}
use Rattle.retest_laws.specs.Pending.{budget}
use Rattle.retest.specs.Asked.{answers, carried}
use Rattle.retest.proofs.Keys.{keyed}
use Rattle.retest.proofs.Members.{none_wrong}
use Rattle.retest.specs.Priced.{price}
use Rattle.retest.proofs.Pricing.{asked_more, none_asked}
use Rattle.retest.proofs.Starting.{one_asked, one_due}
use Rattle.retest.proofs.asking.start.Goals as goal

pub elements-init : goal.elements-init
elements-init g c =
    let asking = c.args.asking.now in
    let t = asking.context.dom.now in
    let left = from_one (elements_behind t (order t)) c.next_element-at.result in
    let first : left ≡ all t =
    sym (from_found (elements_behind t (order t)) (elements_behind t (order t) 0) c.next_element-at.result c.next_element-at.ensures.first) ∙ all_behind t c.is_tree.ensures in
    let same : budget (length asking.active.now) left (carried asking) (λ f x. true) ≡ budget (length asking.active.now) (all t) (carried asking) (λ f x. true) =
    ap (λ (xs : List ℕ). budget (length asking.active.now) xs (carried asking) (λ f x. true)) first in
    record {
      marks = λ f x.
          ap (λ b. b || (is_in left x && answers asking f x)) (c.new-marks.ensures f x)
          ∙ ap (λ (xs : List ℕ). is_in xs x && answers asking f x) first;
      right = none_wrong asking c.new-members.result c.new-members.ensures;
      checks = omega (arith, same);
      parts = none_asked (price asking.active.now t) c.args.checks.now c.args.parts.now;
      element = λ m e. some_of (λ n. is_in (all t) n ≡ true) c.next_element-at.result m c.next_element-at.ensures.element e;
      there = λ m e. some_of (λ n. is_in (order t) n ≡ true) c.next_element-at.result m c.next_element-at.ensures.there e;
    }

pub elements-preserved : goal.elements-preserved
elements-preserved g c =
    let asking = c.args.asking.now in
    let t = asking.context.dom.now in
    let n = c.in-Some.x in
    let behind = elements_behind t (order t) in
    let left = from_one behind c.elements.at in
    let rest = from_one behind c.next_element-at-in-Some.result in
    let is : left ≡ n ∷ rest =
    ap (from_one behind) c.in-Some.is ∙ ap (λ (xs : List ℕ). n ∷ xs) (from_found behind (behind n) c.next_element-at-in-Some.result c.next_element-at-in-Some.ensures.first) in
    let due = one_due (length asking.active.now) left rest n (carried asking) (λ f x. true) is in
    record {
      marks = λ f x.
          one_asked x n (all t) left rest (is_marked c.ask_at.new.marks f x) (is_marked c.elements.marks f x) (answers asking f x) (carried asking f x)
          (c.elements.invariant.element n c.in-Some.is) is (keyed asking f x) (c.in_ok-ask_at.ensures.marks f x) (c.elements.invariant.marks f x);
      right = c.in_ok-ask_at.ensures.right;
      checks = omega (arith, due, c.ask_at.ensures.checks, c.elements.invariant.checks);
      parts = asked_more c.elements.invariant.parts c.ask_at.ensures.parts;
      element = λ m e. some_of (λ n. is_in (all t) n ≡ true) c.next_element-at-in-Some.result m c.next_element-at-in-Some.ensures.element e;
      there = λ m e. some_of (λ n. is_in (order t) n ≡ true) c.next_element-at-in-Some.result m c.next_element-at-in-Some.ensures.there e;
    }
