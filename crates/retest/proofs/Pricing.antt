-- The counts of questions and of single tests, one call after another.
use Rattle.std.proofs.Common.{◌≡◌, ◌∙◌, ◌≤◌, ◌<◌, ◌+◌, ◌*◌, ℕ, zero, suc, List, [], ◌∷◌, length, add-mul, ap, arith, le_refl, mul-le-mul_right, one-mul}
use Rattle.page_tree.specs.Forest.{Tree}
use Rattle.page_tree.specs.Standings.{all}
use Rattle.selector_tree.specs.declared.filter.Filter.{Filter}
use Rattle.procedural_ops.specs.Noted.{simple_tests}
use Rattle.procedural_ops.specs.Told.{selector_at}
use Rattle.retest.specs.Priced.{IsPriced, most_tests, price}

pub none_asked : (cost asked tested : ℕ) → IsPriced cost asked asked tested tested
none_asked cost asked tested = record { rises = le_refl asked; within = le_refl (tested + asked * cost) }

-- one question
pub one_asked : (cost single before now tested then : ℕ) → now ≡ before + 1 → then ≤ tested + single → single ≤ cost → IsPriced cost before now tested then
one_asked cost single before now tested then counted few cheap =
    let more : now * cost ≡ before * cost + cost =
    ap (λ n. n * cost) counted ∙ add-mul before 1 cost ∙ ap (λ n. before * cost + n) (one-mul cost) in
    record { rises = omega arith; within = omega arith }

-- some questions, and then others
pub asked_more : {cost a b c x y z : ℕ} → IsPriced cost a b x y → IsPriced cost b c y z → IsPriced cost a c x z
asked_more first next = record { rises = omega (arith, first.rises, next.rises); within = omega (arith, first.within, next.within) }

-- so many questions took so many tests
pub tested_within : {cost asked asked_then tested tested_then : ℕ} (count : ℕ) → IsPriced cost asked asked_then tested tested_then → asked_then ≤ asked + count →
    tested_then ≤ tested + count * cost
tested_within {cost = cost} {asked = asked} {asked_then = asked_then} count h few =
    let most : asked_then * cost ≤ (asked + count) * cost = mul-le-mul_right cost few in
    omega (arith, most, add-mul asked count cost, h.within)

-- a question takes no more than its price
pub within_price : (filters : List Filter) (t : Tree) (f : ℕ) → f < length filters → simple_tests (selector_at filters f) * length (all t) ≤ price filters t
unfolding price
within_price filters t f there = mul-le-mul_right (length (all t)) (most filters f there)
  where
    most : (filters : List Filter) (f : ℕ) → f < length filters → simple_tests (selector_at filters f) ≤ most_tests filters
    most [] f there = absurd (omega arith)
    most (filter ∷ filters) zero there = omega arith
    most (filter ∷ filters) (suc f) there = let less = most filters f (omega arith) in omega arith
