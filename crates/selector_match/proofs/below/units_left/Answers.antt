use Rattle.std.proofs.Common.{◌≡◌, ◌+◌, ◌-◌, ◌<◌, ℕ, List, length, get_or, drop, sym, ap, ◌∙◌, arith, nat_lt, if◌then◌else◌}
use Rattle.std.proofs.lemmas.Iterator.{YieldsList-from_chars}
use Rattle.std.proofs.lemmas.List.{at_drop_more, at_drop_all, length_push}
use Rattle.std.proofs.lemmas.Iterator.Consumers.{YieldsList-turn, YieldsList-end}
use Rattle.std.specs.Str.{chars}
use Rattle.page_tree.specs.Words.{units}
use Rattle.selector_match.proofs.below.units_left.Goals as goal

units-drop : (cs : List ℕ) (n c : ℕ) → (n < length cs) × (c ≡ get_or cs n c) → units (drop n cs) ≡ (if nat_lt c 65536 then 1 else 2) + units (drop (n + 1) cs)
units-drop cs n c h = at_drop_more units cs n c h.0 ∙ ap (λ d. (if nat_lt d 65536 then 1 else 2) + units (drop (n + 1) cs)) (sym h.1)

step : (cs : List ℕ) (n m c wanted left u new : ℕ) → (n < length cs) × (c ≡ get_or cs n c) → m ≡ n + 1 → u ≡ (if nat_lt c 65536 then 1 else 2) → new ≡ left - u →
    wanted - units cs ≡ left - units (drop n cs) → wanted - units cs ≡ new - units (drop m cs)
step cs n m c wanted left u new t n1 uc e h =
    let d = units-drop cs n c t in
    let same : units (drop m cs) ≡ units (drop (n + 1) cs) = ap (λ k. units (drop k cs)) n1 in
    let taken : units (drop n cs) ≡ u + units (drop m cs) = d ∙ ap (λ k. k + units (drop (n + 1) cs)) (sym uc) ∙ ap (λ k. u + k) (sym same) in
    omega (arith, h, e, taken)

last : (cs : List ℕ) (n wanted left : ℕ) → n ≡ length cs → wanted - units cs ≡ left - units (drop n cs) → left ≡ wanted - units cs
last cs n wanted left e h = let z : units (drop n cs) ≡ 0 = at_drop_all units cs n (omega arith) in omega (arith, h, z)

pub loop-c-preserved : goal.loop-c-preserved
loop-c-preserved c =
    let t = YieldsList-turn (YieldsList-from_chars c.args.text.now c.utf8.text cc) c.loop-c.yielded _ c.loop-c.yielded_by _ _ c.in-Some.c c.in-Some.is c.next.ensures.steps in
    step (chars c.args.text.now) (length c.loop-c.yielded) _ c.in-Some.c c.args.wanted c.loop-c.left c.units_of.result c.saturating_sub-left.result t
    (length_push c.loop-c.yielded c.in-Some.c) c.units_of.ensures c.saturating_sub-left.ensures c.loop-c.invariant

pub returns : goal.returns
returns c =
    let t = YieldsList-end (YieldsList-from_chars c.args.text.now c.utf8.text cc) c.loop-c.yielded _ c.loop-c.yielded_by _ _ c.in-None.is c.next.ensures.steps in
    last (chars c.args.text.now) (length c.loop-c.yielded) c.args.wanted c.loop-c.left t.1 c.loop-c.invariant
