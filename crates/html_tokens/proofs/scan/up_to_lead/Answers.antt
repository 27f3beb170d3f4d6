use Rattle.std.proofs.Common.{◌≡◌, ◌+◌, ℕ, Bool, true, false, List, drop, sym, ap, ◌∙◌, add-one, arith}
use Rattle.html_tokens.proofs.Far.{passes, stops, found_lead, no_lead}
use Rattle.html_tokens.proofs.scan.up_to_lead.Goals as goal

pub returns-then-holds-clause-value : goal.returns-then-holds-clause-value
returns-then-holds-clause-value g c =
    let test : List ℕ → Bool = g.P.Place.here c.args.place.now in
    let n : ℕ = c.loop-more.passed + c.in-Some.more in
    let found = found_lead test c.args.lead c.args.bytes.now c.after.result.now c.loop-more.passed c.in-Some.more c.requires c.after.ensures c.loop-more.invariant.within c.in-Some.ensures.0 c.loop-more.invariant.value in
    let holds : test (drop n c.args.bytes.now) ≡ true = ap test (sym c.after-in-Some.ensures) ∙ sym c.if-holds.ensures in
    omega (arith, found.1, stops test c.args.bytes.now n found.0 holds)

pub loop-more-preserved : goal.loop-more-preserved
loop-more-preserved g c =
    let test : List ℕ → Bool = g.P.Place.here c.args.place.now in
    let n : ℕ = c.loop-more.passed + c.in-Some.more in
    let found = found_lead test c.args.lead c.args.bytes.now c.after.result.now c.loop-more.passed c.in-Some.more c.requires c.after.ensures c.loop-more.invariant.within c.in-Some.ensures.0 c.loop-more.invariant.value in
    let other : test (drop n c.args.bytes.now) ≡ false = ap test (sym c.after-in-Some.ensures) ∙ sym c.if-holds.ensures in
    let on = passes test c.args.bytes.now n found.0 other in
    record { within = omega (arith, found.0); value = rw add-one (omega (arith, found.1, on)) }

pub returns-clause-value : goal.returns-clause-value
returns-clause-value g c =
    let test : List ℕ → Bool = g.P.Place.here c.args.place.now in
    no_lead test c.args.lead c.args.bytes.now c.after.result.now c.loop-more.passed c.requires c.after.ensures c.loop-more.invariant.within c.in_default.ensures c.loop-more.invariant.value
