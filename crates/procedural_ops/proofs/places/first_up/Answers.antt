use Rattle.std.proofs.Common.{◌≡◌, ◌+◌, drop, arith, ◌∙◌, sym}
use Rattle.procedural_ops.specs.Reaching.{first_up_of}
use Rattle.procedural_ops.proofs.Chains.{up_at, up_past, up_end}
use Rattle.procedural_ops.proofs.places.first_up.Goals as goal

pub loop-i-preserved : goal.loop-i-preserved
loop-i-preserved c =
    let inv : first_up_of c.args.chain.now ≡ c.loop-i.i + first_up_of (drop c.loop-i.i c.args.chain.now) = c.loop-i.invariant in
    let e = up_past c.args.chain.now c.loop-i.i c.index-chain-i.result c.loop-i-test.true c.index-chain-i.is (sym c.goes_up.ensures ∙ c.if-goes_up.false) in
    let f : first_up_of c.args.chain.now ≡ (c.loop-i.i + 1) + first_up_of (drop (c.loop-i.i + 1) c.args.chain.now) = omega arith in
    f

pub returns-then-goes_up-clause-place : goal.returns-then-goes_up-clause-place
returns-then-goes_up-clause-place c =
    let inv : first_up_of c.args.chain.now ≡ c.loop-i.i + first_up_of (drop c.loop-i.i c.args.chain.now) = c.loop-i.invariant in
    let e = up_at c.args.chain.now c.loop-i.i c.index-chain-i.result c.loop-i-test.true c.index-chain-i.is (sym c.goes_up.ensures ∙ c.if-goes_up.true) in
    omega arith

pub returns-clause-place : goal.returns-clause-place
returns-clause-place c =
    let inv : first_up_of c.args.chain.now ≡ c.loop-i.i + first_up_of (drop c.loop-i.i c.args.chain.now) = c.loop-i.invariant in
    let e = up_end c.args.chain.now c.loop-i.i c.loop-i-test.false in
    omega arith
