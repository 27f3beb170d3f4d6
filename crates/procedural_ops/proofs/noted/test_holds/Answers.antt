use Rattle.std.proofs.Common.{ℕ, Bool, List, false, sym, ap, arith}
use Rattle.procedural_ops.specs.Noted.{chain_cells, unknown}
use Rattle.procedural_ops.proofs.Remembered as remembered
use Rattle.procedural_ops.proofs.noted.test_holds.Goals as goal

pub returns-in-Some-clause-answer : goal.returns-in-Some-clause-answer
returns-in-Some-clause-answer g c =
    let p = remembered.at_place (chain_cells c.args.inquiry.now.chain.now) c.args.place c.args.test.now c.requires.at in
    c.requires.right.right c.args.place c.args.x c.in-Some.answer c.args.test.now (omega (arith, p.0, c.requires.right.long)) p.1 (sym c.in-Some.ensures)

pub returns-in_err-answer-clause-asked : goal.returns-in_err-answer-clause-asked
returns-in_err-answer-clause-asked g c =
    let p = remembered.at_place (chain_cells c.args.inquiry.now.chain.now) c.args.place c.args.test.now c.requires.at in
    let f = remembered.fewer_unknown c.args.notes.now c.put.new.self c.args.place c.args.x false c.in_ok-put.ensures.ok c.args.inquiry.now.context.dom.now c.args.inquiry.now.chain.now c.args.test.now p.0 p.1 c.requires.single c.requires.element (sym c.in_default.ensures) in
    omega (arith, f, c.holds.ensures.counted)

pub returns-in_err-put-2-clause-asked : goal.returns-in_err-put-2-clause-asked
returns-in_err-put-2-clause-asked g c =
    let p = remembered.at_place (chain_cells c.args.inquiry.now.chain.now) c.args.place c.args.test.now c.requires.at in
    let f = remembered.fewer_unknown c.args.notes.now c.put.new.self c.args.place c.args.x false c.in_ok-put.ensures.ok c.args.inquiry.now.context.dom.now c.args.inquiry.now.chain.now c.args.test.now p.0 p.1 c.requires.single c.requires.element (sym c.in_default.ensures) in
    let same = ap (λ (n : List (List (ℕ × Bool))). unknown c.args.inquiry.now.context.dom.now c.args.inquiry.now.chain.now n) c.in_err-put-2.ensures.err in
    omega (arith, f, same, c.holds.ensures.counted)

pub returns-clause-asked : goal.returns-clause-asked
returns-clause-asked g c =
    let p = remembered.at_place (chain_cells c.args.inquiry.now.chain.now) c.args.place c.args.test.now c.requires.at in
    let both = remembered.over c.args.notes.now c.put.new.self c.put-2.new.self c.args.place c.args.x false c.in_ok-answer.answer c.in_ok-put.ensures.ok c.in_ok-put-2.ensures.ok in
    let f = remembered.fewer_unknown c.args.notes.now c.put-2.new.self c.args.place c.args.x c.in_ok-answer.answer both c.args.inquiry.now.context.dom.now c.args.inquiry.now.chain.now c.args.test.now p.0 p.1 c.requires.single c.requires.element (sym c.in_default.ensures) in
    omega (arith, f, c.holds.ensures.counted)

pub returns-clause-right : goal.returns-clause-right
returns-clause-right g c =
    let p = remembered.at_place (chain_cells c.args.inquiry.now.chain.now) c.args.place c.args.test.now c.requires.at in
    let both = remembered.over c.args.notes.now c.put.new.self c.put-2.new.self c.args.place c.args.x false c.in_ok-answer.answer c.in_ok-put.ensures.ok c.in_ok-put-2.ensures.ok in
    remembered.right_more c.args.notes.now c.put-2.new.self c.args.place c.args.x c.in_ok-answer.answer both c.args.inquiry.now.context.dom.now c.args.inquiry.now.chain.now c.args.inquiry.now.context.path.now c.args.test.now p.1
    c.requires.right c.in_ok-answer.ensures.answer
