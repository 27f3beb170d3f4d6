use Rattle.std.proofs.Common.{refl}
use Rattle.spelling_reader.specs.declared.tests_of.Named.TheVariants as kind
use Rattle.spelling_reader.specs.Readings.{piece_at}
use Rattle.spelling_reader.proofs.TestLaws.{cons-is, sign-result, start-result, square-result, hash-is, dot-is, square-is, tag-is}
use Rattle.spelling_reader.proofs.tests_of.read_test.Goals as goal

pub returns-then-byte-eq35 : goal.returns-then-byte-eq35
returns-then-byte-eq35 c = λ inner setting.
    let text = c.args.text.now in
    let more = c.split_behind.result.1.now in
    let cons = cons-is text more c.as_bytes.result.now 35 c.requires.some c.as_bytes.ensures.value c.if-byte-eq35.true c.split_behind.ensures.back in
    sign-result c.args.steps.now c.push_named.new.steps c.args.at (piece_at inner setting c.args.first c.args.at text) kind.Id text more 35 c.push_named.result cons
    (hash-is inner setting c.args.first c.args.at text more cons) c.push_named.ensures

pub returns-then-byte-eq46 : goal.returns-then-byte-eq46
returns-then-byte-eq46 c = λ inner setting.
    let text = c.args.text.now in
    let s = c.split_behind-then-byte-eq46 in
    let p = c.push_named-then-byte-eq46 in
    let more = s.result.1.now in
    let cons = cons-is text more c.as_bytes.result.now 46 c.requires.some c.as_bytes.ensures.value c.if-byte-eq46.true s.ensures.back in
    sign-result c.args.steps.now p.new.steps c.args.at (piece_at inner setting c.args.first c.args.at text) kind.Class text more 46 p.result cons
    (dot-is inner setting c.args.first c.args.at text more cons) p.ensures

pub returns-then-byte-eq91 : goal.returns-then-byte-eq91
returns-then-byte-eq91 c = λ inner setting.
    let text = c.args.text.now in
    let s = c.split_behind-then-byte-eq91 in
    let p = c.push_attribute in
    let more = s.result.1.now in
    let cons = cons-is text more c.as_bytes.result.now 91 c.requires.some c.as_bytes.ensures.value c.if-byte-eq91.true s.ensures.back in
    square-result c.args.steps.now p.new.steps c.args.at (piece_at inner setting c.args.first c.args.at text) text more 91 p.result cons
    (square-is inner setting c.args.first c.args.at text more cons) p.ensures

pub returns : goal.returns
returns c = λ inner setting.
    let text = c.args.text.now in
    let p = c.push_named-2 in
    let cons = cons-is text _ c.as_bytes.result.now _ c.requires.some c.as_bytes.ensures.value refl refl in
    start-result c.args.steps.now p.new.steps c.args.at (piece_at inner setting c.args.first c.args.at text) kind.Tag text p.result
    (tag-is inner setting c.args.first c.args.at text _ _ cons c.requires.other c.if-byte-eq35.false c.if-byte-eq46.false c.if-byte-eq91.false c.if-not-first.false c.if-byte-eq42.false) p.ensures
