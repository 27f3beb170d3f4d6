use Rattle.std.proofs.Common.{◌≡◌, ◌<◌, ◌-◌, ◌++◌, [], ◌∷◌, Some, None, sym, ap, ◌∙◌, arith, drop, length, append_assoc}
use Rattle.std.proofs.lemmas.List.{length-drop}
use Rattle.std.specs.Prelude.{slice_index, encode_utf8}
use Rattle.html_meaning.specs.References as meant
use Rattle.html_tree.specs.Numerals.{reference_of}
use Rattle.html_tree.proofs.Resolving.{Ends, reference_ends, resolved_reference, resolved_sign, some_at_front}
use Rattle.html_tree.proofs.references.push_reference.Goals as goal

pub behind-requires-clause-within : goal.behind-requires-clause-within
behind-requires-clause-within c =
    let is : meant.reference c.args.text.now ≡ Some (reference_of c.in-Some.found) = ap meant.reference (sym c.as_bytes.ensures.value) ∙ sym c.in-Some.ensures in
    (reference_ends c.args.text.now (reference_of c.in-Some.found) is).within

pub behind-requires-clause-some : goal.behind-requires-clause-some
behind-requires-clause-some c =
    let is : meant.reference c.args.text.now ≡ Some (reference_of c.in-Some.found) = ap meant.reference (sym c.as_bytes.ensures.value) ∙ sym c.in-Some.ensures in
    (reference_ends c.args.text.now (reference_of c.in-Some.found) is).some

pub behind-requires-clause-ascii : goal.behind-requires-clause-ascii
behind-requires-clause-ascii c =
    let is : meant.reference c.args.text.now ≡ Some (reference_of c.in-Some.found) = ap meant.reference (sym c.as_bytes.ensures.value) ∙ sym c.in-Some.ensures in
    let last : slice_index c.args.text.now (c.in-Some.found.size - 1) ≡ 59 = (reference_ends c.args.text.now (reference_of c.in-Some.found) is).last in
    omega (arith, last)

pub returns-in_ok-push-in-Some-clause-ok : goal.returns-in_ok-push-in-Some-clause-ok
returns-in_ok-push-in-Some-clause-ok c =
    let r = reference_of c.in-Some.found in
    let is : meant.reference c.args.text.now ≡ Some r = ap meant.reference (sym c.as_bytes.ensures.value) ∙ sym c.in-Some.ensures in
    let rest : meant.resolved 0 c.behind.result.now ≡ meant.resolved 0 (drop c.in-Some.found.size c.args.text.now) = ap (meant.resolved 0) c.behind.ensures in
    let whole : meant.resolved 0 c.args.text.now ≡ encode_utf8 c.in-Some.found.character ++ meant.resolved 0 (drop c.in-Some.found.size c.args.text.now) = resolved_reference c.args.text.now r is in
    ap (λ made. made ++ meant.resolved 0 c.behind.result.now) c.in_ok-push-in-Some.ensures.ok
    ∙ append_assoc c.args.made.now (encode_utf8 c.in-Some.found.character) (meant.resolved 0 c.behind.result.now)
    ∙ ap (λ x. c.args.made.now ++ (encode_utf8 c.in-Some.found.character ++ x)) rest ∙ ap (λ x. c.args.made.now ++ x) (sym whole)

pub returns-in_ok-push-in-Some-clause-shorter : goal.returns-in_ok-push-in-Some-clause-shorter
returns-in_ok-push-in-Some-clause-shorter c =
    let is : meant.reference c.args.text.now ≡ Some (reference_of c.in-Some.found) = ap meant.reference (sym c.as_bytes.ensures.value) ∙ sym c.in-Some.ensures in
    let ends : Ends (reference_of c.in-Some.found) c.args.text.now = reference_ends c.args.text.now (reference_of c.in-Some.found) is in
    let some : 0 < c.in-Some.found.size = ends.some in
    let long : 0 < length c.args.text.now = some_at_front c.args.text.now c.requires in
    omega (arith, ap length c.behind.ensures, length-drop c.in-Some.found.size c.args.text.now, long, some)

pub returns-in_ok-push_str-in-None-clause-ok : goal.returns-in_ok-push_str-in-None-clause-ok
returns-in_ok-push_str-in-None-clause-ok c =
    let is : meant.reference c.args.text.now ≡ None = ap meant.reference (sym c.as_bytes.ensures.value) ∙ sym c.in-None.ensures in
    let rest : meant.resolved 0 c.behind-in-None.result.now ≡ meant.resolved 0 (drop 1 c.args.text.now) = ap (meant.resolved 0) c.behind-in-None.ensures in
    let whole : meant.resolved 0 c.args.text.now ≡ 38 ∷ meant.resolved 0 (drop 1 c.args.text.now) = resolved_sign c.args.text.now c.requires is in
    ap (λ made. made ++ meant.resolved 0 c.behind-in-None.result.now) c.in_ok-push_str-in-None.ensures.ok
    ∙ append_assoc c.args.made.now (38 ∷ []) (meant.resolved 0 c.behind-in-None.result.now)
    ∙ ap (λ x. c.args.made.now ++ 38 ∷ x) rest ∙ ap (λ x. c.args.made.now ++ x) (sym whole)
