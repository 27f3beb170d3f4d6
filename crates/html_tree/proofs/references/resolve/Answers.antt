use Rattle.std.proofs.Common.{rules, ◌≡◌, ◌+◌, ◌++◌, ◌<◌, ◌∙◌, ap, length, take, drop, arith}
use Rattle.std.proofs.lemmas.List.{get_or-drop}
use Rattle.std.specs.Prelude.{slice_index}
use Rattle.html_meaning.specs.References as meant
use Rattle.html_tree.proofs.Resolving.{sign_found, no_sign_found, front_resolved, rest_resolved}
use Rattle.html_tree.proofs.references.resolve.Goals as goal

pub split_at-requires : goal.split_at-requires
split_at-requires c =
    let found = sign_found c.as_bytes.result.now c.loop-place.rest.now c.in-Some.place c.as_bytes.ensures.value c.in-Some.ensures in
    let within : c.in-Some.place < length c.loop-place.rest.now = found.0 in
    let sign : slice_index c.loop-place.rest.now c.in-Some.place ≡ 38 = found.1 in
    (omega arith, λ l g. absurd (omega (arith, sign, g)))

pub push_reference-requires : goal.push_reference-requires
push_reference-requires c =
    let found = sign_found c.as_bytes.result.now c.loop-place.rest.now c.in-Some.place c.as_bytes.ensures.value c.in-Some.ensures in
    let place : c.in-Some.place + 0 ≡ c.in-Some.place = omega arith in
    ap (λ bs. slice_index bs 0) c.split_at.ensures.back ∙ get_or-drop c.in-Some.place c.loop-place.rest.now 0 0 ∙ ap (slice_index c.loop-place.rest.now) place ∙ found.1

pub loop-place-preserved : goal.loop-place-preserved
loop-place-preserved c =
    let found = sign_found c.as_bytes.result.now c.loop-place.rest.now c.in-Some.place c.as_bytes.ensures.value c.in-Some.ensures in
    let front = front_resolved c.loop-place.made c.args.text.now c.loop-place.rest.now c.in-Some.place c.loop-place.invariant.resolved found.0 found.2 in
    let behind : c.push_str.new.self ++ meant.resolved 0 c.split_at.result.1.now ≡ (c.loop-place.made ++ take c.in-Some.place c.loop-place.rest.now) ++ meant.resolved 0 (drop c.in-Some.place c.loop-place.rest.now) =
    ap (λ x. x ++ meant.resolved 0 c.split_at.result.1.now) (c.in_ok-push_str.ensures.ok ∙ ap (λ x. c.loop-place.made ++ x) c.split_at.ensures.front)
    ∙ ap (λ x. (c.loop-place.made ++ take c.in-Some.place c.loop-place.rest.now) ++ meant.resolved 0 x) c.split_at.ensures.back in
    record { text = search rules; resolved = c.in_ok-rest.ensures.ok ∙ behind ∙ front }

pub returns : goal.returns
returns c =
    let none = no_sign_found c.as_bytes.result.now c.loop-place.rest.now c.as_bytes.ensures.value c.in_default.ensures in
    c.in_ok-push_str-2.ensures.ok ∙ rest_resolved c.loop-place.made c.args.text.now c.loop-place.rest.now c.loop-place.invariant.resolved none
