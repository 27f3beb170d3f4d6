use Rattle.std.proofs.Common.{◌≡◌, ◌≤◌, ◌<◌, ℕ, List, [], ◌∷◌, ◌++◌, true, false, not, min, take, drop, length, arith, ap, sym, ◌∙◌}
use Rattle.std.proofs.lemmas.List.{length-map}
use Rattle.html_meaning.specs.Bytes.{is_among}
use Rattle.html_tree.specs.declared.attributes.TheConstants.{FEW}
use Rattle.html_tree.specs.declared.spelled.SpelledName.{SpelledName}
use Rattle.html_tree.specs.Spelled.{lower_of}
use Rattle.html_tree.specs.LaterNames.{names_in}
use Rattle.html_tree.proofs.FirstNames.{has_early, has_later, few_new, later_early, later_more, later_again, inserted, not_false}
use Rattle.html_tree.proofs.attributes.is_new.Goals as goal

pub returns-then-is_name_among-clause-new : goal.returns-then-is_name_among-clause-new
returns-then-is_name_among-clause-new c =
    let q = c.args.lower.now in
    let attrs = c.args.attrs.now in
    let early : is_among q (names_in (take c.min-few.result attrs)) ≡ true =
    ap (λ attrs. is_among q (names_in (take c.min-few.result attrs))) (sym c.as_slice.ensures) ∙ sym c.if-is_name_among.ensures in
    sym (ap not (has_early q attrs c.min-few.result early))

pub returns-then-len-lt-FEW-clause-new : goal.returns-then-len-lt-FEW-clause-new
returns-then-len-lt-FEW-clause-new c =
    let q = c.args.lower.now in
    let attrs = c.args.attrs.now in
    let few : c.min-few.result ≡ min (length attrs) FEW = omega arith in
    let short : length attrs < FEW = omega arith in
    let other : is_among q (names_in (take c.min-few.result attrs)) ≡ false =
    ap (λ attrs. is_among q (names_in (take c.min-few.result attrs))) (sym c.as_slice.ensures) ∙ sym c.if-is_name_among.ensures in
    sym (ap not (few_new q attrs c.min-few.result few short other))

pub returns-then-len-lt-FEW-clause-more : goal.returns-then-len-lt-FEW-clause-more
returns-then-len-lt-FEW-clause-more c = λ e name. (
    let attrs = c.args.attrs.now in
    let short : length (names_in attrs) < FEW = omega (arith, length-map attrs (λ (a : List ℕ × List ℕ). a.0)) in
    c.requires.later name ∙ later_early (names_in attrs) c.args.lower.now (lower_of name) short)

pub returns-clause-new : goal.returns-clause-new
returns-clause-new c =
    let q = c.args.lower.now in
    let attrs = c.args.attrs.now in
    let key : SpelledName = record { spelled = c.args.name } in
    let few : c.min-few.result ≡ min (length attrs) FEW = omega arith in
    let other : is_among q (names_in (take c.min-few.result attrs)) ≡ false =
    ap (λ attrs. is_among q (names_in (take c.min-few.result attrs))) (sym c.as_slice.ensures) ∙ sym c.if-is_name_among.ensures in
    c.in_ok-is_new.ensures.added
    ∙ ap not (c.requires.later key ∙ ap (λ n. is_among n (drop FEW (names_in attrs))) (sym c.requires.lower) ∙ has_later q attrs c.min-few.result few other)

pub returns-clause-kept : goal.returns-clause-kept
returns-clause-kept c = λ e name. (
    let names = names_in c.args.attrs.now in
    let key : SpelledName = record { spelled = c.args.name } in
    let there : is_among (lower_of key) (drop FEW names) ≡ true = sym (c.requires.later key) ∙ not_false _ (sym e ∙ c.in_ok-is_new.ensures.added) in
    inserted c.args.later.now c.insert.new.self names key name c.requires.later (c.in_ok-is_new.ensures.updates.0 name)
    ∙ later_again names (lower_of key) (lower_of name) there)

pub returns-clause-more : goal.returns-clause-more
returns-clause-more c = λ e name. (
    let names = names_in c.args.attrs.now in
    let key : SpelledName = record { spelled = c.args.name } in
    let many : FEW ≤ length names = omega (arith, length-map c.args.attrs.now (λ (a : List ℕ × List ℕ). a.0)) in
    inserted c.args.later.now c.insert.new.self names key name c.requires.later (c.in_ok-is_new.ensures.updates.0 name)
    ∙ later_more names (lower_of key) (lower_of name) many
    ∙ ap (λ n. is_among (lower_of name) (drop FEW (names ++ n ∷ []))) (sym c.requires.lower))
