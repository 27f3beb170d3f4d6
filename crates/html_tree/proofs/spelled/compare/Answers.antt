use Rattle.std.proofs.Common.{ap, sym, ◌∙◌, refl, arith}
use Rattle.std.specs.Char.{to_ascii_lowercase}
use Rattle.std.specs.declared.cmp.Ordering.TheVariants.{Less, Greater}
use Rattle.std.specs.Ordering.{nat_cmp}
use Rattle.std.specs.Prelude.{slice_index}
use Rattle.html_tree.proofs.Comparing.{cmp_decided, cmp_same, cmp_less, cmp_greater}
use Rattle.html_tree.proofs.spelled.compare.Goals as goal

pub returns-in-Less : goal.returns-in-Less
returns-in-Less c =
    let bytes = c.cmp.ensures ∙ ap (λ x. nat_cmp x c.to_ascii_lowercase-in-loop-i.result) c.to_ascii_lowercase.ensures.value
    ∙ ap (nat_cmp (to_ascii_lowercase (slice_index c.args.a.now c.loop-i.i))) c.to_ascii_lowercase-in-loop-i.ensures.value in
    cmp_decided c.loop-i.i c.args.a.now c.args.b.now Less _ (omega arith) (omega arith) (sym c.in-Less.is ∙ bytes) c.loop-i.invariant (λ rest. refl)

pub returns-in-Greater : goal.returns-in-Greater
returns-in-Greater c =
    let bytes = c.cmp.ensures ∙ ap (λ x. nat_cmp x c.to_ascii_lowercase-in-loop-i.result) c.to_ascii_lowercase.ensures.value
    ∙ ap (nat_cmp (to_ascii_lowercase (slice_index c.args.a.now c.loop-i.i))) c.to_ascii_lowercase-in-loop-i.ensures.value in
    cmp_decided c.loop-i.i c.args.a.now c.args.b.now Greater _ (omega arith) (omega arith) (sym c.in-Greater.is ∙ bytes) c.loop-i.invariant (λ rest. refl)

pub loop-i-preserved : goal.loop-i-preserved
loop-i-preserved c =
    let bytes = c.cmp.ensures ∙ ap (λ x. nat_cmp x c.to_ascii_lowercase-in-loop-i.result) c.to_ascii_lowercase.ensures.value
    ∙ ap (nat_cmp (to_ascii_lowercase (slice_index c.args.a.now c.loop-i.i))) c.to_ascii_lowercase-in-loop-i.ensures.value in
    cmp_same c.loop-i.i c.args.a.now c.args.b.now _ (omega arith) (omega arith) (sym c.in-Equal.is ∙ bytes) c.loop-i.invariant

pub returns-then-shorter-b : goal.returns-then-shorter-b
returns-then-shorter-b c = sym (cmp_less c.loop-i.i c.args.a.now c.args.b.now (omega arith) (omega arith)) ∙ c.loop-i.invariant

pub returns-then-shorter-a : goal.returns-then-shorter-a
returns-then-shorter-a c = sym (cmp_greater c.loop-i.i c.args.a.now c.args.b.now (omega arith) (omega arith)) ∙ c.loop-i.invariant
